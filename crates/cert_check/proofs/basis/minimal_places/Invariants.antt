use Rattle.std.proofs.Common.{◌≡◌}
use Rattle.std.specs.Prelude.{filter_map}
use Rattle.std.specs.List.{range_with_len}
use Rattle.mora_law.specs.Ring.{ranks_of_problem}
use Rattle.mora_law.specs.Entries.{basis_of}
use Rattle.mora_law.specs.Basis.{minimal_with}
use Rattle.cert_check.proofs.basis.minimal_places.Given as goal

-- the places of the ranks so far
abbrev pub invariant-loop-r : goal.invariant-loop-r
invariant-loop-r l = l.places.items ≡ filter_map (minimal_with (ranks_of_problem l.problem) (basis_of l.entries)) (range_with_len 0 l.r)
