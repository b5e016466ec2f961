use Rattle.std.proofs.Common.{◌≡◌, ℕ, ◌<◌, true}
use Rattle.std.specs.Prelude.{slice_index_or}
use Rattle.workers.specs.Working.{Working}
use Rattle.workers.proofs.rounds.all_rest.Given as goal

abbrev pub invariant-loop-i : goal.invariant-loop-i
invariant-loop-i l = (k : ℕ) (d : Working) → k < l.i → (slice_index_or l.workers.items k d).rests ≡ true
