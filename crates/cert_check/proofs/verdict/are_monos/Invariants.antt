use Rattle.std.proofs.Common.{◌≡◌, ◌<◌, ℕ, [], map, get_or}
use Rattle.mono_rank.specs.Rank.{mono_of_rank}
use Rattle.cert_check.proofs.verdict.are_monos.Given as goal

-- the monomials so far are those of the ranks
abbrev pub invariant-loop-k : goal.invariant-loop-k
invariant-loop-k l = (i : ℕ) → i < l.k → get_or l.list i [] ≡ get_or (map (mono_of_rank l.table) l.stair.ranks) i []
