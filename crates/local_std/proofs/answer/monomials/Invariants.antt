use Rattle.std.proofs.Common.{◌≡◌, map, take}
use Rattle.mono_rank.specs.Rank.{mono_of_rank}
use Rattle.local_std.proofs.answer.monomials.Given as goal

abbrev pub invariant-loop-place : goal.invariant-loop-place
invariant-loop-place l = l.monomials.items ≡ take l.place (map (mono_of_rank l.table) l.ranks)
