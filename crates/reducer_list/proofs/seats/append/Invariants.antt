use Rattle.std.proofs.Common.{◌≡◌, ◌+◌, ◌∷◌, ◌++◌, take}
use Rattle.reducer_list.proofs.seats.append.Given as goal

abbrev pub invariant-loop-i : goal.invariant-loop-i
invariant-loop-i l = take (l.n + 1 + l.i) l.rest ≡ take l.n l.fn.rest ++ l.chunk ∷ take l.i l.more
