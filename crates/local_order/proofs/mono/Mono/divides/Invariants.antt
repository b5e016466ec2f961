use Rattle.std.proofs.Common.{ℕ, ◌<◌, ◌≤◌, get_or, MatchBool}
use Rattle.local_order.proofs.mono.Mono.divides.Given as goal

abbrev pub invariant-loop-i : goal.invariant-loop-i
invariant-loop-i l =
    MatchBool l.is_divisor
    ((k : ℕ) → k < l.i → get_or l.self-inside.exps k 0 ≤ get_or l.other-inside.exps k 0)
    ((k : ℕ) × (get_or l.other-inside.exps k 0 < get_or l.self-inside.exps k 0))
