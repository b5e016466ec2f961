use Rattle.std.proofs.Common.{◌≡◌, ℕ, ◌-◌, ◌<◌, ◌≤◌, length, get_or}
use Rattle.local_order.proofs.mono.Mono.quotient.Given as goal

abbrev pub invariant-loop-i : goal.invariant-loop-i
invariant-loop-i l = record {
  full : length l.exps ≡ 8;
  differences : (k : ℕ) → k < l.i → get_or l.exps k 0 ≡ get_or l.self-inside.exps k 0 - get_or l.other-inside.exps k 0;
  divides : (k : ℕ) → k < l.i → get_or l.other-inside.exps k 0 ≤ get_or l.self-inside.exps k 0;
}
