use Rattle.std.proofs.Common.{◌≡◌, ℕ, ◌+◌, ◌<◌, ◌≤◌, length, get_or, MatchBool}
use Rattle.local_order.proofs.mono.Mono.times.Given as goal

abbrev pub invariant-loop-i : goal.invariant-loop-i
invariant-loop-i l = record {
  full : length l.exps ≡ 8;
  sums : (k : ℕ) → k < l.i → get_or l.exps k 0 ≡ get_or l.self-inside.exps k 0 + get_or l.other-inside.exps k 0;
  small : MatchBool l.is_stored
      ((k : ℕ) → k < l.i → get_or l.self-inside.exps k 0 + get_or l.other-inside.exps k 0 ≤ 1000)
      ((k : ℕ) × (1000 < get_or l.self-inside.exps k 0 + get_or l.other-inside.exps k 0));
}
