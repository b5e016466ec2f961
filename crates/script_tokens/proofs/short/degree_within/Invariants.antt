use Rattle.std.proofs.Common.{◌≡◌, ◌≤◌, ◌+◌, false, length, min}
use Rattle.script_grammar.specs.Words.{has_large as has_large_exponent, word_degree}
use Rattle.script_tokens.proofs.short.degree_within.Given as goal

abbrev pub invariant-loop-rest : goal.invariant-loop-rest
invariant-loop-rest l = record {
  so_far : min (l.degree + word_degree l.rest) (l.limit + 1) ≡ min (word_degree l.word) (l.limit + 1);
  small : has_large_exponent l.rest ≡ false;
  low : l.degree ≤ l.limit + 1;
}

abbrev pub decreases-loop-rest : goal.decreases-loop-rest
decreases-loop-rest l = length l.rest
