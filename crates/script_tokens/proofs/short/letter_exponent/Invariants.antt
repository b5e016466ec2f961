use Rattle.std.proofs.Common.{◌≡◌, ◌≤◌, ◌+◌, false, length}
use Rattle.script_grammar.specs.Words.{exponents, has_large as has_large_exponent}
use Rattle.script_grammar.specs.Meaning.{letter_exponent as letter_exponent_in}
use Rattle.script_tokens.proofs.short.letter_exponent.Given as goal

abbrev pub invariant-loop-rest : goal.invariant-loop-rest
invariant-loop-rest l = record {
  so_far : l.sum + letter_exponent_in (exponents l.rest) l.letter ≡ letter_exponent_in (exponents l.word) l.letter;
  small : has_large_exponent l.rest ≡ false;
  low : l.sum ≤ 1000;
}

abbrev pub decreases-loop-rest : goal.decreases-loop-rest
decreases-loop-rest l = length l.rest
