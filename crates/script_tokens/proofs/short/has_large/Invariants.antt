use Rattle.std.proofs.Common.{◌≡◌, length}
use Rattle.script_grammar.specs.Words.{has_large as has_large_exponent}
use Rattle.script_tokens.proofs.short.has_large.Given as goal

abbrev pub invariant-loop-rest : goal.invariant-loop-rest
invariant-loop-rest l = has_large_exponent l.rest ≡ has_large_exponent l.word

abbrev pub decreases-loop-rest : goal.decreases-loop-rest
decreases-loop-rest l = length l.rest
