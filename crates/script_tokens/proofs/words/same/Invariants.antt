use Rattle.std.proofs.Common.{◌≡◌, length}
use Rattle.script_grammar.specs.Words.{is_same}
use Rattle.script_tokens.proofs.words.same.Given as goal

abbrev pub invariant-loop-a : goal.invariant-loop-a
invariant-loop-a l = is_same l.a l.b ≡ is_same l.fn.a l.fn.b

abbrev pub decreases-loop-a : goal.decreases-loop-a
decreases-loop-a l = length l.a
