use Rattle.std.proofs.Common.{◌≡◌, ◌≤◌, ◌+◌, ◌-◌, length, drop}
use Rattle.script_grammar.specs.Tokens.{word_len}
use Rattle.script_tokens.proofs.lexer.word_end.Given as goal

abbrev pub invariant-loop-n : goal.invariant-loop-n
invariant-loop-n l = record {
  so_far : l.n + word_len (drop l.n l.bytes) ≡ word_len l.bytes;
  within : l.n ≤ length l.bytes;
}

abbrev pub decreases-loop-n : goal.decreases-loop-n
decreases-loop-n l = length l.bytes - l.n
