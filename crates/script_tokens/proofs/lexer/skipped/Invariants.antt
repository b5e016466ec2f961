use Rattle.std.proofs.Common.{◌≡◌, ◌≤◌, length}
use Rattle.script_grammar.specs.Tokens.{skip, blanks}
use Rattle.script_tokens.proofs.lexer.skipped.Given as goal

abbrev pub invariant-loop-rest : goal.invariant-loop-rest
invariant-loop-rest l = record {
  same : skip blanks l.rest ≡ skip blanks l.bytes;
  within : length l.rest ≤ length l.bytes;
}

abbrev pub decreases-loop-rest : goal.decreases-loop-rest
decreases-loop-rest l = length l.rest
