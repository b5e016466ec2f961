use Rattle.std.proofs.Common.{◌≡◌, ◌≤◌, length}
use Rattle.script_grammar.specs.Tokens.{skip, block}
use Rattle.script_tokens.proofs.lexer.block_end.Given as goal

abbrev pub invariant-loop-rest : goal.invariant-loop-rest
invariant-loop-rest l = record {
  same : skip block l.rest ≡ skip block l.bytes;
  shorter : length l.rest ≤ length l.bytes;
}

abbrev pub decreases-loop-rest : goal.decreases-loop-rest
decreases-loop-rest l = length l.rest
