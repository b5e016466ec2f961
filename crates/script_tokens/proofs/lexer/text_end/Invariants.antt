use Rattle.std.proofs.Common.{◌≡◌, ◌≤◌, ◌+◌, ◌-◌, length, drop}
use Rattle.std.specs.Option.{option_map}
use Rattle.script_grammar.specs.Tokens.{text_len}
use Rattle.script_tokens.proofs.lexer.text_end.Given as goal

abbrev pub invariant-loop-n : goal.invariant-loop-n
invariant-loop-n l = record {
  so_far : option_map (λ k. l.n + k) (text_len (drop l.n l.bytes)) ≡ text_len l.bytes;
  within : l.n ≤ length l.bytes;
}

abbrev pub decreases-loop-n : goal.decreases-loop-n
decreases-loop-n l = length l.bytes - l.n
