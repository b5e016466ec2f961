use Rattle.std.proofs.Common.{◌≡◌, ◌≤◌, ◌+◌, ◌-◌, length, drop}
use Rattle.script_grammar.specs.Words.{digits_front}
use Rattle.script_tokens.proofs.short.digit_count.Given as goal

abbrev pub invariant-loop-n : goal.invariant-loop-n
invariant-loop-n l = record {
  so_far : l.n + length (digits_front (drop l.n l.word)) ≡ length (digits_front l.word);
  within : l.n ≤ length l.word;
}

abbrev pub decreases-loop-n : goal.decreases-loop-n
decreases-loop-n l = length l.word - l.n
