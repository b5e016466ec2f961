use Rattle.std.proofs.Common.{◌≡◌, ◌≤◌, ◌+◌, ◌-◌, ◌^◌, length}
use Rattle.cert_grammar.specs.Lines.{lines_of}
use Rattle.cert_text.proofs.lines.Lines.count.Given as goal

abbrev pub invariant-loop-rest : goal.invariant-loop-rest
invariant-loop-rest l = record {
  so_far : l.count + length (lines_of l.rest) ≡ length l.fn.self;
  within : length (lines_of l.rest) ≤ length l.rest;
  all : length l.fn.self ≤ 2 ^ 63 - 1;
}

abbrev pub decreases-loop-rest : goal.decreases-loop-rest
decreases-loop-rest l = length l.rest
