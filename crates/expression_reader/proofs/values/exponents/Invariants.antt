use Rattle.std.proofs.Common.{◌≡◌, length, take}
use Rattle.expression_reader.specs.Constant.{short_mono}
use Rattle.expression_reader.proofs.values.exponents.Given as goal

abbrev pub invariant-loop-i : goal.invariant-loop-i
invariant-loop-i l = record {
  so_far : take l.i l.exps ≡ short_mono (take l.i l.names.letters) l.word;
  full : length l.exps ≡ 8;
}
