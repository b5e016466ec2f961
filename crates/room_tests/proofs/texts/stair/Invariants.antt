use Rattle.std.proofs.Common.{◌≡◌, All, length}
use Rattle.room_tests.proofs.texts.stair.Given as goal

abbrev pub invariant-loop-exponents : goal.invariant-loop-exponents
invariant-loop-exponents l = All (λ m. length m ≡ 2) l.all
