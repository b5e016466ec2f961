use Rattle.std.proofs.Common.{rules, ◌≤◌, IsTrue, All}
use Rattle.prime_field.proofs.Numerals.{AreDigits-from_all}
use Rattle.room_tests.proofs.numbers.are_digits.Goals as goal

pub returns : goal.returns
returns c =
    let each : IsTrue c.all.result → All (λ b. (48 ≤ b) × (b ≤ 57)) c.args.bytes.now = search rules in
    λ t. AreDigits-from_all c.args.bytes.now (each t)
