use Rattle.std.proofs.Common.{◌≡◌, ◌+◌, ◌-◌, ◌*◌, get_or, ◌∙◌, arith}
use Rattle.std.proofs.Math.Nat.{mod-lt}
use Rattle.prime_field.proofs.Numerals.{digit_at, value_from-more}
use Rattle.prime_field.proofs.field.Field.from_decimal.Goals as goal

pub loop-digit-preserved : goal.loop-digit-preserved
loop-digit-preserved c =
    let inv = c.loop-digit.invariant in
    let i = c.loop-digit.digit-index in
    let digits = c.args.digits.now in
    let p : c.from-p.result ≡ c.args.self.now = c.from-p.ensures ∙ c.self.view_is in
    rw (p, c.from.ensures)
    (record {
      digits_left = (digit_at digits i c.loop-digit-test.true inv.digits_left).2;
      residue = mod-lt (10 * c.loop-digit.value + (get_or digits i 0 - 48)) (omega arith);
      read_on = value_from-more c.args.self.now c.loop-digit.value digits i c.loop-digit-test.true ∙ inv.read_on;
    })
