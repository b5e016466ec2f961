use Rattle.std.proofs.Common.{◌+◌, ◌-◌, ◌%◌, ◌∙◌, ap}
use Rattle.std.proofs.Math.Nat.{add-mod-mod}
use Rattle.prime_field.proofs.field.Field.sub.Goals as goal

pub returns-clause-value : goal.returns-clause-value
returns-clause-value c =
    c.add.ensures.value
    ∙ ap (λ n. (c.args.a + n) % c.args.self.now) c.neg.ensures.value
    ∙ add-mod-mod c.args.a (c.args.self.now - c.args.b) c.args.self.now
