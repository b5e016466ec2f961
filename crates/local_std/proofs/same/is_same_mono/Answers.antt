use Rattle.std.proofs.Common.{refl, ◌∙◌}
use Rattle.local_order.proofs.Prefix.{same_of_compare, compare_same}
use Rattle.local_std.proofs.same.is_same_mono.Goals as goal

pub returns-in-Equal : goal.returns-in-Equal
returns-in-Equal c = (λ t. same_of_compare c.args.a.now c.args.b.now c.in-Equal.ensures, λ e. refl)

pub returns-in_default : goal.returns-in_default
returns-in_default c = (λ t. absurd (cc (t)), λ e. absurd (c.in_default.not-Equal (c.cmp_ds.ensures ∙ compare_same c.args.a.now c.args.b.now e)))
