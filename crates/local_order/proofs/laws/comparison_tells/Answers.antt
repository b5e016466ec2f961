use Rattle.std.proofs.Common.{sym}
use Rattle.local_order.proofs.Prefix.{above_of_compare, same_of_compare, below_of_compare, compare_above, compare_same, compare_below}
use Rattle.local_order.proofs.laws.comparison_tells.Goals as goal

pub returns-clause-greater : goal.returns-clause-greater
returns-clause-greater c a b e = (λ h. above_of_compare a b (sym h), compare_above a b)

pub returns-clause-equal : goal.returns-clause-equal
returns-clause-equal c a b e = (λ h. same_of_compare a b (sym h), compare_same a b)

pub returns-clause-less : goal.returns-clause-less
returns-clause-less c a b e = (λ h. below_of_compare a b e (sym h), compare_below a b)
