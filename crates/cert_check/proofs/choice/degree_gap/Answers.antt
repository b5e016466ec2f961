use Rattle.std.proofs.Common.{◌-◌, ap₂, arith}
use Rattle.cert_check.proofs.Tables.{small, degree_told}
use Rattle.cert_check.proofs.choice.degree_gap.Goals as goal

pub degree_of-requires : goal.degree_of-requires
degree_of-requires c = small c.args.problem.now _ _ c.requires.table c.requires.last

pub degree_of-requires-2 : goal.degree_of-requires-2
degree_of-requires-2 c = small c.args.problem.now _ _ c.requires.table c.requires.low

pub overflow_sub-result : goal.overflow_sub-result
overflow_sub-result c =
    let low = degree_told c.args.problem.now c.requires.problem.some _ c.requires.table c.args.low c.requires.low c.degree_of-2.result c.degree_of-2.ensures.value in
    let last = degree_told c.args.problem.now c.requires.problem.some _ c.requires.table c.args.last c.requires.last c.degree_of.result c.degree_of.ensures.value in
    omega (arith, low, last, c.requires.rises)

pub returns : goal.returns
returns c = ap₂ (λ a b. a - b)
    (degree_told c.args.problem.now c.requires.problem.some _ c.requires.table c.args.last c.requires.last c.degree_of.result c.degree_of.ensures.value)
    (degree_told c.args.problem.now c.requires.problem.some _ c.requires.table c.args.low c.requires.low c.degree_of-2.result c.degree_of-2.ensures.value)
