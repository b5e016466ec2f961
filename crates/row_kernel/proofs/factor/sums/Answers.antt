use Rattle.std.proofs.Common.{◌%◌, ap, ◌∙◌, arith}
use Rattle.row_kernel.proofs.Vectors.{sums_full, sums_at}
use Rattle.row_kernel.proofs.factor.sums.Goals as goal

pub reduced-requires-clause-full : goal.reduced-requires-clause-full
reduced-requires-clause-full c = sums_full c.args.a c.args.b c.requires.full_a c.requires.full_b

pub reduced-requires-clause-small : goal.reduced-requires-clause-small
reduced-requires-clause-small c j l =
    let small = c.requires.a_residues j l in
    let other = c.requires.b_residues j l in
    omega (arith, small, other, sums_at c.args.p c.args.a c.args.b j c.requires.prime c.requires.full_a c.requires.full_b l small other)

pub returns-clause-value : goal.returns-clause-value
returns-clause-value c j l =
    c.reduced.ensures.value j l
    ∙ ap (λ x. x % c.args.p) (sums_at c.args.p c.args.a c.args.b j c.requires.prime c.requires.full_a c.requires.full_b l (c.requires.a_residues j l) (c.requires.b_residues j l))
