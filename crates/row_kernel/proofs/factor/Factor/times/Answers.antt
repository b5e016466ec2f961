use Rattle.std.proofs.Common.{◌<◌, ◌*◌, ◌%◌, ap, sym, ◌∙◌, subst, arith}
use Rattle.std.proofs.lemmas.List.{get_or-map}
use Rattle.row_kernel.proofs.Vectors.{rests, rests_full, rests_fit, rests_small, rests_same}
use Rattle.row_kernel.proofs.factor.Factor.times.Goals as goal

pub overflow_cast-narrow : goal.overflow_cast-narrow
overflow_cast-narrow c = rests_fit c.args.self.p c.args.self.value c.args.self.quotient c.args.lanes c.requires.prime c.requires.factor c.requires.quotient c.requires.full c.fits-lanes.1

pub reduced-requires-clause-small : goal.reduced-requires-clause-small
reduced-requires-clause-small c j l =
    let p = c.args.self.p in
    let xs = rests p c.args.self.value c.args.self.quotient c.args.lanes in
    subst (λ x. x < 2 * p) (sym (get_or-map (λ x. x) xs j 0 0 (omega (arith, rests_full p c.args.self.value c.args.self.quotient c.args.lanes c.requires.full))))
    (rests_small p c.args.self.value c.args.self.quotient c.args.lanes c.requires.prime c.requires.factor c.requires.quotient c.requires.full c.fits-lanes.1 j l)

pub returns-clause-value : goal.returns-clause-value
returns-clause-value c j l =
    let p = c.args.self.p in
    let xs = rests p c.args.self.value c.args.self.quotient c.args.lanes in
    c.reduced.ensures.value j l
    ∙ ap (λ x. x % p) (get_or-map (λ x. x) xs j 0 0 (omega (arith, rests_full p c.args.self.value c.args.self.quotient c.args.lanes c.requires.full)))
    ∙ rests_same p c.args.self.value c.args.self.quotient c.args.lanes c.requires.prime c.requires.factor c.requires.quotient c.requires.full c.fits-lanes.1 j l
