use Rattle.std.proofs.Common.{◌*◌, ◌%◌, ◌∙◌, arith}
use Rattle.sparse_poly.proofs.Images.{images-more, images-all, term_at}
use Rattle.sparse_poly.proofs.Scaling.{scaled_is}
use Rattle.sparse_poly.proofs.multiples.scaled.Goals as goal

pub mul-requires-clause-b_residue : goal.mul-requires-clause-b_residue
mul-requires-clause-b_residue c = (term_at _ _ _ _ c.term-item.result c.requires.own.1 c.loop-term-test.true c.term-item.is).2

pub loop-term-preserved : goal.loop-term-preserved
loop-term-preserved c =
    images-more (λ t. (c.args.factor * t.coef) % c.args.field.now) (λ t. t.mono) _ _ _ _ c.term-item.result _ c.loop-term-test.true c.term-item.is c.mul.ensures.value c.loop-term.invariant c.in_ok-push_term.ensures

pub returns : goal.returns
returns c =
    images-all _ _ _ _ _ c.loop-term-test.false c.loop-term.invariant
    ∙ scaled_is _ _ _ _ (omega (arith, c.requires.residue)) c.requires.own.1
