use Rattle.std.proofs.Common.{sym, inl, inr, arith}
use Rattle.sparse_poly.proofs.Images.{term_at}
use Rattle.sparse_poly.proofs.Scaling.{multiply_more, multiplied, exponents_small}
use Rattle.sparse_poly.proofs.multiples.multiple.Goals as goal
use Rattle.sparse_poly.proofs.multiples.multiple.Goals.{else-loop-term-test, then-loop-term-test+then-degree}

pub times-requires : goal.times-requires
times-requires c = sym (term_at _ _ _ _ c.term-item.result c.requires.own c.loop-term-test.true c.term-item.is).0

pub unreachable-requires : goal.unreachable-requires
unreachable-requires c =
    let small = exponents_small c.args.factor.now.mono c.term-item.result.mono c.args.degree (omega (arith, c.if-degree.false, c.degree.ensures.value, c.degree-in-loop-term.ensures.value)) c.requires.degree in
    let e = c.in_default.ensures.some.1 small in
    cc

pub mul-requires-clause-b_residue : goal.mul-requires-clause-b_residue
mul-requires-clause-b_residue c = (term_at _ _ _ _ c.term-item.result c.requires.own c.loop-term-test.true c.term-item.is).2

pub loop-term-preserved : goal.loop-term-preserved
loop-term-preserved c =
    multiply_more _ _ _ _ _ _ _ _ c.term-item.result _ _ c.loop-term.invariant c.loop-term-test.true c.term-item.is
    (omega (arith, c.if-degree.false, c.degree.ensures.value, c.degree-in-loop-term.ensures.value)) c.in-Some.ensures.value c.mul.ensures.value c.in_ok-push_term.ensures

pub returns : goal.returns
returns c =
    multiplied _ _ _ _ _ _ _ (omega (arith, c.requires.residue)) c.requires.own c.loop-term.invariant (elim c.loop-term-test.branch [
      | else-loop-term-test w ↦ inl w.loop-term-test.false
      | then-loop-term-test+then-degree w ↦ inr (w.term-item.result, w.loop-term-test.true, w.term-item.is, omega (arith, w.if-degree.true, w.degree.ensures.value, w.degree-in-loop-term.ensures.value))
    ])
