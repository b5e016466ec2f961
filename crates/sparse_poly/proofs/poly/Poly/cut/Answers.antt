use Rattle.std.proofs.Common.{◌∙◌, ap, arith, subst, sym}
use Rattle.std.proofs.lemmas.List.{take_all}
use Rattle.sparse_poly.proofs.Cuts.{cut_taken, cut_left_out}
use Rattle.sparse_poly.proofs.Sorted.{IsSorted-cut, HasResidues-cut}
use Rattle.sparse_poly.specs.Poly.{HasResidues}
use Rattle.sparse_poly.proofs.poly.Poly.cut.Goals as goal
use Rattle.sparse_poly.proofs.poly.Poly.cut.Goals.{then-degree+in_ok-push, else-degree}

pub loop-term-preserved : goal.loop-term-preserved
loop-term-preserved c = elim c.if-degree.branch [
  | then-degree+in_ok-push w ↦ ap (λ v. v.items) w.terms-is ∙ cut_taken _ _ _ _ _ c.term-item.result c.loop-term-test.true c.term-item.is c.loop-term.invariant (omega (arith, w.if-degree.true, c.degree.ensures.value)) w.in_ok-push.ensures.items
  | else-degree w ↦ ap (λ v. v.items) w.terms-is ∙ cut_left_out _ _ _ _ c.term-item.result c.loop-term-test.true c.term-item.is c.loop-term.invariant (omega (arith, w.if-degree.false, c.degree.ensures.value))
]

pub invariant_of-result : goal.invariant_of-result
invariant_of-result c = (
  c.self.invariant.0,
  c.self.invariant.1,
  rw (c.loop-term.invariant, take_all _ _ c.loop-term-test.false, c.deref-term-items.ensures.value)
      (IsSorted-cut _ _ _ c.self.invariant.2),
)

pub returns-clause-residues : goal.returns-clause-residues
returns-clause-residues c p r =
    rw (c.loop-term.invariant, take_all _ _ c.loop-term-test.false, c.deref-term-items.ensures.value)
    (HasResidues-cut p _ _ (subst (λ f. HasResidues p f.terms) (sym c.self.view_is) r))
