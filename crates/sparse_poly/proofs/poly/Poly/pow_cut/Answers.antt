use Rattle.sparse_poly.proofs.Sorted.{canonical_terms, residues_of}
use Rattle.std.proofs.Common.{◌≡◌, ◌∙◌, ap, subst}
use Rattle.sparse_poly.specs.Poly.{in_variables, one, IsCanonical}
use Rattle.sparse_poly.proofs.Powers.{power_start, power_odd, power_even, power_square, power_last, power_end}
use Rattle.sparse_poly.proofs.poly.Poly.pow_cut.Goals as goal
use Rattle.sparse_poly.proofs.poly.Poly.pow_cut.Goals.{then-left-eq1+in_ok-power-2, else-left-eq1}

pub loop-left-init : goal.loop-left-init
loop-left-init c =
    let one_is : c.in_ok-power.power ≡ in_variables c.args.self.now.n (one c.args.self.now.n) =
    c.in_ok-power.ensures.value ∙ ap (λ f. in_variables f.n (one f.n)) c.self.view_is in
    power_start _ _ _ _ _ _ _ (canonical_terms _ _ _ c.self.view_is c.self.invariant.2 c.requires.own) (subst (λ f. IsCanonical c.args.field.now f.n f.terms) one_is c.in_ok-power.ensures.canonical) one_is c.in_ok-base.ensures.value

pub loop-left-preserved-then-left-gt0 : goal.loop-left-preserved-then-left-gt0
loop-left-preserved-then-left-gt0 c =
    power_square _ _ _ _ _ _ _ _ _ (elim c.if-left-eq1.branch [
      | then-left-eq1+in_ok-power-2 w ↦ power_odd _ _ _ _ _ _ _ _ _ c.loop-left.invariant w.if-left-eq1.true (w.power-is ∙ w.in_ok-power-2.ensures.value)
      | else-left-eq1 w ↦ power_even _ _ _ _ _ _ _ _ _ c.loop-left.invariant w.if-left-eq1.false w.power-is
    ]) c.in_ok-base-2.ensures.value

pub loop-left-preserved : goal.loop-left-preserved
loop-left-preserved c =
    power_last _ _ _ _ _ _ _ _ (elim c.if-left-eq1.branch [
      | then-left-eq1+in_ok-power-2 w ↦ power_odd _ _ _ _ _ _ _ _ _ c.loop-left.invariant w.if-left-eq1.true (w.power-is ∙ w.in_ok-power-2.ensures.value)
      | else-left-eq1 w ↦ power_even _ _ _ _ _ _ _ _ _ c.loop-left.invariant w.if-left-eq1.false w.power-is
    ]) c.if-left-gt0.false

pub returns-clause-value : goal.returns-clause-value
returns-clause-value c = power_end _ _ _ _ _ _ _ _ c.loop-left.invariant c.loop-left-test.false

pub mul_cut-requires-clause-own : goal.mul_cut-requires-clause-own
mul_cut-requires-clause-own c = residues_of _ _ _ c.loop-left.invariant.x_canonical

pub mul_cut-requires-clause-other : goal.mul_cut-requires-clause-other
mul_cut-requires-clause-other c = residues_of _ _ _ c.loop-left.invariant.b_canonical

pub mul_cut-requires-then-left-gt0-clause-own : goal.mul_cut-requires-then-left-gt0-clause-own
mul_cut-requires-then-left-gt0-clause-own c = residues_of _ _ _ c.loop-left.invariant.b_canonical

pub mul_cut-requires-then-left-gt0-clause-other : goal.mul_cut-requires-then-left-gt0-clause-other
mul_cut-requires-then-left-gt0-clause-other c = residues_of _ _ _ c.loop-left.invariant.b_canonical
