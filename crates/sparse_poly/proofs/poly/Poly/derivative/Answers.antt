use Rattle.std.proofs.Common.{sym, ◌∙◌, ap, arith, ◌<◌, ◌*◌, ◌%◌, length}
use Rattle.std.proofs.Math.Path.{ap₂}
use Rattle.sparse_poly.specs.Poly.{derivative}
use Rattle.sparse_poly.specs.Canonical.{canonical}
use Rattle.sparse_poly.proofs.Images.{images-all, term_at}
use Rattle.sparse_poly.proofs.Derivatives.{derivative_is, in-derivative, derivative-some, derivative-none, length-variable_of}
use Rattle.sparse_poly.proofs.Unique.{in_of_canonical}
use Rattle.sparse_poly.proofs.Sorted.{canonical_terms, sorted_of}
use Rattle.sparse_poly.proofs.Views.{own_terms, given, given_canonical, positive}
use Rattle.sparse_poly.proofs.poly.Poly.derivative.Goals as goal
use Rattle.sparse_poly.proofs.poly.Poly.derivative.Goals.{in-Some+in_ok-push_term, in_default}

pub quotient-requires : goal.quotient-requires
quotient-requires c =
    let term = term_at _ _ _ _ c.term-item.result (own_terms _ _ _ _ c.self.view_is c.deref-term-items.ensures.value (canonical_terms _ _ _ c.self.view_is c.self.invariant.2 c.requires.own)) c.loop-term-test.true c.term-item.is in
    term.0 ∙ sym (ap length c.variable-divisor.ensures ∙ length-variable_of c.self.inside.n c.args.variable)

pub exp-requires : goal.exp-requires
exp-requires c =
    let term = term_at _ _ _ _ c.term-item.result (own_terms _ _ _ _ c.self.view_is c.deref-term-items.ensures.value (canonical_terms _ _ _ c.self.view_is c.self.invariant.2 c.requires.own)) c.loop-term-test.true c.term-item.is in
    omega (arith, term.0, c.requires.within, ap (λ f. f.n) c.self.view_is)

pub mul-requires-clause-a_residue : goal.mul-requires-clause-a_residue
mul-requires-clause-a_residue c =
    (term_at _ _ _ _ c.term-item.result (own_terms _ _ _ _ c.self.view_is c.deref-term-items.ensures.value (canonical_terms _ _ _ c.self.view_is c.self.invariant.2 c.requires.own)) c.loop-term-test.true c.term-item.is).2

pub loop-term-preserved : goal.loop-term-preserved
loop-term-preserved c =
    let own = own_terms _ _ _ _ c.self.view_is c.deref-term-items.ensures.value (canonical_terms _ _ _ c.self.view_is c.self.invariant.2 c.requires.own) in
    let within : c.args.variable < c.self.inside.n = omega (arith, c.requires.within, ap (λ f. f.n) c.self.view_is) in
    elim c.match-quotient.branch [
      | in-Some+in_ok-push_term w ↦ ap (λ v. v.items) w.terms-is
          ∙ derivative-some _ _ _ _ _ _ _ c.term-item.result _ _ w.exp.result _ own within c.loop-term-test.true c.term-item.is c.loop-term.invariant
          c.variable-divisor.ensures w.in-Some.ensures.value w.exp.ensures.value (omega (arith, w.mul.ensures.value, ap₂ (λ e p. (c.term-item.result.coef * (e % p)) % c.args.field.now) w.from-exponent.ensures c.prime-prime.ensures.value)) w.in_ok-push_term.ensures
      | in_default w ↦ ap (λ v. v.items) w.terms-is
          ∙ derivative-none _ _ _ _ _ _ c.term-item.result _ own within c.loop-term-test.true c.term-item.is c.loop-term.invariant
          c.variable-divisor.ensures (λ d. let e = w.in_default.ensures.some.1 d in cc)
    ]

pub returns-clause-value : goal.returns-clause-value
returns-clause-value c =
    given _ _ _ _ c.self.view_is
    (images-all _ _ _ _ _ c.loop-term-test.false c.loop-term.invariant
    ∙ derivative_is _ c.self.inside.n c.args.variable c.deref-term-items.result.now (positive _ c.prime-prime.ensures.offered) (omega (arith, c.requires.within, ap (λ f. f.n) c.self.view_is))
    (own_terms _ _ _ _ c.self.view_is c.deref-term-items.ensures.value (canonical_terms _ _ _ c.self.view_is c.self.invariant.2 c.requires.own))
    ∙ ap (λ f. canonical c.args.field.now (derivative c.args.variable f)) (c.deref-term-items.ensures.value ∙ ap (λ f. f.terms) c.self.view_is))

pub returns-clause-canonical : goal.returns-clause-canonical
returns-clause-canonical c =
    given_canonical _ _ _ _ _ (positive _ c.prime-prime.ensures.offered) c.self.view_is (returns-clause-value c) (in-derivative _ _ _ (in_of_canonical _ _ _ (canonical_terms _ _ _ c.self.view_is c.self.invariant.2 c.requires.own)))

pub invariant_of-result : goal.invariant_of-result
invariant_of-result c = (c.self.invariant.0, c.self.invariant.1, sorted_of _ _ _ (returns-clause-canonical c))
