use Rattle.std.proofs.Common.{◌*◌, ◌%◌, [], sym, ◌∙◌, ap, arith, get_or}
use Rattle.prime_field.specs.Inverse.{inverse}
use Rattle.sparse_poly.specs.Poly.{coef, term_times}
use Rattle.sparse_poly.specs.Canonical.{canonical}
use Rattle.sparse_poly.proofs.Scaling.{IsCanonical-scaled, coef-scaled}
use Rattle.sparse_poly.proofs.Unique.{coef-lead}
use Rattle.sparse_poly.proofs.Sorted.{canonical_terms, sorted_of}
use Rattle.sparse_poly.proofs.Views.{given, own_terms}
use Rattle.sparse_poly.proofs.poly.Poly.monic.Goals as goal

pub scaled-requires-clause-own : goal.scaled-requires-clause-own
scaled-requires-clause-own c = (c.self.inside.n, own_terms _ _ _ _ c.self.view_is c.deref.ensures.value (canonical_terms _ _ _ c.self.view_is c.self.invariant.2 c.requires.own))

pub returns-clause-canonical : goal.returns-clause-canonical
returns-clause-canonical c =
    rw c.in_ok-terms.ensures
    (IsCanonical-scaled _ _ _ _ (omega (arith, c.inv-factor.ensures.residue)) (own_terms _ _ _ _ c.self.view_is c.deref.ensures.value (canonical_terms _ _ _ c.self.view_is c.self.invariant.2 c.requires.own)))

pub returns-clause-value : goal.returns-clause-value
returns-clause-value c m x =
    let p = c.args.field.now in
    let f = c.args.self.now.terms in
    let t = c.index.result.now in
    let factor = c.inv-factor.result in
    given _ _ _ _ c.self.view_is
    (c.in_ok-terms.ensures
    ∙ ap (λ v. canonical p (term_times factor [] v)) (c.deref.ensures.value ∙ ap (λ g. g.terms) c.self.view_is)
    ∙ ap (λ a. canonical p (term_times a [] f))
    (c.inv-factor.ensures.inverse
    ∙ ap (inverse p) (sym (coef-lead _ t f m (canonical_terms _ _ _ c.self.view_is c.self.invariant.2 c.requires.own) (c.index.ensures ∙ ap (λ g. get_or g.terms 0 t) c.self.view_is) x))))

pub returns-clause-lead : goal.returns-clause-lead
returns-clause-lead c m x =
    let p = c.args.field.now in
    let f = c.args.self.now.terms in
    let t = c.index.result.now in
    let factor = c.inv-factor.result in
    ap (λ v. coef p v m) c.in_ok-terms.ensures
    ∙ ap (λ v. coef p (canonical p (term_times factor [] v)) m) (c.deref.ensures.value ∙ ap (λ g. g.terms) c.self.view_is)
    ∙ coef-scaled p factor f m
    ∙ ap (λ a. (a * factor) % p) (coef-lead _ t f m (canonical_terms _ _ _ c.self.view_is c.self.invariant.2 c.requires.own) (c.index.ensures ∙ ap (λ g. get_or g.terms 0 t) c.self.view_is) x)
    ∙ c.inv-factor.ensures.value

pub invariant_of-result : goal.invariant_of-result
invariant_of-result c = (c.self.invariant.0, c.self.invariant.1, sorted_of _ _ _ (returns-clause-canonical c))
