use Rattle.std.proofs.Common.{◌≡◌, false, true, refl, subst, arith, below_more}
use Rattle.std.proofs.lemmas.Option.{slice_get_within, get_or_from_slice_get}
use Rattle.sparse_poly.specs.Poly.{Polynomial}
use Rattle.cert_check.specs.Answers.{IsMemberAt}
use Rattle.cert_check.proofs.Minimal.{places_small}
use Rattle.cert_check.proofs.Members.{member_is}
use Rattle.cert_check.proofs.basis.wrong_member.Goals as goal

pub tidied-requires-clause-place : goal.tidied-requires-clause-place
tidied-requires-clause-place c = places_small c.args.problem.now c.args.entries.now c.args.places.now c.requires.places c.loop-k.k 0 (omega (arith, c.loop-k-test.true))

pub is_poly-requires-clause-variables : goal.is_poly-requires-clause-variables
is_poly-requires-clause-variables c = subst (λ (x : Polynomial). x.n ≡ c.args.problem.now.n) (get_or_from_slice_get c.args.polys.now c.loop-k.k c.get-f.result.now c.get-f.result.now c.get-f.ensures)
    (c.requires.variables c.loop-k.k c.get-f.result.now (slice_get_within c.args.polys.now c.loop-k.k c.get-f.result.now c.get-f.ensures))

pub returns-then-not-is_poly : goal.returns-then-not-is_poly
returns-then-not-is_poly c = record {
  within = slice_get_within c.args.polys.now c.loop-k.k c.get-f.result.now c.get-f.ensures;
  earlier = c.loop-k.invariant;
  wrong = λ m. let z : false ≡ true = c.if-not-is_poly.ensures.1 ((member_is c.args.problem.now c.args.entries.now c.args.places.now c.requires.places c.args.polys.now c.loop-k.k c.get-f.result.now c.in_ok-terms.terms.list (omega (arith, c.loop-k-test.true)) c.get-f.ensures c.in_ok-terms.ensures.value).1 m) in cc z;
}

pub loop-k-preserved : goal.loop-k-preserved
loop-k-preserved c = below_more (IsMemberAt c.args.problem.now c.args.entries.now c.args.polys.now) c.loop-k.k c.loop-k.invariant
    ((member_is c.args.problem.now c.args.entries.now c.args.places.now c.requires.places c.args.polys.now c.loop-k.k c.get-f.result.now c.in_ok-terms.terms.list (omega (arith, c.loop-k-test.true)) c.get-f.ensures c.in_ok-terms.ensures.value).0 (c.if-not-is_poly.ensures.0 refl))
