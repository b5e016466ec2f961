use Rattle.std.proofs.Common.{◌≡◌, length, false, true, refl, ◌∙◌, ap, arith}
use Rattle.cert_check.proofs.Members.{sorted_term, one_same, one_differs, all_same}
use Rattle.cert_check.proofs.basis.is_poly.Goals as goal

pub is_term-requires-clause-ring : goal.is_term-requires-clause-ring
is_term-requires-clause-ring c = sorted_term c.args.f.now.n c.args.f.now.terms c.loop-k.k c.get-t.result c.terms-count.ensures.sorted c.get-t.ensures ∙ c.requires.variables

pub returns-then-not-is_term : goal.returns-then-not-is_term
returns-then-not-is_term c = (
  (λ y. absurd (let z : false ≡ true = y in cc z)),
  (λ q. absurd (let z : false ≡ true = c.if-not-is_term.ensures.1 (one_differs c.args.problem.now c.args.f.now.terms c.args.terms.now.list c.loop-k.k c.get-t.result c.get-u.result c.get-t.ensures c.get-u.ensures q) in cc z)),
)

pub loop-k-preserved : goal.loop-k-preserved
loop-k-preserved c = one_same c.args.problem.now c.args.f.now.terms c.args.terms.now.list c.loop-k.k c.get-t.result c.get-u.result c.get-t.ensures c.get-u.ensures (c.if-not-is_term.ensures.0 refl) c.loop-k.invariant

pub returns : goal.returns
returns c = (
  (λ y. all_same c.args.problem.now c.args.f.now.terms c.args.terms.now.list c.loop-k.k
      (omega (arith, c.if-count-len.false, c.len.ensures, ap length c.terms-count.ensures.value))
      (omega (arith, c.loop-k-test.false, ap length c.terms-count.ensures.value)) c.loop-k.invariant),
  (λ q. refl),
)
