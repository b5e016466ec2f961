use Rattle.std.proofs.Common.{◌≡◌, length, sym, ◌∙◌, subst}
use Rattle.sparse_poly.specs.Poly.{IsIn}
use Rattle.sparse_poly.proofs.Member.{in-append}
use Rattle.crew_tests.proofs.problems.poly.Goals as goal

pub loop-exponents-preserved : goal.loop-exponents-preserved
loop-exponents-preserved c =
    let n = c.args.n in
    let long : length c.in_ok-mono.mono ≡ n = sym c.n.ensures.value ∙ c.if-n.false in
    subst (λ f. IsIn n f) (sym c.in_ok-push.ensures.items) (in-append n c.loop-exponents.made.items _ c.loop-exponents.invariant (long, tt))
