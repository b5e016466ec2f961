use Rattle.std.proofs.Common.{◌≡◌, All, sym, subst, arith}
use Rattle.std.proofs.lemmas.List.{length-map}
use Rattle.std.proofs.lemmas.List.Elements.{All-nil, All-push, All-map}
use Rattle.mono_rank.specs.Stored.{HasLimits}
use Rattle.sparse_poly.specs.Poly.{Polynomial, IsCanonical, HasDegreeAtMost}
use Rattle.mora_tests.proofs.problems.problem.Goals as goal

pub new-requires-clause-problem : goal.new-requires-clause-problem
new-requires-clause-problem c =
    let p = c.in_ok-field.field in
    let n = c.args.n in
    let d = c.args.d in
    let are = c.loop-terms.invariant in
    let table : HasLimits c.args.table.now = c.count-count.ensures.limits in
    let within : HasLimits (record { variables = n; degree = d }) = subst (λ k. HasLimits (record { variables = n; degree = k })) c.requires.degree (subst (λ k. HasLimits (record { variables = k; degree = c.args.table.now.degree })) c.requires.variables table) in
    record {
      prime = c.prime-prime.ensures.offered;
      some = within.some;
      few = within.few;
      degree_some = c.requires.some;
      degree_few = within.low;
      monomials = within.small;
      canonical = All-map (IsCanonical p n) (λ (f : Polynomial). f.terms) c.loop-terms.made (λ k e l. (are k e l).1);
      low = All-map (HasDegreeAtMost d) (λ (f : Polynomial). f.terms) c.loop-terms.made (λ k e l. (are k e l).2);
      few_gens = omega (arith, length-map c.loop-terms.made (λ (f : Polynomial). f.terms), c.len.ensures, c.if-len-gt64.false);
    }

pub loop-terms-init : goal.loop-terms-init
loop-terms-init c =
    subst (All (λ (f : Polynomial). (f.n ≡ c.args.n) × IsCanonical c.in_ok-field.field c.args.n f.terms × HasDegreeAtMost c.args.d f.terms)) (sym c.new-made.ensures) (All-nil _)

pub loop-terms-preserved : goal.loop-terms-preserved
loop-terms-preserved c =
    let own = c.in_ok-poly.ensures in
    subst (All (λ (f : Polynomial). (f.n ≡ c.args.n) × IsCanonical c.in_ok-field.field c.args.n f.terms × HasDegreeAtMost c.args.d f.terms)) (sym c.in_ok-push.ensures.ok)
    (All-push (λ (f : Polynomial). (f.n ≡ c.args.n) × IsCanonical c.in_ok-field.field c.args.n f.terms × HasDegreeAtMost c.args.d f.terms) c.loop-terms.made c.in_ok-poly.field-0 c.loop-terms.invariant (own.variables, own.canonical, own.low))

pub new-requires-clause-variables : goal.new-requires-clause-variables
new-requires-clause-variables c = λ k d l. (c.loop-terms.invariant k d l).0
