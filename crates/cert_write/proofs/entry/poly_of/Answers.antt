use Rattle.std.proofs.Common.{◌≡◌, ◌<◌, ◌++◌, ◌∷◌, [], List, ℕ, refl, sym, ◌∙◌, ap, subst, arith}
use Rattle.local_order.specs.Shape.{Shape, count}
use Rattle.sparse_poly.specs.Poly.{Poly, Term as PolyTerm, in_variables, IsIn}
use Rattle.sparse_poly.specs.Canonical.{canonical}
use Rattle.sparse_poly.specs.Shape.{shape_of}
use Rattle.prime_field.proofs.Primality.{IsPrime-table}
use Rattle.sparse_poly.proofs.Canonical.{canonical_self}
use Rattle.sparse_poly.proofs.Unique.{in_of_canonical}
use Rattle.mono_rank.specs.Rank.{HasRank, mono_of_rank}
use Rattle.mono_rank.proofs.ByRank.{mono_of_rank-is}
use Rattle.cert_grammar.specs.Certified.{poly_by_rank}
use Rattle.cert_write.proofs.Steps.{one_more, all_made}
use Rattle.cert_write.proofs.Parts.{terms_poly, term_low}
use Rattle.cert_write.proofs.entry.poly_of.Goals as goal

pub mono-requires : goal.mono-requires
mono-requires c =
    subst (λ (T : Shape). c.get-term.result.rank < count T) (sym c.requires.table) (term_low c.args.problem.now c.args.terms.now.list c.loop-i.i c.get-term.result c.requires.terms c.get-term.ensures)

pub loop-i-preserved : goal.loop-i-preserved
loop-i-preserved c =
    let P = c.args.problem.now in
    let ts = c.args.terms.now.list in
    let t = c.get-term.result in
    let mono : c.mono.result ≡ mono_of_rank (shape_of P) t.rank = sym (mono_of_rank-is (shape_of P) c.mono.result t.rank (subst (λ (T : Shape). HasRank T c.mono.result t.rank) c.requires.table c.mono.ensures)) in
    one_more (terms_poly P) ts c.loop-i.i t (terms_poly P 0 ts) c.loop-i.list.items c.push.new.self.items (record { mono = mono_of_rank (shape_of P) t.rank; coef = t.coef } ∷ [])
    (λ xs. refl) c.get-term.ensures
    (c.in_ok-push.ensures.items ∙ ap (λ (m : List ℕ). c.loop-i.list.items ++ record { mono = m; coef = t.coef } ∷ []) mono) c.loop-i.invariant

pub from_terms-requires-clause-own : goal.from_terms-requires-clause-own
from_terms-requires-clause-own c =
    let P = c.args.problem.now in
    let ts = c.args.terms.now.list in
    let made : c.loop-i.list.items ≡ poly_by_rank P ts = all_made (terms_poly P) ts c.loop-i.i (poly_by_rank P ts) c.loop-i.list.items (omega (arith, c.loop-i-test.false, c.len-i-end.ensures)) refl c.loop-i.invariant in
    rw (c.n.ensures.value, made) (in_of_canonical P.p P.n (poly_by_rank P ts) c.requires.canonical)

pub returns : goal.returns
returns c =
    let P = c.args.problem.now in
    let ts = c.args.terms.now.list in
    let made : c.loop-i.list.items ≡ poly_by_rank P ts = all_made (terms_poly P) ts c.loop-i.i (poly_by_rank P ts) c.loop-i.list.items (omega (arith, c.loop-i-test.false, c.len-i-end.ensures)) refl c.loop-i.invariant in
    let two = (IsPrime-table P.p c.field.ensures.problem.prime).two_up in
    (rw (c.field.ensures.value, c.n.ensures.value) at c.in_ok-poly.ensures.value)
    ∙ ap (λ (f : Poly). in_variables P.n f) (ap (canonical P.p) made ∙ canonical_self P.p P.n (poly_by_rank P ts) (omega (arith, two)) c.requires.canonical)
