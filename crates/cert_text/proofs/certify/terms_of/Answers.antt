use Rattle.std.proofs.Common.{sym, ◌∙◌, subst}
use Rattle.sparse_poly.specs.Poly.{IsSorted}
use Rattle.cert_text.proofs.Certifying.{sorted_at}
use Rattle.cert_text.proofs.certify.terms_of.Goals as goal

pub rank_in-requires-clause-variables : goal.rank_in-requires-clause-variables
rank_in-requires-clause-variables c =
    sorted_at c.args.f.now.n c.terms-terms.result.now c.loop-term.term-index _ c.term-item.result
    (subst (IsSorted c.args.f.now.n) (sym c.terms-terms.ensures.value) c.terms-terms.ensures.sorted) c.loop-term-test.true c.term-item.is
    ∙ c.requires.variables
