use Rattle.std.proofs.Common.{◌≡◌, ◌*◌, ◌%◌, List, length, slice_get, Some, refl, ◌∙◌, ap, subst, arith}
use Rattle.prime_field.specs.Inverse.{inverse}
use Rattle.entry_code.specs.declared.term.Term.{Term}
use Rattle.rank_algebra.specs.Vector.{shift, less, Agree}
use Rattle.mora_law.specs.Ring.{ranks_of_problem}
use Rattle.entry_code.specs.Terms.{vector_of_terms}
use Rattle.mora_law.proofs.Ring.{problem_is_admissible}
use Rattle.cert_check.specs.Sparse.{at, AreStored}
use Rattle.cert_check.specs.Replay.{terms_at}
use Rattle.cert_check.proofs.Tables.{all_ranks}
use Rattle.cert_check.proofs.Stored.{coef_residue}
use Rattle.cert_check.proofs.TermVectors.{lead_coef}
use Rattle.cert_check.proofs.Starts.{subtracted_all}
use Rattle.cert_check.proofs.Stepping.{put_terms, stored_at, factor_is, reduced_is}
use Rattle.cert_check.proofs.step.reduce.Goals as goal

pub returns-clause-step : goal.returns-clause-step
returns-clause-step c =
    reduced_is c.args.problem.now (problem_is_admissible _ c.requires.problem) (at c.args.h.now.terms) (at c.subtract.new.h.terms) c.args.lead ts c.args.choice.cofactor c.mul-factor.result
    _ c.args.kept.now.items c.keep.new.kept.items c.ecart_of-own.result c.args.choice.ecart
    (factor_is c.args.problem.now (problem_is_admissible _ c.requires.problem) (at c.args.h.now.terms) c.args.lead ts c.get.result.coef c.inv.result c.mul-factor.result c.requires.lead
    (lead_coef ts c.get.result first) (coef_residue c.args.problem.now ts stored.terms 0 c.get.result first)
    (c.inv.ensures.inverse ∙ ap (λ p. inverse p c.get.result.coef) c.field-field.ensures.value)
    (c.mul-factor.ensures.value ∙ ap (λ p. (c.args.lead.coef * c.inv.result) % p) c.field-field.ensures.value))
    (subst (λ us. Agree (ranks_of_problem c.args.problem.now) (ranks_of_problem c.args.problem.now).n (at c.subtract.new.h.terms) (less (ranks_of_problem c.args.problem.now) c.mul-factor.result (shift (ranks_of_problem c.args.problem.now) c.args.choice.cofactor (vector_of_terms us)) (at c.args.h.now.terms))) same
    (subtracted_all c.args.problem.now c.requires.problem c.mul-factor.result _ (at c.args.h.now.terms) (at c.subtract.new.h.terms) c.count-count.result
    (omega (arith, c.count-count.ensures.value, all_ranks c.args.problem.now _ c.requires.table)) c.in_ok-subtract.ensures.value))
    c.ecart_of-own.ensures c.requires.choice.ecart refl c.in_ok-keep.ensures.put
  where
    ts : List Term
    ts = terms_at c.args.entries.now c.args.kept.now.items c.args.choice.place

    same : c.terms_at-reducer.result.now.list ≡ terms_at c.args.entries.now c.args.kept.now.items c.args.choice.place
    same =
        c.terms_at-reducer.ensures ∙ ap (λ xs. terms_at c.args.entries.now xs c.args.choice.place) c.deref.ensures.value
        ∙ put_terms c.args.entries.now (length c.args.entries.now) (at c.args.h.now.terms) _ c.args.kept.now.items c.keep.new.kept.items c.args.choice.place c.in_ok-keep.ensures.put c.requires.choice.within

    stored : AreStored c.args.problem.now (terms_at c.args.entries.now c.args.kept.now.items c.args.choice.place)
    stored = stored_at c.args.problem.now c.args.entries.now c.args.kept.now.items c.args.choice.place c.requires.stored c.requires.kept c.requires.choice.within

    first : slice_get (terms_at c.args.entries.now c.args.kept.now.items c.args.choice.place) 0 ≡ Some c.get.result
    first = subst (λ us. slice_get us 0 ≡ Some c.get.result) (c.terms_at-reducer.ensures ∙ ap (λ xs. terms_at c.args.entries.now xs c.args.choice.place) c.deref.ensures.value
        ∙ put_terms c.args.entries.now (length c.args.entries.now) (at c.args.h.now.terms) _ c.args.kept.now.items c.keep.new.kept.items c.args.choice.place c.in_ok-keep.ensures.put c.requires.choice.within) c.get.ensures
