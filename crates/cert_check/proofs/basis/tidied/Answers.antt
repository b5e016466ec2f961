use Rattle.std.proofs.Common.{◌≤◌, ◌-◌, ◌%◌, sym, ◌∙◌, ap, subst, arith}
use Rattle.entry_code.specs.Entry.{entry_of}
use Rattle.entry_code.specs.Terms.{vector_of_terms}
use Rattle.rank_algebra.specs.Vector.{Agree}
use Rattle.mora_law.specs.Ring.{ranks_of_problem}
use Rattle.mora_law.specs.Entries.{basis_of}
use Rattle.mora_law.proofs.Ring.{problem_is_admissible}
use Rattle.cert_check.specs.Sparse.{at}
use Rattle.rank_algebra.proofs.Linear.{agree_trans}
use Rattle.cert_check.proofs.Starts.{subtracted_all}
use Rattle.cert_check.proofs.Tables.{all_ranks}
use Rattle.cert_check.proofs.Leaves.{corner_within}
use Rattle.cert_check.proofs.Stored.{entry_is, terms_in_ring}
use Rattle.cert_check.proofs.Tidying.{added_by, unit_agree, copied, added_clean, taken_out, tidied_is, terms_are}
use Rattle.cert_check.proofs.basis.tidied.Goals as goal

pub divide-requires-clause-corner : goal.divide-requires-clause-corner
divide-requires-clause-corner c = let z = corner_within c.args.problem.now (problem_is_admissible _ c.requires.problem) c.args.entries.now in omega (arith, z, c.requires.corner)

pub returns-clause-ring : goal.returns-clause-ring
returns-clause-ring c = terms_in_ring c.args.problem.now (at c.add_at-2.new.self.terms) c.in_ok-terms.terms.list
    (added_clean c.args.problem.now c.requires.problem c.lead_of-lead.result 1 (at c.divide.new.h.terms) (at c.add_at-2.new.self.terms) c.lead_of-lead.ensures.small
    (added_by c.args.problem.now c.lead_of-lead.result 1 _ (at c.divide.new.h.terms) (at c.add_at-2.new.self.terms) c.field-field.ensures.value c.in_ok-add_at-2.ensures) c.in_ok-divide.ensures.clean)
    c.in_ok-terms.ensures.rising c.in_ok-terms.ensures.value c.in_ok-terms.ensures.some

pub returns-clause-value : goal.returns-clause-value
returns-clause-value c =
    let P = c.args.problem.now in
    let low : (ranks_of_problem c.args.problem.now).n ≤ c.count.result = omega (arith, c.count.ensures.value, all_ranks c.args.problem.now _ c.requires.table) in
    let minus = c.neg-minus.ensures.value ∙ ap (λ p. (p - 1) % p) c.field-field.ensures.value in
    let put = added_by c.args.problem.now c.lead_of-lead.result 1 _ (at c.divide.new.h.terms) (at c.add_at-2.new.self.terms) c.field-field.ensures.value c.in_ok-add_at-2.ensures in
    let out = added_by c.args.problem.now c.lead_of-lead.result c.neg-minus.result _ (at c.subtract.new.h.terms) (at c.add_at.new.self.terms) c.field-field.ensures.value c.in_ok-add_at.ensures in
    let member = ap vector_of_terms (sym (entry_is c.args.entries.now c.args.k (entry_of c.get.result.now) c.get.ensures)) in
    let own : Agree (ranks_of_problem c.args.problem.now) (ranks_of_problem c.args.problem.now).n (at c.subtract.new.h.terms) ((basis_of c.args.entries.now).member c.args.k) =
    subst (Agree (ranks_of_problem c.args.problem.now) (ranks_of_problem c.args.problem.now).n (at c.subtract.new.h.terms)) member
    (agree_trans (copied c.args.problem.now c.requires.problem _ (at c.new-h.result.terms) (at c.subtract.new.h.terms) c.neg-minus.result minus c.new-h.ensures
    (subtracted_all c.args.problem.now c.requires.problem c.neg-minus.result _ (at c.new-h.result.terms) (at c.subtract.new.h.terms) c.count.result low c.in_ok-subtract.ensures.value))
    (unit_agree c.args.problem.now c.requires.problem _)) in
    terms_are P c.in_ok-terms.terms.list (at c.add_at-2.new.self.terms) _ (returns-clause-ring c) c.in_ok-terms.ensures.value
    (tidied_is P c.requires.problem c.args.entries.now c.args.k c.lead_of-lead.result c.args.lowest c.lead_of-lead.ensures.value c.requires.corner (at c.add_at.new.self.terms) (at c.divide.new.h.terms) (at c.add_at-2.new.self.terms)
    (taken_out P c.requires.problem c.lead_of-lead.result c.neg-minus.result (at c.subtract.new.h.terms) (at c.add_at.new.self.terms) _ minus out own) c.in_ok-divide.ensures.value put)
