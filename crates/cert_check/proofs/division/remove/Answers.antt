use Rattle.std.proofs.Common.{◌≡◌, Some, sym, ap, subst, arith}
use Rattle.entry_code.specs.Entry.{entry_of}
use Rattle.rank_algebra.specs.Vector.{Agree, less, shift}
use Rattle.rank_algebra.specs.Division.{first_of, first_lead}
use Rattle.mora_law.specs.Ring.{ranks_of_problem}
use Rattle.mora_law.specs.Entries.{basis_of}
use Rattle.entry_code.specs.Terms.{vector_of_terms}
use Rattle.mora_law.proofs.Ring.{problem_is_admissible, ranks_are}
use Rattle.cert_check.specs.Sparse.{at}
use Rattle.cert_check.proofs.Stored.{stored_entry, entry_is}
use Rattle.cert_check.proofs.Starts.{subtracted_to}
use Rattle.cert_check.proofs.Dividing.{hit_within, removed_by}
use Rattle.cert_check.proofs.division.remove.Goals as goal

pub get-requires : goal.get-requires
get-requires c =
    let z = hit_within (ranks_of_problem c.args.problem.now) (ranks_are _ (problem_is_admissible _ c.requires.problem)) (first_of c.len-known.result (basis_of c.args.entries.now)) c.args.r c.in-Some.hit.place c.in-Some.hit.cofactor (omega (arith, c.requires.corner, c.requires.rank)) c.in-Some.ensures.hit in
    omega (arith, z.0, c.len-known.ensures)

pub subtract-requires-clause-cofactor : goal.subtract-requires-clause-cofactor
subtract-requires-clause-cofactor c =
    (hit_within (ranks_of_problem c.args.problem.now) (ranks_are _ (problem_is_admissible _ c.requires.problem)) (first_of c.len-known.result (basis_of c.args.entries.now)) c.args.r c.in-Some.hit.place c.in-Some.hit.cofactor (omega (arith, c.requires.corner, c.requires.rank)) c.in-Some.ensures.hit).1

pub subtract-requires-clause-terms : goal.subtract-requires-clause-terms
subtract-requires-clause-terms c = (stored_entry c.args.problem.now c.args.entries.now c.in-Some.hit.place (entry_of c.get.result.now) c.requires.stored c.get.ensures).terms

pub returns-clause-value : goal.returns-clause-value
returns-clause-value c =
    removed_by (ranks_of_problem c.args.problem.now) (basis_of c.args.entries.now) c.args.corner c.args.r c.in-Some.hit.place c.in-Some.hit.cofactor (at c.args.h.now.terms) (at c.subtract.new.h.terms) (vector_of_terms c.get.result.now.terms.list)
    (subst (λ n. first_lead (ranks_of_problem c.args.problem.now) (first_of n (basis_of c.args.entries.now)) c.args.r ≡ Some (record { place = c.in-Some.hit.place; cofactor = c.in-Some.hit.cofactor })) c.len-known.ensures c.in-Some.ensures.hit)
    (ap vector_of_terms (sym (entry_is c.args.entries.now c.in-Some.hit.place (entry_of c.get.result.now) c.get.ensures)))
    (subst (λ x. Agree (ranks_of_problem c.args.problem.now) c.args.corner (at c.subtract.new.h.terms) (less (ranks_of_problem c.args.problem.now) x (shift (ranks_of_problem c.args.problem.now) c.in-Some.hit.cofactor (vector_of_terms c.get.result.now.terms.list)) (at c.args.h.now.terms))) c.coefficient-coef.ensures
    (subtracted_to c.args.problem.now c.requires.problem c.coefficient-coef.result _ (at c.args.h.now.terms) (at c.subtract.new.h.terms) c.args.corner c.requires.corner c.in_ok-subtract.ensures.value))
