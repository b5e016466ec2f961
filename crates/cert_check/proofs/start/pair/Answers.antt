use Rattle.std.proofs.Common.{◌-◌, ◌%◌, sym, ◌∙◌, ap, ap₂}
use Rattle.entry_code.specs.Entry.{entry_of}
use Rattle.rank_algebra.specs.Vector.{shift}
use Rattle.mora_law.specs.Ring.{ranks_of_problem}
use Rattle.entry_code.specs.Terms.{vector_of_terms}
use Rattle.cert_check.specs.Sparse.{at}
use Rattle.cert_check.proofs.Stored.{stored_entry, entry_is}
use Rattle.cert_check.proofs.Starts.{subtracted_to, pair_is, pair_same}
use Rattle.cert_check.proofs.start.pair.Goals as goal

pub subtract-requires-clause-terms : goal.subtract-requires-clause-terms
subtract-requires-clause-terms c = (stored_entry c.args.problem.now c.args.entries.now c.args.i (entry_of c.get.result.now) c.requires.stored c.get.ensures).terms

pub subtract-requires-2-clause-terms : goal.subtract-requires-2-clause-terms
subtract-requires-2-clause-terms c = (stored_entry c.args.problem.now c.args.entries.now c.args.j (entry_of c.get-2.result.now) c.requires.stored c.get-2.ensures).terms

pub returns-clause-value : goal.returns-clause-value
returns-clause-value c =
    pair_same c.args.problem.now c.args.below
    (ap₂ (λ x v. shift (ranks_of_problem c.args.problem.now) x v)
    (c.cofactor_rank-by_first.ensures.value ∙ ap₂ (ranks_of_problem c.args.problem.now).cofactor c.lead_of-first.ensures.value c.lead_of-second.ensures.value)
    (ap vector_of_terms (sym (entry_is c.args.entries.now c.args.i (entry_of c.get.result.now) c.get.ensures))))
    (ap₂ (λ x v. shift (ranks_of_problem c.args.problem.now) x v)
    (c.cofactor_rank-by_second.ensures.value ∙ ap₂ (ranks_of_problem c.args.problem.now).cofactor c.lead_of-second.ensures.value c.lead_of-first.ensures.value)
    (ap vector_of_terms (sym (entry_is c.args.entries.now c.args.j (entry_of c.get-2.result.now) c.get-2.ensures))))
    (pair_is c.args.problem.now c.requires.problem c.args.below _ _ (at c.new-h.result.terms) (at c.subtract.new.h.terms) (at c.subtract-2.new.h.terms) c.neg.result
    (c.neg.ensures.value ∙ ap (λ p. (p - 1) % p) c.field-field.ensures.value) c.new-h.ensures
    (subtracted_to c.args.problem.now c.requires.problem c.neg.result _ (at c.new-h.result.terms) (at c.subtract.new.h.terms) c.args.below c.requires.below c.in_ok-subtract.ensures.value)
    (subtracted_to c.args.problem.now c.requires.problem 1 _ (at c.subtract.new.h.terms) (at c.subtract-2.new.h.terms) c.args.below c.requires.below c.in_ok-subtract-2.ensures.value))
