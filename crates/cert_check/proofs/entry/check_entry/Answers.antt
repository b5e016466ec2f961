use Rattle.std.proofs.Common.{◌≡◌, length, false, true, IsTrue, refl, sym, ◌∙◌, ap, subst, arith}
use Rattle.std.specs.Prelude.{IfNone}
use Rattle.entry_code.specs.Entry.{entry_of, entry_at}
use Rattle.rank_algebra.specs.Vector.{Agree}
use Rattle.mora_law.specs.Ring.{ranks_of_problem}
use Rattle.mora_law.specs.Start.{start, run}
use Rattle.cert_check.specs.Checks.{reading_checks}
use Rattle.cert_check.specs.Sparse.{at}
use Rattle.cert_check.specs.Answers.{IsAnswered}
use Rattle.cert_check.proofs.Stored.{stored_entry, entry_is, reads_are, item_is, same_item}
use Rattle.cert_check.proofs.MonicTerms.{monic_alike}
use Rattle.cert_check.proofs.Tables.{all_ranks}
use Rattle.cert_check.proofs.Replaying.{item_fault, readings_fault, terms_fault, entry_holds}
use Rattle.cert_check.proofs.entry.check_entry.Goals as goal

pub returns-then-not-is_item_of : goal.returns-then-not-is_item_of
returns-then-not-is_item_of c =
    let ei = item_is c.args.block.now.entries c.args.i (entry_of c.get-entry.result.now) c.get-entry.ensures in
    item_fault c.args.block.now c.args.i c.args.line (λ k. let z : false ≡ true = c.if-not-is_item_of.ensures.1 (same_item c.args.i _ _ _ _ (sym c.generator_count.ensures) ei k) in cc z) c.requires.line

pub start-requires-clause-below : goal.start-requires-clause-below
start-requires-clause-below c = omega (arith, c.count-count.ensures.value, all_ranks c.args.block.now.problem _ c.requires.table)

pub check_readings-requires-clause-start : goal.check_readings-requires-clause-start
check_readings-requires-clause-start c =
    let ei = item_is c.args.block.now.entries c.args.i (entry_of c.get-entry.result.now) c.get-entry.ensures in
    subst (λ x. Agree (ranks_of_problem c.args.block.now.problem) (ranks_of_problem c.args.block.now.problem).n (at c.in_ok-h.h.terms) (start c.args.block.now.problem c.args.block.now.entries x)) (sym ei)
    (subst (λ w. Agree (ranks_of_problem c.args.block.now.problem) w (at c.in_ok-h.h.terms) (start c.args.block.now.problem c.args.block.now.entries c.get-entry.result.now.item)) (c.count-count.ensures.value ∙ sym (all_ranks c.args.block.now.problem _ c.requires.table)) c.in_ok-h.ensures.value)

pub returns-in-Some : goal.returns-in-Some
returns-in-Some c =
    let ei = item_is c.args.block.now.entries c.args.i (entry_of c.get-entry.result.now) c.get-entry.ensures in
    readings_fault c.args.block.now c.args.i c.in-Some.fault.line c.in-Some.fault.reason (same_item c.args.i _ _ _ _ c.generator_count.ensures (sym ei) (c.if-not-is_item_of.ensures.0 refl))
    (subst (IsAnswered c.args.block.now (reading_checks c.args.i (length (entry_at c.args.block.now.entries c.args.i).reads) 0)) c.in-Some.is c.in_ok-fault.ensures.answer)

pub are_terms-requires-clause-stored : goal.are_terms-requires-clause-stored
are_terms-requires-clause-stored c = stored_entry c.args.block.now.problem c.args.block.now.entries c.args.i (entry_of c.get-entry.result.now) c.requires.stored c.get-entry.ensures

pub returns-then-same : goal.returns-then-same
returns-then-same c =
    let ei = item_is c.args.block.now.entries c.args.i (entry_of c.get-entry.result.now) c.get-entry.ensures in
    let ran : Agree (ranks_of_problem c.args.block.now.problem) (ranks_of_problem c.args.block.now.problem).n (at c.check_readings.new.h.terms) (run c.args.block.now.problem c.args.block.now.entries (entry_at c.args.block.now.entries c.args.i).item (entry_at c.args.block.now.entries c.args.i).reads).poly =
    subst (λ o. IfNone o (Agree (ranks_of_problem c.args.block.now.problem) (ranks_of_problem c.args.block.now.problem).n (at c.check_readings.new.h.terms) (run c.args.block.now.problem c.args.block.now.entries (entry_at c.args.block.now.entries c.args.i).item (entry_at c.args.block.now.entries c.args.i).reads).poly)) c.in_default.is c.in_ok-fault.ensures.run in
    entry_holds c.args.block.now c.args.i (same_item c.args.i _ _ _ _ c.generator_count.ensures (sym ei) (c.if-not-is_item_of.ensures.0 refl))
    (subst (IsAnswered c.args.block.now (reading_checks c.args.i (length (entry_at c.args.block.now.entries c.args.i).reads) 0)) c.in_default.is c.in_ok-fault.ensures.answer)
    (entry_is c.args.block.now.entries c.args.i (entry_of c.get-entry.result.now) c.get-entry.ensures ∙ c.in_ok-same.ensures.0 c.if-same.true ∙ monic_alike c.args.block.now.problem _ _ ran)

pub returns : goal.returns
returns c =
    let ei = item_is c.args.block.now.entries c.args.i (entry_of c.get-entry.result.now) c.get-entry.ensures in
    let ran : Agree (ranks_of_problem c.args.block.now.problem) (ranks_of_problem c.args.block.now.problem).n (at c.check_readings.new.h.terms) (run c.args.block.now.problem c.args.block.now.entries (entry_at c.args.block.now.entries c.args.i).item (entry_at c.args.block.now.entries c.args.i).reads).poly =
    subst (λ o. IfNone o (Agree (ranks_of_problem c.args.block.now.problem) (ranks_of_problem c.args.block.now.problem).n (at c.check_readings.new.h.terms) (run c.args.block.now.problem c.args.block.now.entries (entry_at c.args.block.now.entries c.args.i).item (entry_at c.args.block.now.entries c.args.i).reads).poly)) c.in_default.is c.in_ok-fault.ensures.run in
    terms_fault c.args.block.now c.args.i _ (same_item c.args.i _ _ _ _ c.generator_count.ensures (sym ei) (c.if-not-is_item_of.ensures.0 refl))
    (subst (IsAnswered c.args.block.now (reading_checks c.args.i (length (entry_at c.args.block.now.entries c.args.i).reads) 0)) c.in_default.is c.in_ok-fault.ensures.answer)
    (λ t. let z : IsTrue c.in_ok-same.same = c.in_ok-same.ensures.1 (sym (entry_is c.args.block.now.entries c.args.i (entry_of c.get-entry.result.now) c.get-entry.ensures) ∙ t ∙ sym (monic_alike c.args.block.now.problem _ _ ran)) in cc (z, c.if-same.false))
    (omega (arith, c.requires.line, c.len.ensures, ap length (reads_are c.args.block.now.entries c.args.i (entry_of c.get-entry.result.now) c.get-entry.ensures)))
