use Rattle.std.proofs.Common.{◌∷◌, All, MatchResult, subst}
use Rattle.std.specs.Prelude.{IfNone}
use Rattle.std.proofs.lemmas.Result.{IfOk-weaker}
use Rattle.cert_check.specs.declared.fault.Fault.{Fault}
use Rattle.cert_check.specs.Accepted.{IsAcceptedBlock}
use Rattle.cert_check.specs.Right.{IsRight}
use Rattle.cert_check.specs.Checks.{entries_checks, tickets, verdict, answer_checks, checks, Holds}
use Rattle.cert_check.specs.Fault.{IsFirstFaultIn}
use Rattle.cert_check.specs.Answers.{IsAnswered, IsPassed}
use Rattle.cert_check.proofs.Answered.{answered_behind}
use Rattle.cert_check.proofs.Faults.{fault_left}
use Rattle.cert_check.proofs.Passed.{legal_by, accepted_by, right_by}
use Rattle.cert_check.proofs.block.check_block.Goals as goal

pub check_answer-requires-clause-legal : goal.check_answer-requires-clause-legal
check_answer-requires-clause-legal c =
    let h = subst (λ r. MatchResult r (λ x. All (Holds c.args.block.now) (entries_checks 0 c.args.block.now.entries) × IsPassed c.args.block.now x) (λ (f : Fault). IsFirstFaultIn c.args.block.now (entries_checks 0 c.args.block.now.entries) f.line f.reason)) c.in-Ok-2.is c.in_ok-passed.ensures in
    legal_by c.args.block.now c.requires.read h.0

pub returns-in-Ok-2-clause-fault : goal.returns-in-Ok-2-clause-fault
returns-in-Ok-2-clause-fault c =
    let h = subst (λ r. MatchResult r (λ x. All (Holds c.args.block.now) (entries_checks 0 c.args.block.now.entries) × IsPassed c.args.block.now x) (λ (f : Fault). IsFirstFaultIn c.args.block.now (entries_checks 0 c.args.block.now.entries) f.line f.reason)) c.in-Ok-2.is c.in_ok-passed.ensures in
    IfOk-weaker c.check_answer.result (IsAnswered c.args.block.now (tickets ∷ verdict ∷ answer_checks c.args.block.now.answer)) (IsAnswered c.args.block.now (checks c.args.block.now))
    (λ o a. answered_behind c.args.block.now (entries_checks 0 c.args.block.now.entries) (tickets ∷ verdict ∷ answer_checks c.args.block.now.answer) o h.0 a) c.check_answer.ensures

pub returns-in-Ok-2-clause-accepted : goal.returns-in-Ok-2-clause-accepted
returns-in-Ok-2-clause-accepted c = IfOk-weaker c.check_answer.result (IsAnswered c.args.block.now (checks c.args.block.now)) (λ o. IfNone o (IsAcceptedBlock c.args.block.now)) (accepted_by c.args.block.now c.requires.read) (returns-in-Ok-2-clause-fault c)

pub returns-in-Ok-2-clause-right : goal.returns-in-Ok-2-clause-right
returns-in-Ok-2-clause-right c = IfOk-weaker c.check_answer.result (IsAnswered c.args.block.now (checks c.args.block.now)) (λ o. IfNone o (IsRight c.args.block.now.problem c.args.block.now.answer c.args.block.now.corner)) (right_by c.args.block.now c.requires.read) (returns-in-Ok-2-clause-fault c)

pub returns-clause-fault : goal.returns-clause-fault
returns-clause-fault c =
    let f = subst (λ r. MatchResult r (λ x. All (Holds c.args.block.now) (entries_checks 0 c.args.block.now.entries) × IsPassed c.args.block.now x) (λ (f : Fault). IsFirstFaultIn c.args.block.now (entries_checks 0 c.args.block.now.entries) f.line f.reason)) c.in-Err.is c.in_ok-passed.ensures in
    fault_left c.args.block.now (entries_checks 0 c.args.block.now.entries) (tickets ∷ verdict ∷ answer_checks c.args.block.now.answer) c.in-Err.fault.line c.in-Err.fault.reason f
