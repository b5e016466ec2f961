use Rattle.std.proofs.Common.{◌∷◌, [], refl, IsTrue}
use Rattle.std.proofs.lemmas.Result.{IfOk-weaker}
use Rattle.cert_check.specs.declared.reason.Reason.TheVariants as reasons
use Rattle.cert_check.specs.Checks.{tickets, verdict, answer_checks}
use Rattle.cert_check.specs.Answers.{IsAnswered}
use Rattle.cert_check.proofs.Answered.{answered_next}
use Rattle.cert_check.proofs.Faults.{fault_right, fault_here}
use Rattle.cert_check.proofs.block.check_answer.Goals as goal

pub returns-then-not-branch : goal.returns-then-not-branch
returns-then-not-branch c = fault_here c.args.block.now tickets (verdict ∷ answer_checks c.args.block.now.answer) _ reasons.Unsettled
    (λ h. let z : IsTrue c.in_ok-are_divided.field-0 = c.in_ok-are_divided.ensures.1 h in cc (z, c.if-not-branch.true)) c.requires.passed.line refl

pub returns-then-not-branch-2 : goal.returns-then-not-branch-2
returns-then-not-branch-2 c = fault_right c.args.block.now (tickets ∷ []) (verdict ∷ answer_checks c.args.block.now.answer) _ reasons.Verdict (c.in_ok-are_divided.ensures.0 c.if-not-branch.false, tt)
    (fault_here c.args.block.now verdict (answer_checks c.args.block.now.answer) _ reasons.Verdict
    (λ h. let z : IsTrue c.in_ok-is_verdict.field-0 = c.in_ok-is_verdict.ensures.1 h in cc (z, c.if-not-branch-2.true)) c.requires.passed.line refl)

pub returns-in-Fits : goal.returns-in-Fits
returns-in-Fits c = IfOk-weaker c.check_fits.result (IsAnswered c.args.block.now (answer_checks c.args.block.now.answer)) (IsAnswered c.args.block.now (tickets ∷ verdict ∷ answer_checks c.args.block.now.answer))
    (λ o a. answered_next c.args.block.now tickets (verdict ∷ answer_checks c.args.block.now.answer) o (c.in_ok-are_divided.ensures.0 c.if-not-branch.false)
    (answered_next c.args.block.now verdict (answer_checks c.args.block.now.answer) o (c.in_ok-is_verdict.ensures.0 c.if-not-branch-2.false) a))
    c.check_fits.ensures
