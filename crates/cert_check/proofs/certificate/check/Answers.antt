use Rattle.std.proofs.Common.{◌≡◌, ℕ, length, Err, refl, ap, subst, arith, inl}
use Rattle.std.proofs.lemmas.Result.{IfOk-weaker}
use Rattle.cert_text.specs.Answers.{TellsLine}
use Rattle.cert_check.specs.declared.certificate.Verdict.{Verdict}
use Rattle.cert_check.specs.declared.certificate.Verdict.TheVariants.{Accepted}
use Rattle.cert_check.specs.Certificate.{IsVerdictOn, IsVerdictOf, AreRight}
use Rattle.cert_check.proofs.TextLines.{certificate_long}
use Rattle.cert_check.proofs.Verdicts.{one_verdict, verdict_right, verdict_on}
use Rattle.cert_check.proofs.certificate.check.Goals as goal

pub check_blocks-requires-clause-few : goal.check_blocks-requires-clause-few
check_blocks-requires-clause-few c = let z = certificate_long c.in-Ok.cert in omega (arith, z, ap length c.in-Ok.ensures.found.1)

pub returns-in-Ok-clause-one : goal.returns-in-Ok-clause-one
returns-in-Ok-clause-one c = IfOk-weaker c.check_blocks.result (IsVerdictOn c.in-Ok.cert) (λ v. (w : Verdict) → IsVerdictOf c.args.bytes.now w → v ≡ w)
    (λ v h w g. one_verdict c.args.bytes.now v w (verdict_on c.args.bytes.now c.in-Ok.cert (record { is = c.in-Ok.ensures.found.0; text = c.in-Ok.ensures.found.1 }) v h) g) c.check_blocks.ensures

pub returns-in-Ok-clause-right : goal.returns-in-Ok-clause-right
returns-in-Ok-clause-right c = IfOk-weaker c.check_blocks.result (IsVerdictOn c.in-Ok.cert) (λ v. (n : ℕ) → v ≡ Accepted n → AreRight c.args.bytes.now)
    (λ v h. verdict_right c.args.bytes.now v (verdict_on c.args.bytes.now c.in-Ok.cert (record { is = c.in-Ok.ensures.found.0; text = c.in-Ok.ensures.found.1 }) v h)) c.check_blocks.ensures

pub returns-in-Form-clause-one : goal.returns-in-Form-clause-one
returns-in-Form-clause-one c =
    let form = subst (λ e. TellsLine c.args.bytes.now (Err e)) c.in-Form.is c.in-Err.ensures.form in
    λ w g. one_verdict c.args.bytes.now _ w (inl (form, refl)) g
