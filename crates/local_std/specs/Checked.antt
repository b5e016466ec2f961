-- What is due for the bytes of a certificate that is to be checked.
use Rattle.std.specs.Prelude.{◌≡◌, ℕ, ◌≤◌, ◌⊎◌, List, [], ◌++◌, length, codes, decimal}
use Rattle.cert_check.specs.declared.reason.Reason.{Reason}
use Rattle.cert_check.specs.declared.reason.Reason.TheVariants as reasons
use Rattle.cert_check.specs.declared.certificate.Verdict.{Verdict}
use Rattle.cert_check.specs.declared.certificate.Verdict.TheVariants as verdicts
use Rattle.cert_check.specs.Certificate.{IsVerdictOf}
use Rattle.local_std.specs.declared.outcome.Status.{Status}
use Rattle.local_std.specs.declared.outcome.Status.TheVariants.{Fits, Rejected, Input}
use Rattle.local_std.specs.Scripts.{IsTooLong}

-- the greatest number of bytes of a certificate that is checked
abbrev pub max_certificate : ℕ
max_certificate = 268435456

-- ---- the line of a verdict, and its status
abbrev pub reason_text : Reason → List ℕ
reason_text reasons.Form = codes "form"
reason_text reasons.Item = codes "item"
reason_text reasons.Known = codes "known"
reason_text reasons.Corner = codes "corner"
reason_text reasons.Run = codes "run"
reason_text reasons.Poly = codes "poly"
reason_text reasons.Unsettled = codes "unsettled"
reason_text reasons.Verdict = codes "verdict"
reason_text reasons.Basis = codes "basis"
reason_text reasons.HighCorner = codes "highcorner"
reason_text reasons.Stair = codes "stair"

abbrev pub verdict_line : Verdict → List ℕ
verdict_line (verdicts.Accepted blocks) = codes "accepted " ++ decimal blocks ++ codes "\n"
verdict_line (verdicts.Rejected line reason) = codes "rejected line " ++ decimal line ++ codes ": " ++ reason_text reason ++ codes "\n"

abbrev pub verdict_status : Verdict → Status
verdict_status (verdicts.Accepted blocks) = Fits
verdict_status (verdicts.Rejected line reason) = Rejected

-- ---- what is due
-- there are more bytes than are checked
pub record IsUnchecked (input : List ℕ) (status : Status) (text : List ℕ) : Type 0 where
  pub refused : status ≡ Input
  pub long : IsTooLong max_certificate input text

-- the verdict on the bytes
pub record IsChecked (input : List ℕ) (status : Status) (text : List ℕ) : Type 0 where
  pub few : length input ≤ max_certificate
  pub verdict : Verdict
  pub is : IsVerdictOf input verdict
  pub answer : status ≡ verdict_status verdict
  pub spelled : text ≡ verdict_line verdict

abbrev pub CheckDue : List ℕ → Status → List ℕ → List ℕ → Type 0
CheckDue input status text proof = (IsUnchecked input status text ⊎ IsChecked input status text) × (proof ≡ [])
