-- What the checker answers of a text: whether it is a certificate all of whose blocks are accepted, and else its first fault.
use Rattle.std.specs.Prelude.{◌≡◌, ℕ, ◌⊎◌, List, length, All}
use Rattle.cert_grammar.specs.declared.certified.Certified.{Certified}
use Rattle.cert_grammar.specs.Certified.{IsCertificate, certificate_text}
use Rattle.cert_grammar.specs.Form.{IsFormLine}
use Rattle.cert_check.specs.declared.reason.Reason.{Reason}
use Rattle.cert_check.specs.declared.reason.Reason.TheVariants as reasons
use Rattle.cert_check.specs.declared.certificate.Verdict.{Verdict}
use Rattle.cert_check.specs.declared.certificate.Verdict.TheVariants.{Accepted, Rejected}
use Rattle.cert_check.specs.Accepted.{IsAcceptedBlock}
use Rattle.cert_check.specs.Right.{IsRight}
use Rattle.cert_check.specs.Fault.{IsFirstFaultOf}

-- the bytes are the text of this certificate
pub record IsTextOf (bytes : List ℕ) (xs : List Certified) : Type 0 where
  pub is : IsCertificate xs
  pub text : bytes ≡ certificate_text xs

-- the bytes are the text of a certificate of n blocks, and each is accepted
pub record Accepts (bytes : List ℕ) (n : ℕ) : Type 0 where
  pub blocks : List Certified
  pub read : IsTextOf bytes blocks
  pub accepted : All IsAcceptedBlock blocks
  pub number : n ≡ length blocks

-- they are the text of a certificate with this first fault
pub record HasFault (bytes : List ℕ) (line : ℕ) (reason : Reason) : Type 0 where
  pub blocks : List Certified
  pub read : IsTextOf bytes blocks
  pub fault : IsFirstFaultOf blocks line reason

-- the first fault of a text: the line at which it goes wrong, or the first fault of the certificate whose text it is
abbrev pub IsFault : List ℕ → ℕ → Reason → Type 0
IsFault bytes line reason = (IsFormLine bytes line × (reason ≡ reasons.Form)) ⊎ HasFault bytes line reason

-- what is answered of the blocks of a certificate
abbrev pub IsVerdictOn : List Certified → Verdict → Type 0
IsVerdictOn xs (Accepted n) = All IsAcceptedBlock xs × (n ≡ length xs)
IsVerdictOn xs (Rejected line reason) = IsFirstFaultOf xs line reason

-- what is answered of a text
abbrev pub IsVerdictOf : List ℕ → Verdict → Type 0
IsVerdictOf bytes (Accepted n) = Accepts bytes n
IsVerdictOf bytes (Rejected line reason) = IsFault bytes line reason

-- what an accepted text says of the problem in each block's lines
pub record AreRight (bytes : List ℕ) : Type 0 where
  pub blocks : List Certified
  pub read : IsTextOf bytes blocks
  pub right : All (λ x. IsRight x.problem x.answer x.corner) blocks
