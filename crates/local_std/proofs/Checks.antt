-- What is due for a certificate that is to be checked. It comes with a text, and bytes that aren't too many get a verdict.
use Rattle.std.proofs.Common.{◌≡◌, ◌⊎◌, inl, inr, ℕ, List, [], ◌≤◌, ◌<◌, length, refl, sym, subst, arith}
use Rattle.cert_check.specs.declared.certificate.Verdict.{Verdict}
use Rattle.cert_check.specs.declared.certificate.Verdict.TheVariants.{Accepted, Rejected as RejectedAt}
use Rattle.cert_check.specs.Certificate.{IsVerdictOf}
use Rattle.local_std.specs.declared.outcome.Status.{Status}
use Rattle.local_std.specs.declared.outcome.Status.TheVariants.{Input}
use Rattle.local_std.specs.Endings.{HasText, IsAnswered}
use Rattle.local_std.specs.Lent.{Lent, HasGiven}
use Rattle.local_std.specs.Words.{check}
use Rattle.local_std.specs.Texts.{too_long_line}
use Rattle.local_std.specs.Checked.{max_certificate, verdict_line, verdict_status, IsUnchecked, IsChecked}
use Rattle.local_std.specs.Due.{Offers, Admits, Served}
use Rattle.local_std.proofs.Inputs.{read_is, given_le}

-- a verdict comes with a text
pub verdict_has_text : (v : Verdict) → HasText (verdict_status v)
verdict_has_text (Accepted blocks) = tt
verdict_has_text (RejectedAt line reason) = tt

-- and is an answer
verdict_answered : (v : Verdict) → IsAnswered (verdict_status v)
verdict_answered (Accepted blocks) = inl refl
verdict_answered (RejectedAt line reason) = inl refl

module _ {S : Type 0} (source : Lent S) where
  -- more bytes than are checked are refused by the line for them
  pub certificate_too_long : (bytes : List ℕ) × HasGiven source max_certificate bytes × (max_certificate < length bytes) → Served check source Input too_long_line []
  certificate_too_long (bytes, gave, many) = record {
    input = bytes;
    reads = gave;
    is_due = (inl (record { refused = refl; long = record { many = many; spelled = refl } }), refl);
  }

  -- the verdict on what was read is due
  pub verdict_served : (bytes : List ℕ) → HasGiven source max_certificate bytes → length bytes ≤ max_certificate → (v : Verdict) → IsVerdictOf bytes v → Served check source (verdict_status v) (verdict_line v) []
  verdict_served bytes gave few v is = record {
    input = bytes;
    reads = gave;
    is_due = (inr (record { few = few; verdict = v; is = is; answer = refl; spelled = refl }), refl);
  }

  -- what is due for bytes that aren't too many is their verdict
  pub answers_check : (input : List ℕ) → Offers check source input → Admits check input → (status : Status) (text proof : List ℕ) → Served check source status text proof → IsAnswered status
  answers_check input offers admits status text proof s = go s.is_due.0
    where
      same : s.input ≡ input
      same =
          let no_more = given_le (source.bytes source.before) (source.bytes source.now) s.input input offers s.reads.given in
          read_is max_certificate (source.bytes source.before) (source.bytes source.now) s.input input offers s.reads (omega (arith, no_more, admits))

      go : IsUnchecked s.input status text ⊎ IsChecked s.input status text → IsAnswered status
      go (inl unread) = let many = subst (λ x. max_certificate < length x) same unread.long.many in absurd (omega (arith, many, admits))
      go (inr read) = subst IsAnswered (sym read.answer) (verdict_answered read.verdict)
