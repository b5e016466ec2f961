-- How a call ends that writes a text that is due: with the text, or with its beginning and a fault of the sink. The certificate's
-- sink has gained its text before, the empty one where it is as it was; or a part of it, and then nothing else is written.
use Rattle.std.proofs.Common.{◌≡◌, inl, inr, ℕ, List, [], Result, Err, take, sym, ◌∙◌, subst}
use Rattle.std.specs.declared.option.Option.{Option}
use Rattle.io_edge.specs.Faults.{Rose}
use Rattle.cert_write.specs.declared.error.CertWriteError.{CertWriteError}
use Rattle.cert_write.specs.declared.error.CertWriteError.TheVariants as errors
use Rattle.cert_write.specs.Writes.{WritesOrStops}
use Rattle.std.proofs.KnownBytes.{Appends-nil}
use Rattle.std.specs.Io.KnownBytes.{Appends}
use Rattle.local_std.specs.declared.outcome.Status.{Status}
use Rattle.local_std.specs.declared.outcome.Status.TheVariants.{Memory, ReadFault, WriteFault}
use Rattle.local_std.specs.Endings.{HasText}
use Rattle.local_std.specs.Lent.{Lent, IsUntouched, HasFailed, HasGained}
use Rattle.local_std.specs.Words.{Request}
use Rattle.local_std.specs.Due.{Served, IsWritten, IsBrokenOff, IsUnwritten, FailsToRead, HasReadSome, Concludes, Ends}
use Rattle.local_std.specs.View.{Wrote}

-- a status that comes with a text is not one without
text_no : (s t : Status) → HasText s → s ≡ t → (HasText t → ⊥) → ⊥
text_no s t has e none = none (subst HasText e has)

-- a sink that is as it was has gained the empty text
pub gains_nothing : {A : Type 0} (a : Lent A) → IsUntouched a → HasGained a []
gains_nothing a e = subst (λ x. Appends (a.bytes a.before) (a.bytes x) []) (sym e) (Appends-nil (a.bytes a.before))

module _ {K C : Type 0} (D : Status → List ℕ → List ℕ → Type 0) (out : Lent K) (cert : Lent C) (status result : Status) (text proof : List ℕ) (has : HasText status) (is_due : D status text proof) (gained : HasGained cert proof) where
  -- where the text was written whole, both texts were
  pub written_of : Wrote status text out result → HasText result → IsWritten D out cert result
  written_of (inl ok) t = subst (IsWritten D out cert) (sym ok.0) (text, proof, is_due, ok.1, gained)
  written_of (inr err) t = absurd (text_no result WriteFault t err.0 (λ x. x))

  -- and where the sink failed, it has gained the beginning
  pub unwritten_of : Wrote status text out result → result ≡ WriteFault → IsUnwritten D out cert
  unwritten_of (inl ok) e = absurd (text_no status WriteFault has (sym ok.0 ∙ e) (λ x. x))
  unwritten_of (inr err) e = inr (record {
    failed = err.1;
    status = status;
    text = text;
    proof = proof;
    is_due = is_due;
    count = err.2;
    begun = err.3;
    certified = gained;
  })

  -- it ends in no other way
  pub no_other : (t : Status) → (HasText t → ⊥) → (WriteFault ≡ t → ⊥) → Wrote status text out result → result ≡ t → ⊥
  no_other t none other (inl ok) e = text_no status t has (sym ok.0 ∙ e) none
  no_other t none other (inr err) e = other (sym err.0 ∙ e)

  -- Where the certificate was written, and the text is, the call ends well.
  pub concludes_written : Wrote status text out result → Concludes D out cert result
  concludes_written wrote = record {
    written = written_of wrote;
    memory = λ e. absurd (no_other Memory (λ x. x) (λ x. cc (x)) wrote e);
    write_fault = unwritten_of wrote;
    no_read_fault = no_other ReadFault (λ x. x) (λ x. cc (x)) wrote;
  }

module _ {K C : Type 0} (D : Status → List ℕ → List ℕ → Type 0) (out : Lent K) (cert : Lent C) (unwritten : IsUntouched out) where
  -- Where memory ran out before anything was written, the call ends well.
  pub concludes_short : IsUntouched cert → Concludes D out cert Memory
  concludes_short kept = record { written = λ t. absurd t; memory = λ e. (unwritten, inl (gains_nothing cert kept)); write_fault = λ e. absurd (cc (e)); no_read_fault = λ e. cc (e) }

  module _ (status : Status) (text proof : List ℕ) (is_due : D status text proof) (count : ℕ) (begun : HasGained cert (take count proof)) where
    -- So it does where memory ran out after a part of the certificate.
    pub concludes_broken : Concludes D out cert Memory
    concludes_broken = record {
      written = λ t. absurd t;
      memory = λ e. (unwritten, inr (proof, count, (status, text, is_due), begun));
      write_fault = λ e. absurd (cc (e));
      no_read_fault = λ e. cc (e);
    }

    -- And where the certificate's sink failed.
    pub concludes_failed : HasFailed cert → Concludes D out cert WriteFault
    concludes_failed failed = record {
      written = λ t. absurd t;
      memory = λ e. absurd (cc (e));
      write_fault = λ e. inl (record { failed = failed; status = status; text = text; proof = proof; is_due = is_due; count = count; begun = begun; unwritten = unwritten });
      no_read_fault = λ e. cc (e);
    }

module _ {S K C : Type 0} (request : Request) (source : Lent S) (out : Lent K) (cert : Lent C) where
  -- a request ends well that writes the text that is due
  pub ends_written : IsUntouched cert → (status result : Status) (text : List ℕ) → HasText status → Served request source status text [] → Wrote status text out result → Ends request source out cert result
  ends_written kept status result text has served wrote = record {
    written = written_of (Served request source) out cert status result text [] has served (gains_nothing cert kept) wrote;
    read_fault = λ e. absurd (no_other (Served request source) out cert status result text [] has served (gains_nothing cert kept) ReadFault (λ x. x) (λ x. cc (x)) wrote e);
    memory = λ e. absurd (no_other (Served request source) out cert status result text [] has served (gains_nothing cert kept) Memory (λ x. x) (λ x. cc (x)) wrote e);
    write_fault = unwritten_of (Served request source) out cert status result text [] has served (gains_nothing cert kept) wrote;
  }

  -- so it does where the source failed
  pub ends_unread : IsUntouched out → IsUntouched cert → FailsToRead request source → Ends request source out cert ReadFault
  ends_unread o c failed = record {
    written = λ t. absurd t;
    read_fault = λ e. (o, c, failed);
    memory = λ e. absurd (cc (e));
    write_fault = λ e. absurd (cc (e));
  }

  -- and where memory ran out
  pub ends_short : IsUntouched out → IsUntouched cert → HasReadSome request source → Ends request source out cert Memory
  ends_short o c some = record {
    written = λ t. absurd t;
    read_fault = λ e. absurd (cc (e));
    memory = λ e. ((o, inl (gains_nothing cert c)), some);
    write_fault = λ e. absurd (cc (e));
  }

-- ---- what holds where D is due holds where more is due
module _ {K C : Type 0} (D E : Status → List ℕ → List ℕ → Type 0) (more : (s : Status) (t p : List ℕ) → D s t p → E s t p) (out : Lent K) (cert : Lent C) where
  -- what was written of a text that is due for the one is written of one that is due for the other
  pub written_more : (status : Status) → IsWritten D out cert status → IsWritten E out cert status
  written_more status (t, p, d, o, c) = (t, p, more status t p d, o, c)

  -- so it is of what was broken off
  pub broken_more : IsBrokenOff D out cert → IsBrokenOff E out cert
  broken_more (o, inl none) = (o, inl none)
  broken_more (o, inr (p, n, (s, t, d), gained)) = (o, inr (p, n, (s, t, more s t p d), gained))

  -- and of what a failing sink left
  pub unwritten_more : IsUnwritten D out cert → IsUnwritten E out cert
  unwritten_more (inl none) = inl (record {
    failed = none.failed;
    status = none.status;
    text = none.text;
    proof = none.proof;
    is_due = more none.status none.text none.proof none.is_due;
    count = none.count;
    begun = none.begun;
    unwritten = none.unwritten;
  })
  unwritten_more (inr cut) = inr (record {
    failed = cut.failed;
    status = cut.status;
    text = cut.text;
    proof = cut.proof;
    is_due = more cut.status cut.text cut.proof cut.is_due;
    count = cut.count;
    begun = cut.begun;
    certified = cut.certified;
  })

-- A request ends as the call does that it leaves all to once its input is read.
pub ends_by : {S K C : Type 0} (request : Request) (source : Lent S) (out : Lent K) (cert : Lent C) (D : Status → List ℕ → List ℕ → Type 0) → ((s : Status) (t p : List ℕ) → D s t p → Served request source s t p) →
    HasReadSome request source → (status : Status) → Concludes D out cert status → Ends request source out cert status
ends_by request source out cert D more some status h = record {
  written = λ t. written_more D (Served request source) more out cert status (h.written t);
  read_fault = λ e. absurd (h.no_read_fault e);
  memory = λ e. (broken_more D (Served request source) more out cert (h.memory e), some);
  write_fault = λ e. unwritten_more D (Served request source) more out cert (h.write_fault e);
}

-- ---- what a refused certificate leaves
-- A prefix of it was written where its sink failed, and the count of faults rose.
pub failed_part : {T : Type 0} (a b : Option (List ℕ)) (f g : ℕ) (p : Result T CertWriteError) (text : List ℕ) → p ≡ Err errors.Failed → WritesOrStops a b f g p text → ((n : ℕ) × Appends a b (take n text)) × Rose f g
failed_part {T} a b f g p text is w = let v = subst (λ (z : Result T CertWriteError). WritesOrStops a b f g z text) is w in ((v.err.0, v.err.2), v.reason.1)

-- So it was where memory ran out.
pub broken_part : {T : Type 0} (a b : Option (List ℕ)) (f g : ℕ) (p : Result T CertWriteError) (text : List ℕ) → p ≡ Err errors.Memory → WritesOrStops a b f g p text → (n : ℕ) × Appends a b (take n text)
broken_part {T} a b f g p text is w = let v = subst (λ (z : Result T CertWriteError). WritesOrStops a b f g z text) is w in (v.err.0, v.err.2)
