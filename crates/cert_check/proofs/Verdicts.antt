-- What is answered of a text, and that it is one.
-- A text is that of one certificate, and of its blocks the first that isn't accepted has one first fault.
use Rattle.std.proofs.Common.{◌≡◌, ℕ, ◌+◌, ◌<◌, ◌≤◌, ◌⊎◌, List, length, map, take, get_or, slice_get, All, Some, sym, ◌∙◌, ap, ap₂, subst, arith, inl, inr}
use Rattle.std.specs.Prelude.{sum}
use Rattle.std.specs.List.{sum_by}
use Rattle.std.proofs.lemmas.Bool.{cases_order}
use Rattle.std.proofs.lemmas.Option.{slice_get_within, get_or_from_slice_get, slice_get-get_or}
use Rattle.std.proofs.lemmas.List.{get_or-take, take_more, length-take}
use Rattle.std.proofs.lemmas.List.Elements.{All-push}
use Rattle.std.proofs.lemmas.List.Sums.{sum-map, sum_by_push, sum_by_more_le}
use Rattle.mora_law.proofs.Ring.{problem_is_admissible}
use Rattle.cert_grammar.specs.declared.certified.Certified.{Certified}
use Rattle.cert_grammar.specs.Certified.{IsCertified, IsCertificate}
use Rattle.cert_grammar.specs.Form.{IsCertText}
use Rattle.cert_grammar.proofs.Certificates.{certificate_text_is, one_certificate}
use Rattle.cert_grammar.proofs.Refusals.{one_form_line}
use Rattle.cert_check.specs.declared.reason.Reason.{Reason}
use Rattle.cert_check.specs.declared.certificate.Verdict.{Verdict}
use Rattle.cert_check.specs.declared.certificate.Verdict.TheVariants.{Accepted, Rejected}
use Rattle.cert_check.specs.Block.{IsRead}
use Rattle.cert_check.specs.Accepted.{IsAcceptedBlock}
use Rattle.cert_check.specs.Checks.{block_lines}
use Rattle.cert_check.specs.Fault.{IsFirstFault, block_line, IsFirstFaultOf}
use Rattle.cert_check.specs.Certificate.{IsTextOf, Accepts, IsFault, IsVerdictOn, IsVerdictOf, AreRight}
use Rattle.cert_check.proofs.Faults.{one_fault, fault_refuses, fault_refuses_all}
use Rattle.cert_check.proofs.Read.{each_all, certified_read}
use Rattle.cert_check.proofs.Right.{right}

-- the blocks of a certificate were read
pub all_read : (xs : List Certified) → IsCertificate xs → All IsRead xs
all_read xs h = λ k d l. certified_read _ (each_all IsCertified xs h.each k d l)

-- ---- one fault
-- a block before the first fault is accepted
earlier_accepted : (xs : List Certified) (line : ℕ) (reason : Reason) (f : IsFirstFaultOf xs line reason) (k : ℕ) (x : Certified) → slice_get xs k ≡ Some x → k < f.place → IsAcceptedBlock x
earlier_accepted xs line reason f k x e l =
    let m = slice_get_within xs f.place f.block f.there in
    subst IsAcceptedBlock (get_or-take f.place xs k x l ∙ get_or_from_slice_get xs k x x e) (f.earlier k x (omega (arith, l, m, length-take f.place xs)))

-- two first faults of a certificate are one
one_fault_of_all : (xs : List Certified) → All IsRead xs → (line other : ℕ) (reason why : Reason) → IsFirstFaultOf xs line reason → IsFirstFaultOf xs other why → (line ≡ other) × (reason ≡ why)
one_fault_of_all xs r line other reason why f g = go (cases_order f.place g.place)
  where
    read : (h : Certified) (k : ℕ) → slice_get xs k ≡ Some h → IsRead h
    read h k e = subst IsRead (get_or_from_slice_get xs k h h e) (r k h (slice_get_within xs k h e))

    go : (f.place ≡ g.place) ⊎ ((f.place < g.place) ⊎ (g.place < f.place)) → (line ≡ other) × (reason ≡ why)
    go (inl e) =
        let z : Some f.block ≡ Some g.block = sym f.there ∙ ap (slice_get xs) e ∙ g.there in
        let same : f.block ≡ g.block = cc z in
        let w = one_fault g.block f.within g.within reason why (subst (λ b. IsFirstFault b f.within reason) same f.fault) g.fault in
        (f.at ∙ ap₂ (λ k n. block_line xs k + n) e w.0 ∙ sym g.at, w.1)
    go (inr (inl l)) = absurd (fault_refuses f.block (read f.block f.place f.there) f.within reason f.fault (earlier_accepted xs other why g f.place f.block f.there l))
    go (inr (inr l)) = absurd (fault_refuses g.block (read g.block g.place g.there) g.within why g.fault (earlier_accepted xs line reason f g.place g.block g.there l))

-- ---- one verdict
-- a text is that of one certificate
one_read : (bytes : List ℕ) (xs ys : List Certified) → IsTextOf bytes xs → IsTextOf bytes ys → xs ≡ ys
one_read bytes xs ys a b = one_certificate xs ys a.is b.is (sym a.text ∙ b.text)

module _ (bytes : List ℕ) where
  -- an accepted text has no fault
  accepted_faultless : (n line : ℕ) (reason : Reason) → Accepts bytes n → IsFault bytes line reason → ⊥
  accepted_faultless n line reason a (inl f) = f.0.none (subst IsCertText (sym a.read.text) (certificate_text_is a.blocks a.read.is))
  accepted_faultless n line reason a (inr f) = fault_refuses_all f.blocks (all_read f.blocks f.read.is) line reason f.fault (subst (All IsAcceptedBlock) (one_read bytes a.blocks f.blocks a.read f.read) a.accepted)

  -- a text has one first fault
  one_text_fault : (line other : ℕ) (reason why : Reason) → IsFault bytes line reason → IsFault bytes other why → (line ≡ other) × (reason ≡ why)
  one_text_fault line other reason why (inl f) (inl g) = (one_form_line bytes line other f.0 g.0, f.1 ∙ sym g.1)
  one_text_fault line other reason why (inl f) (inr g) = absurd (f.0.none (subst IsCertText (sym g.read.text) (certificate_text_is g.blocks g.read.is)))
  one_text_fault line other reason why (inr f) (inl g) = absurd (g.0.none (subst IsCertText (sym f.read.text) (certificate_text_is f.blocks f.read.is)))
  one_text_fault line other reason why (inr f) (inr g) = one_fault_of_all g.blocks (all_read g.blocks g.read.is) line other reason why (subst (λ xs. IsFirstFaultOf xs line reason) (one_read bytes f.blocks g.blocks f.read g.read) f.fault) g.fault

  -- what is answered of a text is one
  pub one_verdict : (v w : Verdict) → IsVerdictOf bytes v → IsVerdictOf bytes w → v ≡ w
  one_verdict (Accepted n) (Accepted m) a b = ap Accepted (a.number ∙ ap length (one_read bytes a.blocks b.blocks a.read b.read) ∙ sym b.number)
  one_verdict (Accepted n) (Rejected line reason) a b = absurd (accepted_faultless n line reason a b)
  one_verdict (Rejected line reason) (Accepted n) a b = absurd (accepted_faultless n line reason b a)
  one_verdict (Rejected line reason) (Rejected other why) a b = let z = one_text_fault line other reason why a b in ap₂ Rejected z.0 z.1

  -- the answers of an accepted text are right
  pub verdict_right : (v : Verdict) → IsVerdictOf bytes v → (n : ℕ) → v ≡ Accepted n → AreRight bytes
  verdict_right (Accepted m) a n e = record {
    blocks = a.blocks;
    read = a.read;
    right = λ k d l. right _ (problem_is_admissible _ (all_read a.blocks a.read.is k d l).problem) (a.accepted k d l);
  }
  verdict_right (Rejected line reason) a n e = absurd (cc e)

-- ---- blocks one by one
-- the next block stands behind the lines of this one
pub block_line_more : (xs : List Certified) (k : ℕ) (d : Certified) → k < length xs → block_line xs (k + 1) ≡ block_line xs k + block_lines (get_or xs k d)
block_line_more xs k d l =
    let z = sum-map block_lines (take (k + 1) xs) in
    let y = ap (sum_by block_lines) (take_more xs k d l) ∙ sum_by_push block_lines (take k xs) (get_or xs k d) in
    let x = sum-map block_lines (take k xs) in
    omega (arith, z, y, x)

-- and its lines are among those of the certificate
pub block_within : (xs : List Certified) (k : ℕ) (d : Certified) → k < length xs → block_line xs k + block_lines (get_or xs k d) ≤ sum (map block_lines xs) + 2
block_within xs k d l =
    let z = sum_by_more_le block_lines xs k d l in
    let y = sum-map block_lines xs in
    let x = sum-map block_lines (take k xs) in
    omega (arith, z, y, x)

-- one more block is accepted
pub accepted_more : (xs : List Certified) (k : ℕ) (d : Certified) → k < length xs → All IsAcceptedBlock (take k xs) → IsAcceptedBlock (get_or xs k d) → All IsAcceptedBlock (take (k + 1) xs)
accepted_more xs k d l h a = subst (All IsAcceptedBlock) (sym (take_more xs k d l)) (All-push IsAcceptedBlock (take k xs) (get_or xs k d) h a)

-- the first fault of a block behind accepted ones is that of the certificate
pub fault_of_block : (xs : List Certified) (k line within : ℕ) (reason : Reason) (x : Certified) → k < length xs → get_or xs k x ≡ x → All IsAcceptedBlock (take k xs) → IsFirstFault x within reason → line ≡ block_line xs k
    → IsFirstFaultOf xs (line + within) reason
fault_of_block xs k line within reason x l e h f q = record { place = k; block = x; there = slice_get-get_or xs k x l ∙ ap Some e; earlier = h; within = within; fault = f; at = ap (λ n. n + within) q }

-- what is answered of the blocks is what is answered of the text
pub verdict_on : (bytes : List ℕ) (xs : List Certified) → IsTextOf bytes xs → (v : Verdict) → IsVerdictOn xs v → IsVerdictOf bytes v
verdict_on bytes xs t (Accepted n) h = record { blocks = xs; read = t; accepted = h.0; number = h.1 }
verdict_on bytes xs t (Rejected line reason) f = inr (record { blocks = xs; read = t; fault = f })
