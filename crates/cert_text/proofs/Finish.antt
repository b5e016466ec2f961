-- What is answered once the parts are read: the certificate, or the line.
use Rattle.std.proofs.Common.{◌≡◌, ◌≢◌, ◌≤◌, ℕ, List, [], ◌∷◌, length, map, Result, Ok, Err, refl, sym, ◌∙◌, ap, subst, arith}
use Rattle.std.specs.List.{AllByRecursion}
use Rattle.std.proofs.lemmas.List.{length-map}
use Rattle.cert_grammar.specs.Limits.{max_blocks}
use Rattle.cert_grammar.specs.Blocks.{Block}
use Rattle.cert_grammar.specs.declared.certified.Certified.{Certified}
use Rattle.cert_grammar.specs.Certified.{IsCertified, IsCertificate, block_of, certificate_text}
use Rattle.cert_grammar.proofs.Certificates.{certificate_is, one_certificate}
use Rattle.cert_grammar.specs.Lines.{Line, lines_of}
use Rattle.cert_grammar.specs.Cert.{IsCert, cert_text}
use Rattle.cert_text.specs.declared.stop.Stop.{Stop}
use Rattle.cert_text.specs.declared.stop.Stop.TheVariants.{Form, Memory}
use Rattle.cert_text.specs.Gives.{Gives}
use Rattle.cert_grammar.specs.Reading.{◌>>=◌, cert_at, all_read, read_text}
use Rattle.cert_grammar.proofs.Refusals.{read_found, read_none}

-- a call that refuses tells the refusal
told_err : (read : Result (List Certified) Stop) (left : List Line) (r : Result (List Block × List Line) (List Line)) → read ≡ Err Form → Gives (λ c. map block_of c) read left r → r ≡ Err left
told_err (Ok x) left r is h = absurd (cc)
told_err (Err Form) left r is h = h
told_err (Err Memory) left r is h = absurd (let q : Memory ≡ Form = cc in cc)

-- a call that reads tells what it reads
told_ok : (read : Result (List Certified) Stop) (left : List Line) (x : List Certified) (r : Result (List Block × List Line) (List Line)) → read ≡ Ok x → Gives (λ c. map block_of c) read left r → r ≡ Ok (map block_of x, left)
told_ok (Ok y) left x r is h = h ∙ ap (λ (z : List Certified). Ok (map block_of z, left)) (let q : y ≡ x = cc in q)
told_ok (Err stop) left x r is h = absurd (cc)

-- a line was refused
pub refused : (bytes : List ℕ) (read : Result (List Certified) Stop) (left : List Line) → read ≡ Err Form → Gives (λ c. map block_of c) read left (cert_at (lines_of bytes)) → read_text bytes ≡ Err left
refused bytes read left is h = ap (λ z. z >>= all_read) (told_err read left (cert_at (lines_of bytes)) is h)

-- all was read, and no line is left, or one is
pub whole_read : (bytes : List ℕ) (read : Result (List Certified) Stop) (left : List Line) (x : List Certified) → read ≡ Ok x → length left ≡ 0 → Gives (λ c. map block_of c) read left (cert_at (lines_of bytes)) → read_text bytes ≡ Ok (map block_of x)
whole_read bytes read [] x is none h = ap (λ z. z >>= all_read) (told_ok read [] x (cert_at (lines_of bytes)) is h)
whole_read bytes read (l ∷ left) x is none h = absurd (omega arith)

-- where a line is left, reading is refused at it
pub more_left : (bytes : List ℕ) (read : Result (List Certified) Stop) (left : List Line) (x : List Certified) → read ≡ Ok x → length left ≢ 0 → Gives (λ c. map block_of c) read left (cert_at (lines_of bytes)) → read_text bytes ≡ Err left
more_left bytes read [] x is some h = absurd (some refl)
more_left bytes read (l ∷ left) x is some h = ap (λ z. z >>= all_read) (told_ok read (l ∷ left) x (cert_at (lines_of bytes)) is h)

-- ---- the clauses
-- what is read is a certificate
pub found_read : (bytes : List ℕ) (x : List Certified) → read_text bytes ≡ Ok (map block_of x) → AllByRecursion IsCertified x → IsCertificate x × (bytes ≡ certificate_text x)
found_read bytes x e h =
    let f : IsCert (map block_of x) × (bytes ≡ cert_text (map block_of x)) = read_found bytes (map block_of x) e in
    (record { some = subst (λ k. 1 ≤ k) (length-map x block_of) f.0.some; few = subst (λ k. k ≤ max_blocks) (length-map x block_of) f.0.few; each = h }, f.1)

-- where reading is refused, the bytes are the text of no certificate
pub none_read : (bytes : List ℕ) (left : List Line) → read_text bytes ≡ Err left → (c : List Certified) → IsCertificate c → bytes ≡ certificate_text c → ⊥
none_read bytes left e c is s = read_none bytes left e (record { blocks = map block_of c; is = certificate_is c is; spelled = s })

-- what is read is the certificate whose text the bytes are
pub same_read : (bytes : List ℕ) (x : List Certified) → read_text bytes ≡ Ok (map block_of x) → AllByRecursion IsCertified x → (c : List Certified) → IsCertificate c → bytes ≡ certificate_text c → x ≡ c
same_read bytes x e h c is s =
    let f : IsCertificate x × (bytes ≡ certificate_text x) = found_read bytes x e h in
    one_certificate x c f.0 is (sym f.1 ∙ s)
