-- What reading a polynomial or a monomial tells of its word: what was read has that word,
-- and where nothing was read the word is that of none in the ring.
use Rattle.std.proofs.Common.{◌≡◌, ℕ, ◌<◌, ◌≤◌, Bool, true, false, List, length, Option, Some, None, sym, ◌∙◌, ap, arith, refl}
use Rattle.std.proofs.lemmas.Bool.{leb-true}
use Rattle.script_grammar.proofs.Steps.{same_is, same_refl}
use Rattle.std.specs.Prelude.{◌&&◌, ◌==◌, nat_le, if◌then◌else◌}
use Rattle.local_order.specs.Limits.{max_degree, max_exponent}
use Rattle.local_order.specs.Mono.{degree, IsWithinLimits}
use Rattle.local_order.proofs.Places.{small_from_degree}
use Rattle.sparse_poly.specs.Poly.{Poly, Polynomial, in_variables}
use Rattle.sparse_poly.specs.Letters.{AreLetters}
use Rattle.sparse_poly.proofs.Canonical.{IsCanonical-canonical}
use Rattle.script_grammar.specs.Words.{is_same}
use Rattle.text_out.specs.Texts.{mono_text}
use Rattle.text_out.specs.Reads.{exponents_in, terms_in}
use Rattle.text_out.specs.Cuts.{IsReadFrom, HasNoPoly}
use Rattle.text_out.proofs.PolyReads.{monomial_again}
use Rattle.text_out.proofs.ReadMonos.{exponents_long}
use Rattle.text_out.proofs.ReadPolys.{terms_own}
use Rattle.cert_grammar.specs.Lines.{Word}
use Rattle.cert_grammar.specs.Words.{Ring, poly_word, mono_word, poly_in, is_low, poly_of_word, mono_passing}
use Rattle.cert_grammar.proofs.Tools.{if_some, and_true}
use Rattle.cert_grammar.proofs.RingWords.{low_at, low_exponents}

-- a test and one that passes are the test
and_right : (b : Bool) → (b && true) ≡ b
and_right true = refl
and_right false = refl

-- a polynomial was read: it is the word's where its degree is low
pub poly_some : (r : Ring) (w : Word) (f : Polynomial) → IsReadFrom r.p r.letters w f → poly_of_word r w ≡ (if is_low r.d f.terms then Some f else None)
poly_some r w f h =
    ap (λ (g : Polynomial). if is_low r.d g.terms && is_same (poly_word r g) w then Some g else None) read
    ∙ ap (λ b. if is_low r.d f.terms && b then Some f else None) (ap (λ (z : Word). is_same z w) h.printed ∙ same_refl w)
    ∙ ap (λ b. if b then Some f else None) (and_right (is_low r.d f.terms))
  where
    read : poly_in r w ≡ f
    read = ap (λ (z : Poly). in_variables (length r.letters) z) (sym h.terms) ∙ ap (λ k. in_variables k f.terms) (sym h.in_ring)

-- none was read: the word is that of no polynomial
pub poly_none : (r : Ring) (w : Word) → 0 < r.p → r.d ≤ max_degree → HasNoPoly r.p r.letters w → poly_of_word r w ≡ None
poly_none r w some low none = go (poly_of_word r w) refl
  where
    go : (o : Option Polynomial) → poly_of_word r w ≡ o → poly_of_word r w ≡ None
    go None e = e
    go (Some f) e =
        let p : ((is_low r.d (poly_in r w).terms && is_same (poly_word r (poly_in r w)) w) ≡ true) × (poly_in r w ≡ f) =
        if_some (is_low r.d (poly_in r w).terms && is_same (poly_word r (poly_in r w)) w) (poly_in r w) f e in
        let q : (is_low r.d (poly_in r w).terms ≡ true) × (is_same (poly_word r (poly_in r w)) w ≡ true) =
        and_true (is_low r.d (poly_in r w).terms) (is_same (poly_word r (poly_in r w)) w) p.0 in
        absurd (none (poly_in r w).terms (IsCanonical-canonical r.p (length r.letters) (terms_in r.p r.letters w) some (terms_own r.p r.letters w))
        (low_exponents r.d (poly_in r w).terms low (low_at r.d (poly_in r w).terms q.0)) (same_is (poly_word r (poly_in r w)) w q.1))

-- a monomial was read: it is the word's where its degree passes the test
pub mono_some : (test : ℕ → Bool) (r : Ring) (w : Word) (m : List ℕ) → AreLetters r.letters → IsWithinLimits m → length m ≡ length r.letters → mono_text r.letters m ≡ w →
    mono_passing test r w ≡ (if test (degree m) then Some m else None)
mono_some test r w m are small long e =
    ap (λ (z : List ℕ). if test (degree z) && is_same (mono_word r z) w then Some z else None) (ap (exponents_in r.letters) (sym e) ∙ monomial_again r.letters m are small.2 long)
    ∙ ap (λ b. if test (degree m) && b then Some m else None) (ap (λ (z : Word). is_same z w) e ∙ same_refl w)
    ∙ ap (λ b. if b then Some m else None) (and_right (test (degree m)))

-- none was read: the word is that of no monomial whose degree passes
pub mono_none : (test : ℕ → Bool) (r : Ring) (w : Word) → ((k : ℕ) → test k ≡ true → k ≤ max_exponent) → AreLetters r.letters →
    ((m : List ℕ) → IsWithinLimits m → length m ≡ length r.letters → mono_text r.letters m ≡ w → ⊥) → mono_passing test r w ≡ None
mono_none test r w low are none = go (mono_passing test r w) refl
  where
    long : length (exponents_in r.letters w) ≡ length r.letters
    long = exponents_long w r.letters

    go : (o : Option (List ℕ)) → mono_passing test r w ≡ o → mono_passing test r w ≡ None
    go None e = e
    go (Some m) e =
        let k : List ℕ = exponents_in r.letters w in
        let p : ((test (degree k) && is_same (mono_word r k) w) ≡ true) × (k ≡ m) = if_some (test (degree k) && is_same (mono_word r k) w) k m e in
        let q : (test (degree k) ≡ true) × (is_same (mono_word r k) w ≡ true) = and_true (test (degree k)) (is_same (mono_word r k) w) p.0 in
        absurd (none k (omega (arith, are.some, long), omega (arith, are.few, long), small_from_degree k (low (degree k) q.0)) long (same_is (mono_word r k) w q.1))

-- ---- degrees
-- a degree of at most d is within the limit of exponents
pub le_small : (d : ℕ) → d ≤ max_degree → (k : ℕ) → nat_le k d ≡ true → k ≤ max_exponent
le_small d low k h = let p : k ≤ d = leb-true k d h in omega (arith, p, low)

-- and so is the degree d
pub eq_small : (d : ℕ) → d ≤ max_degree → (k : ℕ) → (k == d) ≡ true → k ≤ max_exponent
eq_small d low k h = let p : k ≡ d = is k d h in omega (arith, p, low)
  where
    is : (a b : ℕ) → (a == b) ≡ true → a ≡ b
    is a b h = grind arith

-- the test of equality is told by equality
pub eq_true : (m n : ℕ) → m ≡ n → (m == n) ≡ true
eq_true m n h = grind arith

-- and its failing by none
pub eq_false : (m n : ℕ) → (m ≡ n → ⊥) → (m == n) ≡ false
eq_false m n h = grind arith
