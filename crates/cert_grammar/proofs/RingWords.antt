-- The words of a ring: its letters are those of a ring, 1 is a polynomial of it, and printed polynomials and monomials
-- are its words, each read back from its word alone.
use Rattle.std.proofs.Common.{◌≡◌, ◌≢◌, ℕ, zero, suc, ◌^◌, ◌<◌, ◌≤◌, Bool, true, false, List, [], ◌∷◌, ◌++◌, length, map, get_or, Option, Some, None, refl, sym, ◌∙◌, ap, subst, ◌⊎◌, inl, inr, ⊎_elim, arith, codes}
use Rattle.std.proofs.lemmas.Bool.{le-leb, leb-true}
use Rattle.script_grammar.proofs.Steps.{same_is, same_refl}
use Rattle.std.specs.Prelude.{◌&&◌, ◌||◌, not, ◌==◌, nat_le, eqb, if◌then◌else◌, decimal}
use Rattle.std.specs.List.{list_any, join_with_byte}
use Rattle.std.specs.Char.{is_ascii_alphabetic, IsAsciiAlphabetic}
use Rattle.local_order.specs.Limits.{max_degree, max_exponent}
use Rattle.local_order.specs.Mono.{degree}
use Rattle.local_order.proofs.Places.{small_from_degree}
use Rattle.sparse_poly.specs.Poly.{Term, Poly, Polynomial, in_variables, IsCanonical, HasDegreeAtMost}
use Rattle.sparse_poly.specs.Canonical.{canonical}
use Rattle.sparse_poly.specs.Letters.{AreLetters}
use Rattle.sparse_poly.proofs.Canonical.{canonical_self, IsCanonical-canonical}
use Rattle.script_grammar.specs.Words.{is_same}
use Rattle.text_out.specs.Texts.{power_text, powers, mono_text, poly_text}
use Rattle.text_out.specs.Reads.{exponents_in, terms_in, HasSmallExponents}
use Rattle.text_out.proofs.MonoReads.{AreDistinct, IsOther, IsLetter, behind_pieces, join-cons}
use Rattle.text_out.proofs.PolyReads.{canonical_again, monomial_again}
use Rattle.text_out.proofs.ReadMonos.{exponents_long}
use Rattle.text_out.proofs.ReadPolys.{terms_own}
use Rattle.cert_grammar.specs.Limits.{max_prime}
use Rattle.cert_grammar.specs.Lines.{Word}
use Rattle.cert_grammar.specs.Words.{Ring, IsPolyOf, IsNonzeroOf, IsMonoOf, IsTopOf, poly_word, mono_word, poly_in, is_low, poly_of_word, nonzero_of_word, mono_passing, mono_of_word, top_of_word, is_prime, are_different, are_letters}
use Rattle.cert_grammar.specs.Cert.{IsRing}
use Rattle.cert_grammar.proofs.Tools.{if_some, and_true}
use Rattle.cert_grammar.proofs.Phrases.{IsWordForm}
use Rattle.cert_grammar.proofs.PrintedBytes.{poly_plain, mono_plain}

-- ---- letters
-- u is in the list
abbrev pub Member : ℕ → List ℕ → Type 0
Member u [] = ⊥
Member u (w ∷ ws) = (w ≡ u) ⊎ Member u ws

-- what is in a list is found there
any_member : (u : ℕ) (ws : List ℕ) → Member u ws → list_any (λ w. eqb w u) ws ≡ true
any_member u [] m = elim m [ ]
any_member u (w ∷ ws) m = ⊎_elim
    (λ (e : w ≡ u). ap (λ b. b || list_any (λ z. eqb z u) ws) (let p : eqb w u ≡ true = grind arith in p))
    (λ (k : Member u ws). or_true (eqb w u) (list_any (λ z. eqb z u) ws) (any_member u ws k)) m
  where
    or_true : (a b : Bool) → b ≡ true → (a || b) ≡ true
    or_true true b h = refl
    or_true false b h = h

-- what is not so is not so
not_true : (b : Bool) → not b ≡ true → b ≡ true → ⊥
not_true true e h = absurd (cc)
not_true false e h = absurd (cc)

-- a letter before is none of those that follow
others : (u : ℕ) (before vs : List ℕ) → Member u before → are_different before vs ≡ true → IsOther u vs
others u before [] m h = tt
others u before (v ∷ vs) m h =
    let p : ((not (list_any (λ w. eqb w v) before)) ≡ true) × (are_different (v ∷ before) vs ≡ true) = and_true _ _ (and_true (is_ascii_alphabetic v) _ h).1 in
    (λ e. not_true (list_any (λ w. eqb w v) before) p.0 (subst (λ z. list_any (λ w. eqb w z) before ≡ true) e (any_member u before m)), others u (v ∷ before) vs (inr m) p.1)

-- the test of letters tells letters
pub letter_is : (v : ℕ) → is_ascii_alphabetic v ≡ true → IsAsciiAlphabetic v
letter_is v h = grind arith

-- letters that pass the test are letters, each once
pub distinct : (before vs : List ℕ) → are_different before vs ≡ true → AreDistinct vs
distinct before [] h = tt
distinct before (v ∷ vs) h =
    let p : (is_ascii_alphabetic v ≡ true) × ((not (list_any (λ w. eqb w v) before) && are_different (v ∷ before) vs) ≡ true) = and_true (is_ascii_alphabetic v) _ h in
    let q : are_different (v ∷ before) vs ≡ true = (and_true (not (list_any (λ w. eqb w v) before)) _ p.1).1 in
    (letter v p.0, others v (v ∷ before) vs (inl refl) q, distinct (v ∷ before) vs q)
  where
    letter : (v : ℕ) → is_ascii_alphabetic v ≡ true → IsLetter v
    letter v h = record { above = let q : 57 < v = grind arith in q; mark = λ e. (let q : is_ascii_alphabetic 94 ≡ true = subst (λ z. is_ascii_alphabetic z ≡ true) e h in absurd (cc)) }

-- the letters of a ring are letters, each once
pub ring_letters : (r : Ring) → IsRing r → AreDistinct r.letters
ring_letters r h = distinct [] r.letters (and_true (nat_le (length r.letters) 8) _ (and_true (nat_le 1 (length r.letters)) _ h.letters).1).1

-- ---- the test is the relation
-- each letter that passes the test is one
letters_all : (before vs : List ℕ) → are_different before vs ≡ true → (k z : ℕ) → k < length vs → IsAsciiAlphabetic (get_or vs k z)
letters_all before [] h k z i = absurd (omega (arith, i))
letters_all before (v ∷ vs) h zero z i = letter_is v (and_true (is_ascii_alphabetic v) _ h).0
letters_all before (v ∷ vs) h (suc k) z i = letters_all (v ∷ before) vs (and_true _ _ (and_true (is_ascii_alphabetic v) _ h).1).1 k z (omega (arith, i))

-- a letter differs from each of the others
other_at : (u : ℕ) (vs : List ℕ) → IsOther u vs → (j z : ℕ) → j < length vs → u ≢ get_or vs j z
other_at u [] h j z i = absurd (omega (arith, i))
other_at u (v ∷ vs) h zero z i = h.0
other_at u (v ∷ vs) h (suc j) z i = other_at u vs h.1 j z (omega (arith, i))

-- letters, each once, differ by pairs
pairs : (vs : List ℕ) → AreDistinct vs → (i j z : ℕ) → i < j → j < length vs → get_or vs i z ≢ get_or vs j z
pairs [] d i j z h k = absurd (omega (arith, k))
pairs (v ∷ vs) d i zero z h k = absurd (omega (arith, h))
pairs (v ∷ vs) d zero (suc j) z h k = other_at v vs d.1 j z (omega (arith, k))
pairs (v ∷ vs) d (suc i) (suc j) z h k = pairs vs d.2 i j z (omega (arith, h)) (omega (arith, k))

-- letters that pass the test are letters of a ring
pub letters_are : (l : List ℕ) → are_letters l ≡ true → AreLetters l
letters_are l h =
    let p : (nat_le 1 (length l) ≡ true) × ((nat_le (length l) 8 && are_different [] l) ≡ true) = and_true (nat_le 1 (length l)) _ h in
    let q : (nat_le (length l) 8 ≡ true) × (are_different [] l ≡ true) = and_true (nat_le (length l) 8) _ p.1 in
    record { some = leb-true 1 (length l) p.0; few = leb-true (length l) 8 q.0; letters = letters_all [] l q.1; different = pairs l (distinct [] l q.1) }

-- what is found in a list is there
any_is : (u : ℕ) (ws : List ℕ) → list_any (λ w. eqb w u) ws ≡ true → Member u ws
any_is u [] h = absurd (cc)
any_is u (w ∷ ws) h = go (any_is u ws) (eqb w u) refl h
  where
    go : (list_any (λ z. eqb z u) ws ≡ true → Member u ws) → (b : Bool) → eqb w u ≡ b → (b || list_any (λ z. eqb z u) ws) ≡ true → Member u (w ∷ ws)
    go more true e k = inl (let p : w ≡ u = grind arith in p)
    go more false e k = inr (more k)

-- a letter passes the test
letter_test : (v : ℕ) → IsAsciiAlphabetic v → is_ascii_alphabetic v ≡ true
letter_test v h = ⊎_elim (λ a. let p : 65 ≤ v = a.0 in let q : v ≤ 90 = a.1 in grind arith) (λ a. let p : 97 ≤ v = a.0 in let q : v ≤ 122 = a.1 in grind arith) h

-- different letters pass the test
different_test : (before vs : List ℕ) → ((k z : ℕ) → k < length vs → IsAsciiAlphabetic (get_or vs k z)) → ((i j z : ℕ) → i < j → j < length vs → get_or vs i z ≢ get_or vs j z) →
    ((k : ℕ) → k < length vs → Member (get_or vs k 0) before → ⊥) → are_different before vs ≡ true
different_test before [] a d m = refl
different_test before (v ∷ vs) a d m =
    ap (λ b. b && (not (list_any (λ w. eqb w v) before) && are_different (v ∷ before) vs)) (letter_test v (a 0 0 (omega arith)))
    ∙ ap (λ b. not b && are_different (v ∷ before) vs) (none (list_any (λ w. eqb w v) before) refl)
    ∙ different_test (v ∷ before) vs (λ k z i. a (suc k) z (omega (arith, i))) (λ i j z h k. d (suc i) (suc j) z (omega (arith, h)) (omega (arith, k)))
    (λ k i. ⊎_elim (λ (e : v ≡ get_or vs k 0). d 0 (suc k) 0 (omega arith) (omega (arith, i)) e) (m (suc k) (omega (arith, i))))
  where
    none : (b : Bool) → list_any (λ w. eqb w v) before ≡ b → list_any (λ w. eqb w v) before ≡ false
    none false e = e
    none true e = absurd (m 0 (omega arith) (any_is v before e))

-- letters of a ring pass the test
pub letters_test : (l : List ℕ) → AreLetters l → are_letters l ≡ true
letters_test l h =
    ap (λ b. b && (nat_le (length l) 8 && are_different [] l)) (le-leb 1 (length l) h.some)
    ∙ ap (λ b. b && are_different [] l) (le-leb (length l) 8 h.few)
    ∙ different_test [] l h.letters h.different (λ k i m. m)

-- ---- rings
-- a characteristic is above 1
prime_above : (p : ℕ) → is_prime p ≡ true → 1 < p
prime_above zero h = absurd (cc)
prime_above (suc zero) h = absurd (cc)
prime_above (suc (suc p)) h = omega arith

-- a characteristic is below 2^64
pub prime_low : (p : ℕ) → is_prime p ≡ true → p < 2 ^ 64
prime_low p h = let q : p ≤ max_prime = leb-true p max_prime (and_true (nat_le p max_prime) _ h).0 in omega (arith, q)

-- what the words of a ring ask of it
pub record IsSound (r : Ring) : Type 0 where
  pub some : 1 < r.p
  pub small : r.p < 2 ^ 64
  pub letters : AreLetters r.letters
  pub low : r.d ≤ max_degree

-- the rings of certificates are such
pub ring_sound : (r : Ring) → IsRing r → IsSound r
ring_sound r h = record {
  some = prime_above r.p h.p;
  small = prime_low r.p h.p;
  letters = letters_are r.letters h.letters;
  low = leb-true r.d max_degree (and_true (nat_le r.d max_degree) _ (and_true (nat_le 1 r.d) _ h.d).1).0;
}

-- ---- degrees
-- where the test of degrees passes, each term has a degree of at most d
pub low_at : (d : ℕ) (f : Poly) → is_low d f ≡ true → (k : ℕ) (z : Term) → k < length f → degree (get_or f k z).mono ≤ d
low_at d [] h k z i = absurd (omega (arith, i))
low_at d (t ∷ f) h zero z i = leb-true (degree t.mono) d (and_true (nat_le (degree t.mono) d) (is_low d f) h).0
low_at d (t ∷ f) h (suc k) z i = low_at d f (and_true (nat_le (degree t.mono) d) (is_low d f) h).1 k z (omega (arith, i))

-- where each term has a degree of at most d, the test passes
all_low : (d : ℕ) (f : Poly) → HasDegreeAtMost d f → is_low d f ≡ true
all_low d [] h = refl
all_low d (t ∷ f) h = ap (λ b. b && is_low d f) (le-leb (degree t.mono) d (h 0 t (omega arith))) ∙ all_low d f (λ k z i. h (suc k) z (omega (arith, i)))

-- terms of low degree have exponents within the limit
pub low_exponents : (d : ℕ) (f : Poly) → d ≤ max_degree → HasDegreeAtMost d f → HasSmallExponents f
low_exponents d [] low h = tt
low_exponents d (t ∷ f) low h =
    let p : degree t.mono ≤ d = h 0 t (omega arith) in
    (small_from_degree t.mono (omega (arith, p, low)), low_exponents d f low (λ k z i. h (suc k) z (omega (arith, i))))

-- ---- the polynomial 1
-- the monomial 1 has the degree 0
no_degree : (letters : List ℕ) → degree (map (λ v. 0) letters) ≡ 0
no_degree [] = refl
no_degree (v ∷ vs) = omega (arith, no_degree vs)

-- it has an exponent for each letter
zeros_long : (letters : List ℕ) → length {A = ℕ} (map (λ v. 0) letters) ≡ length letters
zeros_long [] = refl
zeros_long (v ∷ vs) = omega (arith, zeros_long vs)

-- the polynomial 1
abbrev pub one_poly : Ring → Polynomial
one_poly r = in_variables (length r.letters) (record { mono = map (λ v. 0) r.letters; coef = 1 } ∷ [])

-- it is a polynomial of the ring, and isn't 0
pub one_nonzero : (r : Ring) → IsSound r → IsNonzeroOf r (one_poly r)
one_nonzero r h = record {
  poly = record {
    variables = refl;
    canonical = (zeros_long r.letters, (let p : 0 < 1 = omega arith in p), h.some, tt, tt);
    low = low_at r.d (record { mono = map (λ v. 0) r.letters; coef = 1 } ∷ []) (ap (λ k. nat_le k r.d && true) (no_degree r.letters) ∙ (let p : (nat_le 0 r.d && true) ≡ true = least r.d in p));
  };
  some = λ e. absurd (cc);
}
  where
    least : (d : ℕ) → (nat_le 0 d && true) ≡ true
    least d = grind arith

-- ---- no monomial is printed as none
-- no product of powers is written none
no_powers : (letters es : List ℕ) → join_with_byte 42 (powers letters es) ≡ codes "none" → ⊥
no_powers [] es e = absurd (cc)
no_powers (v ∷ letters) [] e = absurd (cc)
no_powers (v ∷ letters) (k ∷ es) e = go (k == 0) (no_powers letters es) e
  where
    behind : (xs : List (List ℕ)) → v ∷ behind_pieces xs ≡ codes "none" → ⊥
    behind [] e = absurd (cc)
    behind (x ∷ xs) e = let q : 42 ≡ 111 = ap (λ (z : List ℕ). get_or z 1 0) e in absurd (omega (arith, q))

    front : (b : Bool) → (if b then v ∷ [] else v ∷ codes "^" ++ decimal k) ++ behind_pieces (powers letters es) ≡ codes "none" → ⊥
    front true e = behind (powers letters es) e
    front false e = let q : 94 ≡ 111 = ap (λ (z : List ℕ). get_or z 1 0) e in absurd (omega (arith, q))

    go : (b : Bool) → (join_with_byte 42 (powers letters es) ≡ codes "none" → ⊥) → join_with_byte 42 (if b then powers letters es else power_text v k ∷ powers letters es) ≡ codes "none" → ⊥
    go true more e = more e
    go false more e = front (k == 1) (sym (join-cons (power_text v k) (powers letters es)) ∙ e)

-- no monomial is written none
pub no_mono : (letters m : List ℕ) → mono_text letters m ≡ codes "none" → ⊥
no_mono letters m e = go (degree m == 0) e
  where
    go : (b : Bool) → (if b then codes "1" else join_with_byte 42 (powers letters m)) ≡ codes "none" → ⊥
    go true e = absurd (cc)
    go false e = no_powers letters m e

-- ---- the words of polynomials
-- a canonical list is the canonical one of its terms
canonical_same : (p n : ℕ) (f : Poly) → IsCanonical p n f → canonical p f ≡ f
canonical_same p n [] h = refl
canonical_same p n (t ∷ f) h = canonical_self p n (t ∷ f) (omega (arith, h.1, h.2)) h

-- the terms that stand in the word of a polynomial are its terms
poly_again : (r : Ring) → IsSound r → (f : Polynomial) → IsPolyOf r f → terms_in r.p r.letters (poly_word r f) ≡ f.terms
poly_again r R f h = canonical_again r.p r.letters f.terms R.small R.letters h.canonical (low_exponents r.d f.terms R.low h.low)

-- a polynomial of the ring has its word, and is what is read of it
pub poly_word_form : (r : Ring) → IsSound r → IsWordForm (IsPolyOf r) (poly_word r) (poly_of_word r)
poly_word_form r R = record {
  plain = λ f h. poly_plain r.p r.letters f.terms R.small R.letters h.canonical (low_exponents r.d f.terms R.low h.low);
  only = only;
  found = found;
}
  where
    read : (f : Polynomial) → IsPolyOf r f → poly_in r (poly_word r f) ≡ f
    read f h =
        ap (λ (z : Poly). in_variables (length r.letters) (canonical r.p z)) (poly_again r R f h)
        ∙ ap (λ (z : Poly). in_variables (length r.letters) z) (canonical_same r.p (length r.letters) f.terms h.canonical)
        ∙ ap (λ k. in_variables k f.terms) (sym h.variables)

    only : (f : Polynomial) → IsPolyOf r f → poly_of_word r (poly_word r f) ≡ Some f
    only f h =
        ap (λ (g : Polynomial). if is_low r.d g.terms && is_same (poly_word r g) (poly_word r f) then Some g else None) (read f h)
        ∙ ap (λ b. if b && is_same (poly_word r f) (poly_word r f) then Some f else None) (all_low r.d f.terms h.low)
        ∙ ap (λ b. if b then Some f else None) (same_refl (poly_word r f))

    found : (w : Word) (f : Polynomial) → poly_of_word r w ≡ Some f → IsPolyOf r f × (w ≡ poly_word r f)
    found w f e =
        let p : ((is_low r.d (poly_in r w).terms && is_same (poly_word r (poly_in r w)) w) ≡ true) × (poly_in r w ≡ f) =
        if_some (is_low r.d (poly_in r w).terms && is_same (poly_word r (poly_in r w)) w) (poly_in r w) f e in
        let q : (is_low r.d (poly_in r w).terms ≡ true) × (is_same (poly_word r (poly_in r w)) w ≡ true) =
        and_true (is_low r.d (poly_in r w).terms) (is_same (poly_word r (poly_in r w)) w) p.0 in
        let is : IsPolyOf r (poly_in r w) = record {
          variables = refl;
          canonical = IsCanonical-canonical r.p (length r.letters) (terms_in r.p r.letters w) (let s : 1 < r.p = R.some in omega (arith, s)) (terms_own r.p r.letters w);
          low = low_at r.d (poly_in r w).terms q.0;
        } in
        (subst (IsPolyOf r) p.1 is, sym (same_is (poly_word r (poly_in r w)) w q.1) ∙ ap (poly_word r) p.1)

-- a polynomial other than 0 has another word than 0
not_zero : (r : Ring) → IsSound r → (f : Polynomial) → IsNonzeroOf r f → is_same (poly_word r f) (codes "0") ≡ false
not_zero r R f h = go (is_same (poly_word r f) (codes "0")) refl
  where
    none : poly_word r f ≡ codes "0" → f.terms ≡ []
    none e = sym (poly_again r R f h.poly) ∙ ap (terms_in r.p r.letters) e

    go : (b : Bool) → is_same (poly_word r f) (codes "0") ≡ b → is_same (poly_word r f) (codes "0") ≡ false
    go true e = absurd (h.some (none (same_is (poly_word r f) (codes "0") e)))
    go false e = e

-- the same of polynomials other than 0
pub nonzero_word_form : (r : Ring) → IsSound r → IsWordForm (IsNonzeroOf r) (poly_word r) (nonzero_of_word r)
nonzero_word_form r R = record {
  plain = λ f h. P.plain f h.poly;
  only = λ f h. ap (λ b. if b then None else poly_of_word r (poly_word r f)) (not_zero r R f h) ∙ P.only f h.poly;
  found = λ w f e. go w f (is_same w (codes "0")) refl e;
}
  where
    P : IsWordForm (IsPolyOf r) (poly_word r) (poly_of_word r)
    P = poly_word_form r R

    go : (w : Word) (f : Polynomial) (b : Bool) → is_same w (codes "0") ≡ b → (if b then None else poly_of_word r w) ≡ Some f → IsNonzeroOf r f × (w ≡ poly_word r f)
    go w f true was p = absurd (cc)
    go w f false was p =
        let q : IsPolyOf r f × (w ≡ poly_word r f) = P.found w f p in
        (record { poly = q.0; some = λ z. let t : true ≡ false = sym (same_refl (codes "0")) ∙ ap (λ (v : Word). is_same v (codes "0")) (sym (q.1 ∙ ap (poly_text r.p r.letters) z)) ∙ was in absurd (cc) }, q.1)

-- ---- the words of monomials
-- a monomial whose degree passes the test has its word, and is what is read of it
mono_form : (r : Ring) → IsSound r → (test : ℕ → Bool) → ((k : ℕ) → test k ≡ true → k ≤ max_exponent) →
    IsWordForm (λ m. (length m ≡ length r.letters) × (test (degree m) ≡ true)) (mono_word r) (mono_passing test r)
mono_form r R test low = record {
  plain = λ m h. mono_plain r.letters m R.letters (small_from_degree m (low (degree m) h.1));
  only = λ m h.
      ap (λ (z : List ℕ). if test (degree z) && is_same (mono_word r z) (mono_word r m) then Some z else None) (monomial_again r.letters m R.letters (small_from_degree m (low (degree m) h.1)) h.0)
      ∙ ap (λ b. if b && is_same (mono_word r m) (mono_word r m) then Some m else None) h.1
      ∙ ap (λ b. if b then Some m else None) (same_refl (mono_word r m));
  found = found;
}
  where
    found : (w : Word) (m : List ℕ) → mono_passing test r w ≡ Some m → ((length m ≡ length r.letters) × (test (degree m) ≡ true)) × (w ≡ mono_word r m)
    found w m e =
        let k : List ℕ = exponents_in r.letters w in
        let p : ((test (degree k) && is_same (mono_word r k) w) ≡ true) × (k ≡ m) = if_some (test (degree k) && is_same (mono_word r k) w) k m e in
        let q : (test (degree k) ≡ true) × (is_same (mono_word r k) w ≡ true) = and_true (test (degree k)) (is_same (mono_word r k) w) p.0 in
        (subst (λ (z : List ℕ). (length z ≡ length r.letters) × (test (degree z) ≡ true)) p.1 (exponents_long w r.letters, q.0), sym (same_is (mono_word r k) w q.1) ∙ ap (mono_word r) p.1)

-- the same words, told otherwise
same_word_form : {A : Type 0} (Is Was : A → Type 0) (word : A → Word) (of : Word → Option A) → ((a : A) → Is a → Was a) → ((a : A) → Was a → Is a) → IsWordForm Was word of → IsWordForm Is word of
same_word_form Is Was word of to from F = record {
  plain = λ a h. F.plain a (to a h);
  only = λ a h. F.only a (to a h);
  found = λ w a e. (from a (F.found w a e).0, (F.found w a e).1);
}

-- a monomial of the ring has its word
pub mono_word_form : (r : Ring) → IsSound r → IsWordForm (IsMonoOf r) (mono_word r) (mono_of_word r)
mono_word_form r R =
    same_word_form (IsMonoOf r) (λ m. (length m ≡ length r.letters) × (nat_le (degree m) r.d ≡ true)) (mono_word r) (mono_of_word r)
    (λ m h. (h.in_ring, le-leb (degree m) r.d h.low)) (λ m h. record { in_ring = h.0; low = leb-true (degree m) r.d h.1 })
    (mono_form r R (λ k. nat_le k r.d) (λ k h. let p : k ≤ r.d = leb-true k r.d h in let q : r.d ≤ max_degree = R.low in omega (arith, p, q)))

-- a monomial of just the ring's degree has its word
pub top_word_form : (r : Ring) → IsSound r → IsWordForm (IsTopOf r) (mono_word r) (top_of_word r)
top_word_form r R =
    same_word_form (IsTopOf r) (λ m. (length m ≡ length r.letters) × ((degree m == r.d) ≡ true)) (mono_word r) (top_of_word r)
    (λ m h. (h.in_ring, eqb_one (degree m) r.d h.top)) (λ m h. record { in_ring = h.0; top = eqb_is (degree m) r.d h.1 })
    (mono_form r R (λ k. k == r.d) (λ k h. let p : k ≡ r.d = eqb_is k r.d h in let q : r.d ≤ max_degree = R.low in omega (arith, p, q)))
  where
    eqb_is : (a b : ℕ) → (a == b) ≡ true → a ≡ b
    eqb_is a b h = grind arith

    eqb_one : (a b : ℕ) → a ≡ b → (a == b) ≡ true
    eqb_one a b h = grind arith
