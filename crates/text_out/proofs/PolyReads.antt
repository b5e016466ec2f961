-- A printed polynomial is read back: its pieces between signs are its terms,
-- and of each the sign, the size and the exponents are found.
use Rattle.std.proofs.Common.{◌≡◌, ◌≢◌, ℕ, suc, ◌-◌, ◌/◌, ◌^◌, ◌<◌, ◌≤◌, List, [], ◌∷◌, ◌++◌, length, map, Bool, true, false, codes, refl, sym, ◌∙◌, ap, subst, arith, append_assoc}
use Rattle.std.specs.Prelude.{if◌then◌else◌, ◌==◌, nat_le, cond, decimal, All}
use Rattle.local_order.specs.Limits.{max_exponent}
use Rattle.sparse_poly.specs.Letters.{AreLetters}
use Rattle.std.specs.List.{join_with_byte, AllByRecursion}
use Rattle.std.proofs.lemmas.List.{append-nil}
use Rattle.std.proofs.lemmas.Fmt.{decimal_nonempty}
use Rattle.prime_field.specs.Decimal.{value_of}
use Rattle.prime_field.specs.Sign.{sign_form}
use Rattle.local_order.specs.Mono.{degree}
use Rattle.script_grammar.specs.Words.{is_same, digits_front}
use Rattle.sparse_poly.specs.Poly.{Term, Poly, IsCanonical}
use Rattle.script_grammar.proofs.Steps.{same_is}
use Rattle.text_out.specs.Texts.{power_text, powers, mono_text, size_text, later_texts, poly_text}
use Rattle.script_grammar.specs.Tokens.{is_digit}
use Rattle.text_out.specs.Reads.{exponents_in, exponent_in, Piece, is_sign, byte_in_front, pieces_from, pieces, size_in, residue, term_in, terms_in, HasSmallExponents}
use Rattle.text_out.proofs.MonoReads.{AreAll, decimal_digits, digits_of_both, value_again, AreDistinct, AreSmall, IsLetter, behind_pieces, join-cons, mono_again, letters_distinct, digits_none, zeros_are, passed, digits_free, star_free}

-- ---- bytes that are no signs
-- no byte is a sign
abbrev pub IsBody : List ℕ → Type 0
IsBody w = AllByRecursion (λ b. is_sign b ≡ false) w

-- two texts without signs make one
body-append : (v w : List ℕ) → IsBody v → IsBody w → IsBody (v ++ w)
body-append [] w h k = k
body-append (b ∷ v) w h k = (h.0, body-append v w h.1 k)

-- digits are no signs
digits_body : (ds : List ℕ) → AreAll is_digit ds → IsBody ds
digits_body [] h = tt
digits_body (d ∷ ds) h = (no_sign d h.0, digits_body ds h.1)
  where
    no_sign : (d : ℕ) → is_digit d ≡ true → is_sign d ≡ false
    no_sign d h = grind arith

-- a letter is no sign
letter_body : (v : ℕ) → 57 < v → is_sign v ≡ false
letter_body v h = grind arith

-- a power has no sign
power_body : (v e : ℕ) → IsLetter v → e < 2 ^ 64 → IsBody (power_text v e)
power_body v e l s = go (e == 1)
  where
    go : (b : Bool) → IsBody (if b then v ∷ [] else v ∷ codes "^" ++ decimal e)
    go true = (letter_body v l.above, tt)
    go false = (letter_body v l.above, (refl, digits_body (decimal e) (decimal_digits e s)))

-- a product of powers has no sign
powers_body : (letters m : List ℕ) → AreDistinct letters → AreSmall m → IsBody (join_with_byte 42 (powers letters m)) × IsBody (behind_pieces (powers letters m))
powers_body [] m d s = (tt, tt)
powers_body (v ∷ letters) [] d s = (tt, tt)
powers_body (v ∷ letters) (e ∷ m) d s = go (e == 0) (powers_body letters m d.2 s.1)
  where
    go : (b : Bool) → IsBody (join_with_byte 42 (powers letters m)) × IsBody (behind_pieces (powers letters m)) →
        IsBody (join_with_byte 42 (if b then powers letters m else power_text v e ∷ powers letters m)) × IsBody (behind_pieces (if b then powers letters m else power_text v e ∷ powers letters m))
    go true h = h
    go false h =
        let j : IsBody (join_with_byte 42 (power_text v e ∷ powers letters m)) =
        subst IsBody (sym (join-cons (power_text v e) (powers letters m))) (body-append (power_text v e) (behind_pieces (powers letters m)) (power_body v e d.0 s.0) h.1) in
        (j, (refl, j))

-- a printed monomial has no sign
mono_body : (letters m : List ℕ) → AreDistinct letters → AreSmall m → IsBody (mono_text letters m)
mono_body letters m d s = go (degree m == 0)
  where
    go : (b : Bool) → IsBody (if b then codes "1" else join_with_byte 42 (powers letters m))
    go true = (refl, tt)
    go false = (powers_body letters m d s).0

-- a printed term has no sign but the one in front
size_body : (letters : List ℕ) (size : ℕ) (m : List ℕ) → AreDistinct letters → AreSmall m → size < 2 ^ 64 → IsBody (size_text letters size m)
size_body letters size m d s small = go (degree m == 0) (size == 1)
  where
    go : (b c : Bool) → IsBody (if b then decimal size else (if c then mono_text letters m else decimal size ++ codes "*" ++ mono_text letters m))
    go true c = digits_body (decimal size) (decimal_digits size small)
    go false true = mono_body letters m d s
    go false false =
        body-append (decimal size ++ codes "*") (mono_text letters m) (body-append (decimal size) (codes "*") (digits_body (decimal size) (decimal_digits size small)) (refl, tt)) (mono_body letters m d s)

-- ---- texts that aren't empty
-- the text of a monomial other than 1 has a byte
some_power : (letters m : List ℕ) → length m ≡ length letters → degree m ≢ 0 → 0 < length (join_with_byte 42 (powers letters m))
some_power [] [] l h = absurd (h refl)
some_power [] (e ∷ m) l h = absurd (omega arith)
some_power (v ∷ letters) [] l h = absurd (omega arith)
some_power (v ∷ letters) (e ∷ m) l h = go (e == 0) refl (some_power letters m (omega arith))
  where
    none : (n : ℕ) → (n == 0) ≡ true → n ≡ 0
    none n h = grind arith

    longer : (e : ℕ) (rest : List ℕ) → 0 < length (power_text v e ++ rest)
    longer e rest = by (e == 1)
      where
        by : (b : Bool) → 0 < length ((if b then v ∷ [] else v ∷ codes "^" ++ decimal e) ++ rest)
        by true = omega arith
        by false = omega arith

    go : (b : Bool) → (e == 0) ≡ b → (degree m ≢ 0 → 0 < length (join_with_byte 42 (powers letters m))) → 0 < length (join_with_byte 42 (if b then powers letters m else power_text v e ∷ powers letters m))
    go true is more = more (λ z. h (let p : e ≡ 0 = none e is in omega (arith, z, p)))
    go false is more = subst (λ (z : List ℕ). 0 < length z) (sym (join-cons (power_text v e) (powers letters m))) (longer e (behind_pieces (powers letters m)))

-- a printed term has a byte
size_some : (letters : List ℕ) (size : ℕ) (m : List ℕ) → length m ≡ length letters → size < 2 ^ 64 → 0 < length (size_text letters size m)
size_some letters size m l small = go (degree m == 0) refl (size == 1)
  where
    not_zero : (n : ℕ) → (n == 0) ≡ false → n ≢ 0
    not_zero n h = grind arith

    front : (a b c : List ℕ) → 0 < length a → 0 < length (a ++ b ++ c)
    front [] b c h = absurd (omega arith)
    front (x ∷ a) b c h = omega arith

    go : (b : Bool) → (degree m == 0) ≡ b → (c : Bool) → 0 < length (if b then decimal size else (if c then (if b then codes "1" else join_with_byte 42 (powers letters m)) else decimal size ++ codes "*" ++ (if b then codes "1" else join_with_byte 42 (powers letters m))))
    go true is c = decimal_nonempty size small
    go false is true = some_power letters m l (not_zero (degree m) is)
    go false is false = front (decimal size) (codes "*") (join_with_byte 42 (powers letters m)) (decimal_nonempty size small)

-- ---- pieces
-- a text without signs is in front of the first piece of what follows
pieces_body : (n : Bool) (body rest w : List ℕ) (xs : List Piece) → IsBody body → pieces_from n rest ≡ record { negative = n; bytes = w } ∷ xs → pieces_from n (body ++ rest) ≡ record { negative = n; bytes = body ++ w } ∷ xs
pieces_body n [] rest w xs h e = e
pieces_body n (b ∷ body) rest w xs h e =
    ap (λ c. if c then record { negative = n; bytes = [] } ∷ pieces_from (b == 45) (body ++ rest) else byte_in_front b (pieces_from n (body ++ rest))) h.0
    ∙ ap (byte_in_front b) (pieces_body n body rest w xs h.1 e)

-- the piece that a term is printed as
abbrev pub piece_of : ℕ → List ℕ → Term → Piece
piece_of p letters t = record { negative = (sign_form p t.coef).0; bytes = size_text letters (sign_form p t.coef).1 t.mono }

-- what is asked of a term
pub record IsPrinted (p : ℕ) (letters : List ℕ) (t : Term) : Type 0 where
  pub long : length t.mono ≡ length letters
  pub small : AreSmall t.mono
  pub some : 0 < t.coef
  pub below : t.coef < p

-- the printed size of a residue is below 2^64
pub size_small : (p c : ℕ) → p < 2 ^ 64 → c < p → (sign_form p c).1 < 2 ^ 64
size_small p c h k = go (nat_le c (p / 2))
  where
    go : (b : Bool) → (cond {A = Bool × ℕ} b (false, c) (true, p - c)).1 < 2 ^ 64
    go true = omega arith
    go false = omega arith

-- the pieces of later terms are those of the terms, behind an empty one
later_again : (p : ℕ) (letters : List ℕ) (n : Bool) (ts : Poly) → p < 2 ^ 64 → AreDistinct letters → AllByRecursion (IsPrinted p letters) ts →
    pieces_from n (later_texts p letters ts) ≡ record { negative = n; bytes = [] } ∷ map (piece_of p letters) ts
later_again p letters n [] low d h = refl
later_again p letters n (t ∷ ts) low d h = go (λ m. later_again p letters m ts low d h.1) (sign_form p t.coef).0
  where
    size : List ℕ
    size = size_text letters (sign_form p t.coef).1 t.mono

    rest : List ℕ
    rest = later_texts p letters ts

    piece : (m : Bool) → pieces_from m rest ≡ record { negative = m; bytes = [] } ∷ map (piece_of p letters) ts → pieces_from m (size ++ rest) ≡ record { negative = m; bytes = size } ∷ map (piece_of p letters) ts
    piece m e =
        pieces_body m size rest [] (map (piece_of p letters) ts) (size_body letters (sign_form p t.coef).1 t.mono d h.0.small (size_small p t.coef low h.0.below)) e
        ∙ ap (λ z. record { negative = m; bytes = z } ∷ map (piece_of p letters) ts) (append-nil size)

    go : ((m : Bool) → pieces_from m rest ≡ record { negative = m; bytes = [] } ∷ map (piece_of p letters) ts) → (m : Bool) →
        pieces_from n (((if m then codes "-" else codes "+") ++ size) ++ rest) ≡ record { negative = n; bytes = [] } ∷ record { negative = m; bytes = size } ∷ map (piece_of p letters) ts
    go more true = ap (λ (z : List Piece). record { negative = n; bytes = [] } ∷ z) (piece true (more true))
    go more false = ap (λ (z : List Piece). record { negative = n; bytes = [] } ∷ z) (piece false (more false))

-- a text that begins without a sign has a first piece with a plus
pieces_plain : (body rest : List ℕ) → IsBody body → 0 < length body → pieces (body ++ rest) ≡ pieces_from false (body ++ rest)
pieces_plain [] rest h s = absurd (omega arith)
pieces_plain (b ∷ body) rest h s = ap (λ c. if c then pieces_from true (body ++ rest) else pieces_from false (b ∷ body ++ rest)) (no_minus b h.0)
  where
    no_minus : (b : ℕ) → is_sign b ≡ false → (b == 45) ≡ false
    no_minus b h = grind arith

-- the pieces of a printed polynomial are those of its terms
pub pieces_again : (p : ℕ) (letters : List ℕ) (t : Term) (ts : Poly) → p < 2 ^ 64 → AreDistinct letters → AllByRecursion (IsPrinted p letters) (t ∷ ts) →
    pieces (poly_text p letters (t ∷ ts)) ≡ map (piece_of p letters) (t ∷ ts)
pieces_again p letters t ts low d h = go (sign_form p t.coef).0
  where
    size : List ℕ
    size = size_text letters (sign_form p t.coef).1 t.mono

    rest : List ℕ
    rest = later_texts p letters ts

    body : IsBody size
    body = size_body letters (sign_form p t.coef).1 t.mono d h.0.small (size_small p t.coef low h.0.below)

    piece : (m : Bool) → pieces_from m (size ++ rest) ≡ record { negative = m; bytes = size } ∷ map (piece_of p letters) ts
    piece m =
        pieces_body m size rest [] (map (piece_of p letters) ts) body (later_again p letters m ts low d h.1)
        ∙ ap (λ z. record { negative = m; bytes = z } ∷ map (piece_of p letters) ts) (append-nil size)

    go : (m : Bool) → pieces (((if m then codes "-" else []) ++ size) ++ rest) ≡ record { negative = m; bytes = size } ∷ map (piece_of p letters) ts
    go true = piece true
    go false = pieces_plain size rest body (size_some letters (sign_form p t.coef).1 t.mono h.0.long (size_small p t.coef low h.0.below)) ∙ piece false

-- ---- terms
-- the residue of the sign form is the residue
residue_again : (p c : ℕ) → c < p → residue p (sign_form p c).0 (sign_form p c).1 ≡ c
residue_again p c h = go (nat_le c (p / 2))
  where
    go : (b : Bool) → residue p (cond {A = Bool × ℕ} b (false, c) (true, p - c)).0 (cond {A = Bool × ℕ} b (false, c) (true, p - c)).1 ≡ c
    go true = refl
    go false = omega arith

-- digits in front of a text that begins with none
number_in : (ds rest : List ℕ) → AreAll is_digit ds → 0 < length ds → digits_front rest ≡ [] → size_in (ds ++ rest) ≡ value_of ds
number_in [] rest h s e = absurd (omega arith)
number_in (d ∷ ds) rest h s e = ap (λ b. if b then value_of (digits_front (d ∷ ds ++ rest)) else 1) h.0 ∙ ap value_of (digits_of_both (d ∷ ds) rest h e)

-- in front of a product of powers stands no number, so that its size is 1
letter_first : (letters m : List ℕ) → AreDistinct letters → size_in (join_with_byte 42 (powers letters m)) ≡ 1
letter_first [] m d = refl
letter_first (v ∷ letters) [] d = refl
letter_first (v ∷ letters) (e ∷ m) d = go (e == 0) (letter_first letters m d.2)
  where
    no_digit : (v : ℕ) → 57 < v → is_digit v ≡ false
    no_digit v h = grind arith

    by : (b : Bool) (rest : List ℕ) → size_in ((if b then v ∷ [] else v ∷ codes "^" ++ decimal e) ++ rest) ≡ 1
    by true rest = ap (λ c. if c then value_of (digits_front (v ∷ rest)) else 1) (no_digit v d.0.above)
    by false rest = ap (λ c. if c then value_of (digits_front (v ∷ (codes "^" ++ decimal e) ++ rest)) else 1) (no_digit v d.0.above)

    go : (b : Bool) → size_in (join_with_byte 42 (powers letters m)) ≡ 1 → size_in (join_with_byte 42 (if b then powers letters m else power_text v e ∷ powers letters m)) ≡ 1
    go true h = h
    go false h = ap size_in (join-cons (power_text v e) (powers letters m)) ∙ by (e == 1) (behind_pieces (powers letters m))

-- the size of a printed term is read back
size_again : (letters : List ℕ) (size : ℕ) (m : List ℕ) → AreDistinct letters → size < 2 ^ 64 → size_in (size_text letters size m) ≡ size
size_again letters size m d small = go (degree m == 0) (size == 1) refl
  where
    one : (n : ℕ) → (n == 1) ≡ true → n ≡ 1
    one n h = grind arith

    go : (b c : Bool) → (size == 1) ≡ c → size_in (if b then decimal size else (if c then (if b then codes "1" else join_with_byte 42 (powers letters m)) else decimal size ++ codes "*" ++ (if b then codes "1" else join_with_byte 42 (powers letters m)))) ≡ size
    go true c is =
        ap size_in (sym (append-nil (decimal size))) ∙ number_in (decimal size) [] (decimal_digits size small) (decimal_nonempty size small) refl ∙ value_again size small
    go false true is = letter_first letters m d ∙ sym (one size is)
    go false false is =
        ap size_in (append_assoc (decimal size) (codes "*") (join_with_byte 42 (powers letters m)))
        ∙ number_in (decimal size) (42 ∷ join_with_byte 42 (powers letters m)) (decimal_digits size small) (decimal_nonempty size small) refl ∙ value_again size small

-- bytes in front that have no letter
front_passed : (letters front text : List ℕ) → AreDistinct letters → AreAll is_digit front → exponents_in letters (front ++ 42 ∷ text) ≡ exponents_in letters text
front_passed [] front text d h = refl
front_passed (v ∷ letters) front text d h =
    ap (λ z. z ∷ exponents_in letters (front ++ 42 ∷ text)) (passed v front (42 ∷ text) (digits_free v front d.0 h) ∙ ap (λ c. if c then Rattle.text_out.specs.Reads.exponent_behind text else exponent_in v text) (star_free v d.0))
    ∙ ap (λ (z : List ℕ). exponent_in v text ∷ z) (front_passed letters front text d.2 h)

-- the exponents of a printed term are read back
exponents_again : (letters : List ℕ) (size : ℕ) (m : List ℕ) → AreDistinct letters → AreSmall m → length m ≡ length letters → size < 2 ^ 64 → exponents_in letters (size_text letters size m) ≡ m
exponents_again letters size m d s l small = go (degree m == 0) refl (size == 1)
  where
    go : (b : Bool) → (degree m == 0) ≡ b → (c : Bool) → exponents_in letters (if b then decimal size else (if c then mono_text letters m else decimal size ++ codes "*" ++ mono_text letters m)) ≡ m
    go true is c = digits_none letters (decimal size) d (decimal_digits size small) ∙ zeros_are letters m l (let p : degree m ≡ 0 = grind arith in p)
    go false is true = mono_again letters m d s l
    go false is false =
        ap (exponents_in letters) (append_assoc (decimal size) (codes "*") (mono_text letters m)) ∙ front_passed letters (decimal size) (mono_text letters m) d (decimal_digits size small) ∙ mono_again letters m d s l

-- a printed term is read back
term_again : (p : ℕ) (letters : List ℕ) (t : Term) → p < 2 ^ 64 → AreDistinct letters → IsPrinted p letters t → term_in p letters (piece_of p letters t) ≡ t
term_again p letters t low d h =
    let small : (sign_form p t.coef).1 < 2 ^ 64 = size_small p t.coef low h.below in
    ap (λ (z : List ℕ). record { mono = z; coef = residue p (sign_form p t.coef).0 (size_in (size_text letters (sign_form p t.coef).1 t.mono)) }) (exponents_again letters (sign_form p t.coef).1 t.mono d h.small h.long small)
    ∙ ap (λ z. record { mono = t.mono; coef = residue p (sign_form p t.coef).0 z }) (size_again letters (sign_form p t.coef).1 t.mono d small)
    ∙ ap (λ z. record { mono = t.mono; coef = z }) (residue_again p t.coef h.below)

-- printed terms are read back
pub terms_again : (p : ℕ) (letters : List ℕ) (ts : Poly) → p < 2 ^ 64 → AreDistinct letters → AllByRecursion (IsPrinted p letters) ts → map (term_in p letters) (map (piece_of p letters) ts) ≡ ts
terms_again p letters [] low d h = refl
terms_again p letters (t ∷ ts) low d h =
    ap (λ (z : Term). z ∷ map (term_in p letters) (map (piece_of p letters) ts)) (term_again p letters t low d h.0) ∙ ap (λ (z : Poly). t ∷ z) (terms_again p letters ts low d h.1)

-- ---- polynomials
-- the size of a residue other than 0 is above 0
size_above : (p c : ℕ) → 0 < c → c < p → 0 < (sign_form p c).1
size_above p c h k = go (nat_le c (p / 2))
  where
    go : (b : Bool) → 0 < (cond {A = Bool × ℕ} b (false, c) (true, p - c)).1
    go true = h
    go false = omega arith

-- the size of the first piece
first_size : List Piece → ℕ
first_size [] = 1
first_size (x ∷ xs) = size_in x.bytes

-- a polynomial that isn't 0 is not printed as 0
not_zero_text : (p : ℕ) (letters : List ℕ) (t : Term) (ts : Poly) → p < 2 ^ 64 → AreDistinct letters → AllByRecursion (IsPrinted p letters) (t ∷ ts) → is_same (poly_text p letters (t ∷ ts)) (codes "0") ≡ false
unfolding first_size
not_zero_text p letters t ts low d h = go (is_same (poly_text p letters (t ∷ ts)) (codes "0")) refl
  where
    no : is_same (poly_text p letters (t ∷ ts)) (codes "0") ≡ true → ⊥
    no e =
        let q : 0 ≡ (sign_form p t.coef).1 =
        ap (λ (z : List ℕ). first_size (pieces z)) (sym (same_is (poly_text p letters (t ∷ ts)) (codes "0") e))
        ∙ ap first_size (pieces_again p letters t ts low d h)
        ∙ size_again letters (sign_form p t.coef).1 t.mono d (size_small p t.coef low h.0.below) in
        omega (arith, q, size_above p t.coef h.0.some h.0.below)

    go : (b : Bool) → is_same (poly_text p letters (t ∷ ts)) (codes "0") ≡ b → is_same (poly_text p letters (t ∷ ts)) (codes "0") ≡ false
    go true e = absurd (no e)
    go false e = e

-- the terms that stand in the text of a polynomial are its terms
pub poly_again : (p : ℕ) (letters : List ℕ) (f : Poly) → p < 2 ^ 64 → AreDistinct letters → AllByRecursion (IsPrinted p letters) f → terms_in p letters (poly_text p letters f) ≡ f
poly_again p letters [] low d h = refl
poly_again p letters (t ∷ ts) low d h =
    ap (λ b. if b then [] else map (term_in p letters) (pieces (poly_text p letters (t ∷ ts)))) (not_zero_text p letters t ts low d h)
    ∙ ap (map (term_in p letters)) (pieces_again p letters t ts low d h)
    ∙ terms_again p letters (t ∷ ts) low d h

-- ---- as the contracts say it
-- exponents within the limit are below 2^64
pub small_of : (m : List ℕ) → All (λ e. e ≤ max_exponent) m → AreSmall m
small_of [] h = tt
small_of (e ∷ m) h = (let p : e ≤ max_exponent = h 0 0 (omega arith) in omega arith, small_of m (λ k z i. h (suc k) z (omega (arith, i))))

-- the terms of a canonical polynomial are such terms
printed : (p : ℕ) (letters : List ℕ) (f : Poly) → IsCanonical p (length letters) f → HasSmallExponents f → AllByRecursion (IsPrinted p letters) f
printed p letters [] h s = tt
printed p letters (t ∷ f) h s = (record { long = h.0; small = small_of t.mono s.0; some = h.1; below = h.2 }, printed p letters f h.4 s.1)

-- a canonical polynomial is read back from its text
pub canonical_again : (p : ℕ) (letters : List ℕ) (f : Poly) → p < 2 ^ 64 → AreLetters letters → IsCanonical p (length letters) f → HasSmallExponents f → terms_in p letters (poly_text p letters f) ≡ f
canonical_again p letters f low are h s = poly_again p letters f low (letters_distinct letters are.letters are.different) (printed p letters f h s)

-- a monomial is read back from its text
pub monomial_again : (letters m : List ℕ) → AreLetters letters → All (λ e. e ≤ max_exponent) m → length m ≡ length letters → exponents_in letters (mono_text letters m) ≡ m
monomial_again letters m are s l = mono_again letters m (letters_distinct letters are.letters are.different) (small_of m s) l

-- monomials with one text are one
pub one_monomial : (letters m k : List ℕ) → AreLetters letters → All (λ e. e ≤ max_exponent) m → All (λ e. e ≤ max_exponent) k → length m ≡ length letters → length k ≡ length letters → mono_text letters m ≡ mono_text letters k → m ≡ k
one_monomial letters m k are s t l n e = sym (monomial_again letters m are s l) ∙ ap (exponents_in letters) e ∙ monomial_again letters k are t n

-- canonical polynomials with one text are one
pub one_polynomial : (p : ℕ) (letters : List ℕ) (f g : Poly) → p < 2 ^ 64 → AreLetters letters → IsCanonical p (length letters) f → IsCanonical p (length letters) g →
    HasSmallExponents f → HasSmallExponents g → poly_text p letters f ≡ poly_text p letters g → f ≡ g
one_polynomial p letters f g low are h k s t e = sym (canonical_again p letters f low are h s) ∙ ap (terms_in p letters) e ∙ canonical_again p letters g low are k t
