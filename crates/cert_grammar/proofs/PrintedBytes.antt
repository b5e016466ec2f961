-- The bytes of printed polynomials and monomials are letters, digits and marks, which are all at least that of a *:
-- so neither a blank nor an end of a line is among them.
use Rattle.std.proofs.Common.{◌≡◌, ℕ, ◌^◌, ◌<◌, ◌≤◌, Bool, true, false, List, [], ◌∷◌, ◌++◌, length, codes, refl, sym, ◌∙◌, ap, subst, arith}
use Rattle.std.specs.Prelude.{if◌then◌else◌, ◌==◌, ◌&&◌, not, decimal, All}
use Rattle.std.specs.List.{join_with_byte, AllByRecursion}
use Rattle.prime_field.specs.Sign.{sign_form}
use Rattle.local_order.specs.Limits.{max_exponent}
use Rattle.local_order.specs.Mono.{degree}
use Rattle.sparse_poly.specs.Letters.{AreLetters}
use Rattle.sparse_poly.specs.Poly.{Poly, IsCanonical}
use Rattle.script_grammar.specs.Tokens.{is_digit}
use Rattle.text_out.specs.Texts.{power_text, powers, mono_text, size_text, first_text, later_text, later_texts, poly_text}
use Rattle.text_out.specs.Reads.{HasSmallExponents}
use Rattle.text_out.proofs.MonoReads.{AreAll, decimal_digits, AreDistinct, AreSmall, IsLetter, behind_pieces, join-cons, letters_distinct}
use Rattle.text_out.proofs.PolyReads.{size_small, small_of}
use Rattle.cert_grammar.specs.Lines.{Word, is_plain}

-- each byte is at least that of a *
abbrev pub IsHigh : Word → Type 0
IsHigh w = AllByRecursion (λ b. 42 ≤ b) w

-- two texts of such bytes make one
high-append : (v w : Word) → IsHigh v → IsHigh w → IsHigh (v ++ w)
high-append [] w h k = k
high-append (b ∷ v) w h k = (h.0, high-append v w h.1 k)

-- digits are such bytes
digits_high : (ds : Word) → AreAll is_digit ds → IsHigh ds
digits_high [] h = tt
digits_high (d ∷ ds) h = (above d h.0, digits_high ds h.1)
  where
    above : (d : ℕ) → is_digit d ≡ true → 42 ≤ d
    above d h = grind arith

-- a power has such bytes
power_high : (v e : ℕ) → IsLetter v → e < 2 ^ 64 → IsHigh (power_text v e)
power_high v e l s = go (e == 1)
  where
    letter : 42 ≤ v
    letter = let p : 57 < v = l.above in omega arith

    go : (b : Bool) → IsHigh (if b then v ∷ [] else v ∷ codes "^" ++ decimal e)
    go true = (letter, tt)
    go false = (letter, (omega arith, digits_high (decimal e) (decimal_digits e s)))

-- a product of powers has such bytes, also with a * in front of each
powers_high : (letters m : List ℕ) → AreDistinct letters → AreSmall m → IsHigh (join_with_byte 42 (powers letters m)) × IsHigh (behind_pieces (powers letters m))
powers_high [] m d s = (tt, tt)
powers_high (v ∷ letters) [] d s = (tt, tt)
powers_high (v ∷ letters) (e ∷ m) d s = go (e == 0) (powers_high letters m d.2 s.1)
  where
    go : (b : Bool) → IsHigh (join_with_byte 42 (powers letters m)) × IsHigh (behind_pieces (powers letters m)) →
        IsHigh (join_with_byte 42 (if b then powers letters m else power_text v e ∷ powers letters m)) × IsHigh (behind_pieces (if b then powers letters m else power_text v e ∷ powers letters m))
    go true h = h
    go false h =
        let j : IsHigh (join_with_byte 42 (power_text v e ∷ powers letters m)) =
        subst IsHigh (sym (join-cons (power_text v e) (powers letters m))) (high-append (power_text v e) (behind_pieces (powers letters m)) (power_high v e d.0 s.0) h.1) in
        (j, (omega arith, j))

-- a printed monomial has such bytes
mono_high : (letters m : List ℕ) → AreDistinct letters → AreSmall m → IsHigh (mono_text letters m)
mono_high letters m d s = go (degree m == 0)
  where
    go : (b : Bool) → IsHigh (if b then codes "1" else join_with_byte 42 (powers letters m))
    go true = (omega arith, tt)
    go false = (powers_high letters m d s).0

-- a size with its monomial has such bytes
size_high : (letters : List ℕ) (size : ℕ) (m : List ℕ) → AreDistinct letters → AreSmall m → size < 2 ^ 64 → IsHigh (size_text letters size m)
size_high letters size m d s small = go (degree m == 0) (size == 1)
  where
    number : IsHigh (decimal size)
    number = digits_high (decimal size) (decimal_digits size small)

    go : (b c : Bool) → IsHigh (if b then decimal size else (if c then mono_text letters m else decimal size ++ codes "*" ++ mono_text letters m))
    go true c = number
    go false true = mono_high letters m d s
    go false false = high-append (decimal size ++ codes "*") (mono_text letters m) (high-append (decimal size) (codes "*") number (omega arith, tt)) (mono_high letters m d s)

-- later terms have such bytes
later_high : (p : ℕ) (letters : List ℕ) (f : Poly) → p < 2 ^ 64 → AreDistinct letters → IsCanonical p (length letters) f → HasSmallExponents f → IsHigh (later_texts p letters f)
later_high p letters [] low d h s = tt
later_high p letters (t ∷ f) low d h s =
    high-append (later_text p letters t) (later_texts p letters f) (one (sign_form p t.coef).0) (later_high p letters f low d h.4 s.1)
  where
    size : IsHigh (size_text letters (sign_form p t.coef).1 t.mono)
    size = size_high letters (sign_form p t.coef).1 t.mono d (small_of t.mono s.0) (size_small p t.coef low h.2)

    one : (b : Bool) → IsHigh ((if b then codes "-" else codes "+") ++ size_text letters (sign_form p t.coef).1 t.mono)
    one true = (omega arith, size)
    one false = (omega arith, size)

-- a printed polynomial has such bytes
poly_high : (p : ℕ) (letters : List ℕ) (f : Poly) → p < 2 ^ 64 → AreDistinct letters → IsCanonical p (length letters) f → HasSmallExponents f → IsHigh (poly_text p letters f)
poly_high p letters [] low d h s = (omega arith, tt)
poly_high p letters (t ∷ f) low d h s =
    high-append (first_text p letters t) (later_texts p letters f) (one (sign_form p t.coef).0) (later_high p letters f low d h.4 s.1)
  where
    size : IsHigh (size_text letters (sign_form p t.coef).1 t.mono)
    size = size_high letters (sign_form p t.coef).1 t.mono d (small_of t.mono s.0) (size_small p t.coef low h.2)

    one : (b : Bool) → IsHigh ((if b then codes "-" else []) ++ size_text letters (sign_form p t.coef).1 t.mono)
    one true = (omega arith, size)
    one false = size

-- such bytes are neither blanks nor ends of lines
high_plain : (w : Word) → IsHigh w → is_plain w ≡ true
high_plain [] h = refl
high_plain (b ∷ w) h =
    ap (λ z. not z && (not (b == 10) && is_plain w)) (no_blank b h.0) ∙ ap (λ z. not z && is_plain w) (no_end b h.0) ∙ high_plain w h.1
  where
    no_blank : (b : ℕ) → 42 ≤ b → (b == 32) ≡ false
    no_blank b h = grind arith

    no_end : (b : ℕ) → 42 ≤ b → (b == 10) ≡ false
    no_end b h = grind arith

-- a printed polynomial is a word
pub poly_plain : (p : ℕ) (letters : List ℕ) (f : Poly) → p < 2 ^ 64 → AreLetters letters → IsCanonical p (length letters) f → HasSmallExponents f → is_plain (poly_text p letters f) ≡ true
poly_plain p letters f low are h s = high_plain (poly_text p letters f) (poly_high p letters f low (letters_distinct letters are.letters are.different) h s)

-- a printed monomial is a word
pub mono_plain : (letters m : List ℕ) → AreLetters letters → All (λ e. e ≤ max_exponent) m → is_plain (mono_text letters m) ≡ true
mono_plain letters m are s = high_plain (mono_text letters m) (mono_high letters m (letters_distinct letters are.letters are.different) (small_of m s))
