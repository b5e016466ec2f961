-- Reading a polynomial: its pieces are cut off one by one and give its terms,
-- and a text is that of no other polynomial, since printed polynomials are read back.
use Rattle.std.proofs.Common.{◌≡◌, ℕ, suc, ◌+◌, ◌-◌, ◌<◌, ◌≤◌, ◌^◌, Bool, true, false, List, [], ◌∷◌, ◌++◌, length, map, take, drop, get_or, refl, sym, ◌∙◌, ap, subst, arith, append_assoc, length-drop}
use Rattle.std.specs.Prelude.{◌==◌, if◌then◌else◌, codes}
use Rattle.std.proofs.lemmas.List.{take_all}
use Rattle.script_grammar.specs.Words.{is_same}
use Rattle.sparse_poly.specs.Letters.{AreLetters}
use Rattle.sparse_poly.specs.Poly.{Term, Poly, IsCanonical, IsIn}
use Rattle.sparse_poly.specs.Canonical.{canonical}
use Rattle.sparse_poly.proofs.Canonical.{canonical_self}
use Rattle.text_out.specs.Texts.{poly_text}
use Rattle.text_out.specs.Reads.{Piece, is_sign, byte_in_front, pieces_from, pieces, term_in, terms_in, HasSmallExponents}
use Rattle.text_out.specs.Cuts.{len_to_sign, IsTermModulo, AreTermsModulo, HasNoPoly}
use Rattle.text_out.proofs.PolyReads.{canonical_again}
use Rattle.text_out.proofs.ReadMonos.{exponents_long}

-- ---- pieces
-- the first piece, where a sign stands behind it
cut_some : (text : List ℕ) (negative : Bool) → len_to_sign text < length text →
    pieces_from negative text ≡ record { negative = negative; bytes = take (len_to_sign text) text } ∷ pieces_from (get_or text (len_to_sign text) 0 == 45) (drop (suc (len_to_sign text)) text)
cut_some [] negative h = absurd (omega arith)
cut_some (b ∷ text) negative h = go (is_sign b) (cut_some text negative) h
  where
    go : (c : Bool) →
        (len_to_sign text < length text → pieces_from negative text ≡ record { negative = negative; bytes = take (len_to_sign text) text } ∷ pieces_from (get_or text (len_to_sign text) 0 == 45) (drop (suc (len_to_sign text)) text)) →
        (if c then 0 else suc (len_to_sign text)) < length (b ∷ text) →
        (if c then record { negative = negative; bytes = [] } ∷ pieces_from (b == 45) text else byte_in_front b (pieces_from negative text))
        ≡ record { negative = negative; bytes = take (if c then 0 else suc (len_to_sign text)) (b ∷ text) }
        ∷ pieces_from (get_or (b ∷ text) (if c then 0 else suc (len_to_sign text)) 0 == 45) (drop (suc (if c then 0 else suc (len_to_sign text))) (b ∷ text))
    go true more k = refl
    go false more k = ap (byte_in_front b) (more (omega (arith, k)))

-- the only piece
cut_none : (text : List ℕ) (negative : Bool) → length text ≤ len_to_sign text → pieces_from negative text ≡ record { negative = negative; bytes = text } ∷ []
cut_none [] negative h = refl
cut_none (b ∷ text) negative h = go (is_sign b) (cut_none text negative) h
  where
    go : (c : Bool) → (length text ≤ len_to_sign text → pieces_from negative text ≡ record { negative = negative; bytes = text } ∷ []) →
        length (b ∷ text) ≤ (if c then 0 else suc (len_to_sign text)) →
        (if c then record { negative = negative; bytes = [] } ∷ pieces_from (b == 45) text else byte_in_front b (pieces_from negative text)) ≡ record { negative = negative; bytes = b ∷ text } ∷ []
    go true more k = absurd (omega (arith, k))
    go false more k = ap (byte_in_front b) (more (omega (arith, k)))

-- the first piece ends before the first sign, and the others follow it
pub piece_some : (text : List ℕ) (n : ℕ) → n ≡ len_to_sign text → n < length text → (negative : Bool) →
    pieces_from negative text ≡ record { negative = negative; bytes = take n text } ∷ pieces_from (get_or text n 0 == 45) (take (length text - (n + 1)) (drop (n + 1) text))
piece_some text n is h negative =
    cut_some text negative (omega (arith, is, h))
    ∙ ap (λ k. record { negative = negative; bytes = take k text } ∷ pieces_from (get_or text k 0 == 45) (drop (suc k) text)) (sym is)
    ∙ ap (λ k. record { negative = negative; bytes = take n text } ∷ pieces_from (get_or text n 0 == 45) (drop k text)) (let p : suc n ≡ n + 1 = omega arith in p)
    ∙ ap (λ (z : List ℕ). record { negative = negative; bytes = take n text } ∷ pieces_from (get_or text n 0 == 45) z) (sym (take_all (length text - (n + 1)) (drop (n + 1) text) (omega (arith, length-drop (n + 1) text))))

-- without a sign there is one piece
pub piece_none : (text : List ℕ) (n : ℕ) → n ≡ len_to_sign text → length text ≤ n → (negative : Bool) → pieces_from negative text ≡ record { negative = negative; bytes = text } ∷ []
piece_none text n is h negative = cut_none text negative (omega (arith, is, h))

-- ---- the loop over the pieces
-- a term more
pub term_more : (T : Piece → Term) (terms : List Term) (t : Term) (x : Piece) (xs ys whole : List Piece) → t ≡ T x → xs ≡ x ∷ ys → terms ++ map T xs ≡ map T whole → (terms ++ t ∷ []) ++ map T ys ≡ map T whole
term_more T terms t x xs ys whole t_is xs_is h =
    append_assoc terms (t ∷ []) (map T ys) ∙ ap (λ (z : Term). terms ++ z ∷ map T ys) t_is ∙ sym (ap (λ (z : List Piece). terms ++ map T z) xs_is) ∙ h

-- the last term
pub term_last : (T : Piece → Term) (terms : List Term) (t : Term) (x : Piece) (xs whole : List Piece) → t ≡ T x → xs ≡ x ∷ [] → terms ++ map T xs ≡ map T whole → terms ++ t ∷ [] ≡ map T whole
term_last T terms t x xs whole t_is xs_is h = ap (λ (z : Term). terms ++ z ∷ []) t_is ∙ sym (ap (λ (z : List Piece). terms ++ map T z) xs_is) ∙ h

-- each of some terms may be one of a polynomial where all may
written_behind : (p : ℕ) (terms : List Term) (t : Term) (rest : List Term) → AreTermsModulo p (terms ++ t ∷ rest) → IsTermModulo p t
written_behind p [] t rest h = h.0
written_behind p (s ∷ terms) t rest h = written_behind p terms t rest h.1

-- a piece that isn't a term
pub term_none : (p : ℕ) (T : Piece → Term) (terms : List Term) (x : Piece) (xs ys whole : List Piece) → (IsTermModulo p (T x) → ⊥) → xs ≡ x ∷ ys → terms ++ map T xs ≡ map T whole → AreTermsModulo p (map T whole) → ⊥
term_none p T terms x xs ys whole none xs_is h all =
    none (written_behind p terms (T x) (map T ys) (subst (AreTermsModulo p) (sym (sym (ap (λ (z : List Piece). terms ++ map T z) xs_is) ∙ h)) all))

-- ---- the answer
-- the terms of a text are in the ring
pub terms_own : (p : ℕ) (letters text : List ℕ) → IsIn (length letters) (terms_in p letters text)
terms_own p letters text = go (is_same text (codes "0"))
  where
    all : (xs : List Piece) → IsIn (length letters) (map (term_in p letters) xs)
    all [] = tt
    all (x ∷ xs) = (exponents_long x.bytes letters, all xs)

    go : (b : Bool) → IsIn (length letters) (if b then [] else map (term_in p letters) (pieces text))
    go true = tt
    go false = all (pieces text)

-- the terms of a canonical polynomial may be those of one
written : (p n : ℕ) (f : Poly) → IsCanonical p n f → HasSmallExponents f → AreTermsModulo p f
written p n [] h s = tt
written p n (t ∷ f) h s = (record { small = s.0; some = h.1; below = h.2 }, written p n f h.4 s.1)

-- a text whose terms are those of no polynomial is that of none
pub no_poly : (p : ℕ) (letters text : List ℕ) → p < 2 ^ 32 → AreLetters letters → (AreTermsModulo p (terms_in p letters text) → ⊥) → HasNoPoly p letters text
no_poly p letters text low are none = λ f h s e.
    none (subst (AreTermsModulo p) (sym (ap (terms_in p letters) (sym e) ∙ canonical_again p letters f (omega (arith, low)) are h s)) (written p (length letters) f h s))

-- a polynomial with another text
pub other_poly : (p : ℕ) (letters text : List ℕ) (g terms : Poly) → p < 2 ^ 32 → AreLetters letters → terms ≡ terms_in p letters text → g ≡ canonical p terms → (poly_text p letters g ≡ text → ⊥) → HasNoPoly p letters text
other_poly p letters text g terms low are terms_is g_is other = λ f h s e.
    let q : terms ≡ f = terms_is ∙ ap (terms_in p letters) (sym e) ∙ canonical_again p letters f (omega (arith, low)) are h s in
    other (ap (poly_text p letters) (g_is ∙ ap (canonical p) q ∙ self f h) ∙ e)
  where
    self : (f : Poly) → IsCanonical p (length letters) f → canonical p f ≡ f
    self [] h = refl
    self (t ∷ f) h = canonical_self p (length letters) (t ∷ f) (omega (arith, h.1, h.2)) h
