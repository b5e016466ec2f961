-- A text that is compared piece by piece is compared: each piece that is stripped leaves the question to the rest,
-- and what the variables add is the text of the monomial.
use Rattle.std.proofs.Common.{◌≡◌, ℕ, suc, ◌+◌, ◌<◌, ◌≤◌, Bool, true, false, List, [], ◌∷◌, ◌++◌, length, drop, get_or, Some, None, codes, refl, sym, ◌∙◌, ap, arith}
use Rattle.std.specs.Prelude.{◌==◌, ◌&&◌, eqb, if◌then◌else◌, option_and_then}
use Rattle.std.specs.List.{join_with_byte}
use Rattle.std.proofs.Math.Seq.{drop-cons}
use Rattle.std.proofs.lemmas.List.{drop_all}
use Rattle.local_order.specs.Mono.{degree}
use Rattle.script_grammar.specs.Words.{is_same}
use Rattle.text_out.specs.Texts.{power_text, powers, mono_text}
use Rattle.text_out.specs.Strips.{stripped, piece_text, rest_text}
use Rattle.text_out.proofs.MonoReads.{behind_pieces, join-cons}

-- one piece behind another
pub stripped-append : (v w text : List ℕ) → stripped (v ++ w) text ≡ option_and_then (stripped w) (stripped v text)
stripped-append [] w text = refl
stripped-append (a ∷ v) w [] = refl
stripped-append (a ∷ v) w (b ∷ text) = go (a == b) (stripped-append v w text)
  where
    go : (c : Bool) → stripped (v ++ w) text ≡ option_and_then (stripped w) (stripped v text) →
        (if c then stripped (v ++ w) text else None) ≡ option_and_then (stripped w) (if c then stripped v text else None)
    go true e = e
    go false e = refl

-- a text that is a piece and more
pub same_stripped : (v w text rest : List ℕ) → stripped v text ≡ Some rest → is_same (v ++ w) text ≡ is_same w rest
same_stripped [] w text rest e = let p : text ≡ rest = cc in ap (is_same w) p
same_stripped (a ∷ v) w [] rest e = absurd (cc)
same_stripped (a ∷ v) w (b ∷ text) rest e = go (a == b) refl (same_stripped v w text rest) e
  where
    go : (c : Bool) → (a == b) ≡ c → (stripped v text ≡ Some rest → is_same (v ++ w) text ≡ is_same w rest) → (if c then stripped v text else None) ≡ Some rest → (eqb a b && is_same (v ++ w) text) ≡ is_same w rest
    go true is more p = ap (λ z. z && is_same (v ++ w) text) is ∙ more p
    go false is more p = absurd (cc)

-- a text that doesn't begin with the piece
pub same_not : (v w text : List ℕ) → stripped v text ≡ None → is_same (v ++ w) text ≡ false
same_not [] w text e = absurd (cc)
same_not (a ∷ v) w [] e = refl
same_not (a ∷ v) w (b ∷ text) e = go (a == b) refl (same_not v w text) e
  where
    go : (c : Bool) → (a == b) ≡ c → (stripped v text ≡ None → is_same (v ++ w) text ≡ false) → (if c then stripped v text else None) ≡ None → (eqb a b && is_same (v ++ w) text) ≡ false
    go true is more p = ap (λ z. z && is_same (v ++ w) text) is ∙ more p
    go false is more p = ap (λ z. z && is_same (v ++ w) text) is

-- a text that is the piece and more, and one that isn't
pub stripped_some : (v rest : List ℕ) → stripped v (v ++ rest) ≡ Some rest
stripped_some [] rest = refl
stripped_some (a ∷ v) rest = ap (λ c. if c then stripped v (v ++ rest) else None) (let p : (a == a) ≡ true = grind arith in p) ∙ stripped_some v rest

-- a text of which a piece is stripped is the piece and what is left
pub stripped_is : (v text rest : List ℕ) → stripped v text ≡ Some rest → text ≡ v ++ rest
stripped_is [] text rest e = cc
stripped_is (a ∷ v) [] rest e = absurd (cc)
stripped_is (a ∷ v) (b ∷ text) rest e = go (a == b) refl (stripped_is v text rest) e
  where
    go : (c : Bool) → (a == b) ≡ c → (stripped v text ≡ Some rest → text ≡ v ++ rest) → (if c then stripped v text else None) ≡ Some rest → b ∷ text ≡ a ∷ v ++ rest
    go true is more p = ap (λ z. z ∷ text) (let q : b ≡ a = grind arith in q) ∙ ap (λ (z : List ℕ). a ∷ z) (more p)
    go false is more p = absurd (cc)

-- what variables add is the text of a monomial
pub rest_both : (vs es : List ℕ) → (rest_text true vs es ≡ join_with_byte 42 (powers vs es)) × (rest_text false vs es ≡ behind_pieces (powers vs es))
rest_both [] es = (refl, refl)
rest_both (v ∷ vs) [] = (refl, refl)
rest_both (v ∷ vs) (e ∷ es) = go (e == 0) (rest_both vs es)
  where
    go : (b : Bool) → (rest_text true vs es ≡ join_with_byte 42 (powers vs es)) × (rest_text false vs es ≡ behind_pieces (powers vs es)) →
        ((if b then [] else power_text v e) ++ rest_text (true && b) vs es ≡ join_with_byte 42 (if b then powers vs es else power_text v e ∷ powers vs es))
        × ((if b then [] else 42 ∷ power_text v e) ++ rest_text (false && b) vs es ≡ behind_pieces (if b then powers vs es else power_text v e ∷ powers vs es))
    go true h = h
    go false h = (
      ap (λ (z : List ℕ). power_text v e ++ z) h.1 ∙ sym (join-cons (power_text v e) (powers vs es)),
      ap (λ (z : List ℕ). 42 ∷ power_text v e ++ z) h.1 ∙ ap (λ (z : List ℕ). 42 ∷ z) (sym (join-cons (power_text v e) (powers vs es))),
    )

-- ---- the loop over the variables
-- before the first variable the whole text is compared
pub rest_start : (letters m text : List ℕ) → (degree m == 0) ≡ false → is_same (rest_text true letters m) text ≡ is_same (mono_text letters m) text
rest_start letters m text h =
    ap (λ (z : List ℕ). is_same z text) ((rest_both letters m).0 ∙ ap (λ b. if b then codes "1" else join_with_byte 42 (powers letters m)) (sym h))

-- the next variable
pub rest_step : (is_first : Bool) (letters m : List ℕ) (i : ℕ) → length letters ≡ length m → i < length letters →
    rest_text is_first (drop i letters) (drop i m) ≡ piece_text is_first (get_or letters i 0) (get_or m i 0) ++ rest_text (is_first && (get_or m i 0 == 0)) (drop (i + 1) letters) (drop (i + 1) m)
rest_step is_first letters m i l within =
    let p : i + 1 ≡ suc i = omega arith in
    let q : i < length m = omega (arith, l, within) in
    ap (λ (z : List ℕ). rest_text is_first z (drop i m)) (drop-cons letters i 0 within)
    ∙ ap (rest_text is_first (get_or letters i 0 ∷ drop (suc i) letters)) (drop-cons m i 0 q)
    ∙ ap (λ k. piece_text is_first (get_or letters i 0) (get_or m i 0) ++ rest_text (is_first && (get_or m i 0 == 0)) (drop k letters) (drop k m)) (sym p)

-- behind a piece that is there the rest is compared
pub rest_more : (is_first : Bool) (letters m left rest : List ℕ) (i v e : ℕ) (b : Bool) → length letters ≡ length m → i < length letters → v ≡ get_or letters i 0 → e ≡ get_or m i 0 →
    stripped (piece_text is_first v e) left ≡ Some rest → is_same (rest_text is_first (drop i letters) (drop i m)) left ≡ b →
    is_same (rest_text (is_first && (e == 0)) (drop (i + 1) letters) (drop (i + 1) m)) rest ≡ b
rest_more is_first letters m left rest i v e b l within v_is e_is s h =
    let tail : List ℕ = rest_text (is_first && (e == 0)) (drop (i + 1) letters) (drop (i + 1) m) in
    sym (same_stripped (piece_text is_first v e) tail left rest s)
    ∙ ap (λ k. is_same (piece_text is_first k e ++ tail) left) v_is
    ∙ ap (λ k. is_same (piece_text is_first (get_or letters i 0) k ++ rest_text (is_first && (k == 0)) (drop (i + 1) letters) (drop (i + 1) m)) left) e_is
    ∙ ap (λ (z : List ℕ). is_same z left) (sym (rest_step is_first letters m i l within)) ∙ h

-- where a piece is not there the texts differ
pub rest_none : (is_first : Bool) (letters m left : List ℕ) (i v e : ℕ) (b : Bool) → length letters ≡ length m → i < length letters → v ≡ get_or letters i 0 → e ≡ get_or m i 0 →
    stripped (piece_text is_first v e) left ≡ None → is_same (rest_text is_first (drop i letters) (drop i m)) left ≡ b → false ≡ b
rest_none is_first letters m left i v e b l within v_is e_is s h =
    let tail : List ℕ = rest_text (is_first && (e == 0)) (drop (i + 1) letters) (drop (i + 1) m) in
    sym (same_not (piece_text is_first v e) tail left s)
    ∙ ap (λ k. is_same (piece_text is_first k e ++ tail) left) v_is
    ∙ ap (λ k. is_same (piece_text is_first (get_or letters i 0) k ++ rest_text (is_first && (k == 0)) (drop (i + 1) letters) (drop (i + 1) m)) left) e_is
    ∙ ap (λ (z : List ℕ). is_same z left) (sym (rest_step is_first letters m i l within)) ∙ h

-- behind the last variable nothing may be left
pub rest_end : (is_first : Bool) (letters m left : List ℕ) (i : ℕ) (b : Bool) → length letters ≤ i → is_same (rest_text is_first (drop i letters) (drop i m)) left ≡ b → is_same [] left ≡ b
rest_end is_first letters m left i b end h = ap (λ (z : List ℕ). is_same (rest_text is_first z (drop i m)) left) (sym (drop_all i letters end)) ∙ h
