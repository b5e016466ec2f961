-- What is made of a list member by member: what was made so far stands in front of what the rest makes.
-- A line whose words are made one by one is its first word, and each other word behind a blank.
use Rattle.std.proofs.Common.{◌≡◌, ℕ, zero, suc, ◌+◌, ◌<◌, ◌≤◌, List, [], ◌∷◌, ◌++◌, length, get_or, drop, map, Some, refl, sym, ◌∙◌, ap, subst, arith, append_assoc}
use Rattle.std.specs.Prelude.{slice_get}
use Rattle.std.specs.List.{AllByRecursion, join_with_byte}
use Rattle.std.proofs.Math.Seq.{drop-cons}
use Rattle.std.proofs.lemmas.Option.{slice_get_within, get_or_from_slice_get}
use Rattle.std.proofs.lemmas.List.{append-nil, at_drop_all}
use Rattle.cert_grammar.specs.Lines.{Word}

-- One more member is made.
pub one_more : {A B : Type 0} (F : ℕ → List A → List B) (xs : List A) (i : ℕ) (x : A) (all done next piece : List B) → ((ys : List A) → F i (x ∷ ys) ≡ piece ++ F (suc i) ys) →
    slice_get xs i ≡ Some x → next ≡ done ++ piece → done ++ F i (drop i xs) ≡ all → next ++ F (i + 1) (drop (i + 1) xs) ≡ all
one_more {A} {B} F xs i x all done next piece unrolled at next_is so_far =
    let p : i + 1 ≡ suc i = omega arith in
    ap (λ (z : List B). z ++ F (i + 1) (drop (i + 1) xs)) next_is
    ∙ append_assoc done piece (F (i + 1) (drop (i + 1) xs))
    ∙ ap (λ k. done ++ (piece ++ F k (drop k xs))) p
    ∙ ap (λ (z : List B). done ++ z) (sym (unrolled (drop (suc i) xs)))
    ∙ ap (λ (y : A). done ++ F i (y ∷ drop (suc i) xs)) (sym (get_or_from_slice_get xs i x x at))
    ∙ sym (ap (λ (z : List A). done ++ F i z) (drop-cons xs i x (slice_get_within xs i x at)))
    ∙ so_far

-- Where no member is left, all is made.
pub all_made : {A B : Type 0} (F : ℕ → List A → List B) (xs : List A) (i : ℕ) (all done : List B) → length xs ≤ i → F i [] ≡ [] → done ++ F i (drop i xs) ≡ all → done ≡ all
all_made {A} {B} F xs i all done past none so_far = sym (append-nil done) ∙ ap (λ (z : List B). done ++ z) (sym (at_drop_all (F i) xs i past ∙ none)) ∙ so_far

-- What holds of each member holds of the one at a place.
pub holds_at : {A : Type 0} (P : A → Type 0) (xs : List A) (i : ℕ) (x : A) → AllByRecursion P xs → slice_get xs i ≡ Some x → P x
holds_at P xs i x h at = subst P (get_or_from_slice_get xs i x x at) (go P xs i x h (slice_get_within xs i x at))
  where
    go : {A : Type 0} (P : A → Type 0) (xs : List A) (i : ℕ) (d : A) → AllByRecursion P xs → i < length xs → P (get_or xs i d)
    go P [] i d h l = absurd (omega (arith, l))
    go P (y ∷ xs) zero d h l = h.0
    go P (y ∷ xs) (suc i) d h l = go P xs i d h.1 (omega (arith, l))

-- ---- words behind blanks
-- each word behind a blank
abbrev pub behind_blanks : List Word → List ℕ
behind_blanks [] = []
behind_blanks (w ∷ ws) = 32 ∷ w ++ behind_blanks ws

-- A line is its first word, and the others behind blanks.
pub joined : (w : Word) (ws : List Word) → join_with_byte 32 (w ∷ ws) ≡ w ++ behind_blanks ws
joined w [] = sym (append-nil w)
joined w (v ∷ ws) = ap (λ (z : List ℕ). w ++ 32 ∷ z) (joined v ws)

-- each letter behind a blank
abbrev pub letters_text : ℕ → List ℕ → List ℕ
letters_text i letters = behind_blanks (map (λ v. v ∷ []) letters)

-- ---- pieces
-- One piece is added, and then another.
pub added : (s t u a b : List ℕ) → t ≡ s ++ a → u ≡ t ++ b → u ≡ s ++ (a ++ b)
added s t u a b e f = f ∙ ap (λ (z : List ℕ). z ++ b) e ∙ append_assoc s a b
