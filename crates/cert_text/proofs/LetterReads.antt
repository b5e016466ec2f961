-- The letters of a ring: the test of them is the relation, and they are read word by word.
use Rattle.std.proofs.Common.{◌≡◌, ℕ, ◌<◌, ◌≤◌, Bool, true, false, List, [], ◌∷◌, ◌++◌, length, get_or, Option, Some, None, refl, sym, ◌∙◌, ap, subst, arith, append_assoc, length-append}
use Rattle.std.proofs.lemmas.Bool.{leb-true}
use Rattle.std.specs.Prelude.{nat_le, if◌then◌else◌, option_and_then, IfSome, IfNone}
use Rattle.std.specs.Option.{option_map}
use Rattle.std.proofs.lemmas.List.{append-nil}
use Rattle.sparse_poly.specs.Letters.{AreLetters}
use Rattle.cert_grammar.specs.Lines.{Word}
use Rattle.cert_text.specs.Gives.{uncons, with_bytes}
use Rattle.cert_text.specs.Cuts.{is_empty}
use Rattle.cert_grammar.specs.Words.{are_letters}
use Rattle.cert_grammar.specs.Reading.{byte_of, bytes_of, if_letters}
use Rattle.cert_grammar.proofs.Tools.{and_true}
use Rattle.cert_grammar.proofs.RingWords.{letters_are, letters_test}

-- letters are made exactly where the test passes
pub letters_new : (r : Option (List ℕ)) (l : List ℕ) → IfSome r (λ x. (x ≡ l) × AreLetters x) → IfNone r (AreLetters l → ⊥) → r ≡ if_letters l
letters_new (Some x) l h n = ap (λ z. Some z) h.0 ∙ sym (ap (λ b. if b then Some l else None) (letters_test l (subst AreLetters h.0 h.1)))
letters_new None l h n = go (are_letters l) refl
  where
    go : (b : Bool) → are_letters l ≡ b → None ≡ (if are_letters l then Some l else None)
    go true e = absurd (n (letters_are l e))
    go false e = sym (ap (λ b. if b then Some l else None) e)

-- ---- word by word
-- a word of one byte is a letter
one_byte : (w : Word) → length w ≡ 1 → byte_of w ≡ Some (get_or w 0 0)
one_byte [] e = absurd (omega (arith, e))
one_byte (v ∷ []) e = refl
one_byte (v ∷ b ∷ w) e = absurd (omega (arith, e))

-- another word is none
no_byte : (w : Word) → (length w ≡ 1 → ⊥) → byte_of w ≡ None
no_byte [] e = refl
no_byte (v ∷ []) e = absurd (e refl)
no_byte (v ∷ b ∷ w) e = refl

-- a letter more
pub byte_more : (vs : List ℕ) (w : Word) (left rest : List Word) → Some (w, rest) ≡ uncons left → length w ≡ 1 → with_bytes (vs ++ get_or w 0 0 ∷ []) (bytes_of rest) ≡ with_bytes vs (bytes_of left)
byte_more vs w [] rest e h = absurd (cc)
byte_more vs w (x ∷ xs) rest e h =
    let both : (w, rest) ≡ (x, xs) = cc in
    go (bytes_of rest)
    ∙ sym (ap (λ (o : Option ℕ). with_bytes vs (option_and_then (λ v. option_map (λ (us : List ℕ). v ∷ us) (bytes_of rest)) o)) (one_byte w h))
    ∙ ap (λ (z : Word × List Word). with_bytes vs (bytes_of (z.0 ∷ z.1))) both
  where
    go : (o : Option (List ℕ)) → with_bytes (vs ++ get_or w 0 0 ∷ []) o ≡ with_bytes vs (option_map (λ us. get_or w 0 0 ∷ us) o)
    go None = refl
    go (Some us) = ap (λ (z : List ℕ). Some z) (append_assoc vs (get_or w 0 0 ∷ []) us)

-- a word that is no letter
pub byte_none : (vs : List ℕ) (w : Word) (left rest : List Word) (all : Option (List ℕ)) → Some (w, rest) ≡ uncons left → (length w ≡ 1 → ⊥) → with_bytes vs (bytes_of left) ≡ all → None ≡ option_and_then if_letters all
byte_none vs w [] rest all e h a = absurd (cc)
byte_none vs w (x ∷ xs) rest all e h a =
    let both : (w, rest) ≡ (x, xs) = cc in
    let alike : w ≡ x = ap (λ (z : Word × List Word). z.0) both in
    ap (option_and_then if_letters) (sym (ap (λ (o : Option ℕ). with_bytes vs (option_and_then (λ v. option_map (λ (us : List ℕ). v ∷ us) (bytes_of xs)) o)) (ap byte_of (sym alike) ∙ no_byte w h)) ∙ a)

-- no word is left
pub bytes_end : (vs : List ℕ) (left : List Word) (all : Option (List ℕ)) → uncons left ≡ None → with_bytes vs (bytes_of left) ≡ all → Some vs ≡ all
bytes_end vs (x ∷ xs) all e a = absurd (cc)
bytes_end vs [] all e a = ap (λ (z : List ℕ). Some z) (sym (append-nil vs)) ∙ a

-- where no word is left, all letters are read
pub bytes_empty : (vs : List ℕ) (left : List Word) (all : Option (List ℕ)) → is_empty left ≡ true → with_bytes vs (bytes_of left) ≡ all → Some vs ≡ all
bytes_empty vs (x ∷ xs) all e a = absurd (cc)
bytes_empty vs [] all e a = ap (λ (z : List ℕ). Some z) (sym (append-nil vs)) ∙ a

-- more than eight words
pub bytes_over : (vs : List ℕ) (left : List Word) (all : Option (List ℕ)) → length vs ≡ 8 → is_empty left ≡ false → with_bytes vs (bytes_of left) ≡ all → None ≡ option_and_then if_letters all
bytes_over vs [] all l e a = absurd (cc)
bytes_over vs (x ∷ xs) all l e a = go (byte_of x) (bytes_of xs) ∙ ap (option_and_then if_letters) a
  where
    long : (us : List ℕ) → 8 < length us → are_letters us ≡ true → ⊥
    long us h t = let p : length us ≤ 8 = leb-true (length us) 8 (and_true (nat_le (length us) 8) _ (and_true (nat_le 1 (length us)) _ t).1).0 in omega (arith, p, h)

    by : (us : List ℕ) → 8 < length us → (b : Bool) → are_letters us ≡ b → None ≡ (if are_letters us then Some us else None)
    by us h true e = absurd (long us h e)
    by us h false e = sym (ap (λ b. if b then Some us else None) e)

    go : (o : Option ℕ) (p : Option (List ℕ)) → None ≡ option_and_then if_letters (with_bytes vs (option_and_then (λ v. option_map (λ us. v ∷ us) p) o))
    go None p = refl
    go (Some v) None = refl
    go (Some v) (Some us) = by (vs ++ v ∷ us) (omega (arith, l, length-append vs (v ∷ us))) (are_letters (vs ++ v ∷ us)) refl
