-- What a list is with members of another behind it: none of them, or one more.
-- The list before is known.
use Rattle.std.proofs.Common.{◌≡◌, List, [], ◌∷◌, ◌++◌, take, refl, ap, sym, ◌∙◌}
use Rattle.std.proofs.lemmas.List.{append-nil}
use Rattle.entry_code.specs.Entry.{Entry}

-- equal lists with one entry at the end are equal
pub one_more : {xs ys : List Entry} (x : Entry) → xs ≡ ys → xs ++ x ∷ [] ≡ ys ++ x ∷ []
one_more x e = ap (λ (zs : List Entry). zs ++ x ∷ []) e

-- a list has none of the members of another behind it
pub first_none : {A : Type 0} (xs ys : List A) → xs ≡ xs ++ take 0 ys
first_none {A} xs ys = sym (append-nil xs) ∙ ap (λ zs. xs ++ zs) (none ys)
  where
    none : (zs : List A) → [] ≡ take 0 zs
    none [] = refl
    none (z ∷ zs) = refl
