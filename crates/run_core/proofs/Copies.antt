-- One more member of a copy.
-- The copy so far is the first members, and each place adds the next one.
use Rattle.std.proofs.Common.{◌≡◌, ℕ, ◌+◌, List, [], ◌∷◌, ◌++◌, take, Some, sym, ap, ◌∙◌}
use Rattle.std.specs.List.{slice_get}
use Rattle.std.proofs.lemmas.List.{take_more}
use Rattle.std.proofs.lemmas.Option.{slice_get_within, get_or_from_slice_get}

-- the first i members and the next one are the first i + 1
pub one_more : {X : Type 0} (old new xs : List X) (i : ℕ) (x : X) → old ≡ take i xs → new ≡ old ++ x ∷ [] → slice_get xs i ≡ Some x → new ≡ take (i + 1) xs
one_more old new xs i x e f g =
    f ∙ ap (λ l. l ++ x ∷ []) e ∙ ap (λ y. take i xs ++ y ∷ []) (sym (get_or_from_slice_get xs i x x g)) ∙ sym (take_more xs i x (slice_get_within xs i x g))
