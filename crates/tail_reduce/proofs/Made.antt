-- Results that are all there, one for each of some places, are the list of what they are.
-- The two lists are gone through side by side.
use Rattle.std.proofs.Common.{◌≡◌, ℕ, ◌<◌, suc, List, [], ◌∷◌, length, map, refl, sym, ◌∙◌, ap, ap₂, subst, arith, IfOk, Ok, slice_index, slice_index_or}
use Rattle.std.proofs.lemmas.List.{length-map}
use Rattle.std.specs.Prelude.{Result}

-- as many values as places, each of which is what a function gives at its place, are what it gives at all of them
mapped : {X E : Type 0} (f : ℕ → X) (places : List ℕ) (l : List X) → length l ≡ length places
    → ((i : ℕ) (d : Result X E) → i < length places → IfOk (slice_index_or (map Ok l) i d) (λ x. x ≡ f (slice_index places i)))
    → l ≡ map f places
mapped f [] [] len each = refl
mapped f [] (x ∷ l) len each = absurd (omega (arith, len))
mapped f (k ∷ ks) [] len each = absurd (omega (arith, len))
mapped f (k ∷ ks) (x ∷ l) len each =
    ap₂ (λ y ys. y ∷ ys) (each 0 (Ok x) (omega arith)) (mapped f ks l (omega (arith, len)) (λ i d less. each (suc i) d (omega (arith, less))))

-- where each result that is there is what a function gives at its place, and all are there, they are what it gives at all places
pub as_mapped : {X E : Type 0} (f : ℕ → X) (places : List ℕ) (made : List (Result X E)) (l : List X) → length made ≡ length places
    → ((i : ℕ) (d : Result X E) → i < length places → IfOk (slice_index_or made i d) (λ x. x ≡ f (slice_index places i)))
    → map Ok l ≡ made → l ≡ map f places
as_mapped {X} {E} f places made l len each is =
    let has : length l ≡ length places = sym (length-map l Ok) ∙ ap length is ∙ len in
    mapped f places l has (subst (λ ms. (i : ℕ) (d : Result X E) → i < length places → IfOk (slice_index_or ms i d) (λ x. x ≡ f (slice_index places i))) (sym is) each)
