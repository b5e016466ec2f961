-- Lists of readings without their last, and their first readings one by one.
-- The first goes along the list, and the other is what `take` does.
use Rattle.std.proofs.Common.{◌≡◌, ℕ, ◌+◌, List, [], ◌∷◌, ◌++◌, take, Some, slice_get, refl, ap, ◌∙◌}
use Rattle.std.proofs.lemmas.List.{take_more}
use Rattle.std.proofs.lemmas.Option.{slice_get_within, get_or_from_slice_get}
use Rattle.entry_code.specs.declared.reading.Reading.{Reading}
use Rattle.mora_form.specs.State.{without_last}

-- a list with one more reading is that list when its last is taken away
pub without_last-append : (ds : List Reading) (d : Reading) → without_last (ds ++ d ∷ []) ≡ ds
without_last-append [] d = refl
without_last-append (e ∷ []) d = refl
without_last-append (e ∷ f ∷ ds) d = ap (λ s. e ∷ s) (without_last-append (f ∷ ds) d)

-- one reading more of the first
pub take-next : (ds : List Reading) (i : ℕ) (d : Reading) → slice_get ds i ≡ Some d → take (i + 1) ds ≡ take i ds ++ d ∷ []
take-next ds i d e = take_more ds i d (slice_get_within ds i d e) ∙ ap (λ x. take i ds ++ x ∷ []) (get_or_from_slice_get ds i d d e)
