-- Lists of terms by rank. Ours.
use Rattle.std.specs.Prelude.{◌≡◌, ℕ, ◌<◌, List, [], ◌∷◌, All, slice_get, Some, ◌==◌, if◌then◌else◌}
use Rattle.entry_code.specs.declared.term.Term.{Term}

-- the coefficients of a list of terms, by rank: that of the first term of a rank, and 0 where there is none
abbrev pub vector_of_terms : List Term → ℕ → ℕ
vector_of_terms [] = λ r. 0
vector_of_terms (t ∷ ts) = λ r. if t.rank == r then t.coef else vector_of_terms ts r

-- the ranks of the terms rise and are below `places`
pub record HasRisingRanks (places : ℕ) (ts : List Term) : Type 0 where
  pub rising : (i j : ℕ) (t u : Term) → i < j → slice_get ts i ≡ Some t → slice_get ts j ≡ Some u → t.rank < u.rank
  pub low : All (λ t. t.rank < places) ts
