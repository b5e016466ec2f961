-- Rows of residues modulo p: the multiple of one, a run of them subtracted, and the row of a list of terms. Ours.
use Rattle.std.specs.Prelude.{◌≡◌, ℕ, ◌+◌, ◌*◌, ◌-◌, ◌%◌, ◌<◌, ◌≤◌, List, length, slice_index}
use Rattle.local_order.specs.Mono.{mono_times, Divides}
use Rattle.local_order.specs.Shape.{Shape, count}
use Rattle.mono_rank.specs.Rank.{HasRank}
use Rattle.rank_algebra.specs.Rows.{IsRow}
use Rattle.entry_code.specs.declared.term.Term.{Term}
use Rattle.entry_code.specs.Terms.{vector_of_terms}

-- s is the multiple of g by the monomial of rank a; what the multiple has beyond the degree is dropped
pub record IsMultiple (T : Shape) (a : ℕ) (g s : List ℕ) : Type 0 where
  pub full : length s ≡ count T
  pub multiples : (x y : List ℕ) (j k : ℕ) → HasRank T x a → HasRank T y j → HasRank T (mono_times x y) k → slice_index s k ≡ slice_index g j
  pub others : (x m : List ℕ) (k : ℕ) → HasRank T x a → HasRank T m k → (Divides x m → ⊥) → slice_index s k ≡ 0

-- s is r less c times `count` residues of g, from place `from` on, at as many places from `to` on
pub record SubtractsRun (p c from to count : ℕ) (g r s : List ℕ) : Type 0 where
  pub row : IsRow p (length r) s
  pub inside : (k : ℕ) → k < count → slice_index s (to + k) ≡ (slice_index r (to + k) + (p - c) * slice_index g (from + k)) % p
  pub before : (j : ℕ) → j < to → slice_index s j ≡ slice_index r j
  pub behind : (j : ℕ) → to + count ≤ j → slice_index s j ≡ slice_index r j

-- r has the coefficients of the terms at their ranks, and 0 elsewhere
pub record IsRowOfTerms (places : ℕ) (ts : List Term) (r : List ℕ) : Type 0 where
  pub full : length r ≡ places
  pub coefs : (k : ℕ) → slice_index r k ≡ vector_of_terms ts k
