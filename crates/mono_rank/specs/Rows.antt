-- Rows of the coefficients at the monomials of bounded degree, by their ranks. Ours.
use Rattle.std.specs.Prelude.{◌≡◌, ◌≢◌, ℕ, ◌+◌, ◌*◌, ◌-◌, ◌%◌, ◌≤◌, List, slice_index}
use Rattle.local_order.specs.Mono.{degree, mono_times, Divides}
use Rattle.local_order.specs.Shape.{Shape, count}
use Rattle.rank_algebra.specs.Rows.{IsRow}
use Rattle.mono_rank.specs.Rank.{HasRank}

-- r is the row of these coefficients: it has that of each monomial of T at its rank
pub record IsRowOf (p : ℕ) (T : Shape) (coef : List ℕ → ℕ) (r : List ℕ) : Type 0 where
  pub row : IsRow p (count T) r
  pub coefs : (m : List ℕ) (k : ℕ) → HasRank T m k → slice_index r k ≡ coef m

-- t is the greatest degree of a monomial whose residue isn't 0
pub record HasTopDegree (T : Shape) (r : List ℕ) (t : ℕ) : Type 0 where
  pub mono : List ℕ
  pub rank : ℕ
  pub ranked : HasRank T mono rank
  pub reached : degree mono ≡ t
  pub some : slice_index r rank ≢ 0
  pub greatest : (m : List ℕ) (k : ℕ) → HasRank T m k → slice_index r k ≢ 0 → degree m ≤ t

-- s is r less c times the multiple of g by the monomial of rank a; what the multiple has beyond degree d is dropped
pub record SubtractsMultiple (p : ℕ) (T : Shape) (c a : ℕ) (g r s : List ℕ) : Type 0 where
  pub row : IsRow p (count T) s
  pub multiples : (x y : List ℕ) (j k : ℕ) → HasRank T x a → HasRank T y j → HasRank T (mono_times x y) k
      → slice_index s k ≡ (slice_index r k + (p - c) * slice_index g j) % p
  pub others : (x m : List ℕ) (k : ℕ) → HasRank T x a → HasRank T m k → (Divides x m → ⊥) → slice_index s k ≡ slice_index r k
