-- Polynomials cut beyond a degree as vectors: the coefficient at each rank, as any number that stands for its residue.
use Rattle.std.specs.Prelude.{◌≡◌, ℕ, ◌+◌, ◌*◌, ◌-◌, ◌%◌, ◌<◌, Option, Some, None, nat_lt, ◌==◌, if◌then◌else◌}
use Rattle.rank_algebra.specs.Ranks.{Ranks}

-- a and b are one residue modulo p
pub record Same (p a b : ℕ) : Type 0 where
  pub eq : a % p ≡ b % p

-- the coefficient at each rank
abbrev pub Vector : Type 0
Vector = ℕ → ℕ

-- the polynomial 0
abbrev pub nothing : Vector
nothing = λ r. 0

-- the monomial of rank r
abbrev pub monomial : ℕ → Vector
monomial r = λ x. if x == r then 1 else 0

-- the sum
abbrev pub add : Vector → Vector → Vector
add v u = λ r. v r + u r

-- the multiple by a constant
abbrev pub scale : ℕ → Vector → Vector
scale c v = λ r. c * v r

-- the coefficient at a rank, where there is one
abbrev pub coef_at : Vector → Option ℕ → ℕ
coef_at v None = 0
coef_at v (Some s) = v s

-- the multiple by the monomial of rank a
abbrev pub shift : Ranks → ℕ → Vector → Vector
shift R a v = λ r. coef_at v (R.quotient r a)

-- v less c times g: minus is the factor p - 1
abbrev pub less : Ranks → ℕ → Vector → Vector → Vector
less R c g v = add v (scale ((R.p - 1) * c) g)

-- v without its terms of rank w or more
abbrev pub cut_at : ℕ → Vector → Vector
cut_at w v = λ r. if nat_lt r w then v r else 0

-- v and u agree modulo p at every rank below w: with w the number of monomials they are one polynomial modulo degree d + 1,
-- and `Agree R w v nothing` says that no term of v has a rank below w
pub record Agree (R : Ranks) (w : ℕ) (v u : Vector) : Type 0 where
  pub at : (r : ℕ) → r < w → Same R.p (v r) (u r)
