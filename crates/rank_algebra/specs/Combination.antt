-- Combinations of vectors with monomials and constants as factors, and spaces of vectors.
use Rattle.std.specs.Prelude.{ℕ, ◌<◌, List, [], ◌∷◌, ⊤}
use Rattle.rank_algebra.specs.Ranks.{Ranks}
use Rattle.rank_algebra.specs.Vector.{Vector, nothing, add, scale, shift, Agree}

-- a part of a combination: the constant `coef` times the monomial of rank `mono` times the vector at `place`
pub record Part : Type 0 where
  pub coef : ℕ
  pub mono : ℕ
  pub place : ℕ

-- the value of a part
abbrev pub part_value : Ranks → (ℕ → Vector) → Part → Vector
part_value R vectors t = scale t.coef (shift R t.mono (vectors t.place))

-- the sum of the parts
abbrev pub value : Ranks → (ℕ → Vector) → List Part → Vector
value R vectors [] = nothing
value R vectors (t ∷ ts) = add (part_value R vectors t) (value R vectors ts)

-- Q holds of each part
abbrev pub Each : (Part → Type 0) → List Part → Type 0
Each Q [] = ⊤
Each Q (t ∷ ts) = Q t × Each Q ts

-- v is a combination, modulo degree d + 1, of parts that are allowed
pub record Span (R : Ranks) (vectors : ℕ → Vector) (Allowed : Part → Type 0) (v : Vector) : Type 0 where
  pub parts : List Part
  pub allowed : Each Allowed parts
  pub is : Agree R R.n v (value R vectors parts)

-- S is closed under sums and constant multiples, and sees residues up to degree d alone
pub record IsSpace (R : Ranks) (S : Vector → Type 0) : Type 0 where
  pub alike : (v u : Vector) → Agree R R.n v u → S u → S v
  pub empty : S nothing
  pub plus : (v u : Vector) → S v → S u → S (add v u)
  pub multiple : (c : ℕ) (v : Vector) → S v → S (scale c v)

-- the monomial of the part isn't 1
pub record IsProper (t : Part) : Type 0 where
  pub proper : 0 < t.mono
