-- Prime numbers, and the table of characteristics.
use Rattle.std.specs.Prelude.{◌≡◌, ℕ, ◌%◌, ◌<◌, ◌≤◌, List, [], ◌∷◌, Contains}

-- no number below p but 1 divides p, and p is at least 2
pub record IsPrime (p : ℕ) : Type 0 where
  pub two_up : 2 ≤ p
  pub only : (d : ℕ) → d < p → p % d ≡ 0 → d ≡ 1

-- the characteristics that are offered
abbrev pub table : List ℕ
table = 2 ∷ 3 ∷ 5 ∷ 7 ∷ 11 ∷ 13 ∷ 101 ∷ 32003 ∷ 65521 ∷ 2147483647 ∷ []

-- p is one of them
abbrev pub InTable : ℕ → Type 0
InTable p = Contains table p
