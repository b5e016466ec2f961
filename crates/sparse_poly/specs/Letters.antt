-- The letters of variables.
use Rattle.std.specs.Prelude.{◌≡◌, ◌≢◌, ℕ, ◌-◌, ◌≤◌, List, ◌++◌, length, take, replicate, All, AllPairs}
use Rattle.local_order.specs.Limits.{max_variables}
use Rattle.std.specs.Char.{IsAsciiAlphabetic}
use Rattle.std.proofs.Common.{get_or, arith}
use Rattle.std.proofs.lemmas.List.{length-take-le}
use Rattle.local_order.specs.Stored.{filled_with_zeros}

-- one to eight different ASCII letters
pub record AreLetters (l : List ℕ) : Type 0 where
  pub some : 1 ≤ length l
  pub few : length l ≤ max_variables
  pub letters : All IsAsciiAlphabetic l
  pub different : AllPairs (λ a b. a ≢ b) l

-- ---- how letters are stored
-- the letters, then zeros
pub record AreStored (bytes : List ℕ) (count : ℕ) : Type 0 where
  pub full : length bytes ≡ 8
  pub few : count ≤ max_variables
  pub rest : (k : ℕ) → count ≤ k → get_or bytes k 0 ≡ 0
  pub letters : AreLetters (take count bytes)

-- the number of letters in front
pub length_front : (bytes : List ℕ) (count : ℕ) → AreStored bytes count → length (take count bytes) ≡ count
length_front bytes count s = length-take-le count bytes (omega (arith, s.full, s.few))

-- the letters, filled with zeros, are what is stored
pub front_and_zeros : (bytes : List ℕ) (count : ℕ) → AreStored bytes count → take count bytes ++ replicate (8 - length (take count bytes)) 0 ≡ bytes
front_and_zeros bytes count s = filled_with_zeros bytes count s.full s.few s.rest
