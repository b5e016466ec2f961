-- The loop that looks for a separator.
use Rattle.std.proofs.Common.{◌≡◌, ℕ, ◌≤◌, ◌<◌, List, Bool, true, false}
use Rattle.script_table.specs.Parts.{BeginsLine, IsEnd}

-- no part that begins at start ends before i, and it is known whether a line begins at i
pub record NoneBefore (table : List ℕ) (start i : ℕ) (begins : Bool) : Type 0 where
  pub line : begins ≡ true → BeginsLine table start i
  pub inside : begins ≡ false → ¬ BeginsLine table start i
  pub none : (k : ℕ) → start ≤ k → k < i → ¬ IsEnd table start k
