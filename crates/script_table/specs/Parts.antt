-- How a table is parted.
use Rattle.std.specs.Prelude.{◌≡◌, ◌-◌, ℕ, List, drop, slice_index, ◌⊎◌}
use Rattle.std.specs.Io.{StartsWith}
use Rattle.script_table.specs.Outcome.{separator}

-- a line begins at k, where one begins at start, which isn't behind k
abbrev pub BeginsLine : List ℕ → ℕ → ℕ → Type 0
BeginsLine table start k = (k ≡ start) ⊎ (slice_index table (k - 1) ≡ 10)

-- the part that begins at start may end at k: there is a separator
pub record IsEnd (table : List ℕ) (start k : ℕ) : Type 0 where
  pub line : BeginsLine table start k
  pub separated : StartsWith (drop k table) separator
