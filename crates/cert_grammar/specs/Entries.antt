-- What is certified of an entry.
use Rattle.std.specs.Prelude.{ℕ, List, Option}
use Rattle.sparse_poly.specs.Poly.{Polynomial}
use Rattle.entry_code.specs.declared.item.Item.{Item}
use Rattle.entry_code.specs.declared.reading.Reading.{Reading}

pub record Entry : Type 0 where
  pub item : Item
  pub reads : List Reading
  pub poly : Polynomial

-- what is claimed of a problem whose degree fits
pub record Fitting : Type 0 where
  pub basis : List Polynomial
  pub corner : Option (List ℕ)
  pub stair : List (List ℕ)
