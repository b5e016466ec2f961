-- A ring of the code, and the one that a tree is.
use Rattle.std.specs.Prelude.{ℕ, List}
use Rattle.prime_field.specs.Decimal.{value_of}
use Rattle.script_grammar.specs.Trees.{Ring}
use Rattle.script_grammar.specs.Statements.{letters_of}
use Rattle.ring_reader.specs.declared.ring.Ring.{Ring as Seen}

-- a name, a characteristic and the letters of variables
pub record RingValue : Type 0 where
  pub name : List ℕ
  pub prime : ℕ
  pub letters : List ℕ

abbrev pub ring_parts : List ℕ → ℕ → List ℕ → RingValue
ring_parts name prime letters = record { name = name; prime = prime; letters = letters }

abbrev pub ring_of : Seen → RingValue
ring_of r = ring_parts r.name.now r.field r.letters

abbrev pub ring_value : Ring → RingValue
ring_value r = record { name = r.name; prime = value_of r.prime; letters = letters_of r.variables }
