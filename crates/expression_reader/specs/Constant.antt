-- Constants, by their residues.
use Rattle.std.specs.Prelude.{◌≡◌, ℕ, ◌%◌, List, length, map}
use Rattle.sparse_poly.specs.Poly.{Polynomial}
use Rattle.script_grammar.specs.Meaning.{in_ring, constant, letter_exponent}
use Rattle.script_grammar.specs.Words.{exponents}
use Rattle.expression_reader.specs.declared.names.Names.{Names}
use Rattle.expression_reader.specs.NamesView.{values_of}

-- f is the constant of each number with that residue
abbrev pub IsConstant : Names → ℕ → Polynomial → Type 0
IsConstant names residue f = (c : ℕ) → residue ≡ c % names.field → f.terms ≡ in_ring (values_of names) (constant (length names.letters) c)

-- the monomial of a short monomial
abbrev pub short_mono : List ℕ → List ℕ → List ℕ
short_mono letters w = map (letter_exponent (exponents w)) letters
