-- What has been declared in the code, seen as in the grammar.
use Rattle.std.specs.Prelude.{ℕ, List, map}
use Rattle.sparse_poly.specs.Poly.{Poly}
use Rattle.script_grammar.specs.Expressions.{Declarations}
use Rattle.script_grammar.specs.Meaning.{Named, Values}
use Rattle.expression_reader.specs.declared.names.NamedPoly.{NamedPoly}
use Rattle.expression_reader.specs.declared.names.NamedIdeal.{NamedIdeal}
use Rattle.expression_reader.specs.declared.names.Names.{Names}

abbrev pub declared_poly : NamedPoly → Named Poly
declared_poly f = record { name = f.name; value = f.value.terms }

abbrev pub declared_ideal : NamedIdeal → Named (List Poly)
declared_ideal i = record { name = i.name; value = map (λ f. f.terms) i.gens }

-- the names of what is seen as named
abbrev pub names_in : {S A : Type 0} → (S → Named A) → List S → List (List ℕ)
names_in seen all = map (λ s. (seen s).name) all

-- their names
abbrev pub declared_with : List ℕ → ℕ → List ℕ → List NamedPoly → List NamedIdeal → Declarations
declared_with ring p letters polys ideals = record {
  ring = ring;
  prime = p;
  letters = letters;
  polys = names_in declared_poly polys;
  ideals = names_in declared_ideal ideals;
}

abbrev pub declarations_of : Names → Declarations
declarations_of n = declared_with n.ring.now n.field n.letters n.polys.now n.ideals.now

-- their values
abbrev pub values_with : ℕ → List ℕ → ℕ → List NamedPoly → List NamedIdeal → Values
values_with p letters d polys ideals = record {
  p = p;
  letters = letters;
  d = d;
  polys = map declared_poly polys;
  ideals = map declared_ideal ideals;
}

abbrev pub values_of : Names → Values
values_of n = values_with n.field n.letters n.d n.polys.now n.ideals.now
