-- What a statement does: it declares a polynomial or an ideal, or it is a command, or nothing.
use Rattle.std.specs.Prelude.{ℕ, ◌+◌, ◌≤◌, List, [], length, All, if◌then◌else◌}
use Rattle.local_order.specs.Limits.{max_generators}
use Rattle.sparse_poly.specs.Poly.{Poly, in_variables, HasDegreeAtMost}
use Rattle.sparse_poly.specs.Ideal.{IsGenerator}
use Rattle.script_grammar.specs.Trees.{Statement, remark, poly, again, ideal, command, command_std}
use Rattle.script_grammar.specs.Statements.{is_on_poly}
use Rattle.script_grammar.specs.Meaning.{Values, variable_count, value_in, sum_value, members_value, function_subject, ideal_subject}
use Rattle.ring_reader.specs.declared.effect.Effect.{Effect}
use Rattle.ring_reader.specs.declared.effect.Effect.TheVariants as effects
use Rattle.expression_reader.specs.Generators.{in_ring_of}
use Rattle.expression_reader.specs.Sound.{IsValue}
use Rattle.ring_reader.specs.Coherent.{IsCommandIn}

abbrev pub poly_effect : Values → List ℕ → Poly → Effect
poly_effect v name f = effects.Poly (record { name = name; value = in_variables (variable_count v) f })

abbrev pub ideal_effect : Values → List ℕ → List Poly → Effect
ideal_effect v name gens = effects.Ideal (record { name = name; gens = in_ring_of v gens })

abbrev pub effect_of : Values → Statement → Effect
effect_of v (remark r) = effects.Nothing
effect_of v (poly name s) = poly_effect v name (sum_value v s)
effect_of v (again name other) = ideal_effect v name (value_in v.ideals [] other)
effect_of v (ideal name ms) = ideal_effect v name (members_value v ms)
effect_of v (command w name) = effects.Command (record { word = w; name = name; subject = if is_on_poly w then function_subject v name else ideal_subject v name })
effect_of v (command_std w name) = effects.Command (record { word = w; name = name; subject = ideal_subject v name })

-- what a statement declares or asks belongs to the ring and the degree, and an ideal has at most 64 generators
abbrev pub IsSoundEffect : ℕ → ℕ → ℕ → Effect → Type 0
IsSoundEffect p n d effects.Nothing = Unit {0}
IsSoundEffect p n d (effects.Poly f) = IsValue p n f.value × HasDegreeAtMost (d + 1) f.value.terms
IsSoundEffect p n d (effects.Ideal i) = All (IsGenerator p n d) i.gens × (length i.gens ≤ max_generators)
IsSoundEffect p n d (effects.Command c) = IsCommandIn p n d c
