-- What a statement adds to what stood before it.
use Rattle.std.specs.Prelude.{ℕ, List, [], ◌∷◌, ◌++◌}
use Rattle.script_grammar.specs.declared.script.Command.{Command}
use Rattle.expression_reader.specs.declared.names.NamedPoly.{NamedPoly}
use Rattle.expression_reader.specs.declared.names.NamedIdeal.{NamedIdeal}
use Rattle.ring_reader.specs.declared.effect.Effect.{Effect}
use Rattle.ring_reader.specs.declared.effect.Effect.TheVariants as effects

abbrev pub polys_after : List NamedPoly → Effect → List NamedPoly
polys_after polys effects.Nothing = polys
polys_after polys (effects.Poly f) = polys ++ f ∷ []
polys_after polys (effects.Ideal i) = polys
polys_after polys (effects.Command c) = polys

abbrev pub ideals_after : List NamedIdeal → Effect → List NamedIdeal
ideals_after ideals effects.Nothing = ideals
ideals_after ideals (effects.Poly f) = ideals
ideals_after ideals (effects.Ideal i) = ideals ++ i ∷ []
ideals_after ideals (effects.Command c) = ideals

abbrev pub commands_after : List Command → Effect → List Command
commands_after commands effects.Nothing = commands
commands_after commands (effects.Poly f) = commands
commands_after commands (effects.Ideal i) = commands
commands_after commands (effects.Command c) = commands ++ c ∷ []

-- how many commands it asks
abbrev pub commands_asked : Effect → ℕ
commands_asked effects.Nothing = 0
commands_asked (effects.Poly f) = 0
commands_asked (effects.Ideal i) = 0
commands_asked (effects.Command c) = 1
