use Rattle.std.proofs.Common.{◌∙◌, [], ap, sym, length, map, refl}
use Rattle.script_tokens.specs.PlaceView.{place_of}
use Rattle.expression_reader.specs.Generators.{in_ring_of}
use Rattle.ring_reader.specs.Effects.{effect_of}
use Rattle.expression_reader.specs.Gives.{meant}
use Rattle.expression_reader.specs.NamesView.{declarations_of, values_of}
use Rattle.ring_reader.proofs.Statements.{again_reads, gens_same, variables_of}
use Rattle.ring_reader.proofs.statement.ideal.Goals as goal

pub returns-then-is_word-clause-gives : goal.returns-then-is_word-clause-gives
returns-then-is_word-clause-gives c =
    let names = c.args.names.now in
    let v = values_of names in
    let read = again_reads (declarations_of names) (place_of c.args.here) (place_of c.in_ok-word.after) (place_of c.in_ok-start.start) (place_of c.behind.result) (place_of c.in_ok-other.after) (place_of c.in_ok-after.after) c.in_ok-word.word.now c.in_ok-other.other.now.name
    c.in_ok-word.ensures.reads c.in_ok-start.ensures.reads (sym c.is_word.ensures.which ∙ c.if-is_word.true) c.behind.ensures.next c.in_ok-other.ensures.reads c.in_ok-after.ensures.reads in
    let gens = ap (in_ring_of v) (c.in_ok-other.ensures.value [] ∙ ap (map (λ f. f.terms)) (sym c.in_ok-gens.ensures.same)) ∙ gens_same v (length names.letters) c.in_ok-gens.gens refl (variables_of names.field (length names.letters) names.d c.in_ok-gens.gens c.in_ok-gens.ensures.valid) in
    ap (meant (effect_of v)) read ∙ rw (gens, c.in_ok-name.ensures) refl
