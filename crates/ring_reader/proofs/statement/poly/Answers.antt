use Rattle.std.proofs.Common.{◌+◌}
use Rattle.script_tokens.specs.PlaceView.{place_of}
use Rattle.script_grammar.specs.Expressions.{expression_at}
use Rattle.expression_reader.specs.NamesView.{declarations_of, values_of}
use Rattle.ring_reader.proofs.Degrees.{declared_low, read_low}
use Rattle.ring_reader.proofs.statement.poly.Goals as goal

pub returns-clause-sound : goal.returns-clause-sound
returns-clause-sound c =
    let names = c.args.names.now in
    let low = read_low (values_of names) (declared_low (names.d + 1) names.polys.now c.requires.sound.polys_low)
    (expression_at (declarations_of names) (place_of c.in_ok-after.after)) c.in_ok-value.value.terms (place_of c.in_ok-value.after) c.in_ok-value.ensures.gives in
    rw c.in_ok-value-2.ensures (c.in_ok-value.ensures.valid, low)
