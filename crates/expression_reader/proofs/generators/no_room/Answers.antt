use Rattle.std.proofs.Common.{ap}
use Rattle.script_tokens.specs.TokenView.{token_of}
use Rattle.script_tokens.specs.PlaceView.{place_of}
use Rattle.expression_reader.specs.NamesView.{declarations_of}
use Rattle.expression_reader.proofs.MemberLists.{no_room_word}
use Rattle.expression_reader.proofs.generators.no_room.Goals as goal

pub returns-in-Word : goal.returns-in-Word
returns-in-Word c = rw (c.refused.ensures, c.no_room_for.ensures) (no_room_word (declarations_of c.args.names.now) (place_of c.args.here) c.in-Word.word.now (ap token_of c.in-Word.is))
