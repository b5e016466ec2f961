-- A place of the code, seen as one of the grammar.
use Rattle.script_tokens.specs.declared.token.Place.{Place as Seen}
use Rattle.script_grammar.specs.Tokens.{Place}
use Rattle.script_tokens.specs.TokenView.{token_of}

abbrev pub place_of : Seen → Place
place_of t = record { token = token_of t.token; left = t.left; rest = t.rest.now }
