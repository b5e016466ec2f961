-- A token of the code, seen as one of the grammar.
use Rattle.script_tokens.specs.declared.token.Token.{Token as Seen}
use Rattle.script_tokens.specs.declared.token.Token.TheVariants.{Word, Text, Mark, Bad, End, Cut}
use Rattle.script_grammar.specs.Tokens.{Token, word, text, mark, bad, end, cut}

abbrev pub token_of : Seen → Token
token_of (Word bytes) = word bytes.now
token_of (Text bytes) = text bytes.now
token_of (Mark b) = mark b
token_of Bad = bad
token_of End = end
token_of Cut = cut
