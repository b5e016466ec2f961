use Rattle.std.proofs.Common.{◌∙◌, sym}
use Rattle.script_tokens.proofs.WordBytes.{word_ascii_by}
use Rattle.script_tokens.proofs.lexer.front_token.Goals as goal

pub invariant_of-result-then-in_word-clause-ascii : goal.invariant_of-result-then-in_word-clause-ascii
invariant_of-result-then-in_word-clause-ascii c =
    word_ascii_by c.word_end.result c.args.bytes.now c.split_at.result.0.now c.in-len1-up.len_at_least (sym c.in_word.ensures ∙ c.if-in_word.true) c.word_end.ensures.len c.split_at.ensures.front
