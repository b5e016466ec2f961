use Rattle.std.proofs.Common.{◌≡◌, ◌-◌}
use Rattle.cert_text.specs.Gives.{with_words}
use Rattle.cert_grammar.specs.Words.{mono_of_word}
use Rattle.cert_grammar.specs.Phrases.{one_word, words_times}
use Rattle.cert_text.proofs.verdict.stair_words.Given as goal

abbrev pub invariant-loop-i : goal.invariant-loop-i
invariant-loop-i l = with_words l.stair.items (words_times (one_word (mono_of_word l.ring)) (l.count - l.i) l.left) ≡ words_times (one_word (mono_of_word l.ring)) l.count l.fn.words
