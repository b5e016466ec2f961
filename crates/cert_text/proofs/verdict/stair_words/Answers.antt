use Rattle.std.proofs.Common.{◌-◌, ◌+◌, sym, ◌∙◌, ap}
use Rattle.cert_grammar.specs.Words.{mono_of_word}
use Rattle.cert_text.specs.Gives.{with_words}
use Rattle.cert_grammar.specs.Phrases.{one_word, words_times}
use Rattle.cert_text.proofs.StairReads.{monos_more, monos_ended, monos_other}
use Rattle.cert_text.proofs.verdict.stair_words.Goals as goal

pub returns-in_default : goal.returns-in_default
returns-in_default c =
    monos_ended (mono_of_word c.args.ring.now) c.args.count c.loop-i.i c.loop-i.stair.items c.loop-i.left _ c.loop-i-test.true (sym c.in_default.ensures) c.loop-i.invariant

pub returns-in_default-mono_in_word : goal.returns-in_default-mono_in_word
returns-in_default-mono_in_word c =
    monos_other (mono_of_word c.args.ring.now) c.args.count c.loop-i.i c.loop-i.stair.items c.in-Some.word.now c.loop-i.left c.in-Some.rest _ c.loop-i-test.true c.in-Some.ensures (sym c.mono_in_word.ensures ∙ c.in_default-mono_in_word.is) c.loop-i.invariant

pub loop-i-preserved : goal.loop-i-preserved
loop-i-preserved c =
    ap (λ z. with_words z (words_times (one_word (mono_of_word c.args.ring.now)) (c.args.count - (c.loop-i.i + 1)) c.in-Some.rest)) c.in_ok-push.ensures.items
    ∙ monos_more (mono_of_word c.args.ring.now) c.args.count c.loop-i.i c.loop-i.stair.items c.in-Some-mono_in_word.m c.in-Some.word.now c.loop-i.left c.in-Some.rest c.loop-i-test.true c.in-Some.ensures (sym c.mono_in_word.ensures ∙ c.in-Some-mono_in_word.is)
    ∙ c.loop-i.invariant
