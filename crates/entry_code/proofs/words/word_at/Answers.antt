use Rattle.std.proofs.Common.{◌∙◌, ◌-◌, arith}
use Rattle.entry_code.specs.Entry.{entry_of}
use Rattle.entry_code.proofs.Spelled.{word_of_reading, word_of_term}
use Rattle.entry_code.proofs.words.word_at.Goals as goal

pub returns-then-place-reads : goal.returns-then-place-reads
returns-then-place-reads c =
    c.reading_word.ensures ∙ word_of_reading (entry_of c.args.entry.now) c.args.place c.get.result (omega (arith, c.if-place-eq0.false, c.if-place-eq1.false, c.if-place-eq2.false)) c.get.ensures

pub returns-else-place-reads : goal.returns-else-place-reads
returns-else-place-reads c =
    c.term_word.ensures
    ∙ word_of_term (entry_of c.args.entry.now) c.args.place (c.args.place - 3 - c.len-reads.result) c.get-else-place-reads.result (omega (arith, c.if-place-reads.false, c.len-reads.ensures)) c.get-else-place-reads.ensures
