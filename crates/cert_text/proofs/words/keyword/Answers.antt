use Rattle.std.proofs.Common.{true, false, sym, ◌∙◌}
use Rattle.cert_text.proofs.WordReads.{keyword_told, pointwise_same}
use Rattle.cert_text.proofs.words.keyword.Goals as goal

pub returns-then-eq : goal.returns-then-eq
returns-then-eq c =
    sym (keyword_told c.args.k.now c.args.words c.in_ok-word.word.now c.in_ok-word.rest true c.in_ok-word.ensures (sym (pointwise_same c.in_ok-word.word.now c.args.k.now) ∙ sym c.if-eq.ensures))

pub returns-else-eq : goal.returns-else-eq
returns-else-eq c =
    sym (keyword_told c.args.k.now c.args.words c.in_ok-word.word.now c.in_ok-word.rest false c.in_ok-word.ensures (sym (pointwise_same c.in_ok-word.word.now c.args.k.now) ∙ sym c.if-eq.ensures))
