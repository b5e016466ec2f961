use Rattle.std.proofs.Common.{sym, ◌∙◌, ap}
use Rattle.std.proofs.lemmas.Result.{err_from_is_err_and}
use Rattle.cert_text.specs.Gives.{with_front}
use Rattle.cert_grammar.specs.Reading.{reads_at}
use Rattle.cert_text.proofs.Loops.{took_more, took_last, took_stop}
use Rattle.cert_text.proofs.lines.Lines.reads.Goals as goal

pub returns-in_err-reading : goal.returns-in_err-reading
returns-in_err-reading c =
    let p = err_from_is_err_and c.from_residual-in_err-reading.result c.from_residual-in_err-reading.ensures.1 in
    rw (p.1, p.2) (took_stop c.args.ring.now c.in_err-reading.field-0.0 c.loop-reads.self c.step.new.self c.loop-reads.reads.items _ c.in_err-reading.ensures c.loop-reads.invariant)

pub loop-reads-preserved : goal.loop-reads-preserved
loop-reads-preserved c =
    let r = c.args.ring.now in
    let x = c.in-OneMore.reading in
    ap (λ z. with_front z (reads_at r c.step.new.self)) c.in_ok-push-in-OneMore.ensures.items
    ∙ took_more r c.loop-reads.self c.step.new.self x c.loop-reads.reads.items c.in_ok-reading.field-0 c.in-OneMore.is c.in_ok-reading.ensures
    ∙ c.loop-reads.invariant

pub returns-in-Last : goal.returns-in-Last
returns-in-Last c =
    sym c.loop-reads.invariant
    ∙ took_last c.args.ring.now c.loop-reads.self c.step.new.self c.in-Last.poly c.loop-reads.reads.items c.in_ok-reading.field-0 c.in-Last.is c.in_ok-reading.ensures
