use Rattle.std.proofs.Common.{◌-◌, ◌+◌, sym, ◌∙◌, ap}
use Rattle.std.proofs.lemmas.Result.{err_from_is_err_and}
use Rattle.cert_text.specs.Gives.{with_items}
use Rattle.cert_grammar.specs.Words.{poly_of_word}
use Rattle.cert_grammar.specs.Reading.{poly_alone, times_at}
use Rattle.cert_text.proofs.Loops.{times_more, times_stop, times_end}
use Rattle.cert_text.proofs.lines.Lines.many_gens.Goals as goal

pub returns-in_err-gen_line : goal.returns-in_err-gen_line
returns-in_err-gen_line c =
    let p = err_from_is_err_and c.from_residual.result c.from_residual.ensures.1 in
    rw (p.1, p.2) (times_stop (poly_alone (poly_of_word c.args.ring.now)) c.in_err-gen_line.field-0.0 c.args.count c.loop-i.i c.loop-i.self c.gen_line.new.self c.loop-i.gens.items _ c.loop-i-test.true c.in_err-gen_line.ensures c.loop-i.invariant)

pub loop-i-preserved : goal.loop-i-preserved
loop-i-preserved c =
    let r = c.args.ring.now in
    ap (λ z. with_items z (times_at (poly_alone (poly_of_word r)) (c.args.count - (c.loop-i.i + 1)) (c.loop-i.i + 1) c.gen_line.new.self)) c.in_ok-push.ensures.items
    ∙ times_more (poly_alone (poly_of_word r)) c.args.count c.loop-i.i c.loop-i.self c.gen_line.new.self _ c.loop-i.gens.items c.loop-i-test.true c.in_ok-gen_line.ensures
    ∙ c.loop-i.invariant

pub returns : goal.returns
returns c = sym c.loop-i.invariant ∙ times_end (poly_alone (poly_of_word c.args.ring.now)) c.args.count c.loop-i.i c.loop-i.self c.loop-i.gens.items c.loop-i-test.false
