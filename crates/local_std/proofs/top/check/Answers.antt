use Rattle.std.proofs.Common.{refl}
use Rattle.local_std.specs.declared.outcome.Status.TheVariants.{Input}
use Rattle.local_std.specs.Words.{check}
use Rattle.local_std.specs.Lent.{lent}
use Rattle.local_std.specs.Checked.{verdict_line, verdict_status}
use Rattle.local_std.proofs.Ends.{ends_written}
use Rattle.local_std.proofs.Checks.{verdict_has_text, certificate_too_long, verdict_served}
use Rattle.local_std.proofs.top.check.Goals as goal

pub returns-in-TooLong : goal.returns-in-TooLong
returns-in-TooLong g c =
    let source = lent g.S.Source.left g.S.Source.faults c.args.source.now c.read_all.new.source in
    ends_written check source (lent g.K.Sink.written g.K.Sink.faults c.args.out.now c.written.new.out) (lent g.C.Sink.written g.C.Sink.faults c.args.cert.now c.args.cert.now) refl
    Input c.written.result _ tt
    (certificate_too_long source ((rw (c.limit.ensures, c.in-TooLong.is) at c.in-Err.ensures.too_long) refl))
    c.written.ensures

pub returns : goal.returns
returns g c =
    let source = lent g.S.Source.left g.S.Source.faults c.args.source.now c.read_all.new.source in
    let verdict = c.in-Ok-checked.verdict in
    ends_written check source (lent g.K.Sink.written g.K.Sink.faults c.args.out.now c.written-in-Ok-checked.new.out) (lent g.C.Sink.written g.C.Sink.faults c.args.cert.now c.args.cert.now) refl
    (verdict_status verdict) c.written-in-Ok-checked.result (verdict_line verdict) (verdict_has_text verdict)
    (verdict_served source c.in-Ok.certificate.items (rw c.limit.ensures at c.in-Ok.ensures.all) (rw c.limit.ensures at c.in-Ok.ensures.few) verdict (rw c.deref.ensures.value at c.in-Ok-checked.ensures.verdict))
    (rw (c.verdict_status.ensures, c.as_bytes.ensures.value, c.as_str.ensures.value, c.verdict_line-line.ensures) at c.written-in-Ok-checked.ensures)
