use Rattle.std.proofs.Common.{refl, [], string_bytes}
use Rattle.local_std.specs.declared.outcome.Status.TheVariants.{Input}
use Rattle.local_std.specs.Words.{solve}
use Rattle.local_std.specs.Texts.{refusal_line}
use Rattle.local_std.specs.Lent.{lent}
use Rattle.local_std.specs.Due.{SolvesBehind}
use Rattle.local_std.proofs.Ends.{ends_written, ends_by}
use Rattle.local_std.proofs.Dues.{too_long, served, refused, due, behind_nothing}
use Rattle.local_std.proofs.top.solve.Goals as goal

pub returns-in-Err-TooLong : goal.returns-in-Err-TooLong
returns-in-Err-TooLong g c =
    let source = lent g.S.Source.left g.S.Source.faults c.args.source.now c.read_all.new.source in
    ends_written solve source (lent g.K.Sink.written g.K.Sink.faults c.args.out.now c.written.new.out) (lent g.C.Sink.written g.C.Sink.faults c.args.cert.now c.args.cert.now) refl
    Input c.written.result _ tt
    (too_long source ((rw (c.limit.ensures, c.in-Err-TooLong.field-0-is) at c.in-Err-TooLong.ensures.too_long) refl))
    c.written.ensures

pub returns-in-Err-At : goal.returns-in-Err-At
returns-in-Err-At g c =
    let source = lent g.S.Source.left g.S.Source.faults c.args.source.now c.read_all.new.source in
    let bytes = c.in-Ok.bytes.items in
    let few = rw c.limit.ensures at c.in-Ok.ensures.few in
    let at = c.in-Err-At in
    let text = refusal_line at.line at.column at.kind in
    ends_written solve source (lent g.K.Sink.written g.K.Sink.faults c.args.out.now c.refused.new.out) (lent g.C.Sink.written g.C.Sink.faults c.args.cert.now c.args.cert.now) refl
    Input c.refused.result text tt
    (served source bytes (rw c.limit.ensures at c.in-Ok.ensures.all) Input text []
    (refused bytes few at.line at.column at.kind text refl (rw (c.deref.ensures.value, c.in-Err-At.field-0-is) at c.in-Err-At.ensures.exact) (rw (c.deref.ensures.value, c.in-Err-At.field-0-is) at c.in-Err-At.ensures.only)))
    (rw c.in-Err-At.field-0-is at c.refused.ensures)

pub returns : goal.returns
returns g c =
    let source = lent g.S.Source.left g.S.Source.faults c.args.source.now c.read_all.new.source in
    let bytes = c.in-Ok.bytes.items in
    let few = rw c.limit.ensures at c.in-Ok.ensures.few in
    let all = rw c.limit.ensures at c.in-Ok.ensures.all in
    let script = c.in-Ok-read_script.script in
    let found = rw c.deref.ensures.value at c.in-Ok-read_script.ensures.found in
    ends_by solve source (lent g.K.Sink.written g.K.Sink.faults c.args.out.now c.answered.new.out) (lent g.C.Sink.written g.C.Sink.faults c.args.cert.now c.answered.new.cert)
    (SolvesBehind (string_bytes c.new.result) script) (λ s t p h. served source bytes all s t p (due bytes few found.0 found.1 script found.2 s t p (behind_nothing (string_bytes c.new.result) c.new.ensures.bytes script s t p h)))
    (c.in-Ok.ensures.kept, record { bytes = bytes; given = all.given; few = few }) c.answered.result c.answered.ensures
