use Rattle.std.proofs.Common.{refl, string_bytes}
use Rattle.local_std.specs.Words.{bench}
use Rattle.local_std.specs.Lent.{lent}
use Rattle.local_std.specs.Due.{SolvesBehind}
use Rattle.local_std.proofs.Ends.{ends_by}
use Rattle.local_std.proofs.Benches.{bench_due, bench_served}
use Rattle.local_std.proofs.top.bench.Goals as goal

pub returns : goal.returns
returns g c =
    let k = c.args.number in
    let source = lent g.S.Source.left g.S.Source.faults c.args.source.now c.args.source.now in
    let line = string_bytes c.in-Ok.line in
    let script = c.in-Ok-read_bench.script in
    let found = c.in-Ok-read_bench.ensures.found in
    ends_by (bench k) source (lent g.K.Sink.written g.K.Sink.faults c.args.out.now c.answered.new.out) (lent g.C.Sink.written g.C.Sink.faults c.args.cert.now c.answered.new.cert)
    (SolvesBehind line script) (λ s t p h. bench_served source k refl s t p (bench_due k c.requires.number found.0 found.1 script found.2 line c.in-Ok.ensures s t p h))
    refl c.answered.result c.answered.ensures
