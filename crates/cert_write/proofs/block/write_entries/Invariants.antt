use Rattle.cert_write.proofs.Parts.{entries_text}
use Rattle.cert_write.proofs.Stopping.{IsWrittenUpTo}
use Rattle.cert_write.proofs.block.write_entries.Given as goal

abbrev pub invariant-loop-i : goal.invariant-loop-i
invariant-loop-i g l =
    IsWrittenUpTo (g.C.Sink.written l.fn.sink) (g.C.Sink.written l.sink) (g.C.Sink.faults l.fn.sink) (g.C.Sink.faults l.sink) (entries_text l.ring l.problem) l.i l.entries
