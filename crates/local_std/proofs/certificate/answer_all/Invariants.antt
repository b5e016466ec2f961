use Rattle.std.proofs.Common.{string_bytes}
use Rattle.std.specs.Prelude.{All}
use Rattle.local_std.specs.Solved.{IsSolved}
use Rattle.local_std.specs.Answered.{AreAnswered}
use Rattle.local_std.proofs.Progress.{IsUnderway}
use Rattle.local_std.proofs.certificate.answer_all.Given as goal

abbrev pub invariant-loop-k : goal.invariant-loop-k
invariant-loop-k g l =
    IsUnderway l.script l.k (g.C.Sink.written l.fn.cert) (g.C.Sink.written l.cert) (g.C.Sink.faults l.fn.cert) (g.C.Sink.faults l.cert)
    × AreAnswered l.script (string_bytes l.fn.front) l.k l.blocks.fits (string_bytes l.blocks.text) × All IsSolved l.blocks.solved.items
