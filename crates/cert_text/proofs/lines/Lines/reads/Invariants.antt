use Rattle.std.proofs.Common.{◌≡◌, [], ◌∷◌, length}
use Rattle.cert_text.specs.Gives.{with_front}
use Rattle.cert_grammar.specs.Reading.{reads_at}
use Rattle.cert_text.proofs.lines.Lines.reads.Given as goal

abbrev pub invariant-loop-reads : goal.invariant-loop-reads
invariant-loop-reads l = with_front l.reads.items (reads_at l.ring l.self) ≡ with_front (l.fn.first ∷ []) (reads_at l.ring l.fn.self)

abbrev pub decreases-loop-reads : goal.decreases-loop-reads
decreases-loop-reads l = length l.self
