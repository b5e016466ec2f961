use Rattle.std.proofs.Common.{List, ℕ, ◌++◌, string_bytes, refl}
use Rattle.cert_grammar.specs.Lines.{line_text}
use Rattle.cert_grammar.specs.Cert.{read_line}
use Rattle.cert_write.proofs.Steps.{one_more}
use Rattle.cert_write.proofs.Parts.{reads_text}
use Rattle.cert_write.proofs.entry.push_reads.Goals as goal

pub loop-k-preserved : goal.loop-k-preserved
loop-k-preserved c =
    let ds = c.args.reads.now.list in
    let lines = reads_text c.args.ring.now c.args.poly.now in
    one_more lines ds c.loop-k.k c.get.result (string_bytes c.args.text.now ++ lines 0 ds) (string_bytes c.loop-k.text) (string_bytes c.push_reading.new.text) (line_text (read_line c.get.result))
    (λ xs. refl) c.get.ensures c.in_ok-push_reading.ensures c.loop-k.invariant
