use Rattle.std.proofs.Common.{◌≡◌, ◌∙◌, subst}
use Rattle.std.proofs.lemmas.Option.{get_or_from_slice_get}
use Rattle.sparse_poly.specs.Ideal.{Problem}
use Rattle.cert_grammar.specs.Lines.{text}
use Rattle.cert_grammar.specs.Cert.{block_lines}
use Rattle.cert_grammar.specs.Certified.{block_of}
use Rattle.cert_write.specs.Claim.{claim}
use Rattle.cert_write.specs.Writes.{WritesOrStops}
use Rattle.local_std.specs.declared.solved.Solved.{Solved}
use Rattle.local_std.specs.Solved.{claim_of}
use Rattle.local_std.proofs.certificate.write_claim.Goals as goal

pub returns : goal.returns
returns g c = λ one at.
    let x = c.index-solved-place.result in
    let is : x ≡ one = c.index-solved-place.is ∙ get_or_from_slice_get c.args.solved.now c.args.place one x at in
    subst (λ (y : Solved). WritesOrStops (g.C.Sink.written c.args.cert.now) (g.C.Sink.written c.write_block.new.sink) (g.C.Sink.faults c.args.cert.now) (g.C.Sink.faults c.write_block.new.sink) c.write_block.result (text (block_lines c.args.index (block_of (claim_of c.args.names.now y))))) is
    (subst (λ (P : Problem). WritesOrStops (g.C.Sink.written c.args.cert.now) (g.C.Sink.written c.write_block.new.sink) (g.C.Sink.faults c.args.cert.now) (g.C.Sink.faults c.write_block.new.sink) c.write_block.result (text (block_lines c.args.index (block_of (claim c.args.names.now P x.entries x.answer))))) c.problem.ensures
    c.write_block.ensures)
