use Rattle.std.proofs.Common.{string_bytes, codes}
use Rattle.cert_grammar.specs.Cert.{numbered, verdict_lines}
use Rattle.cert_grammar.specs.Certified.{verdict_of}
use Rattle.cert_write.specs.Claim.{corner_of}
use Rattle.cert_write.proofs.Parts.{lines_two}
use Rattle.cert_write.proofs.verdict.end_text.Goals as goal

pub returns : goal.returns
returns c =
    lines_two (string_bytes c.new-text.result) (string_bytes c.push_verdict.new.text) (string_bytes c.push_numbered.new.text)
    (verdict_lines c.args.ring.now (verdict_of c.args.answer.now (corner_of c.args.answer.now))) (numbered (codes "end") c.args.index)
    c.new-text.ensures.bytes c.in_ok-push_verdict.ensures (rw c.from.ensures at c.in_ok-push_numbered.ensures)
