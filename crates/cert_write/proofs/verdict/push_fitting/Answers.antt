use Rattle.std.proofs.Common.{string_bytes, codes}
use Rattle.cert_grammar.specs.Words.{poly_word}
use Rattle.cert_grammar.specs.Cert.{counted, alone, corner_line, stair_line}
use Rattle.cert_write.specs.Claim.{last_of}
use Rattle.cert_write.proofs.Parts.{lines_four}
use Rattle.cert_write.proofs.verdict.push_fitting.Goals as goal

pub returns : goal.returns
returns c =
    let r = c.args.ring.now in
    let stair = c.args.stair.now in
    lines_four (string_bytes c.args.text.now) (string_bytes c.push_str.new.self) (string_bytes c.push_basis.new.text) (string_bytes c.push_corner.new.text) (string_bytes c.push_stair.new.text) (codes "fits\n")
    (counted (codes "basis") (alone (poly_word r)) c.args.basis.now) (corner_line r (last_of stair)) (stair_line r stair)
    c.in_ok-push_str.ensures.bytes c.in_ok-push_basis.ensures c.in_ok-push_corner.ensures c.in_ok-push_stair.ensures
