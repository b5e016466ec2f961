use Rattle.std.proofs.Common.{string_bytes, codes, ◌∷◌, []}
use Rattle.cert_grammar.specs.Words.{poly_word}
use Rattle.cert_grammar.specs.Cert.{numbered, vars_line, counted, alone}
use Rattle.cert_write.proofs.Parts.{lines_three}
use Rattle.cert_write.proofs.front.front_text.Goals as goal

pub returns : goal.returns
returns c =
    let r = c.args.ring.now in
    lines_three (string_bytes c.new-text.result) (string_bytes c.push_ring.new.text) (string_bytes c.push_gens.new.text) (string_bytes c.push_numbered.new.text)
    (numbered (codes "block") c.args.index ∷ numbered (codes "p") r.p ∷ vars_line r.letters ∷ numbered (codes "D") r.d ∷ [])
    (counted (codes "gens") (alone (poly_word r)) c.args.gens.now)
    (numbered (codes "entries") c.args.entry_count)
    c.new-text.ensures.bytes c.in_ok-push_ring.ensures c.in_ok-push_gens.ensures c.in_ok-push_numbered.ensures
