use Rattle.cert_write.proofs.Parts.{modulo}
use Rattle.cert_write.proofs.lines.push_poly.Goals as goal

pub poly_text-requires : goal.poly_text-requires
poly_text-requires c = rw (c.letters.ensures, c.field.ensures.value) (modulo c.args.ring.now c.args.f.now c.requires)
