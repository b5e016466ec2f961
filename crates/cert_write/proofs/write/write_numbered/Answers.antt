use Rattle.cert_write.proofs.Writing.{writes_then}
use Rattle.cert_write.proofs.write.write_numbered.Goals as goal

pub returns : goal.returns
returns g c = writes_then _ _ _ _ _ _ c.write_piece.result c.write_last.result _ _ _ c.in_ok-write_piece.was c.write_piece.ensures c.write_last.ensures
