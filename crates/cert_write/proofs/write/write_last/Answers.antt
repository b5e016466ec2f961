use Rattle.cert_write.proofs.Writing.{writes_then}
use Rattle.cert_write.proofs.write.write_last.Goals as goal

pub returns : goal.returns
returns g c = writes_then _ _ _ _ _ _ c.write_number.result c.write_piece.result _ _ _ c.in_ok-write_number.was c.write_number.ensures c.write_piece.ensures
