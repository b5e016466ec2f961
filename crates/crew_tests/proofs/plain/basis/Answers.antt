use Rattle.std.proofs.Common.{inl}
use Rattle.crew_tests.proofs.plain.basis.Goals as goal

pub reduced-requires-clause-settled : goal.reduced-requires-clause-settled
reduced-requires-clause-settled g c = λ κs lives item t l. inl (c.requires.settled item t l)
