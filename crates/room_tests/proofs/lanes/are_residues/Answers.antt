use Rattle.std.proofs.Common.{rules, ◌<◌, IsTrue, All}
use Rattle.room_tests.proofs.lanes.are_residues.Goals as goal

pub returns : goal.returns
returns c = search rules
