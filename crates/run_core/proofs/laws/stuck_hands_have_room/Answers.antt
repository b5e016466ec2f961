use Rattle.run_core.proofs.Room.{seat_room}
use Rattle.run_core.proofs.laws.stuck_hands_have_room.Goals as goal

pub returns : goal.returns
returns c = seat_room
