use Rattle.std.proofs.Common.{◌≡◌, drop}
use Rattle.run_core.specs.Schedule.{find_seat}
use Rattle.run_core.proofs.machine.Machine.find.Given as goal

abbrev pub invariant-loop-i : goal.invariant-loop-i
invariant-loop-i l = find_seat l.name 0 l.self-inside.seats.items ≡ find_seat l.name l.i (drop l.i l.self-inside.seats.items)
