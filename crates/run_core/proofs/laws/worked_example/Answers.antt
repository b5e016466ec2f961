use Rattle.run_core.proofs.Examples.{race_entries, race_corner, race_ticket, nothing_to_publish, no_such_seat}
use Rattle.run_core.proofs.laws.worked_example.Goals as goal

pub returns-clause-entries : goal.returns-clause-entries
returns-clause-entries c = race_entries

pub returns-clause-corner : goal.returns-clause-corner
returns-clause-corner c = race_corner

pub returns-clause-ticket : goal.returns-clause-ticket
returns-clause-ticket c = race_ticket

pub returns-clause-nothing_to_publish : goal.returns-clause-nothing_to_publish
returns-clause-nothing_to_publish c = nothing_to_publish

pub returns-clause-no_such_seat : goal.returns-clause-no_such_seat
returns-clause-no_such_seat c = no_such_seat
