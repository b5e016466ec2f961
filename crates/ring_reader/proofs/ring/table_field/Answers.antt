use Rattle.expression_reader.proofs.Table.{offered_there, offered_itself, offered_not}
use Rattle.ring_reader.proofs.ring.table_field.Goals as goal

pub returns-clause-there : goal.returns-clause-there
returns-clause-there c = offered_there _ c.of.result c.args.p c.of.ensures.some

pub returns-clause-offered : goal.returns-clause-offered
returns-clause-offered c = offered_itself c.of.result c.args.p c.of.ensures.some c.of.ensures.value

pub returns-clause-none : goal.returns-clause-none
returns-clause-none c = offered_not _ c.of.result c.args.p c.of.ensures.some
