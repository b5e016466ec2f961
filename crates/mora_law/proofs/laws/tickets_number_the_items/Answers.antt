use Rattle.mora_law.proofs.Items.{item_is, item_back}
use Rattle.mora_law.proofs.Tickets.{ticket_below, item_below}
use Rattle.mora_law.proofs.laws.tickets_number_the_items.Goals as goal

pub returns-clause-item : goal.returns-clause-item
returns-clause-item c = item_is

pub returns-clause-ticket : goal.returns-clause-ticket
returns-clause-ticket c = item_back

pub returns-clause-total : goal.returns-clause-total
returns-clause-total c m entries item h = (item_below m entries item h, ticket_below m entries item)
