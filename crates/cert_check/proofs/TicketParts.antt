-- The tickets are those of the generators and of the pairs of entries.
-- An item has a ticket below the total exactly where it speaks of the generators and of the entries.
use Rattle.std.proofs.Common.{ℕ, ◌<◌, List, length}
use Rattle.entry_code.specs.declared.item.Item.{Item}
use Rattle.entry_code.specs.declared.item.Item.TheVariants.{Generator, Pair}
use Rattle.mora_law.specs.Tickets.{HasTicket, ticket_of, total}
use Rattle.mora_law.specs.Legal.{IsItemOf}
use Rattle.mora_law.proofs.Tickets.{ticket_below, item_below}

module _ (gens entries : ℕ) (Q : Item → Type 0) where
  -- Q holds of each ticket below the total
  abbrev pub OfTickets : Type 0
  OfTickets = (item : Item) → HasTicket gens item → ticket_of gens item < total gens entries → Q item

  -- where it holds of the generators and of the pairs it holds of all tickets
  pub tickets_from : ((g : ℕ) → g < gens → Q (Generator g)) → ((j : ℕ) → j < entries → (i : ℕ) → i < j → Q (Pair i j)) → OfTickets
  tickets_from gs ps x t l = at x (item_below gens entries x t l)
    where
      at : (x : Item) → IsItemOf gens entries x → Q x
      at (Generator g) f = gs g f
      at (Pair i j) f = ps j f.1 i f.0

  -- and the other way round
  pub generators_of_tickets : OfTickets → (g : ℕ) → g < gens → Q (Generator g)
  generators_of_tickets h g l = h (Generator g) l (ticket_below _ _ (Generator g) l)

  -- So is each pair of entries.
  pub pairs_of_tickets : OfTickets → (j : ℕ) → j < entries → (i : ℕ) → i < j → Q (Pair i j)
  pairs_of_tickets h j l i m = h (Pair i j) m (ticket_below _ _ (Pair i j) (m, l))
