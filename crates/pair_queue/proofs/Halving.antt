-- What halving the numbers that a pair's second number may be among keeps.
-- The pairs before `low` are no more than those asked for, the pairs before `high` are more; next to each other they leave one number.
use Rattle.std.proofs.Common.{◌≡◌, ℕ, suc, ◌+◌, ◌-◌, ◌*◌, ◌/◌, ◌<◌, ◌≤◌, sym, ◌∙◌, ap, subst, arith}
use Rattle.entry_code.specs.declared.item.Item.{Item}
use Rattle.mora_law.specs.Tickets.{HasTicket, ticket_of}
use Rattle.mora_law.specs.Items.{item_of}
use Rattle.mora_law.proofs.Tickets.{triangle_more}
use Rattle.mora_law.proofs.Items.{item_back}

-- the number looked for is at least `low` and below `high`
pub record IsBetween (before low high : ℕ) : Type 0 where
  pub some : 1 ≤ low
  pub apart : low < high
  pub most : high ≤ 4096
  pub from : low * (low - 1) / 2 ≤ before
  pub upto : before < high * (high - 1) / 2

-- where only `low` is left, fewer than `low` pairs of its row come before
pub upto_next : (before low high : ℕ) → IsBetween before low high → high ≤ low + 1 → before < low * (low - 1) / 2 + low
upto_next before low high h l =
    let e : high ≡ suc low = omega (arith, h.apart) in
    subst (λ x. before < x) (ap (λ x. x * (x - 1) / 2) e ∙ triangle_more low) h.upto

-- what has ticket k is the item of k
pub item_with : (m k : ℕ) (item : Item) → HasTicket m item → ticket_of m item ≡ k → item ≡ item_of m k
item_with m k item h e = sym (item_back m item h) ∙ ap (item_of m) e
