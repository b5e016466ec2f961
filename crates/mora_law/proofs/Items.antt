-- Items by ticket: each ticket has one item, and the tickets below the total of some entries are those of their items.
use Rattle.std.proofs.Common.{◌≡◌, ℕ, zero, suc, ◌+◌, ◌*◌, ◌-◌, ◌/◌, ◌<◌, ◌≤◌, ◌⊎◌, cond, ltb, length, refl, sym, ◌∙◌, ap, ap₂, subst, arith, inl, inr}
use Rattle.std.proofs.lemmas.Bool.{cases_lt, lt-ltb, le-ltb}
use Rattle.sparse_poly.specs.Ideal.{Problem}
use Rattle.entry_code.specs.declared.item.Item.{Item}
use Rattle.entry_code.specs.declared.item.Item.TheVariants.{Generator, Pair}
use Rattle.mora_law.specs.Legal.{IsItemOf}
use Rattle.mora_law.specs.Tickets.{HasTicket, ticket_of, total}
use Rattle.mora_law.proofs.Tickets.{triangle_more, triangle_le, item_below}
use Rattle.mora_law.specs.Items.{pair_from, item_by, item_of, item_for, tickets}

-- the item has ticket k
abbrev pub Has : ℕ → ℕ → Item → Type 0
Has m k item = HasTicket m item × (ticket_of m item ≡ k)

-- the pair r places after the first one of j
pair_is : (m left j r : ℕ) → r ≤ left → 1 ≤ j → Has m (m + j * (j - 1) / 2 + r) (pair_from left j r)
pair_is m zero j r l k = (omega arith, refl)
pair_is m (suc left) j r l k = go (cases_lt r j) (λ x. pair_is m left (suc j) (r - j) (omega arith) (omega arith))
  where
    go : (r < j) ⊎ (j ≤ r) → (j ≤ r → Has m (m + suc j * (suc j - 1) / 2 + (r - j)) (pair_from left (suc j) (r - j))) → Has m (m + j * (j - 1) / 2 + r) (cond (ltb r j) (Pair r j) (pair_from left (suc j) (r - j)))
    go (inl x) _ = subst (λ b. Has m (m + j * (j - 1) / 2 + r) (cond b (Pair r j) (pair_from left (suc j) (r - j)))) (sym (lt-ltb r j x)) (x, refl)
    go (inr x) rest =
        let h = rest x in
        let e : m + suc j * (suc j - 1) / 2 + (r - j) ≡ m + j * (j - 1) / 2 + r = omega (arith, triangle_more j) in
        subst (λ b. Has m (m + j * (j - 1) / 2 + r) (cond b (Pair r j) (pair_from left (suc j) (r - j)))) (sym (le-ltb r j x)) (h.0, h.1 ∙ e)

-- a ticket's item has it
pub item_is : (m k : ℕ) → Has m k (item_of m k)
unfolding item_of
item_is m k = go (cases_lt k m)
  where
    go : (k < m) ⊎ (m ≤ k) → Has m k (item_by m k (ltb k m))
    go (inl x) = subst (λ b. Has m k (item_by m k b)) (sym (lt-ltb k m x)) (x, refl)
    go (inr x) =
        let h = pair_is m (k - m) 1 (k - m) (omega arith) (omega arith) in
        let z : 1 * (1 - 1) / 2 ≡ 0 = refl in
        let e : m + 1 * (1 - 1) / 2 + (k - m) ≡ k = omega arith in
        subst (λ b. Has m k (item_by m k b)) (sym (le-ltb k m x)) (h.0, h.1 ∙ e)

-- no two items have one ticket
pub one_item : (m : ℕ) (a b : Item) → HasTicket m a → HasTicket m b → ticket_of m a ≡ ticket_of m b → a ≡ b
one_item m (Generator g) (Generator g') h h' e = ap Generator e
one_item m (Generator g) (Pair i j) h h' e = absurd (omega arith)
one_item m (Pair i j) (Generator g) h h' e = absurd (omega arith)
one_item m (Pair i j) (Pair i' j') h h' e = go (cases_lt j j') (cases_lt j' j)
  where
    go : (j < j') ⊎ (j' ≤ j) → (j' < j) ⊎ (j ≤ j') → Pair i j ≡ Pair i' j'
    go (inl x) _ = absurd (omega (arith, triangle_more j, triangle_le (j' - suc j) (suc j) j' (omega arith)))
    go (inr x) (inl y) = absurd (omega (arith, triangle_more j', triangle_le (j - suc j') (suc j') j (omega arith)))
    go (inr x) (inr y) =
        let z : j ≡ j' = omega arith in
        let w : j * (j - 1) / 2 ≡ j' * (j' - 1) / 2 = ap (λ n. n * (n - 1) / 2) z in
        ap₂ Pair (omega arith) z

-- the item of an item's ticket is that item
pub item_back : (m : ℕ) (item : Item) → HasTicket m item → item_of m (ticket_of m item) ≡ item
item_back m item h = let is = item_is m (ticket_of m item) in one_item m (item_of m (ticket_of m item)) item is.0 h is.1

-- more entries have no fewer tickets
pub tickets_up : (P : Problem) (j k : ℕ) → j ≤ k → tickets P j ≤ tickets P k
unfolding tickets
tickets_up P j k l = omega (arith, triangle_le (k - j) j k (omega arith))

-- their number as the criterion has it
pub tickets_is : (P : Problem) (n : ℕ) → tickets P n ≡ total (length P.gens) n
unfolding tickets
tickets_is P n = refl

-- the item of a ticket below the total of some entries is one of theirs
pub item_fits : (P : Problem) (k n : ℕ) → k < tickets P n → IsItemOf (length P.gens) n (item_for P k)
unfolding tickets
item_fits P k n l = let is = item_is (length P.gens) k in
    item_below (length P.gens) n (item_for P k) is.0 (subst (λ x. x < total (length P.gens) n) (sym is.1) l)
