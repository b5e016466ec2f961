-- A ticket that was just claimed: its item, whether that is skipped, and the run that begins.
-- The item speaks of the generators and of what the seat knows, since the ticket is one of theirs.
use Rattle.std.proofs.Common.{◌≡◌, ℕ, ◌<◌, ◌≤◌, Bool, List, length, sym, ap, ap₂, ◌∙◌, subst, arith}
use Rattle.sparse_poly.specs.Ideal.{Problem}
use Rattle.entry_code.specs.declared.item.Item.{Item}
use Rattle.entry_code.specs.Entry.{Entry}
use Rattle.mora_law.specs.Tickets.{total}
use Rattle.mora_law.specs.Items.{item_of, item_for, tickets}
use Rattle.mora_law.specs.Legal.{IsItemOf, Legal}
use Rattle.mora_law.proofs.Items.{item_fits, tickets_up, tickets_is}
use Rattle.mora_law.proofs.Ring.{ranks_count, count_is}
use Rattle.run_core.specs.Hand.{is_skipped}
use Rattle.run_core.specs.Work.{Holds}
use Rattle.reducer_list.specs.View.{Board, top}
use Rattle.workers.specs.declared.runner.Runner.{Runner}
use Rattle.workers.specs.Running.{HasClaimed}
use Rattle.workers.proofs.Knowing.{problem_here}
use Rattle.workers.proofs.Turning.{known_top}

module _ (b : Board) (r : Runner) (k : ℕ) (h : HasClaimed b r k) (Q : Problem) (is : Q ≡ b.setting.problem) (n : ℕ) (count : n ≡ length Q.gens) where
  -- the problem of the seat
  abbrev pub P : Problem
  P = r.seat.view.setting.problem

  -- which the board told
  same : Q ≡ P
  same = problem_here b r h.placed Q is

  -- its generators
  gens : n ≡ length P.gens
  gens = count ∙ ap (λ (p : Problem). length p.gens) same

  -- the ticket is one of those of what is known
  within : k < tickets P (length r.seat.view.list)
  within = omega (arith, h.within, ap (tickets P) h.placed.equipped.known.count, tickets_is P r.seat.view.seat.known)

  -- and of all that may come
  pub item_small : k < total n 4096
  item_small =
      let known = h.placed.equipped.known in
      let low = known_top b r h.placed in
      let top_is : top b.setting ≡ top r.seat.view.setting = ap top (sym h.placed.board.1) in
      let few : length r.seat.view.list ≤ 4096 = omega (arith, low, top_is, known.count, known.problem.monomials, ranks_count P, count_is P) in
      subst (λ m. k < total m 4096) (sym gens) (omega (arith, within, tickets_up P (length r.seat.view.list) 4096 few, tickets_is P 4096))

  module _ (item : Item) (value : item ≡ item_of n k) where
    -- the item is that of the ticket
    pub item_here : item ≡ item_for P k
    item_here = value ∙ ap (λ m. item_of m k) gens

    -- and speaks of what is known
    pub fits_here : IsItemOf (length P.gens) (length r.seat.view.list) item
    fits_here = subst (IsItemOf (length P.gens) (length r.seat.view.list)) (sym item_here) (item_fits P k (length r.seat.view.list) within)

    -- the same of the problem that was told
    pub fits_told : IsItemOf (length Q.gens) (length r.seat.view.list) item
    fits_told = subst (λ (p : Problem). IsItemOf (length p.gens) (length r.seat.view.list) item) (sym same) fits_here

    -- so it may be asked whether it is skipped
    pub skips_with : (known : List Entry) × Holds Q known r.space × Legal Q known × IsItemOf (length Q.gens) (length known) item
    skips_with = (
      r.seat.view.list,
      subst (λ p. Holds p r.seat.view.list r.space) (sym same) h.placed.equipped.known.holds,
      subst (λ p. Legal p r.seat.view.list) (sym same) h.placed.equipped.known.legal,
      fits_told,
    )

    -- the answer
    pub skips_is : (t : Bool) → ((known : List Entry) → Holds Q known r.space → t ≡ is_skipped Q known item) → is_skipped P r.seat.view.list (item_for P k) ≡ t
    skips_is t told =
        ap₂ (λ p i. is_skipped p r.seat.view.list i) (sym same) (sym item_here)
        ∙ sym (told r.seat.view.list (subst (λ p. Holds p r.seat.view.list r.space) (sym same) h.placed.equipped.known.holds))
