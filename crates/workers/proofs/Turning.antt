-- What holds in a turn before a ticket is claimed, and what the turn says at its end.
-- The seat claims and learns: no look has found nothing, so the looks and what is known rise together.
use Rattle.std.proofs.Common.{◌≡◌, ℕ, suc, ◌+◌, ◌-◌, ◌*◌, ◌<◌, ◌≤◌, false, cond, length, refl, sym, ap, ◌∙◌, subst, arith, leb, le-leb}
use Rattle.mora_law.specs.Tickets.{total}
use Rattle.mora_law.proofs.Items.{tickets_up, tickets_is}
use Rattle.mora_law.proofs.Ring.{problem_is_admissible, ranks_count, count_is}
use Rattle.run_core.specs.Effects.{rested}
use Rattle.run_core.proofs.Learned.{few}
use Rattle.reducer_list.specs.View.{View, Setting, Sitting, Board, top, is_busy}
use Rattle.reducer_list.specs.Steps.{rests_if}
use Rattle.reducer_list.specs.Calls.{IsAt, tickets_of}
use Rattle.workers.specs.declared.runner.Runner.{Runner}
use Rattle.workers.specs.Running.{IsKnown, IsPlaced, IsShut, HasLearnt}
use Rattle.workers.proofs.Knowing.{placed_with, room_here}

-- ---- a look that finds nothing
-- it is set where there is no work and no ticket
pub rests_now : (v : View) → is_busy v ≡ false → tickets_of v.setting v.seat.known ≤ v.seat.seen → rests_if v ≡ rested v.seat
rests_now v shut none =
    ap (λ a. cond a v.seat (cond (leb (total (length v.setting.problem.gens) v.seat.known) v.seat.seen) (rested v.seat) v.seat)) shut
    ∙ ap (λ b. cond b (rested v.seat) v.seat) (le-leb (total (length v.setting.problem.gens) v.seat.known) v.seat.seen none)

-- ---- before a ticket is claimed
-- the runner of this turn's beginning, and as it is now
pub record Turns (b : Board) (f r : Runner) : Type 0 where
  pub placed : IsPlaced b r
  pub shut : IsShut r.seat.view
  pub numbers : r.seat.view.seat.numbers ≡ f.seat.view.seat.numbers
  pub claims : r.seat.view.seat.claims ≡ f.seat.view.seat.claims
  pub published : r.seat.view.seat.published ≡ f.seat.view.seat.published
  pub seen : f.seat.view.seat.seen ≤ r.seat.view.seat.seen
  pub known : f.seat.view.seat.known ≤ r.seat.view.seat.known
  pub looks : r.seat.view.looks + f.seat.view.seat.known ≡ f.seat.view.looks + r.seat.view.seat.known
  pub count : r.space.reductions ≡ f.space.reductions

-- how much may come before a claim: entries to learn, and tickets to see
abbrev pub turns_left : Board → Runner → ℕ
turns_left b r = (top b.setting - r.seat.view.seat.known) * suc (tickets_of b.setting (top b.setting)) + (tickets_of b.setting r.seat.view.seat.known - r.seat.view.seat.seen)

-- no more entries are known than there can be
pub known_top : (b : Board) (r : Runner) → IsPlaced b r → r.seat.view.seat.known ≤ top b.setting
known_top b r p =
    let k = p.equipped.known in
    let small = few r.seat.view.setting.problem (problem_is_admissible r.seat.view.setting.problem k.problem) r.seat.view.list k.legal in
    subst (λ (q : Setting). r.seat.view.seat.known ≤ top q) p.board.1
    (omega (arith, small, k.count, ranks_count r.seat.view.setting.problem, count_is r.seat.view.setting.problem))

module _ (b : Board) (f r : Runner) (t : Turns b f r) where
  -- nothing has changed
  pub turns_none : (s : Sitting) → IsAt b s → s.view ≡ r.seat.view → Turns b f (record r { seat = s })
  turns_none s at is = record {
    placed = placed_with b r (record r { seat = s }) t.placed at (ap (λ (u : View). u.seat.numbers) is) (ap (λ (u : View). u.setting) is)
        (subst (λ (u : View). IsKnown u r.space) (sym is) t.placed.equipped.known) refl (room_here b r t.placed);
    shut = subst IsShut (sym is) t.shut;
    numbers = ap (λ (u : View). u.seat.numbers) is ∙ t.numbers;
    claims = ap (λ (u : View). u.seat.claims) is ∙ t.claims;
    published = ap (λ (u : View). u.seat.published) is ∙ t.published;
    seen = subst (λ (u : View). f.seat.view.seat.seen ≤ u.seat.seen) (sym is) t.seen;
    known = subst (λ (u : View). f.seat.view.seat.known ≤ u.seat.known) (sym is) t.known;
    looks = subst (λ (u : View). u.looks + f.seat.view.seat.known ≡ f.seat.view.looks + u.seat.known) (sym is) t.looks;
    count = t.count;
  }

  -- once an entry is learnt less is left
  pub learnt_left : (r' : Runner) → IsPlaced b r' → HasLearnt r.seat.view r'.seat.view → turns_left b r' < turns_left b r
  learnt_left r' p learnt =
      let is = learnt.1 in
      let known : r'.seat.view.seat.known ≡ suc r.seat.view.seat.known = ap (λ (u : View). u.seat.known) is in
      let small = known_top b r' p in
      let cap : ℕ = tickets_of b.setting (top b.setting) in
      let fewer = tickets_up b.setting.problem r'.seat.view.seat.known (top b.setting) small in
      let tickets : tickets_of b.setting r'.seat.view.seat.known ≤ cap =
      omega (arith, fewer, tickets_is b.setting.problem r'.seat.view.seat.known, tickets_is b.setting.problem (top b.setting)) in
      let left : top b.setting - r.seat.view.seat.known ≡ suc (top b.setting - r'.seat.view.seat.known) = omega (arith, known, small) in
      let y : ℕ = (top b.setting - r'.seat.view.seat.known) * suc cap in
      let product : (top b.setting - r.seat.view.seat.known) * suc cap ≡ y + suc cap = ap (λ n. n * suc cap) left ∙ grind arith in
      omega (arith, product, tickets)
