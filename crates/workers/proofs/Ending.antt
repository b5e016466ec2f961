-- What a turn says at its end.
-- The ticket that was claimed is carried; or a look found nothing when no ticket was left.
use Rattle.std.proofs.Common.{◌≡◌, ℕ, suc, ◌+◌, ◌*◌, ◌^◌, ◌<◌, ◌≤◌, length, sym, ap, ◌∙◌, subst, arith}
use Rattle.std.proofs.Math.Nat.{mul-le-mul}
use Rattle.mora_law.proofs.Items.{tickets_up, tickets_is}
use Rattle.mora_law.proofs.Ring.{ranks_count, count_is}
use Rattle.run_core.specs.declared.workspace.Workspace.{Workspace}
use Rattle.run_core.specs.State.{Seat}
use Rattle.run_core.specs.Effects.{won, rested}
use Rattle.reducer_list.specs.View.{View, Setting, Board, top}
use Rattle.reducer_list.specs.Steps.{with_seat}
use Rattle.reducer_list.specs.Calls.{tickets_of, HasLooked}
use Rattle.workers.specs.Working.{HasBounds, HasRested, reduced_in}
use Rattle.workers.specs.declared.runner.Runner.{Runner}
use Rattle.workers.specs.Running.{IsKnown, IsPlaced, HasCarried}
use Rattle.workers.proofs.Lasting.{shut_now}
use Rattle.workers.proofs.Turning.{Turns, rests_now}

-- what reduced is few, as it is at most N for each ticket
pub count_small : (v : View) (s : Workspace) (n c : ℕ) → IsKnown v s → n ≤ top v.setting * c → c ≤ tickets_of v.setting (top v.setting) → n < 2 ^ 63
count_small v s n c k most claims =
    let P = v.setting.problem in
    let few : top v.setting ≤ 4096 = omega (arith, k.problem.monomials, ranks_count P, count_is P) in
    let low : c ≤ length P.gens + 8386560 = omega (arith, claims, tickets_up P (top v.setting) 4096 few, tickets_is P (top v.setting), tickets_is P 4096) in
    let product : top v.setting * c ≤ 4096 * c = mul-le-mul {n₁ = top v.setting} {m₁ = c} {n₂ = 4096} {m₂ = c} few (omega arith) in
    omega (arith, most, low, product, k.generators)

-- in a turn the setting stays
same_setting : (b : Board) (f r : Runner) → IsPlaced b f → Turns b f r → r.seat.view.setting ≡ f.seat.view.setting
same_setting b f r at t = t.placed.board.1 ∙ sym at.board.1

module _ (b : Board) (f r : Runner) (at : IsPlaced b f) (bounds : HasBounds f.seat.view f.space.reductions) (t : Turns b f r) (u : Runner)
    (is : u.seat.view ≡ with_seat r.seat.view (won r.seat.view.seat)) (few : u.seat.view.seat.claims ≤ tickets_of r.seat.view.setting (top r.seat.view.setting))
    (count : u.space.reductions ≡ r.space.reductions) where
  -- once a ticket is claimed few steps have reduced so far
  pub small : u.space.reductions < 2 ^ 63
  small =
      let c : u.seat.view.seat.claims ≡ suc f.seat.view.seat.claims = ap (λ (x : View). x.seat.claims) is ∙ ap suc t.claims in
      let n : ℕ = top f.seat.view.setting in
      let wide : n * f.seat.view.seat.claims ≤ n * u.seat.view.seat.claims = mul-le-mul {n₁ = n} {m₁ = f.seat.view.seat.claims} {n₂ = n} {m₂ = u.seat.view.seat.claims} (omega arith) (omega (arith, c)) in
      let most : u.space.reductions ≤ n * u.seat.view.seat.claims = omega (arith, count, t.count, bounds.most, wide) in
      count_small f.seat.view f.space u.space.reductions u.seat.view.seat.claims at.equipped.known most
      (subst (λ (p : Setting). u.seat.view.seat.claims ≤ tickets_of p (top p)) (same_setting b f r at t) few)

  -- and once it is carried the bounds hold again
  pub worked_bounds : (w : Runner) → HasCarried u w → HasBounds w.seat.view w.space.reductions
  worked_bounds w done =
      let n : ℕ = top f.seat.view.setting in
      let claims : w.seat.view.seat.claims ≡ suc f.seat.view.seat.claims = done.keeps.claims ∙ ap (λ (x : View). x.seat.claims) is ∙ ap suc t.claims in
      let set : w.seat.view.setting ≡ f.seat.view.setting = done.keeps.setting ∙ ap (λ (x : View). x.setting) is ∙ same_setting b f r at t in
      let top_u : top u.seat.view.setting ≡ n = ap top (ap (λ (x : View). x.setting) is ∙ same_setting b f r at t) in
      let d : w.space.reductions ≡ f.space.reductions + reduced_in w.seat.view = done.count ∙ ap (λ c. c + reduced_in w.seat.view) (count ∙ t.count) in
      let p : u.seat.view.seat.published ≡ f.seat.view.seat.published = ap (λ (x : View). x.seat.published) is ∙ t.published in
      let z : ℕ = n * f.seat.view.seat.claims in
      let product : n * suc f.seat.view.seat.claims ≡ z + n = grind arith in
      let most : w.space.reductions ≤ n * suc f.seat.view.seat.claims = omega (arith, d, bounds.most, done.few, top_u, product) in
      record {
        most = subst (λ m. w.space.reductions ≤ m * w.seat.view.seat.claims) (sym (ap top set)) (subst (λ c. w.space.reductions ≤ n * c) (sym claims) most);
        least = omega (arith, done.published, d, p, bounds.least);
      }

module _ (b : Board) (f r : Runner) (t : Turns b f r) (w : Runner) (none : tickets_of r.seat.view.setting r.seat.view.seat.known ≤ r.seat.view.seat.seen)
    (look : HasLooked r.seat.view w.seat.view) (count : w.space.reductions ≡ r.space.reductions) where
  -- the seat is as before but for the idle mark
  is_rested : w.seat.view.seat ≡ rested r.seat.view.seat
  is_rested = ap (λ (x : View). x.seat) look.1 ∙ rests_now r.seat.view (shut_now r.seat.view t.shut) none

  -- what a turn says that finds no ticket
  pub rested_now : HasRested f.seat.view w.seat.view f.space.reductions w.space.reductions
  rested_now =
      let s = is_rested in
      let l : w.seat.view.looks ≡ suc r.seat.view.looks = ap (λ (x : View). x.looks) look.1 in
      let seen : w.seat.view.seat.seen ≡ r.seat.view.seat.seen = ap (λ (x : Seat). x.seen) s in
      let set : w.seat.view.setting ≡ r.seat.view.setting = ap (λ (x : View). x.setting) look.1 in
      let known : w.seat.view.seat.known ≡ r.seat.view.seat.known = ap (λ (x : Seat). x.known) s in
      record {
        then_ = r.seat.view;
        load = look;
        tickets = look.3 none;
        this = omega (arith, t.looks, t.known);
        idle = ap (λ (x : Seat). x.idle) s;
        looks = omega (arith, l, t.looks, t.known);
        claims = ap (λ (x : Seat). x.claims) s ∙ t.claims;
        seen = omega (arith, seen, t.seen);
        known = seen ∙ look.3 none ∙ ap (λ (p : Setting). tickets_of p r.seat.view.seat.known) (sym set) ∙ ap (tickets_of w.seat.view.setting) (sym known);
        last = look.2;
        count = count ∙ t.count;
      }
