-- What is left once all seats are one.
-- The sums over the first worker and the others are those over all, and the one seat has them.
use Rattle.std.proofs.Common.{◌≡◌, ℕ, ◌*◌, ◌≤◌, List, [], ◌∷◌, ◌++◌, length, map, refl, sym, ap, ◌∙◌, subst, arith}
use Rattle.std.specs.Prelude.{sum_by, All}
use Rattle.std.proofs.lemmas.List.Sums.{sum_by-append}
use Rattle.mora_law.specs.Legal.{Legal}
use Rattle.mora_law.specs.Tickets.{total}
use Rattle.run_core.specs.Idle.{SettlesAll}
use Rattle.run_core.specs.State.{steps_of}
use Rattle.reducer_list.specs.View.{View, Setting, Board, Begins, top}
use Rattle.reducer_list.specs.Calls.{tickets_of}
use Rattle.workers.specs.Working.{Working, CanTurn, IsCounted}
use Rattle.workers.specs.Manned.{AreCounts, KnowsOf}
use Rattle.workers.specs.Rounds.{HasGathered, claims_of, published_of}
use Rattle.workers.proofs.Gathering.{all_more, sum_last, counts_between}

-- a sum of values is a sum over what they are of
sum_map : (f : Working → ℕ) (ws : List Working) → sum_by (λ n. n) (map f ws) ≡ sum_by f ws
sum_map f [] = refl
sum_map f (w ∷ ws) =
    let a = sum_by-append (λ (n : ℕ). n) (f w ∷ []) (map f ws) in
    let b = sum_by-append f (w ∷ []) ws in
    let r = sum_map f ws in
    omega (arith, a, b, r)

module _ (b : Board) (all rest : List Working) (first : Working) (is : all ≡ rest ++ first ∷ []) (v w : View) (same : v ≡ first.seat.view) (at : w.setting ≡ b.setting)
    (g : HasGathered v rest w) where
  -- the list is legal
  pub finished_legal : Legal b.setting.problem w.list
  finished_legal = subst (λ (p : Setting). Legal p.problem w.list) at g.legal.legal

  -- it settles every ticket
  pub finished_settled : SettlesAll b.setting.problem w.list
  finished_settled = subst (λ (p : Setting). SettlesAll p.problem w.list) at g.settled

  -- each worker knew a beginning of it
  pub finished_whole : All (KnowsOf w.list) all
  finished_whole = all_more (KnowsOf w.list) all rest first is g.theirs (subst (λ (u : View). Begins u.list w.list) same g.mine)

  -- the counts of all
  pub finished_counts : All (CanTurn b) all → All IsCounted all → (counts : List ℕ) → counts ≡ map (λ u. u.reductions) all → AreCounts b.setting.problem w.list counts
  finished_counts ready counted counts are =
      let n : ℕ = top b.setting in
      let h = counts_between n all (λ k d less. (counted k d less, ap top (ready k d less).board.1)) in
      let sum : sum_by (λ x. x) counts ≡ sum_by (λ u. u.reductions) all = ap (sum_by (λ (x : ℕ). x)) are ∙ sum_map (λ u. u.reductions) all in
      let published : sum_by published_of all ≡ sum_by steps_of w.list =
      (let s = sum_last published_of all rest first is in let e = ap (λ (u : View). u.seat.published) same in omega (arith, s, e, g.published, g.steps)) in
      let tickets : w.seat.claims ≡ total (length b.setting.problem.gens) (length w.list) =
      g.all ∙ ap (λ (p : Setting). tickets_of p w.seat.known) at ∙ ap (tickets_of b.setting) g.legal.count in
      let claims : sum_by claims_of all ≡ total (length b.setting.problem.gens) (length w.list) =
      (let s = sum_last claims_of all rest first is in let e = ap (λ (u : View). u.seat.claims) same in (let z : sum_by claims_of all ≡ w.seat.claims = omega (arith, s, e, g.claims) in z ∙ tickets)) in
      record {
        least = omega (arith, h.0, sum, published);
        most = subst (λ m. sum_by (λ x. x) counts ≤ n * m) claims (subst (λ m. m ≤ n * sum_by claims_of all) (sym sum) h.1);
      }
