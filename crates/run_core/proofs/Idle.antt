-- What holds once seats are idle.
-- A ticket that was claimed is settled or in an open hand, and an idle seat has no open hand.
use Rattle.std.proofs.Common.{◌≡◌, ◌≢◌, ℕ, ◌<◌, true, true≢false, List, [], ◌∷◌, length, refl, sym, ap, ◌∙◌, subst, ⊎_elim, arith, zero, suc}
use Rattle.std.specs.Prelude.{sum_by, if◌then◌else◌}
use Rattle.std.proofs.lemmas.Bool.{lt-ltb, le-ltb}
use Rattle.std.proofs.lemmas.List.Sums.{sum_by-append}
use mathlib.Core.Logic.{dite}
use mathlib.Core.Option.{some, some-injective, some-ne-none}
use native.Mathlib.Decide.{ℕ_discrete, dec_lt}
use lib.ListN.{get_elem?}
use Rattle.mora_law.specs.Tickets.{ticket_of, total}
use Rattle.mora_law.specs.Settled.{IsSettled}
use Rattle.mora_law.specs.Items.{tickets}
use Rattle.run_core.specs.State.{Seat, State, IsAt, known_by, times}
use Rattle.run_core.specs.Sound.{IsSound, IsHeld}
use Rattle.run_core.specs.Idle.{AllIdle, SettlesAll, IsKnown, HasAll, IsLast}
use Rattle.run_core.proofs.Places.{sum_two}
use Rattle.mora_law.proofs.Items.{item_back, tickets_is}
use Rattle.run_core.proofs.Numbers.{has_first}
use Rattle.run_core.proofs.Seats.{is_seat, some_number}
use Rattle.run_core.specs.Hand.{has_open}

module _ (s : State) (ok : IsSound s) (idle : AllIdle s) where
  -- the ticket word is the total
  no_more : s.ticket ≡ tickets s.problem (length s.entries)
  no_more = let w = ok.whole in ⊎_elim (λ busy. absurd (true≢false (sym (idle w.0 w.1 w.2 w.3) ∙ busy))) (λ all. all) w.5

  -- no ticket is in an open hand
  none_held : (k : ℕ) → IsHeld s.problem s.entries s.seats k → ⊥
  none_held k held =
      let mine = ok.seats held.place held.seat held.there in
      let busy : has_open s.problem (known_by s held.seat) held.seat.hand ≡ true = ap (has_open s.problem (known_by s held.seat)) held.has ∙ held.opened in
      let one = mine.alone busy in
      true≢false (sym busy ∙ mine.idle (idle held.place held.seat held.there (some_number held.seat.numbers (omega (arith, one)))))

  -- so every ticket is settled
  pub idle_settles : SettlesAll s.problem s.entries
  idle_settles item h l =
      let k : ℕ = ticket_of (length s.problem.gens) item in
      subst (IsSettled s.problem s.entries) (item_back (length s.problem.gens) item h)
      (⊎_elim (λ x. x) (λ held. absurd (none_held k held)) (ok.done k (omega (arith, l, no_more, tickets_is s.problem (length s.entries)))))

-- and some seat knows the whole list
pub idle_known : (s : State) → IsSound s → AllIdle s → IsKnown s
idle_known s ok idle = let w = ok.whole in (w.0, w.1, w.2, w.3, w.4)

-- no seat but the one with all numbers has a number
pub others_spent : (s : State) (i : ℕ) (v : Seat) → IsSound s → IsAt s i v → HasAll s v → (j : ℕ) (u : Seat) → j ≢ i → IsAt s j u → u.numbers ≡ []
others_spent s i v ok at has j u ne there = by_numbers u.numbers refl
  where
    by_numbers : (ns : List ℕ) → u.numbers ≡ ns → u.numbers ≡ []
    by_numbers [] e = e
    by_numbers (n ∷ ns) e =
        let mine : 0 < times n u.numbers = subst (λ (l : List ℕ). 0 < times n l) (sym e) (has_first n ns) in
        let two = sum_two (λ (y : Seat). times n y.numbers) s.seats j i u v ne there at in
        let sum = ok.numbers n in
        absurd (dite (dec_lt n s.workers)
        (λ less. let yours = has n less in let is : sum_by (λ (y : Seat). times n y.numbers) s.seats ≡ 1 = sum ∙ ap (λ b. if b then 1 else 0) (lt-ltb n s.workers less) in omega (arith, mine, two, yours, is))
        (λ more. let is : sum_by (λ (y : Seat). times n y.numbers) s.seats ≡ 0 = sum ∙ ap (λ b. if b then 1 else 0) (le-ltb n s.workers (omega arith)) in omega (arith, mine, two, is)))

-- a sum to which one seat alone adds
sum_alone : (f : Seat → ℕ) (l : List Seat) (i : ℕ) (v : Seat) → get_elem? l i ≡ some v → ((j : ℕ) (u : Seat) → j ≢ i → get_elem? l j ≡ some u → f u ≡ 0) → sum_by f l ≡ f v
sum_alone f [] i v at none = absurd (some-ne-none v (sym at))
sum_alone f (x ∷ xs) zero v at none = let is = ap f (some-injective x v at) in let z = sum_zero xs (λ j u e. none (suc j) u (λ h. omega arith) e) in omega (arith, sum_by-append f (x ∷ []) xs)
  where
    sum_zero : (l : List Seat) → ((j : ℕ) (u : Seat) → get_elem? l j ≡ some u → f u ≡ 0) → sum_by f l ≡ 0
    sum_zero [] none = refl
    sum_zero (x ∷ xs) none = let h = none 0 x refl in let t = sum_zero xs (λ j u e. none (suc j) u e) in omega (arith, sum_by-append f (x ∷ []) xs)
sum_alone f (x ∷ xs) (suc i) v at none = let h = none 0 x (λ e. omega arith) refl in let t = sum_alone f xs i v at (λ j u ne e. none (suc j) u (λ same. ne (omega arith)) e) in omega (arith, sum_by-append f (x ∷ []) xs)

module _ (s : State) (i : ℕ) (v : Seat) (ok : IsSound s) (at : IsAt s i v) (has : HasAll s v) (idle : v.idle ≡ true) where
  -- the seat with all numbers is the only one that has a number, so all are idle
  all_idle : AllIdle s
  all_idle j u there full = dite (ℕ_discrete j i)
      (λ same. ap (λ (z : Seat). z.idle) (is_seat s.seats i j u v there at same) ∙ idle)
      (λ ne. absurd (full (others_spent s i v ok at has j u ne there)))

  -- it knows the whole list
  known_last : v.known ≡ length s.entries
  known_last = let w = ok.whole in
      let here : w.0 ≡ i = dite (ℕ_discrete w.0 i) (λ e. e) (λ ne. absurd (w.3 (others_spent s i v ok at has w.0 w.1 ne w.2))) in
      ap (λ (z : Seat). z.known) (sym (is_seat s.seats i w.0 w.1 v w.2 at here)) ∙ w.4

  -- and its counts are those of all
  pub last_idle : IsLast s v
  last_idle = (
    known_last,
    sym (sum_alone (λ y. y.claims) s.seats i v at (λ j u ne e. ((ok.seats j u e).spent (others_spent s i v ok at has j u ne e)).1))
        ∙ ok.claims ∙ no_more s ok all_idle ∙ tickets_is s.problem (length s.entries) ∙ ap (total (length s.problem.gens)) (sym known_last),
    sym (sum_alone (λ y. y.published) s.seats i v at (λ j u ne e. ((ok.seats j u e).spent (others_spent s i v ok at has j u ne e)).2)) ∙ ok.published,
    idle_settles s ok all_idle,
  )
