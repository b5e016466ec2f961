-- How a loop that reads items ends: an item is refused, or it stops where no item begins.
-- By induction on its turns, of which there are no fewer than bytes are left; what holds before each turn is kept by each item.
use Rattle.std.proofs.Common.{◌≡◌, ℕ, zero, suc, ◌≤◌, ◌<◌, Bool, true, false, cond, Result, Ok, Err, refl, sym, ap, ◌∙◌, ◌⊎◌, inl, inr, arith}
use Rattle.script_grammar.specs.declared.refusal.Refusal.{Refusal}
use Rattle.script_grammar.specs.Tokens.{Token, Place}
use Rattle.script_grammar.specs.Steps.{◌>>=◌}
use Rattle.script_grammar.specs.Places.{Placed}
use Rattle.script_grammar.proofs.LoopsByTokens.{IsLoop}

-- the end of the loop: what was read so far, and the place where an item is refused or the loop stops
pub record LoopEnds (S E A : Type 0) (test : S → Token → Bool) (item : S → Place → Result (E × Place) Refusal) (stop : S → Place → Result (A × Place) Refusal) (Kept : S → Place → Type 0) (r : Result (A × Place) Refusal) : Type 0 where
  pub so_far : S
  pub place : Place
  pub placed : Placed place
  pub kept : Kept so_far place
  pub ended : ((test so_far place.token ≡ true) × (f : Refusal) × (item so_far place ≡ Err f) × (r ≡ Err f)) ⊎ ((test so_far place.token ≡ false) × (stop so_far place ≡ r))

module _ (S E A : Type 0) (test : S → Token → Bool) (item : S → Place → Result (E × Place) Refusal) (add : S → E → S) (stop : S → Place → Result (A × Place) Refusal) (loop : ℕ → S → Place → Result (A × Place) Refusal) (is : IsLoop S E A test item add stop loop)
    (Kept : S → Place → Type 0)
    (keeps : (y : S) (t : Place) (e : E) (u : Place) → Kept y t → Placed t → test y t.token ≡ true → item y t ≡ Ok (e, u) → (u.left < t.left) × Placed u × Kept (add y e) u) where
  -- A loop with enough turns ends so, whatever it gives.
  pub loop_ends : (n : ℕ) (y : S) (t : Place) (r : Result (A × Place) Refusal) → t.left ≤ n → Placed t → Kept y t → loop n y t ≡ r → LoopEnds S E A test item stop Kept r
  loop_ends zero y t r le placed kept e =
      let over = is.over y t.token (placed.ends (omega arith)) in
      record { so_far = y; place = t; placed = placed; kept = kept; ended = inr (over, sym (is.base y t over) ∙ e) }
  loop_ends (suc n) y t r le placed kept e = by_test (test y t.token) refl (item y t) refl (λ x u few there k same. loop_ends n x u r (omega (arith, few)) there k same)
    where
      by_test : (b : Bool) → test y t.token ≡ b → (i : Result (E × Place) Refusal) → item y t ≡ i
          → ((x : S) (u : Place) → u.left < t.left → Placed u → Kept x u → loop n x u ≡ r → LoopEnds S E A test item stop Kept r) → LoopEnds S E A test item stop Kept r
      by_test false h i was on =
          let here : stop y t ≡ loop (suc n) y t = sym (is.step n y t ∙ ap (λ (b : Bool). cond b (item y t >>= λ x. loop n (add y x.0) x.1) (stop y t)) h) in
          record { so_far = y; place = t; placed = placed; kept = kept; ended = inr (h, here ∙ e) }
      by_test true h (Err f) was on =
          let here : loop (suc n) y t ≡ Err f =
          is.step n y t ∙ ap (λ (b : Bool). cond b (item y t >>= λ x. loop n (add y x.0) x.1) (stop y t)) h ∙ ap (λ (x : Result (E × Place) Refusal). x >>= λ z. loop n (add y z.0) z.1) was in
          record { so_far = y; place = t; placed = placed; kept = kept; ended = inl (h, f, was, sym e ∙ here) }
      by_test true h (Ok x) was on =
          let k = keeps y t x.0 x.1 kept placed h was in
          let here : loop (suc n) y t ≡ loop n (add y x.0) x.1 =
          is.step n y t ∙ ap (λ (b : Bool). cond b (item y t >>= λ z. loop n (add y z.0) z.1) (stop y t)) h ∙ ap (λ (i : Result (E × Place) Refusal). i >>= λ z. loop n (add y z.0) z.1) was in
          on (add y x.0) x.1 k.0 k.1 k.2 (sym here ∙ e)
