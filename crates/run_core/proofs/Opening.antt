-- The opening state is sound.
-- Its one seat has each number below that of the workers once; everything else is empty.
use Rattle.std.proofs.Common.{◌≡◌, ◌≢◌, ℕ, zero, suc, ◌+◌, ◌<◌, ◌≤◌, true≢false, cond, ltb, List, [], ◌∷◌, length, take, Some, None, refl, sym, ap, ◌∙◌, subst, inl, ⊎_elim, arith, ne_eqb}
use Rattle.std.specs.Prelude.{if◌then◌else◌}
use Rattle.std.specs.List.{range_with_len}
use Rattle.std.proofs.lemmas.Bool.{lt-ltb, le-ltb, cases_lt}
use Rattle.std.proofs.lemmas.List.FromFn.{length-range_with_len}
use mathlib.Core.Logic.{dite}
use mathlib.Core.Option.{some, some-injective, some-ne-none}
use native.Mathlib.Decide.{ℕ_discrete}
use lib.ListN.{get_elem?}
use Rattle.sparse_poly.specs.Ideal.{Problem}
use Rattle.mora_law.specs.Ring.{ranks_of_problem, IsAdmissible}
use Rattle.mora_law.specs.Entries.{basis_of}
use Rattle.rank_algebra.proofs.Corner.{corner_is}
use Rattle.mora_law.proofs.Ring.{ranks_are}
use Rattle.run_core.specs.Hand.{Hand}
use Rattle.run_core.specs.State.{Seat, times, fresh, opening, count_of}
use Rattle.run_core.specs.Sound.{IsSeatSound, IsSound}
use Rattle.run_core.proofs.Numbers.{times_first, times_one}
use Rattle.run_core.proofs.Seats.{some_number}

-- a number that isn't x
times_other : (x n : ℕ) → x ≢ n → times x (n ∷ []) ≡ 0
times_other x n ne = ap (λ b. 0 + cond b 1 0) (ne_eqb x n ne)

-- no number before the first
times_low : (x a n : ℕ) → x < a → times x (range_with_len a n) ≡ 0
times_low x a zero l = refl
times_low x a (suc n) l = omega (arith, times_first x a (range_with_len (a + 1) n), times_other x a (λ e. omega arith), times_low x (a + 1) n (omega arith))

-- nor one after the last
times_high : (x a n : ℕ) → a + n ≤ x → times x (range_with_len a n) ≡ 0
times_high x a zero l = refl
times_high x a (suc n) l = omega (arith, times_first x a (range_with_len (a + 1) n), times_other x a (λ e. omega arith), times_high x (a + 1) n (omega arith))

-- and each between once
times_within : (x a n : ℕ) → a ≤ x → x < a + n → times x (range_with_len a n) ≡ 1
times_within x a zero l m = absurd (omega arith)
times_within x a (suc n) l m = go (ℕ_discrete x a) (λ l'. times_within x (a + 1) n l' (omega arith))
  where
    go : Dec (x ≡ a) → (a + 1 ≤ x → times x (range_with_len (a + 1) n) ≡ 1) → times x (a ∷ range_with_len (a + 1) n) ≡ 1
    go d rest = dite d
        (λ e. let one = subst (λ k. times k (a ∷ []) ≡ 1) (sym e) (times_one a) in omega (arith, one, times_first x a (range_with_len (a + 1) n), times_low x (a + 1) n (omega arith)))
        (λ ne. omega (arith, times_other x a ne, times_first x a (range_with_len (a + 1) n), rest (omega arith)))

-- each number below n is in the list once, and no other
pub times_range : (x n : ℕ) → times x (range_with_len 0 n) ≡ (if ltb x n then 1 else 0)
times_range x n = ⊎_elim
    (λ l. times_within x 0 n (omega arith) (omega arith) ∙ sym (ap (λ b. if b then 1 else 0) (lt-ltb x n l)))
    (λ l. times_high x 0 n (omega arith) ∙ sym (ap (λ b. if b then 1 else 0) (le-ltb x n l)))
    (cases_lt x n)

-- the only seat
only : (v w : Seat) (i : ℕ) → get_elem? (v ∷ []) i ≡ some w → v ≡ w
only v w zero e = some-injective v w e
only v w (suc i) e = absurd (some-ne-none w (sym e))

-- a seat that has done nothing
fresh_sound : (P : Problem) (word : ℕ) (ns : List ℕ) → IsSeatSound P word 0 0 [] (fresh ns)
fresh_sound P word ns = record {
  known = omega arith;
  seen = omega arith;
  hand = λ h e. absurd (cc);
  idle = λ _. refl;
  alone = λ e. absurd (true≢false (sym e));
  spent = λ _. (refl, refl, refl);
}

-- the state in which nothing has happened
pub opening_is_sound : (P : Problem) (workers : ℕ) → IsAdmissible P → 1 ≤ workers → IsSound (opening P workers)
opening_is_sound P workers ok l =
    let ns : List ℕ = range_with_len 0 workers in
    let size : length ns ≡ workers = length-range_with_len 0 workers in
    record {
      problem = ok;
      numbers = λ x. omega (arith, times_range x workers);
      sizes = omega arith;
      legal = λ i m. absurd (omega arith);
      covers = (corner_is (ranks_of_problem P) (ranks_are P ok) (basis_of [])).within;
      within = omega arith;
      tickets = omega arith;
      seats = λ i v e. subst (λ (y : Seat). IsSeatSound P (count_of P) 0 0 (take y.known []) y) (only (fresh ns) v i e) (fresh_sound P (count_of P) ns);
      apart = λ i j v w h k ei _ eh _ _. absurd (none (fresh ns) v h refl (only (fresh ns) v i ei) eh);
      done = λ k m. absurd (omega arith);
      whole = (0, fresh ns, refl, some_number ns (omega arith), refl, inl refl);
      claims = refl;
      published = refl;
    }
  where
    none : (v w : Seat) (h : Hand) → v.hand ≡ None → v ≡ w → w.hand ≡ Some h → ⊥
    none v w h a e b = absurd (cc)
