-- Eight monomials of degree 3: a run that begins with one of them is stuck at once over any entries of the others.
-- No one of them is a multiple of another, which is computed; so nothing is chosen, whatever the list. The last monomial is a multiple of none, so there is no corner.
use Rattle.std.proofs.Common.{◌≡◌, ◌≢◌, ℕ, zero, suc, ◌+◌, ◌-◌, ◌<◌, ◌≤◌, Bool, true, false, not, ◌&&◌, ◌||◌, ◌==◌, List, [], ◌∷◌, ◌++◌, length, Option, Some, None, is_some, refl, sym, ap, ◌∙◌, subst, arith}
use Rattle.std.specs.Prelude.{All, option_and_then, unwrap_or}
use Rattle.std.proofs.lemmas.Bool.Decides.{nat_tests}
use Rattle.std.specs.List.{range_with_len, list_all, find}
use Rattle.rank_algebra.specs.Ranks.{Ranks}
use Rattle.rank_algebra.specs.Vector.{Vector, cut_at}
use Rattle.rank_algebra.specs.Division.{Basis, first_lead, hit_at, divides_at, covers_from, corner_of}
use Rattle.rank_algebra.proofs.Searches.{none_found, each_passes}
use Rattle.entry_code.specs.declared.item.Item.{Item}
use Rattle.entry_code.specs.declared.item.Item.TheVariants.{Generator}
use Rattle.entry_code.specs.declared.reading.Reading.{Reading}
use Rattle.entry_code.specs.declared.term.Term.{Term}
use Rattle.entry_code.specs.Entry.{Entry, entry_at, no_entry}
use Rattle.entry_code.specs.Terms.{vector_of_terms}
use Rattle.mora_law.specs.declared.step_end.StepEnd.{StepEnd}
use Rattle.mora_law.specs.declared.step_end.StepEnd.TheVariants.{Stuck}
use Rattle.mora_law.specs.Ring.{ranks_of_problem, generators_of}
use Rattle.mora_law.specs.Lead.{lead}
use Rattle.mora_law.specs.Step.{Reducer, Run, reducer, better, choose, firsts, reduce, step_at}
use Rattle.mora_law.specs.Entries.{basis_of, corner, terms_of, monic, lead_rank}
use Rattle.mora_law.specs.Items.{item_for}
use Rattle.mora_law.specs.Start.{run}
use Rattle.mora_law.proofs.Computes.{computes}
use Rattle.run_core.specs.Hand.{end_of, is_open, is_skipped, is_zero, draft_terms, draft_of}
use Rattle.board_tests.specs.Cubics.{cubics, cubic_terms, one_reading, hand_with, cubic_entry, IsOther}

-- what holds of 0 to 7 holds of each number below 8
below_8 : (F : ℕ → Type 0) → F 0 → F 1 → F 2 → F 3 → F 4 → F 5 → F 6 → F 7 → (t : ℕ) → t < 8 → F t
below_8 F a b c d e f g h zero l = a
below_8 F a b c d e f g h (suc zero) l = b
below_8 F a b c d e f g h (suc (suc zero)) l = c
below_8 F a b c d e f g h (suc (suc (suc zero))) l = d
below_8 F a b c d e f g h (suc (suc (suc (suc zero)))) l = e
below_8 F a b c d e f g h (suc (suc (suc (suc (suc zero))))) l = f
below_8 F a b c d e f g h (suc (suc (suc (suc (suc (suc zero)))))) l = g
below_8 F a b c d e f g h (suc (suc (suc (suc (suc (suc (suc zero))))))) l = h
below_8 F a b c d e f g h (suc (suc (suc (suc (suc (suc (suc (suc n)))))))) l = absurd (omega (arith, l))

-- the ring by rank
abbrev R : Ranks
R = ranks_of_problem cubics

-- generator t below the corner 20
abbrev from : ℕ → Vector
from t = cut_at 20 ((generators_of cubics).member t)

-- there are 20 monomials
size : R.n ≡ 20
unfolding computes
size = refl

-- ticket t is generator t
item_is : (t : ℕ) → t < 8 → item_for cubics t ≡ Generator t
unfolding computes
item_is = below_8 (λ t. item_for cubics t ≡ Generator t) refl refl refl refl refl refl refl refl

-- its lead has rank 10 + t
lead_is : (t : ℕ) → t < 8 → lead R (from t) ≡ Some (10 + t)
unfolding computes
lead_is = below_8 (λ t. lead R (from t) ≡ Some (10 + t)) refl refl refl refl refl refl refl refl

-- which is its one term
terms_are : (t : ℕ) → t < 8 → terms_of R (monic R (from t)) ≡ cubic_terms t
unfolding computes
terms_are = below_8 (λ t. terms_of R (monic R (from t)) ≡ cubic_terms t) refl refl refl refl refl refl refl refl

-- no multiple of a lead is the last monomial
edge : (u : ℕ) → u < 8 → R.quotient 19 (10 + u) ≡ None
unfolding computes
edge = below_8 (λ u. R.quotient 19 (10 + u) ≡ None) refl refl refl refl refl refl refl refl

-- generator u doesn't reduce generator t, or it is the same
abbrev clear : ℕ → ℕ → Bool
clear t u = (t == u) || not (is_some (reducer R (10 + t) (vector_of_terms (cubic_terms u))))

-- so it is for each two
all_clear : (t : ℕ) → t < 8 → list_all (clear t) (range_with_len 0 8) ≡ true
unfolding computes
all_clear = below_8 (λ t. list_all (clear t) (range_with_len 0 8) ≡ true) refl refl refl refl refl refl refl refl

-- another generator doesn't reduce it
apart : (t u : ℕ) → t < 8 → u < 8 → u ≢ t → reducer R (10 + t) (vector_of_terms (cubic_terms u)) ≡ None
apart t u l m n = go (reducer R (10 + t) (vector_of_terms (cubic_terms u))) (t == u) refl (each_passes (clear t) 0 8 (all_clear t l) u (omega arith) (omega (arith, m)))
  where
    go : (o : Option Reducer) → (b : Bool) → (t == u) ≡ b → (b || not (is_some o)) ≡ true → o ≡ None
    go None b e z = refl
    go (Some x) false e z = absurd (cc z)
    go (Some x) true e z = absurd (n (grind (arith, nat_tests)))

-- where no vector is a reducer nothing is chosen
none_of : (S : Ranks) (r : ℕ) (vectors : ℕ → Vector) (left k : ℕ) → ((j : ℕ) → j < k + left → reducer S r (vectors j) ≡ None) → choose S r (firsts left k vectors ++ []) ≡ None
none_of S r vectors zero k h = refl
none_of S r vectors (suc left) k h = ap (λ a. better S a (choose S r (firsts left (suc k) vectors ++ []))) (h k (omega arith)) ∙ none_of S r vectors left (suc k) (λ j m. h j (omega (arith, m)))

-- where no lead divides there is no first one
no_first : (S : Ranks) (B : Basis) (r : ℕ) → ((k : ℕ) → k < B.size → S.quotient r (B.lead k) ≡ None) → first_lead S B r ≡ None
unfolding first_lead
no_first S B r h = ap (λ o. option_and_then (hit_at S B r) o) (none_found (divides_at S B r) 0 B.size (λ k l m. ap is_some (h k (omega (arith, m)))))

-- where the last monomial is no multiple of a lead there is no corner
no_corner : (S : Ranks) (B : Basis) (n : ℕ) → S.n ≡ suc n → first_lead S B n ≡ None → corner_of S B ≡ S.n
unfolding corner_of
no_corner S B n e none = ap (λ o. unwrap_or o S.n) (none_found (covers_from S B) 0 S.n (λ k l m. go k (omega (arith, m)) (covers_from S B k) refl))
  where
    go : (k : ℕ) → k < S.n → (b : Bool) → covers_from S B k ≡ b → covers_from S B k ≡ false
    go k m false f = f
    go k m true f = absurd (cc (each_passes (λ r. is_some (first_lead S B r)) k (S.n - k) f n (omega (arith, e, m)) (omega (arith, e, m)), none))

module _ (t : ℕ) (low : t < 8) (l : List Entry) (others : All (IsOther t) l) where
  -- these entries have no corner
  pub corner_is : corner cubics l ≡ 20
  corner_is = no_corner R (basis_of l) 19 size (no_first R (basis_of l) 19 (λ k m. let o = others k no_entry m in ap (λ ts. R.quotient 19 (lead_rank ts)) o.terms ∙ edge o.generator o.low)) ∙ size

  -- a run by one reading of some of these entries
  run_is : (k : ℕ) → k ≤ length l → run cubics l (Generator t) (one_reading k) ≡ record { end = Some Stuck; poly = from t; kept = [] }
  run_is k m = ap (λ o. step_at R (basis_of l).member k [] (from t) o) (lead_is t low) ∙ ap (λ o. reduce R [] (from t) (10 + t) o) (none_of R (10 + t) (basis_of l).member k 0 no)
    where
      no : (j : ℕ) → j < 0 + k → reducer R (10 + t) ((basis_of l).member j) ≡ None
      no j n = let o = others j no_entry (omega (arith, m, n)) in ap (λ ts. reducer R (10 + t) (vector_of_terms ts)) o.terms ∙ apart t o.generator low o.low o.other

  -- it is stuck
  pub stuck : (k : ℕ) → k ≤ length l → end_of cubics l t (one_reading k) ≡ Some Stuck
  unfolding end_of
  stuck k m = ap (λ it. (run cubics l it (one_reading k)).end) (item_is t low) ∙ ap (λ (r : Run). r.end) (run_is k m)

  -- without a reading it has no end
  pub begun : end_of cubics l t [] ≡ None
  unfolding end_of
  begun = refl

  -- it makes the generator
  pub draft_is : (k : ℕ) → k ≤ length l → draft_of cubics l (hand_with t (one_reading k)) ≡ cubic_entry t k
  unfolding draft_terms
  draft_is k m = λ i. record { item = item_is t low i; reads = one_reading k; terms = terms i }
    where
      terms : terms_of R (monic R (run cubics l (item_for cubics t) (one_reading k)).poly) ≡ cubic_terms t
      terms = ap (λ it. terms_of R (monic R (run cubics l it (one_reading k)).poly)) (item_is t low) ∙ (ap (λ (r : Run). terms_of R (monic R r.poly)) (run_is k m) ∙ terms_are t low)

  -- a hand whose run doesn't end with Zero is open
  pub opened : (reads : List Reading) (e : Option StepEnd) → end_of cubics l t reads ≡ e → is_zero e ≡ false → is_open cubics l (hand_with t reads) ≡ true
  unfolding is_open
  opened reads e f z = (λ i. not false && (not (is_skipped cubics l (item_is t low i)) && not (is_zero (f i)))) ∙ ap (λ b. not b) z
