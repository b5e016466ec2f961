-- Ranks that rise one after another rise altogether.
-- By induction on the list, each rank being above those before it.
use Rattle.std.proofs.Common.{◌≡◌, ℕ, zero, suc, ◌+◌, ◌<◌, ◌≤◌, List, [], ◌∷◌, length, get_or, All, Some, refl, ap, subst, arith}
use Rattle.std.specs.List.{slice_get}
use Rattle.std.proofs.lemmas.Option.{slice_get-get_or}
use Rattle.entry_code.specs.declared.term.Term.{Term}
use Rattle.entry_code.specs.Terms.{HasRisingRanks}
use Rattle.entry_code.specs.Words.{IsTerm, AreRising}

-- each term has a rank within the bounds and a coefficient
each_term : (p n least : ℕ) (ts : List Term) (i : ℕ) (t : Term) → AreRising p n least ts → slice_get ts i ≡ Some t → (least ≤ t.rank) × (t.rank < n) × IsTerm p t
each_term p n least [] i t h e = absurd (cc e)
each_term p n least (s ∷ ts) zero t h e =
    let z : s ≡ t = cc e in
    subst (λ x. (least ≤ x.rank) × (x.rank < n) × IsTerm p x) z (h.0, h.1, h.2)
each_term p n least (s ∷ ts) (suc i) t h e = let k = each_term p n (suc s.rank) ts i t h.3 e in (omega (arith, h.0, k.0), k.1, k.2)

-- a later term has a greater rank
later_term : (p n least : ℕ) (ts : List Term) (i j : ℕ) (t s : Term) → AreRising p n least ts → slice_get ts i ≡ Some t → slice_get ts j ≡ Some s → i < j → t.rank < s.rank
later_term p n least [] i j t s h e f l = absurd (cc e)
later_term p n least (x ∷ ts) i zero t s h e f l = absurd (omega arith)
later_term p n least (x ∷ ts) zero (suc j) t s h e f l =
    let z : x ≡ t = cc e in
    omega (arith, ap (λ (y : Term). y.rank) z, (each_term p n (suc x.rank) ts j s h.3 f).0)
later_term p n least (x ∷ ts) (suc i) (suc j) t s h e f l = later_term p n (suc x.rank) ts i j t s h.3 e f (omega arith)

-- so the ranks rise
pub ranks_rise : (p n : ℕ) (ts : List Term) → AreRising p n 0 ts → HasRisingRanks n ts
ranks_rise p n ts h = record {
  rising = λ i j t s l e f. later_term p n 0 ts i j t s h e f l;
  low = λ k d l. (each_term p n 0 ts k (get_or ts k d) h (slice_get-get_or ts k d l)).1;
}

-- and the coefficients are residues but not 0
pub residues_rise : (p n : ℕ) (ts : List Term) → AreRising p n 0 ts → All (IsTerm p) ts
residues_rise p n ts h = λ k d l. (each_term p n 0 ts k (get_or ts k d) h (slice_get-get_or ts k d l)).2

-- terms whose ranks rise do so one after another
pub one_by_one : (p n least : ℕ) (ts : List Term) → HasRisingRanks n ts → All (IsTerm p) ts → ((t : Term) → slice_get ts 0 ≡ Some t → least ≤ t.rank) → AreRising p n least ts
one_by_one p n least [] ranks residues first = tt
one_by_one p n least (t ∷ ts) ranks residues first = (
  first t refl,
  ranks.low 0 t (omega arith),
  residues 0 t (omega arith),
  one_by_one p n (suc t.rank) ts
      record { rising = (λ i j x y l e f. ranks.rising (suc i) (suc j) x y (omega arith) e f); low = (λ k d l. ranks.low (suc k) d (omega arith)) }
      (λ k d l. residues (suc k) d (omega arith))
      (λ s e. ranks.rising 0 1 t s (omega arith) refl e),
)

-- there are at most as many terms as ranks
pub few_terms : (p n least : ℕ) (ts : List Term) → least ≤ n → AreRising p n least ts → least + length ts ≤ n
few_terms p n least [] le h = omega (arith, le)
few_terms p n least (t ∷ ts) le h = omega (arith, h.0, few_terms p n (suc t.rank) ts (omega (arith, h.1)) h.3)
