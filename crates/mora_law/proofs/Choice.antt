-- What a lead and a chosen reducer are: a lead is the least rank of a term, and a reducer is one of those offered, whose lead divides.
-- The searches are followed rank by rank and vector by vector.
use Rattle.std.proofs.Common.{ℕ, zero, suc, ◌+◌, ◌%◌, ◌<◌, ◌≡◌, List, [], ◌∷◌, ◌++◌, Bool, true, false, leb, eqb, Option, Some, None, refl, sym, ◌∙◌, ap, subst, arith}
use Rattle.std.specs.Prelude.{not}
use Rattle.std.proofs.Math.Nat
use Rattle.std.proofs.lemmas.Bool.{eqb-true, eqb-false}
use Rattle.rank_algebra.specs.Ranks.{Ranks, IsRanks}
use Rattle.rank_algebra.specs.Vector.{Same, Vector, nothing, Agree}
use Rattle.rank_algebra.specs.Ideal.{IsLead}
use Rattle.mora_law.specs.Lead.{is_none_at, lead, ecart}
use Rattle.mora_law.specs.Step.{Reducer, reducer_by, reducer_at, reducer, better_by, better, choose, firsts}
use Rattle.mora_law.proofs.Ties.{Every}
use Rattle.rank_algebra.proofs.Searches.{found, found_first, first_found, not_found}

-- a number without a residue stands for 0
pub none_same : (p x : ℕ) → eqb (x % p) 0 ≡ true → Same p x 0
none_same p x e = record { eq = eqb-true (x % p) 0 e ∙ sym (Nat.zero-mod p) }

-- one with a residue doesn't
pub some_same : (p x : ℕ) → eqb (x % p) 0 ≡ false → Same p x 0 → ⊥
some_same p x e h = eqb-false (x % p) 0 e (h.eq ∙ Nat.zero-mod p)

-- where the opposite fails it holds
not_not : (b : Bool) → not b ≡ false → b ≡ true
not_not true e = refl
not_not false e = absurd (cc e)

-- and where the opposite holds it fails
not_so : (b : Bool) → not b ≡ true → b ≡ false
not_so true e = absurd (cc e)
not_so false e = refl

-- the lead is the least rank of a term
pub lead_some : (R : Ranks) (v : Vector) (r : ℕ) → lead R v ≡ Some r → IsLead R v r
unfolding lead
lead_some R v r e = record {
  small = omega (arith, there.0);
  low = record { at = λ x l. none_same R.p (v x) (not_not (is_none_at R v x) (found_first (λ k. not (is_none_at R v k)) 0 R.n r e x (omega arith) l)) };
  some = some_same R.p (v r) (not_so (is_none_at R v r) there.1);
}
  where
    there : (r < 0 + R.n) × (not (is_none_at R v r) ≡ true)
    there = found (λ k. not (is_none_at R v k)) 0 R.n r e

-- a vector without a lead is 0
pub lead_none : (R : Ranks) (v : Vector) → lead R v ≡ None → Agree R R.n v nothing
unfolding lead
lead_none R v e = record { at = λ x l. none_same R.p (v x) (not_not (is_none_at R v x) (not_found (λ k. not (is_none_at R v k)) 0 R.n e x (omega arith) (omega arith))) }

-- the least rank of a term is the lead
pub lead_is : (R : Ranks) (v : Vector) (r : ℕ) → IsLead R v r → lead R v ≡ Some r
unfolding lead
lead_is R v r h = first_found (λ k. not (is_none_at R v k)) 0 R.n r (omega arith) (omega (arith, h.small)) (term (is_none_at R v r) refl) (λ j l m. no_term j m (is_none_at R v j) refl)
  where
    term : (b : Bool) → is_none_at R v r ≡ b → not (is_none_at R v r) ≡ true
    term true e = absurd (h.some (none_same R.p (v r) e))
    term false e = ap not e

    no_term : (j : ℕ) → j < r → (b : Bool) → is_none_at R v j ≡ b → not (is_none_at R v j) ≡ false
    no_term j m true e = ap not e
    no_term j m false e = absurd (some_same R.p (v j) e (h.low.at j m))

-- a chosen polynomial is one of those to choose from, and its lead divides r
pub record IsReducer (R : Ranks) (P : Vector → Type 0) (r : ℕ) (c : Reducer) : Type 0 where
  pub is : P c.poly
  pub low : lead R c.poly ≡ Some c.lead
  pub to : R.times c.cofactor c.lead ≡ r

-- what holds of each vector of two lists holds of both together
pub every_append : (P : Vector → Type 0) (gs hs : List Vector) → Every P gs → Every P hs → Every P (gs ++ hs)
every_append P [] hs h k = k
every_append P (g ∷ gs) hs h k = (h.0, every_append P gs hs h.1 k)

-- what follows for a vector follows for each
pub every_weaker : (P Q : Vector → Type 0) → ((g : Vector) → P g → Q g) → (gs : List Vector) → Every P gs → Every Q gs
every_weaker P Q up [] h = tt
every_weaker P Q up (g ∷ gs) h = (up g h.0, every_weaker P Q up gs h.1)

-- what holds of the first vectors holds of the list of them
pub every_first : (P : Vector → Type 0) (entries : ℕ → Vector) (left k known : ℕ) → k + left ≡ known → ((j : ℕ) → j < known → P (entries j)) → Every P (firsts left k entries)
every_first P entries zero k known e h = tt
every_first P entries (suc left) k known e h = (h k (omega arith), every_first P entries left (suc k) known (omega arith) h)

module _ (R : Ranks) (L : IsRanks R) (P : Vector → Type 0) (r : ℕ) where
  -- a vector as a reducer has the lead that divides
  reducer_is : (g : Vector) (c : Reducer) → P g → reducer R r g ≡ Some c → IsReducer R P r c
  reducer_is g c h e = go (lead R g) refl e
    where
      go2 : (low : ℕ) → lead R g ≡ Some low → (o : Option ℕ) → R.quotient r low ≡ o → reducer_by g low o ≡ Some c → IsReducer R P r c
      go2 low d None f k = absurd (cc k)
      go2 low d (Some q) f k = let z : record { poly = g; lead = low; cofactor = q } ≡ c = cc k in
          subst (IsReducer R P r) z (record { is = h; low = d; to = L.comm q low ∙ L.quotient_times r low q f })

      go : (o : Option ℕ) → lead R g ≡ o → reducer_at R r g o ≡ Some c → IsReducer R P r c
      go None d f = absurd (cc f)
      go (Some low) d f = go2 low d (R.quotient r low) refl f

  -- the better of two is one of them
  better_is : (a b : Option Reducer) (c : Reducer) → ((x : Reducer) → a ≡ Some x → IsReducer R P r x) → ((x : Reducer) → b ≡ Some x → IsReducer R P r x) → better R a b ≡ Some c → IsReducer R P r c
  better_is None b c h k e = k c e
  better_is (Some a) None c h k e = h c e
  better_is (Some a) (Some b) c h k e = go (leb (ecart R a.poly) (ecart R b.poly)) e
    where
      go : (t : Bool) → better_by a b t ≡ Some c → IsReducer R P r c
      go true f = h c f
      go false f = k c f

  -- what is chosen is one of those offered
  pub choose_is : (gs : List Vector) (c : Reducer) → Every P gs → choose R r gs ≡ Some c → IsReducer R P r c
  choose_is [] c h e = absurd (cc e)
  choose_is (g ∷ gs) c h e = better_is (reducer R r g) (choose R r gs) c (λ x f. reducer_is g x h.0 f) (λ x f. choose_is gs x h.1 f) e
