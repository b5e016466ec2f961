-- A space with a monic member at each rank from w on holds every vector without a term of a rank below w.
-- The terms are taken away one by one, from rank w on; what is left at the end is 0.
use Rattle.std.proofs.Common.{ℕ, zero, suc, ◌+◌, ◌*◌, ◌-◌, ◌<◌, ◌≤◌, ◌≡◌, cond, refl, ap, subst, arith, ◌⊎◌, inl, inr}
use Rattle.std.proofs.lemmas.Bool.{cases_lt, eq-eqb, ne_eqb}
use Rattle.rank_algebra.specs.Ranks.{Ranks, IsRanks}
use Rattle.rank_algebra.specs.Vector.{Same, Vector, nothing, monomial, add, scale, Agree, less}
use Rattle.rank_algebra.specs.Combination.{IsSpace}
use Rattle.rank_algebra.proofs.Residues.{same_of, same_sym, same_trans, same_add, same_times, same_back, same_gone}
use Rattle.rank_algebra.proofs.Linear.{agree_below, agree_of}

-- what was taken away and is added again gives the vector back
pub less_back : (R : Ranks) → IsRanks R → (w c : ℕ) (g v : Vector) → Agree R w v (add (less R c g v) (scale c g))
less_back R L w c g v = record { at = λ r l. same_sym (same_back R.p (v r) c (g r) L.prime_pos) }

-- less a multiple of a member is a member
pub less_in : (R : Ranks) → (S : Vector → Type 0) → IsSpace R S → (c : ℕ) (g v : Vector) → S g → S v → S (less R c g v)
less_in R S I c g v h k = I.plus _ _ k (I.multiple _ g h)

-- what is a member less a multiple of a member is one
pub in_from_less : (R : Ranks) → IsRanks R → (S : Vector → Type 0) → IsSpace R S → (c : ℕ) (g v : Vector) → S g → S (less R c g v) → S v
in_from_less R L S I c g v h k = I.alike _ _ (less_back R L R.n c g v) (I.plus _ _ k (I.multiple c g h))

-- taking away the term of rank r
pub less_lowest : (R : Ranks) → IsRanks R → (r : ℕ) (g v : Vector) → Agree R r g nothing → Same R.p (g r) 1 → Agree R r v nothing → Agree R (suc r) (less R (v r) g v) nothing
less_lowest R L r g v h k f = record { at = λ x l. go x l (cases_lt x r) }
  where
    go : (x : ℕ) → x < suc r → (x < r) ⊎ (r ≤ x) → Same R.p (v x + (R.p - 1) * v r * g x) 0
    go x l (inl m) = same_trans (same_add (f.at x m) (same_times ((R.p - 1) * v r) (h.at x m))) (same_of _ _ _ (omega arith))
    go x l (inr m) = let e : r ≡ x = omega arith in subst (λ z. Same R.p (v z + (R.p - 1) * v r * g z) 0) e (same_gone R.p (v r) (g r) L.prime_pos k)

-- a member of the space, monic at r
pub record Pivot (R : Ranks) (S : Vector → Type 0) (r : ℕ) : Type 0 where
  pub poly : Vector
  pub member : S poly
  pub lowest : Agree R r poly nothing
  pub one : Same R.p (poly r) 1

module _ (R : Ranks) (L : IsRanks R) (S : Vector → Type 0) (I : IsSpace R S) where
  -- the claim, by induction on the ranks that are left
  go_echelon : (k w : ℕ) → w + k ≡ R.n → ((r : ℕ) → w ≤ r → r < R.n → Pivot R S r) → (v : Vector) → Agree R w v nothing → S v
  go_echelon zero w e ps v f = I.alike v nothing (record { at = λ r l. f.at r (omega arith) }) I.empty
  go_echelon (suc k) w e ps v f =
      let b = ps w (omega arith) (omega arith) in
      in_from_less R L S I (v w) b.poly v b.member
      (go_echelon k (suc w) (omega arith) (λ r l m. ps r (omega arith) m) (less R (v w) b.poly v) (less_lowest R L w b.poly v b.lowest b.one f))

  -- a vector with terms from w on alone is in the space
  pub echelon : (w : ℕ) → ((r : ℕ) → w ≤ r → r < R.n → Pivot R S r) → (v : Vector) → Agree R w v nothing → S v
  echelon w ps v f = go (cases_lt w R.n)
    where
      go : (w < R.n) ⊎ (R.n ≤ w) → S v
      go (inl l) = go_echelon (R.n - w) w (omega arith) ps v f
      go (inr l) = I.alike v nothing (agree_below l f) I.empty

-- a monomial has no term before its own, and there the coefficient 1
pub monomial_low : (R : Ranks) (r : ℕ) → Agree R r (monomial r) nothing
monomial_low R r = agree_of R r _ _ (λ x l. ap (λ b. cond b 1 0) (ne_eqb x r (λ e. omega (arith, e, l))))

-- its own coefficient is 1
pub monomial_one : (r : ℕ) → monomial r r ≡ 1
monomial_one r = ap (λ b. cond b 1 0) (eq-eqb r r refl)
