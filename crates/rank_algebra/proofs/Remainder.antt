-- The remainder of plain division: no term of it is a multiple of a lead, and what was taken away is a combination of the members.
-- Rank by rank up to the corner; from the corner on everything is a combination, since there is a multiple of a lead at each rank.
use Rattle.std.proofs.Common.{ℕ, zero, suc, ◌+◌, ◌*◌, ◌-◌, ◌<◌, ◌≤◌, ◌≡◌, Bool, true, false, cond, ltb, Option, Some, None, refl, sym, ap, subst, arith, ◌⊎◌, inl, inr}
use Rattle.std.proofs.lemmas.Bool.{cases_lt, lt-ltb, ltb-true}
use Rattle.rank_algebra.specs.Ranks.{Ranks, IsRanks}
use Rattle.rank_algebra.specs.Vector.{Same, Vector, nothing, shift, Agree, less, cut_at}
use Rattle.rank_algebra.specs.Combination.{Part, IsSpace, Span}
use Rattle.rank_algebra.specs.Division.{Basis, Hit, first_lead, remove_by, remove, remainder_from, remainder, IsMonic, IsMultiple, IsCover, corner_of}
use Rattle.rank_algebra.proofs.Residues.{same_refl, same_of, same_sym, same_trans, same_add, same_less, same_gone, same_minus_minus}
use Rattle.rank_algebra.proofs.Linear.{agree_of, span_space, span_part}
use Rattle.rank_algebra.proofs.Echelon.{echelon}
use Rattle.rank_algebra.proofs.First.{first_is, first_none}
use Rattle.rank_algebra.proofs.Division.{keeps_one, remove_past, multiple_lowest, multiple_one}
use Rattle.rank_algebra.proofs.Corner.{corner_is}

-- a cut agrees with the vector below it
pub cut_same : (R : Ranks) (w : ℕ) (v : Vector) → Agree R w (cut_at w v) v
cut_same R w v = record { at = λ r l. same_of _ _ _ (ap (λ b. cond b (v r) 0) (lt-ltb r w l)) }

-- a cut has no more terms
pub cut_nothing : (R : Ranks) (w x : ℕ) (v : Vector) → Agree R x v nothing → Agree R x (cut_at w v) nothing
cut_nothing R w x v h = record { at = λ r l. go r l (ltb r w) }
  where
    go : (r : ℕ) → r < x → (b : Bool) → Same R.p (cond b (v r) 0) 0
    go r l true = h.at r l
    go r l false = same_refl _ _

-- x less x, and y taken away twice
pub away : (p x y : ℕ) → 0 < p → Same p (x + (p - 1) * x + (p - 1) * ((p - 1) * y)) y
away p x y h = same_trans (same_add (same_less p x h) (same_minus_minus p y h)) (same_of _ _ _ (omega arith))

module _ (R : Ranks) (L : IsRanks R) (B : Basis) (M : IsMonic R B) (corner : ℕ) (C : IsCover R B corner) where
  -- the remainder has no term before the vector's first
  pub remainder_low : (k j m : ℕ) (v : Vector) → m ≤ R.n → j + k ≤ R.n → Agree R m v nothing → Agree R m (remainder_from R B k j v) nothing
  remainder_low zero j m v l n h = cut_nothing R j m v h
  remainder_low (suc k) j m v l n h = remainder_low k (suc j) m (remove R B j v) l (omega arith) (remove_past R L B M m j v l (omega arith) h)

  -- at a multiple of a lead nothing is left
  pub remainder_clean : (k j x : ℕ) (v : Vector) → j + k ≡ corner → x < R.n → IsMultiple R B x → (x < j → Same R.p (v x) 0) → Same R.p (remainder_from R B k j v x) 0
  remainder_clean zero j x v e l m h = go (ltb x j) refl
    where
      go : (b : Bool) → ltb x j ≡ b → Same R.p (cond b (v x) 0) 0
      go true f = h (ltb-true x j f)
      go false f = same_refl R.p 0
  remainder_clean (suc k) j x v e l m h = remainder_clean k (suc j) x (remove R B j v) (omega arith) l m (λ n. cleaned (cases_lt x j) n)
    where
      jn : j < R.n
      jn = omega (arith, C.within, e)

      cleaned : (x < j) ⊎ (j ≤ x) → x < suc j → Same R.p (remove R B j v x) 0
      cleaned (inl n) o = same_trans (keeps_one R L B M j x v n jn) (h n)
      cleaned (inr n) o = let z : j ≡ x = omega arith in subst (λ y. Same R.p (remove R B j v y) 0) z (here (subst (IsMultiple R B) (sym z) m) (first_lead R B j) refl)
        where
          here : IsMultiple R B j → (o : Option Hit) → first_lead R B j ≡ o → Same R.p (remove_by R B j v o j) 0
          here m None f = absurd (first_none R L B j jn f m)
          here m (Some y) f = let i = first_is R L B j y jn f in same_gone R.p (v j) _ L.prime_pos (multiple_one R L B M j y.place y.cofactor i.known jn i.is)

  -- what is taken away is a combination of the members
  pub remainder_diff : (S : Vector → Type 0) → IsSpace R S → ((t : Part) → t.place < B.size → S (shift R t.mono (B.member t.place))) → (k j : ℕ) (v : Vector) → j + k ≡ corner → S (less R 1 (remainder_from R B k j v) v)
  remainder_diff S I mem zero j v e = echelon R L S I corner
      (λ r m n. let c = C.covers r m n in record { poly = _; member = mem (record { coef = 1; mono = c.cofactor; place = c.place }) c.known; lowest = multiple_lowest R L B M r c.place c.cofactor c.known n c.is; one = multiple_one R L B M r c.place c.cofactor c.known n c.is })
      (less R 1 (cut_at j v) v) (record { at = λ r l. same_trans (same_of _ _ _ (ap (λ b. v r + (R.p - 1) * 1 * cond b (v r) 0) (lt-ltb r j (omega arith)))) (same_trans (same_of _ _ _ (omega arith)) (same_less R.p (v r) L.prime_pos)) })
  remainder_diff S I mem (suc k) j v e = go (remainder_diff S I mem k (suc j) (remove R B j v) (omega arith))
    where
      jn : j < R.n
      jn = omega (arith, C.within, e)

      step : S (less R 1 (remove R B j v) v)
      step = at (first_lead R B j) refl
        where
          at : (o : Option Hit) → first_lead R B j ≡ o → S (less R 1 (remove_by R B j v o) v)
          at None f = I.alike _ nothing (record { at = λ r l. same_trans (same_of _ _ _ (omega arith)) (same_less R.p (v r) L.prime_pos) }) I.empty
          at (Some y) f = I.alike _ _ (record { at = λ r l. taken (v r) (v j) (shift R y.cofactor (B.member y.place) r) })
              (I.multiple (v j) _ (mem (record { coef = 1; mono = y.cofactor; place = y.place }) (first_is R L B j y jn f).known))
            where
              taken : (x c b : ℕ) → Same R.p (x + (R.p - 1) * 1 * (x + (R.p - 1) * c * b)) (c * b)
              taken x c b = same_trans (same_of _ _ _ (omega arith)) (away R.p x (c * b) L.prime_pos)

      go : S (less R 1 (remainder_from R B k (suc j) (remove R B j v)) (remove R B j v)) → S (less R 1 (remainder_from R B (suc k) j v) v)
      go h = I.alike _ _ (record { at = λ r l. joined (v r) (remove R B j v r) (remainder_from R B k (suc j) (remove R B j v) r) }) (I.plus _ _ step h)
        where
          joined : (x y z : ℕ) → Same R.p (x + (R.p - 1) * 1 * z) (x + (R.p - 1) * 1 * y + (y + (R.p - 1) * 1 * z))
          joined x y z = same_sym (same_trans (same_of _ _ (x + (R.p - 1) * z + (y + (R.p - 1) * y)) (omega arith)) (same_trans (same_add (same_refl R.p _) (same_less R.p y L.prime_pos)) (same_of _ _ _ (omega arith))))

module _ (R : Ranks) (L : IsRanks R) (B : Basis) (M : IsMonic R B) (v : Vector) where
  -- no term of the remainder is a multiple of a lead
  pub remainder_reduced : (r : ℕ) → r < R.n → IsMultiple R B r → Same R.p (remainder R B (corner_of R B) v r) 0
  remainder_reduced r l m = remainder_clean R L B M (corner_of R B) (corner_is R L B) (corner_of R B) 0 r v (omega arith) l m (λ n. absurd (omega (arith, n)))

  -- what was taken away is a combination of the members
  pub remainder_difference : Span R B.member (λ t. t.place < B.size) (less R 1 (remainder R B (corner_of R B) v) v)
  remainder_difference = remainder_diff R L B M (corner_of R B) (corner_is R L B) (Span R B.member (λ t. t.place < B.size)) space multiple (corner_of R B) 0 v (omega arith)
    where
      space : IsSpace R (Span R B.member (λ t. t.place < B.size))
      space = span_space R L B.member (λ t. t.place < B.size) (λ c t k. k)

      multiple : (t : Part) → t.place < B.size → Span R B.member (λ t. t.place < B.size) (shift R t.mono (B.member t.place))
      multiple t l = space.alike _ _ (agree_of R R.n _ _ (λ r m. omega arith))
          (span_part R L B.member (λ t. t.place < B.size) (record { coef = 1; mono = t.mono; place = t.place }) l)
