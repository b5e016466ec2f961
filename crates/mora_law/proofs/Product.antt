-- The S-pair of two entries with coprime leads is a combination of multiples of entries below the lcm of the leads.
-- Each entry is its lead and its tail; the two entries multiply to the same from both sides.
use Rattle.std.proofs.Common.{ℕ, zero, suc, ◌+◌, ◌*◌, ◌-◌, ◌<◌, ◌≤◌, ◌≡◌, List, [], ◌∷◌, map, cond, eqb, Option, Some, None, refl, sym, ◌∙◌, ap, ap₂, subst, arith, ◌⊎◌, inl, inr}
use Rattle.std.proofs.lemmas.Bool.{cases_lt, cases_eq, eq-eqb, ne_eqb}
use Rattle.rank_algebra.specs.Ranks.{Ranks, IsRanks}
use Rattle.rank_algebra.specs.Vector.{Same, Vector, nothing, add, scale, coef_at, shift, Agree, less}
use Rattle.rank_algebra.specs.Combination.{Part, value, Each, IsSpace}
use Rattle.rank_algebra.specs.Division.{Basis, IsMonic, pair, lcm_of, IsFrom}
use Rattle.rank_algebra.proofs.Residues.{same_refl, same_of, same_sym, same_trans, same_add, same_less}
use Rattle.rank_algebra.proofs.Linear.{agree_refl, agree_of, agree_sym, agree_trans, agree_add, agree_scale, agree_shift, quotient_eq, shift_add, shift_scale, shift_nothing, shift_shift, part_shift, value_shift, value_in}
use Rattle.rank_algebra.proofs.Echelon.{less_in}
use Rattle.mora_law.proofs.Criteria.{IsProduct}

-- the product of g with the parts as terms
abbrev pub act : Ranks → List Part → Vector → Vector
act R ts g = value R (λ k. g) ts

-- the monomial 1
abbrev pub unity : Vector
unity = λ r. cond (eqb r 0) 1 0

-- the terms of v from rank r on
abbrev pub parts_from : (left : ℕ) → (r : ℕ) → Vector → List Part
parts_from zero r v = []
parts_from (suc left) r v = record { coef = v r; mono = r; place = 0 } ∷ parts_from left (suc r) v

module _ (R : Ranks) (L : IsRanks R) where
  -- products go over sums
  act_add : (ts : List Part) (g h : Vector) (r : ℕ) → act R ts (add g h) r ≡ act R ts g r + act R ts h r
  act_add [] g h r = omega arith
  act_add (t ∷ ts) g h r = omega (arith, ap (λ z. t.coef * z) (shift_add R L t.mono g h r), act_add ts g h r)

  -- and over constant multiples
  act_scale : (c : ℕ) (ts : List Part) (g : Vector) (r : ℕ) → act R ts (scale c g) r ≡ c * act R ts g r
  act_scale c [] g r = omega arith
  act_scale c (t ∷ ts) g r = omega (arith, ap (λ z. t.coef * z) (shift_scale R L t.mono c g r), act_scale c ts g r)

  -- the product with 0 is 0
  act_nothing : (ts : List Part) (r : ℕ) → act R ts nothing r ≡ 0
  act_nothing [] r = refl
  act_nothing (t ∷ ts) r = omega (arith, ap (λ z. t.coef * z) (shift_nothing R L t.mono r), act_nothing ts r)

  -- products of what agrees agree
  act_agree : (ts : List Part) (g h : Vector) → Agree R R.n g h → Agree R R.n (act R ts g) (act R ts h)
  act_agree [] g h a = agree_refl R R.n nothing
  act_agree (t ∷ ts) g h a = agree_add (agree_scale t.coef (agree_shift R L R.n g h t.mono (omega arith) a)) (act_agree ts g h a)

  -- the product with shifted parts is that with the shifted vector
  moved : (a : ℕ) (ts : List Part) (g : Vector) (r : ℕ) → r < R.n → act R (map (part_shift R a) ts) g r ≡ act R ts (shift R a g) r
  moved a [] g r l = refl
  moved a (t ∷ ts) g r l = ap₂ ◌+◌ (ap (λ z. t.coef * z) (ap (λ z. shift R z g r) (L.comm a t.mono) ∙ sym (shift_shift R L t.mono a g r l))) (moved a ts g r l)

  -- and is the shifted product
  act_shift : (a : ℕ) (ts : List Part) (g : Vector) (r : ℕ) → r < R.n → act R ts (shift R a g) r ≡ shift R a (act R ts g) r
  act_shift a ts g r l = sym (moved a ts g r l) ∙ value_shift R L (λ k. g) a ts r l

  -- a product of polynomials is commutative
  pub act_comm : (ts us : List Part) (g : Vector) (r : ℕ) → r < R.n → act R ts (act R us g) r ≡ act R us (act R ts g) r
  act_comm ts [] g r l = act_nothing ts r
  act_comm ts (u ∷ us) g r l =
      act_add ts (scale u.coef (shift R u.mono g)) (act R us g) r
      ∙ ap₂ ◌+◌ (act_scale u.coef ts (shift R u.mono g) r ∙ ap (λ z. u.coef * z) (act_shift u.mono ts g r l)) (act_comm ts us g r l)

  -- a multiple of 1 is the monomial
  shift_unity : (a x : ℕ) → x < R.n → shift R a unity x ≡ cond (eqb a x) 1 0
  shift_unity a x l = go (R.quotient x a) refl (cases_eq a x)
    where
      unit_right : a < R.n → R.times a 0 ≡ a
      unit_right m = L.comm a 0 ∙ L.unit a m

      back : R.times a 0 ≡ x → a ≡ x
      back e = let z : R.times 0 a ≡ x = L.comm 0 a ∙ e in sym (unit_right (omega (arith, l, z, L.le 0 a (omega (arith, l, z))))) ∙ e

      go : (o : Option ℕ) → R.quotient x a ≡ o → (a ≡ x) ⊎ (a ≡ x → ⊥) → coef_at unity o ≡ cond (eqb a x) 1 0
      go None e (inl m) = let z : R.quotient x a ≡ Some 0 = quotient_eq R L x a 0 l (unit_right (omega (arith, l, m)) ∙ m) in absurd (cc (e, z))
      go None e (inr m) = sym (ap (λ b. cond b 1 0) (ne_eqb a x m))
      go (Some s) e (inl m) =
          let z : R.quotient x a ≡ Some 0 = quotient_eq R L x a 0 l (unit_right (omega (arith, l, m)) ∙ m) in
          let y : s ≡ 0 = cc (e, z) in
          ap unity y ∙ sym (ap (λ b. cond b 1 0) (eq-eqb a x m))
      go (Some s) e (inr m) = ap (λ b. cond b 1 0) (ne_eqb s 0 (λ z. m (back (ap (R.times a) (sym z) ∙ L.quotient_times x a s e)))) ∙ sym (ap (λ b. cond b 1 0) (ne_eqb a x m))

  -- the terms of later ranks have nothing at a rank
  before : (left r : ℕ) (v : Vector) (x : ℕ) → x < R.n → x < r → act R (parts_from left r v) unity x ≡ 0
  before zero r v x l m = refl
  before (suc left) r v x l m = omega (arith, before left (suc r) v x l (omega arith), ap (λ z. v r * z) (shift_unity r x l ∙ ap (λ b. cond b 1 0) (ne_eqb r x (λ e. omega (arith, e, m)))))

  -- at its own rank a term has the coefficient
  within : (left r : ℕ) (v : Vector) (x : ℕ) → x < R.n → r ≤ x → x < r + left → act R (parts_from left r v) unity x ≡ v x
  within zero r v x l m n = absurd (omega (arith, m, n))
  within (suc left) r v x l m n = go (cases_lt r x) (λ o. within left (suc r) v x l o (omega arith))
    where
      go : (r < x) ⊎ (x ≤ r) → (suc r ≤ x → act R (parts_from left (suc r) v) unity x ≡ v x) → v r * shift R r unity x + act R (parts_from left (suc r) v) unity x ≡ v x
      go (inl o) up = omega (arith, up o, ap (λ z. v r * z) (shift_unity r x l ∙ ap (λ b. cond b 1 0) (ne_eqb r x (λ e. omega (arith, e, o)))))
      go (inr o) up = let z : x ≡ r = omega arith in
          omega (arith, before left (suc r) v x l (omega arith), ap (λ z. v r * z) (shift_unity r x l ∙ ap (λ b. cond b 1 0) (eq-eqb r x (sym z))), ap v z)

  module _ (B : Basis) (M : IsMonic R B) where
    -- the terms of the i-th but the lead
    tail : ℕ → List Part
    tail i = parts_from (R.n - suc (B.lead i)) (suc (B.lead i)) (B.member i)

    -- the terms of entry i
    whole : ℕ → List Part
    whole i = record { coef = 1; mono = B.lead i; place = 0 } ∷ tail i

    -- the entry is the product of its terms with 1
    spelled : (i : ℕ) → i < B.size → Agree R R.n (B.member i) (act R (whole i) unity)
    unfolding whole tail
    spelled i l = record { at = λ x o. go x o (cases_lt x (B.lead i)) (cases_lt (B.lead i) x) }
      where
        lead_part : (x : ℕ) → x < R.n → shift R (B.lead i) unity x ≡ cond (eqb (B.lead i) x) 1 0
        lead_part x o = shift_unity (B.lead i) x o

        go : (x : ℕ) → x < R.n → (x < B.lead i) ⊎ (B.lead i ≤ x) → (B.lead i < x) ⊎ (x ≤ B.lead i) → Same R.p (B.member i x) (1 * shift R (B.lead i) unity x + act R (tail i) unity x)
        go x o (inl m) c = same_trans ((M.lowest i l).at x m) (same_of _ _ _ (omega (
          arith,
          lead_part x o ∙ ap (λ b. cond b 1 0) (ne_eqb (B.lead i) x (λ e. omega (arith, e, m))),
          before (R.n - suc (B.lead i)) (suc (B.lead i)) (B.member i) x o (omega arith),
        )))
        go x o (inr m) (inl n) = same_of _ _ _ (omega (
          arith,
          lead_part x o ∙ ap (λ b. cond b 1 0) (ne_eqb (B.lead i) x (λ e. omega (arith, e, n))),
          within (R.n - suc (B.lead i)) (suc (B.lead i)) (B.member i) x o n (omega arith),
        ))
        go x o (inr m) (inr n) = let z : B.lead i ≡ x = omega arith in same_trans (subst (λ y. Same R.p (B.member i y) 1) z (M.one i l)) (same_of _ _ _ (omega (
          arith,
          lead_part x o ∙ ap (λ b. cond b 1 0) (eq-eqb (B.lead i) x z),
          before (R.n - suc (B.lead i)) (suc (B.lead i)) (B.member i) x o (omega arith),
        )))

    -- parts of the tail begin past the lead
    record Past (l : ℕ) (t : Part) : Type 0 where
      pub past : l < t.mono

    -- the terms from a rank on come after any lesser rank
    parts_past : (left r l : ℕ) (v : Vector) → l < r → Each (Past l) (parts_from left r v)
    parts_past zero r l v m = tt
    parts_past (suc left) r l v m = (record { past = m }, parts_past left (suc r) l v (omega arith))

    -- from two equal sums the difference of two summands is that of the others
    balance : (p a t b s : ℕ) → 0 < p → Same p (b + s) (a + t) → Same p (b + (p - 1) * 1 * a) (t + (p - 1) * 1 * s)
    balance p a t b s h e =
        same_trans (same_sym (same_trans (same_add (same_refl p (b + (p - 1) * a)) (same_less p s h)) (same_of p _ _ (omega arith))))
        (same_trans (same_of p _ (b + s + ((p - 1) * a + (p - 1) * s)) (omega arith))
        (same_trans (same_add e (same_refl p _))
        (same_trans (same_of p _ (t + (p - 1) * s + (a + (p - 1) * a)) (omega arith))
        (same_trans (same_add (same_refl p (t + (p - 1) * s)) (same_less p a h)) (same_of p _ _ (omega arith))))))

    module _ (i j : ℕ) (il : i < B.size) (jl : j < B.size) (coprime : IsProduct R B i j) (small : lcm_of R B i j < R.n)
        (S : Vector → Type 0) (I : IsSpace R S) (mem : (t : Part) → IsFrom R B B.size (suc (lcm_of R B i j)) t → S (shift R t.mono (B.member t.place))) where
      -- the lcm of coprime leads is their product
      is_product : R.times (B.lead i) (B.lead j) ≡ lcm_of R B i j
      is_product = ap (R.times (B.lead i)) (sym coprime.left)

      -- multiples of a lead by later monomials come after the lcm
      past_lcm : (x y k : ℕ) → R.times y x ≡ lcm_of R B i j → x < k → lcm_of R B i j < R.times k y
      past_lcm x y k e m = go (cases_lt (R.times y k) R.n)
        where
          go : (R.times y k < R.n) ⊎ (R.n ≤ R.times y k) → lcm_of R B i j < R.times k y
          go (inl n) = omega (arith, e, L.grows y x k m n, L.comm y k)
          go (inr n) = omega (arith, small, n, L.comm y k)

      -- so the products with a tail are in the space
      tail_in : (x y : ℕ) → y < B.size → R.times (B.lead y) (B.lead x) ≡ lcm_of R B i j → S (act R (tail x) (B.member y))
      unfolding tail
      tail_in x y yl e = value_in R L (λ k. B.member y) S I (Past (B.lead x)) (λ t h. mem (record { coef = 1; mono = t.mono; place = y }) (record { earlier = yl; from = past_lcm (B.lead x) (B.lead y) t.mono e h.past })) (tail x) (parts_past (R.n - suc (B.lead x)) (suc (B.lead x)) (B.lead x) (B.member x) (omega arith))

      -- the product of the two entries is the same from both sides
      crossed : Agree R R.n (act R (whole j) (B.member i)) (act R (whole i) (B.member j))
      crossed = agree_trans (act_agree (whole j) _ _ (spelled i il)) (agree_trans (agree_of R R.n _ _ (λ r l. act_comm (whole j) (whole i) unity r l)) (act_agree (whole i) _ _ (agree_sym (spelled j jl))))

      -- and the S-pair is in the space
      pub product_in : S (pair R B i j)
      unfolding whole
      product_in = I.alike _ _ same (less_in R S I 1 _ _ (tail_in j i il is_product) (tail_in i j jl (L.comm (B.lead j) (B.lead i) ∙ is_product)))
        where
          lefts : (x : ℕ) → shift R (R.cofactor (B.lead i) (B.lead j)) (B.member i) x ≡ shift R (B.lead j) (B.member i) x
          lefts x = ap (λ z. shift R z (B.member i) x) coprime.left

          rights : (x : ℕ) → shift R (R.cofactor (B.lead j) (B.lead i)) (B.member j) x ≡ shift R (B.lead i) (B.member j) x
          rights x = ap (λ z. shift R z (B.member j) x) coprime.right

          same : Agree R R.n (pair R B i j) (less R 1 (act R (tail j) (B.member i)) (act R (tail i) (B.member j)))
          same = record {
            at = λ x l. same_trans (same_of _ _ _ (ap₂ (λ y z. y + (R.p - 1) * 1 * z) (lefts x) (rights x)))
                (balance R.p (shift R (B.lead i) (B.member j) x) (act R (tail i) (B.member j) x) (shift R (B.lead j) (B.member i) x) (act R (tail j) (B.member i) x) L.prime_pos
                (same_trans (same_of _ _ _ (omega arith)) (same_trans (crossed.at x l) (same_of _ _ _ (omega arith)))));
          }
