-- The unit law in its own words: the units are the terms of u but 1, and the parts are sorted by entries.
-- Parts beyond degree d are left out, so that where f is 0 all cofactors are.
use Rattle.std.proofs.Common.{ℕ, zero, suc, ◌+◌, ◌*◌, ◌<◌, ◌≤◌, ◌≡◌, List, [], ◌∷◌, map, Bool, true, false, Option, Some, None, cond, eqb, ltb, refl, sym, ◌∙◌, ap, ap₂, subst, arith, ◌⊎◌, inl, inr}
use Rattle.std.proofs.lemmas.Bool.{cases_lt, eqb-true, eq-eqb, ne_eqb, ltb-true, ltb-false}
use Rattle.rank_algebra.specs.Ranks.{Ranks, IsRanks}
use Rattle.entry_code.specs.declared.term.Term.{Term}
use Rattle.entry_code.specs.declared.reading.Reading.{Reading}
use Rattle.rank_algebra.specs.Vector.{Same, Vector, nothing, shift, Agree}
use Rattle.rank_algebra.specs.Combination.{Part, part_value, value, Each, IsProper}
use Rattle.rank_algebra.specs.Division.{Basis, IsMonic, IsFrom}
use Rattle.mora_law.specs.Lead.{lead}
use Rattle.mora_law.specs.Run.{run_from, AreOrderly, last_known, last_corner}
use Rattle.mora_law.specs.UnitLaw.{constant_term, times_terms, sum_of, UnitLaw}
use Rattle.rank_algebra.proofs.Residues.{same_refl, same_of, same_trans, same_add, same_times}
use Rattle.rank_algebra.proofs.Linear.{agree_refl, shift_unit}
use Rattle.rank_algebra.proofs.First.{shift_lowest}
use Rattle.mora_law.proofs.Ties.{Tied}
use Rattle.mora_law.proofs.Choice.{lead_some, lead_none}
use Rattle.mora_law.proofs.Orderly.{last_known_le, last_corner_le}
use Rattle.mora_law.proofs.TiedRuns.{run_is_tied}

-- a part as a term of the polynomial by which its vector is multiplied
abbrev as_term : Part → Term
as_term t = record { rank = t.mono; coef = t.coef }

-- a part in front, where it is kept
abbrev keep_part : Part → List Term → Bool → List Term
keep_part t later true = as_term t ∷ later
keep_part t later false = later

-- the parts of the e-th polynomial, without those beyond degree D
abbrev of_entry : Ranks → Basis → ℕ → List Part → List Term
of_entry R B e [] = []
of_entry R B e (t ∷ ts) = keep_part t (of_entry R B e ts) (cond (eqb t.place e) (ltb (R.times t.mono (B.lead t.place)) R.n) false)

-- proper units have no constant term
no_constant : (ts : List Part) → Each IsProper ts → constant_term (map as_term ts) ≡ 0
no_constant [] h = refl
no_constant (t ∷ ts) h = ap₂ ◌+◌ (ap (λ b. cond b t.coef 0) (ne_eqb t.mono 0 (λ e. omega (arith, e, h.0.proper)))) (no_constant ts h.1)

-- a sum of multiples of one vector is its product with a polynomial
units_value : (R : Ranks) (f : Vector) (ts : List Part) (r : ℕ) → times_terms R (map as_term ts) f r ≡ value R (λ k. f) ts r
units_value R f [] r = refl
units_value R f (t ∷ ts) r = ap (λ z. t.coef * shift R t.mono f r + z) (units_value R f ts r)

module _ (R : Ranks) (L : IsRanks R) (B : Basis) (M : IsMonic R B) where
  -- one part more, at its own place
  sum_other : (t : Part) (a a' : ℕ → List Term) → ((e : ℕ) → (t.place ≡ e → ⊥) → a' e ≡ a e) → (left e r : ℕ) → t.place < e → sum_of R B.member a' left e r ≡ sum_of R B.member a left e r
  sum_other t a a' h zero e r l = refl
  sum_other t a a' h (suc left) e r l = ap₂ ◌+◌ (ap (λ ts. times_terms R ts (B.member e) r) (h e (λ z. omega (arith, z, l)))) (sum_other t a a' h left (suc e) r (omega arith))

  -- one part more at its own place adds its value
  sum_more : (t : Part) (a a' : ℕ → List Term) → ((e : ℕ) → (t.place ≡ e → ⊥) → a' e ≡ a e) → a' t.place ≡ as_term t ∷ a t.place → (left e r : ℕ) → e ≤ t.place → t.place < e + left → sum_of R B.member a' left e r ≡ part_value R B.member t r + sum_of R B.member a left e r
  sum_more t a a' h k zero e r l m = absurd (omega (arith, l, m))
  sum_more t a a' h k (suc left) e r l m = go (cases_lt e t.place) (λ n. sum_more t a a' h k left (suc e) r n (omega arith))
    where
      go : (e < t.place) ⊎ (t.place ≤ e) → (suc e ≤ t.place → sum_of R B.member a' left (suc e) r ≡ part_value R B.member t r + sum_of R B.member a left (suc e) r) → times_terms R (a' e) (B.member e) r + sum_of R B.member a' left (suc e) r ≡ part_value R B.member t r + (times_terms R (a e) (B.member e) r + sum_of R B.member a left (suc e) r)
      go (inl n) up = omega (arith, up n, ap (λ ts. times_terms R ts (B.member e) r) (h e (λ z. omega (arith, z, n))))
      go (inr n) up = let z : t.place ≡ e = omega arith in
          omega (arith, sum_other t a a' h left (suc e) r (omega arith), subst (λ y. times_terms R (a' y) (B.member y) r ≡ part_value R B.member t r + times_terms R (a y) (B.member y) r) z (ap (λ ts. times_terms R ts (B.member t.place) r) k))

  -- sums of the same cofactors are the same
  sum_same : (a a' : ℕ → List Term) → ((e : ℕ) → a' e ≡ a e) → (left e r : ℕ) → sum_of R B.member a' left e r ≡ sum_of R B.member a left e r
  sum_same a a' h zero e r = refl
  sum_same a a' h (suc left) e r = ap₂ ◌+◌ (ap (λ ts. times_terms R ts (B.member e) r) (h e)) (sum_same a a' h left (suc e) r)

  -- the sum of no cofactors is 0
  sum_none : (left e r : ℕ) → sum_of R B.member (λ e. []) left e r ≡ 0
  sum_none zero e r = refl
  sum_none (suc left) e r = omega (arith, sum_none left (suc e) r)

  module _ (known l : ℕ) (kn : known ≤ B.size) where
    -- so the parts are the sum over the entries
    sum_parts : (ts : List Part) → Each (IsFrom R B known l) ts → (r : ℕ) → r < R.n → Same R.p (value R B.member ts r) (sum_of R B.member (λ e. of_entry R B e ts) known 0 r)
    sum_parts [] h r m = same_of _ _ _ (sym (sum_none known 0 r))
    sum_parts (t ∷ ts) h r m = go (ltb (R.times t.mono (B.lead t.place)) R.n) refl (sum_parts ts h.1 r m)
      where
        a : ℕ → List Term
        a e = of_entry R B e ts

        a' : ℕ → List Term
        a' e = of_entry R B e (t ∷ ts)

        other : (e : ℕ) → (t.place ≡ e → ⊥) → a' e ≡ a e
        other e n = ap (λ b. keep_part t (of_entry R B e ts) (cond b (ltb (R.times t.mono (B.lead t.place)) R.n) false)) (ne_eqb t.place e n)

        go : (b : Bool) → ltb (R.times t.mono (B.lead t.place)) R.n ≡ b → Same R.p (value R B.member ts r) (sum_of R B.member a known 0 r) → Same R.p (part_value R B.member t r + value R B.member ts r) (sum_of R B.member a' known 0 r)
        go true e up = same_trans (same_add (same_refl R.p _) up) (same_of _ _ _ (sym (sum_more t a a' other
            (ap₂ (λ x y. keep_part t (of_entry R B t.place ts) (cond x y false)) (eq-eqb t.place t.place refl) e) known 0 r (omega arith) (omega (arith, h.0.earlier)))))
        go false e up = same_trans (same_add (same_times t.coef (shift_lowest R L t.mono (B.lead t.place) (B.member t.place) (M.lowest t.place (omega (arith, h.0.earlier, kn))) r m (omega (arith, ltb-false (R.times t.mono (B.lead t.place)) R.n e, m)))) up)
            (same_trans (same_of _ _ _ (omega arith)) (same_of _ _ _ (sym (sum_same a a' dropped known 0 r))))
          where
            dropped : (x : ℕ) → a' x ≡ a x
            dropped x = ap (λ b. keep_part t (of_entry R B x ts) (cond (eqb t.place x) b false)) e ∙ ap (keep_part t (of_entry R B x ts)) (same_false (eqb t.place x))
              where
                same_false : (b : Bool) → cond b false false ≡ false
                same_false true = refl
                same_false false = refl

    -- each product begins at l or later
    parts_low : (ts : List Part) → Each (IsFrom R B known l) ts → l ≤ R.n → (e : ℕ) → Agree R l (times_terms R (of_entry R B e ts) (B.member e)) nothing
    parts_low [] h n e = agree_refl R l nothing
    parts_low (t ∷ ts) h n e = go (cond (eqb t.place e) (ltb (R.times t.mono (B.lead t.place)) R.n) false) refl (parts_low ts h.1 n e)
      where
        is_e : (b c : Bool) → cond b c false ≡ true → b ≡ true
        is_e true c f = refl
        is_e false c f = absurd (cc f)

        go : (b : Bool) → cond (eqb t.place e) (ltb (R.times t.mono (B.lead t.place)) R.n) false ≡ b → Agree R l (times_terms R (of_entry R B e ts) (B.member e)) nothing → Agree R l (times_terms R (keep_part t (of_entry R B e ts) b) (B.member e)) nothing
        go false f up = up
        go true f up = record { at = λ r o. same_trans (same_add (same_times t.coef (subst (λ x. Same R.p (shift R t.mono (B.member x) r) 0) k (shift_lowest R L t.mono (B.lead t.place) (B.member t.place) (M.lowest t.place (omega (arith, h.0.earlier, kn))) r (omega arith) (omega (arith, h.0.from, o))))) (up.at r o)) (same_of _ _ _ (omega arith)) }
          where
            k : t.place ≡ e
            k = eqb-true t.place e (is_e (eqb t.place e) (ltb (R.times t.mono (B.lead t.place)) R.n) f)

    -- where l is past all ranks there are no parts
    parts_none : (ts : List Part) → Each (IsFrom R B known l) ts → R.n ≤ l → (e : ℕ) → of_entry R B e ts ≡ []
    parts_none [] h n e = refl
    parts_none (t ∷ ts) h n e = go (ltb (R.times t.mono (B.lead t.place)) R.n) refl (eqb t.place e) (parts_none ts h.1 n e)
      where
        go : (b : Bool) → ltb (R.times t.mono (B.lead t.place)) R.n ≡ b → (c : Bool) → of_entry R B e ts ≡ [] → keep_part t (of_entry R B e ts) (cond c (ltb (R.times t.mono (B.lead t.place)) R.n) false) ≡ []
        go true f c up = absurd (omega (arith, ltb-true (R.times t.mono (B.lead t.place)) R.n f, h.0.from, n))
        go false f true up = ap (keep_part t (of_entry R B e ts)) f ∙ up
        go false f false up = up

  module _ (f : Vector) (ds : List Reading) (o : AreOrderly B.size 0 R.n ds) where
    -- the number known at the end
    abbrev known : ℕ
    known = last_known 0 ds

    -- the last corner
    abbrev w : ℕ
    w = last_corner R.n ds

    -- what the run ends with
    abbrev h : Vector
    h = (run_from R B.member f ds).poly

    -- the law, where the start begins at l
    said : (l : ℕ) → l ≤ R.n → Agree R l f nothing → ((k : ℕ) → lead R f ≡ Some k → k ≡ l) → (Agree R R.n f nothing → R.n ≤ l) → UnitLaw R B.member known f w h
    said l ln a one beyond = record {
      u = record { rank = 0; coef = 1 } ∷ map as_term t.units;
      one = same_of _ _ _ (ap (λ x. 1 + x) (no_constant t.units t.proper));
      a = λ e. of_entry R B e t.parts;
      agrees = record { at = λ r m. same_trans (same_of _ _ _ (first r m)) (same_trans (t.is.at r m) (same_add (same_refl R.p (h r)) (sum_parts known l kn t.parts t.allowed r (within r m)))) };
      low = λ e k m z. subst (λ x. Agree R x (times_terms R (of_entry R B e t.parts) (B.member e)) nothing) (sym (one k z)) (parts_low known l kn t.parts t.allowed ln e);
      none = λ e m z. parts_none known l kn t.parts t.allowed (beyond z) e;
    }
      where
        t : Tied R B known l f w h
        t = (run_is_tied R L B M f l ln a ds o).0

        kn : known ≤ B.size
        kn = last_known_le B.size ds 0 R.n o

        within : (r : ℕ) → r < w → r < R.n
        within r m = omega (arith, m, last_corner_le B.size ds 0 R.n o)

        first : (r : ℕ) → r < w → 1 * shift R 0 f r + times_terms R (map as_term t.units) f r ≡ f r + value R (λ k. f) t.units r
        first r m = omega (arith, shift_unit R L f r (within r m), units_value R f t.units r)

    -- and so for each start
    pub unit_law : UnitLaw R B.member known f w h
    unit_law = go (lead R f) refl
      where
        go : (x : Option ℕ) → lead R f ≡ x → UnitLaw R B.member known f w h
        go None e = said R.n (omega arith) (lead_none R f e) (λ k z. absurd (cc (z, e))) (λ z. omega arith)
        go (Some l) e = let i = lead_some R f l e in said l (omega (arith, i.small)) i.low (λ k z. cc (z, e)) (λ z. absurd (i.some (z.at l i.small)))
