-- A run stays tied to its start: an induction over the readings, with the intermediates tied too.
-- An entry that is subtracted is one part more; an intermediate brings its own units and parts, multiplied by a proper monomial.
use Rattle.std.proofs.Common.{ℕ, suc, ◌+◌, ◌*◌, ◌-◌, ◌<◌, ◌≤◌, ◌≡◌, List, [], ◌∷◌, ◌++◌, map, Bool, true, false, ltb, Option, Some, None, refl, sym, ◌∙◌, ap, subst, arith, ◌⊎◌, inl, inr, le_trans}
use Rattle.std.proofs.lemmas.Bool.{cases_lt}
use Rattle.rank_algebra.specs.Ranks.{Ranks, IsRanks}
use Rattle.entry_code.specs.declared.reading.Reading.{Reading}
use Rattle.rank_algebra.specs.Vector.{Same, Vector, nothing, add, shift, Agree, less, cut_at}
use Rattle.rank_algebra.specs.Combination.{Part, value, IsProper}
use Rattle.rank_algebra.specs.Division.{Basis, IsMonic, IsFrom}
use Rattle.rank_algebra.specs.Ideal.{IsLead}
use Rattle.mora_law.specs.Lead.{lead, ecart}
use Rattle.mora_law.specs.Step.{Reducer, choose, firsts, Run, keep, reduce, step_at, step}
use Rattle.mora_law.specs.declared.step_end.StepEnd.TheVariants.{Zero}
use Rattle.mora_law.specs.Run.{steps, begin, run_from, AreOrderly, last_known, last_corner}
use Rattle.rank_algebra.proofs.Residues.{same_refl, same_of, same_sym, same_trans, same_add, same_times, same_less, same_back}
use Rattle.rank_algebra.proofs.Linear.{agree_refl, agree_sym, agree_trans, agree_add, agree_below, agree_shift, shift_add, part_shift, part_scale, value_append, value_scale, value_shift, each_append, each_map, each_weaker, inverse_same}
use Rattle.rank_algebra.proofs.Remainder.{cut_same, cut_nothing}
use Rattle.rank_algebra.proofs.First.{shift_lowest, shift_at}
use Rattle.mora_law.proofs.Ties.{Tied, Every}
use Rattle.mora_law.proofs.Choice.{lead_some, lead_none, IsReducer, choose_is, every_append, every_weaker, every_first}

module _ (R : Ranks) (L : IsRanks R) (B : Basis) (f : Vector) (l : ℕ) where
  -- what is tied stays so for more entries and a lesser corner
  tied_weaker : (known known' w w' : ℕ) (h : Vector) → known ≤ known' → w' ≤ w → Tied R B known l f w h → Tied R B known' l f w' h
  tied_weaker known known' w w' h k m t = record {
    units = t.units;
    proper = t.proper;
    parts = t.parts;
    allowed = each_weaker (IsFrom R B known l) (IsFrom R B known' l) (λ x y. record { earlier = omega (arith, y.earlier); from = y.from }) t.parts t.allowed;
    is = agree_below m t.is;
  }

  -- and when it is cut
  tied_cut : (known w : ℕ) (h : Vector) → Tied R B known l f w h → Tied R B known l f w (cut_at w h)
  tied_cut known w h t = record {
    units = t.units;
    proper = t.proper;
    parts = t.parts;
    allowed = t.allowed;
    is = agree_trans t.is (agree_add (agree_sym (cut_same R w h)) (agree_refl R w _));
  }

  -- a multiple of an entry is subtracted
  tied_entry : (known w k q e : ℕ) (h : Vector) → k < known → l ≤ R.times q (B.lead k) → Tied R B known l f w h → Tied R B known l f w (less R e (shift R q (B.member k)) h)
  tied_entry known w k q e h m n t = record {
    units = t.units;
    proper = t.proper;
    parts = record { coef = e; mono = q; place = k } ∷ t.parts;
    allowed = (record { earlier = m; from = n }, t.allowed);
    is = record { at = λ r o. same_trans (t.is.at r o) (swap (h r) (shift R q (B.member k) r) (value R B.member t.parts r)) };
  }
    where
      swap : (x y z : ℕ) → Same R.p (x + z) (x + (R.p - 1) * e * y + (e * y + z))
      swap x y z = same_trans (same_add (same_sym (same_back R.p x e y L.prime_pos)) (same_refl R.p z)) (same_of _ _ _ (omega arith))

  -- parts stay from l on under multiples
  from_shift : (known q : ℕ) (t : Part) → l ≤ R.n → IsFrom R B known l t → IsFrom R B known l (part_shift R q t)
  from_shift known q t m h = record { earlier = h.earlier; from = subst (λ z. l ≤ z) (sym (L.assoc q t.mono (B.lead t.place))) (go (cases_lt (R.times q (R.times t.mono (B.lead t.place))) R.n)) }
    where
      go : (R.times q (R.times t.mono (B.lead t.place)) < R.n) ⊎ (R.n ≤ R.times q (R.times t.mono (B.lead t.place))) → l ≤ R.times q (R.times t.mono (B.lead t.place))
      go (inl n) = omega (arith, L.le q (R.times t.mono (B.lead t.place)) n, h.from)
      go (inr n) = omega (arith, m, n)

  -- and units proper
  proper_shift : (q : ℕ) (t : Part) → IsProper t → IsProper (part_shift R q t)
  proper_shift q t h = record { proper = go (cases_lt (R.times q t.mono) R.n) }
    where
      go : (R.times q t.mono < R.n) ⊎ (R.n ≤ R.times q t.mono) → 0 < R.times q t.mono
      go (inl n) = omega (arith, L.le q t.mono n, h.proper)
      go (inr n) = omega (arith, n, L.some)

  -- a proper multiple of an intermediate is subtracted
  tied_kept : (known w q e : ℕ) (h g : Vector) → w ≤ R.n → l ≤ R.n → 0 < q → Tied R B known l f w h → Tied R B known l f w g → Tied R B known l f w (less R e (shift R q g) h)
  tied_kept known w q e h g wn ln q0 t u = record {
    units = t.units ++ (record { coef = m; mono = q; place = 0 } ∷ times_m u.units);
    proper = each_append IsProper t.units _ t.proper (record { proper = q0 }, each_map IsProper IsProper (part_scale m) (λ x y. record { proper = y.proper }) (map (part_shift R q) u.units) (each_map IsProper IsProper (part_shift R q) (proper_shift q) u.units u.proper));
    parts = t.parts ++ times_m u.parts;
    allowed = each_append (IsFrom R B known l) t.parts _ t.allowed (each_map (IsFrom R B known l) (IsFrom R B known l) (part_scale m) (λ x y. record { earlier = y.earlier; from = y.from }) (map (part_shift R q) u.parts) (each_map (IsFrom R B known l) (IsFrom R B known l) (part_shift R q) (λ x y. from_shift known q x ln y) u.parts u.allowed));
    is = record { at = λ r o. same_trans (same_of _ _ _ (left r o)) (same_trans (same_add (t.is.at r o) (same_times m (moved.at r o))) (same_of _ _ _ (right r o))) };
  }
    where
      m : ℕ
      m = (R.p - 1) * e

      times_m : List Part → List Part
      times_m ts = map (part_scale m) (map (part_shift R q) ts)

      moved : Agree R w (shift R q (add f (value R (λ k. f) u.units))) (shift R q (add g (value R B.member u.parts)))
      moved = agree_shift R L w _ _ q wn u.is

      times_value : (entries : ℕ → Vector) (ts : List Part) (r : ℕ) → r < R.n → value R entries (times_m ts) r ≡ m * shift R q (value R entries ts) r
      times_value entries ts r o = value_scale R entries m (map (part_shift R q) ts) r ∙ ap (λ z. m * z) (value_shift R L entries q ts r o)

      left : (r : ℕ) → r < w → add f (value R (λ k. f) (t.units ++ (record { coef = m; mono = q; place = 0 } ∷ times_m u.units))) r ≡ add f (value R (λ k. f) t.units) r + m * shift R q (add f (value R (λ k. f) u.units)) r
      left r o = omega (arith, value_append R (λ k. f) t.units (record { coef = m; mono = q; place = 0 } ∷ times_m u.units) r, times_value (λ k. f) u.units r (omega arith), ap (λ z. m * z) (shift_add R L q f (value R (λ k. f) u.units) r))

      right : (r : ℕ) → r < w → add h (value R B.member t.parts) r + m * shift R q (add g (value R B.member u.parts)) r ≡ add (less R e (shift R q g) h) (value R B.member (t.parts ++ times_m u.parts)) r
      right r o = omega (arith, value_append R B.member t.parts (times_m u.parts) r, times_value B.member u.parts r (omega arith), ap (λ z. m * z) (shift_add R L q g (value R B.member u.parts) r))

module _ (R : Ranks) (B : Basis) (f : Vector) (l : ℕ) where
  -- an intermediate: it is tied, and h has no term as great as its lead
  pub record IsKept (known w : ℕ) (h g : Vector) : Type 0 where
    pub tied : Tied R B known l f w g
    pub low : ℕ
    pub is_low : lead R g ≡ Some low
    pub before : Agree R (suc low) h nothing

  -- the invariant: what is left is tied, begins at l or later, and so do the intermediates
  pub record Holds (known w : ℕ) (s : Run) : Type 0 where
    pub tied : Tied R B known l f w s.poly
    pub from : Agree R l s.poly nothing
    pub every : Every (IsKept known w s.poly) s.kept

module _ (R : Ranks) (L : IsRanks R) (B : Basis) (M : IsMonic R B) (f : Vector) (l : ℕ) (ln : l ≤ R.n) where
  -- from known and w to later ones
  holds_weaker : (known known' w w' : ℕ) (s : Run) → known ≤ known' → w' ≤ w → Holds R B f l known w s → Holds R B f l known' w' s
  holds_weaker known known' w w' s k m i = record {
    tied = tied_weaker R L B f l known known' w w' s.poly k m i.tied;
    from = i.from;
    every = every_weaker (IsKept R B f l known w s.poly) (IsKept R B f l known' w' s.poly)
        (λ g t. record { tied = tied_weaker R L B f l known known' w w' g k m t.tied; low = t.low; is_low = t.is_low; before = t.before }) s.kept i.every;
  }

  -- an entry, or an intermediate
  abbrev Candidate : ℕ → ℕ → Vector → Vector → Type 0
  Candidate known w h g = ((k : ℕ) × (k < known) × (g ≡ B.member k)) ⊎ IsKept R B f l known w h g

  -- the lead of an entry is its own
  low_is : (k r : ℕ) → k < B.size → IsLead R (B.member k) r → r ≡ B.lead k
  low_is k r m i = go (cases_lt r (B.lead k)) (cases_lt (B.lead k) r)
    where
      go : (r < B.lead k) ⊎ (B.lead k ≤ r) → (B.lead k < r) ⊎ (r ≤ B.lead k) → r ≡ B.lead k
      go (inl n) c = absurd (i.some ((M.lowest k m).at r n))
      go (inr n) (inl o) = absurd (one_not0 (same_trans (same_sym (M.one k m)) (i.low.at (B.lead k) o)))
        where
          one_not0 : Same R.p 1 0 → ⊥
          one_not0 z = i.some (same_trans (same_of _ _ _ (omega arith)) (same_trans (same_times (B.member k r) z) (same_of _ _ _ (omega arith))))
      go (inr n) (inr o) = omega arith

  module _ (known w : ℕ) (kn : known ≤ B.size) (wn : w ≤ R.n) (kept : List Vector) (h : Vector) (t : Tied R B known l f w h) (from : Agree R l h nothing) (every : Every (IsKept R B f l known w h) kept) where
    -- what has no term below a rank has no lead there
    past_lead : (r x : ℕ) → IsLead R h r → Agree R x h nothing → x ≤ r
    past_lead r x i a = go (cases_lt r x)
      where
        go : (r < x) ⊎ (x ≤ r) → x ≤ r
        go (inl m) = absurd (i.some (a.at r m))
        go (inr m) = m

    -- the leading term goes
    goes : (r : ℕ) (c : Reducer) → IsLead R h r → IsLead R c.poly c.lead → R.times c.cofactor c.lead ≡ r → Agree R (suc r) (less R (h r * R.inverse_of (c.poly c.lead)) (shift R c.cofactor c.poly) h) nothing
    goes r c i j e = record { at = λ x o. at x o (cases_lt x r) }
      where
        at : (x : ℕ) → x < suc r → (x < r) ⊎ (r ≤ x) → Same R.p (h x + (R.p - 1) * (h r * R.inverse_of (c.poly c.lead)) * shift R c.cofactor c.poly x) 0
        at x o (inl m) = same_trans (same_add (i.low.at x m) (same_times ((R.p - 1) * (h r * R.inverse_of (c.poly c.lead))) (shift_lowest R L c.cofactor c.lead c.poly j.low x (omega (arith, i.small)) (omega (arith, e))))) (same_of _ _ _ (omega arith))
        at x o (inr m) =
            let z : r ≡ x = omega arith in
            let y : shift R c.cofactor c.poly r ≡ c.poly c.lead = subst (λ u. shift R c.cofactor c.poly u ≡ c.poly c.lead) e (shift_at R L c.cofactor c.lead c.poly (omega (arith, i.small, e))) in
            subst (λ u. Same R.p (h u + (R.p - 1) * (h r * R.inverse_of (c.poly c.lead)) * shift R c.cofactor c.poly u) 0) z
            (same_trans (same_of _ _ _ (ap (λ u. h r + (R.p - 1) * (h r * R.inverse_of (c.poly c.lead)) * u) y))
            (same_trans (same_of _ _ _ (omega arith))
            (same_trans (same_add (same_refl R.p (h r)) (same_times ((R.p - 1) * h r) (inverse_same R L (c.poly c.lead) j.some)))
            (same_trans (same_of _ _ _ (omega arith)) (same_less R.p (h r) L.prime_pos)))))

    -- the intermediates stay tied, and what is reduced may join them
    keep_every : (r e : ℕ) (g : Vector) (h2 : Vector) → IsLead R h r → lead R h ≡ Some r → Agree R (suc r) h2 nothing → (b : Bool) → Every (IsKept R B f l known w h2) (keep b kept h)
    keep_every r e g h2 i d a = go
      where
        old : Every (IsKept R B f l known w h2) kept
        old = every_weaker (IsKept R B f l known w h) (IsKept R B f l known w h2) (λ g k. record { tied = k.tied; low = k.low; is_low = k.is_low; before = agree_below (omega (arith, past_lead r (suc k.low) i k.before)) a }) kept every

        go : (b : Bool) → Every (IsKept R B f l known w h2) (keep b kept h)
        go false = old
        go true = every_append (IsKept R B f l known w h2) kept (h ∷ []) old (record { tied = t; low = r; is_low = d; before = a }, tt)

    -- a Reduced step keeps the invariant
    reduced : (r : ℕ) (c : Reducer) → lead R h ≡ Some r → IsReducer R (Candidate known w h) r c
        → Holds R B f l known w (reduce R kept h r (Some c))
    reduced r c d i = record {
      tied = go i.is;
      from = agree_below (omega (arith, past_lead r l hl from)) low;
      every = keep_every r 0 c.poly _ hl d low (ltb (ecart R h) (ecart R c.poly));
    }
      where
        hl : IsLead R h r
        hl = lead_some R h r d

        gl : IsLead R c.poly c.lead
        gl = lead_some R c.poly c.lead i.low

        e : ℕ
        e = h r * R.inverse_of (c.poly c.lead)

        low : Agree R (suc r) (less R e (shift R c.cofactor c.poly) h) nothing
        low = goes r c hl gl i.to

        go : Candidate known w h c.poly → Tied R B known l f w (less R e (shift R c.cofactor c.poly) h)
        go (inl k) =
            let z : IsLead R (B.member k.0) c.lead = subst (λ g. IsLead R g c.lead) k.2 gl in
            let y : R.times c.cofactor (B.lead k.0) ≡ r = ap (R.times c.cofactor) (sym (low_is k.0 c.lead (omega (arith, k.1, kn)) z)) ∙ i.to in
            subst (λ g. Tied R B known l f w (less R e (shift R c.cofactor g) h)) (sym k.2) (tied_entry R L B f l known w k.0 c.cofactor e h k.1 (omega (arith, past_lead r l hl from, y)) t)
        go (inr k) = tied_kept R L B f l known w c.cofactor e h c.poly wn ln proper t k.tied
          where
            same_low : k.low ≡ c.lead
            same_low = let z : Some k.low ≡ Some c.lead = sym k.is_low ∙ i.low in cc z

            less_r : c.lead < r
            less_r = omega (arith, past_lead r (suc k.low) hl k.before, same_low)

            proper : 0 < c.cofactor
            proper = positive (cases_lt 0 c.cofactor)
              where
                positive : (0 < c.cofactor) ⊎ (c.cofactor ≤ 0) → 0 < c.cofactor
                positive (inl m) = m
                positive (inr m) = let z : c.cofactor ≡ 0 = omega arith in absurd (omega (arith, less_r, i.to, ap (λ u. R.times u c.lead) z, L.unit c.lead gl.small))

    -- so does each step on what was cut
    at_lead : (o : Option ℕ) → lead R h ≡ o → Holds R B f l known w (step_at R B.member known kept h o)
    at_lead None d = record { tied = t; from = from; every = every }
    at_lead (Some r) d = go (choose R r (firsts known 0 B.member ++ kept)) refl
      where
        candidates : Every (Candidate known w h) (firsts known 0 B.member ++ kept)
        candidates = every_append (Candidate known w h) (firsts known 0 B.member) kept
            (every_first (Candidate known w h) B.member known 0 known (omega arith) (λ k m. inl (k, m, refl)))
            (every_weaker (IsKept R B f l known w h) (Candidate known w h) (λ g k. inr k) kept every)

        go : (o : Option Reducer) → choose R r (firsts known 0 B.member ++ kept) ≡ o → Holds R B f l known w (reduce R kept h r o)
        go None e = record { tied = t; from = from; every = every }
        go (Some c) e = reduced r c d (choose_is R L (Candidate known w h) r (firsts known 0 B.member ++ kept) c candidates e)

  -- so does each step
  step_holds : (known w : ℕ) (s : Run) (d : Reading) → known ≤ d.known → d.known ≤ B.size → d.corner ≤ w → d.corner ≤ R.n → Holds R B f l known w s → Holds R B f l d.known d.corner (step R B.member s d)
  step_holds known w s d k ks m wn i = at_lead d.known d.corner ks wn s.kept (cut_at d.corner s.poly) tied from every (lead R (cut_at d.corner s.poly)) refl
    where
      j : Holds R B f l d.known d.corner s
      j = holds_weaker known d.known w d.corner s k m i

      tied : Tied R B d.known l f d.corner (cut_at d.corner s.poly)
      tied = tied_cut R L B f l d.known d.corner s.poly j.tied

      from : Agree R l (cut_at d.corner s.poly) nothing
      from = cut_nothing R d.corner l s.poly j.from

      every : Every (IsKept R B f l d.known d.corner (cut_at d.corner s.poly)) s.kept
      every = every_weaker (IsKept R B f l d.known d.corner s.poly) (IsKept R B f l d.known d.corner (cut_at d.corner s.poly)) (λ g x. record { tied = x.tied; low = x.low; is_low = x.is_low; before = cut_nothing R d.corner (suc x.low) s.poly x.before }) s.kept j.every

  -- so do steps
  steps_hold : (ds : List Reading) (known w : ℕ) (s : Run) → w ≤ R.n → AreOrderly B.size known w ds → Holds R B f l known w s → Holds R B f l (last_known known ds) (last_corner w ds) (steps R B.member s ds)
  steps_hold [] known w s wn o i = i
  steps_hold (d ∷ ds) known w s wn o i = steps_hold ds d.known d.corner (step R B.member s d) (omega (arith, o.1, wn)) o.2 (step_holds known w s d o.0 (known_le ds d.known d.corner o.2) o.1 (omega (arith, o.1, wn)) i)
    where
      known_le : (ds : List Reading) (known w : ℕ) → AreOrderly B.size known w ds → known ≤ B.size
      known_le [] known w o = o
      known_le (d ∷ ds) known w o = le_trans o.0 (known_le ds d.known d.corner o.2)

  -- it holds at the start
  begins : Agree R l f nothing → Holds R B f l 0 R.n (begin f)
  begins a = record { tied = record { units = []; proper = tt; parts = []; allowed = tt; is = agree_refl R R.n (add f nothing) }; from = a; every = tt }

  -- so it holds of runs
  run_holds : (ds : List Reading) → AreOrderly B.size 0 R.n ds → Agree R l f nothing → Holds R B f l (last_known 0 ds) (last_corner R.n ds) (run_from R B.member f ds)
  run_holds ds o a = steps_hold ds 0 R.n _ (omega arith) o (begins a)

-- The unit law. Up to a factor with constant term 1, what a run begins with is, below its last corner, what it ends with and a combination of the entries that it knew.
-- No multiple of an entry in it has a term of lesser rank than the beginning has.
pub run_is_tied : (R : Ranks) → IsRanks R → (B : Basis) → IsMonic R B → (f : Vector) (l : ℕ) → l ≤ R.n → Agree R l f nothing → (ds : List Reading) → AreOrderly B.size 0 R.n ds
    → Tied R B (last_known 0 ds) l f (last_corner R.n ds) (run_from R B.member f ds).poly × Agree R l (run_from R B.member f ds).poly nothing
run_is_tied R L B M f l ln a ds o = let i = run_holds R L B M f l ln ds o a in (i.tied, i.from)

-- a run that ends with Zero ends with nothing
step_zero : (R : Ranks) (entries : ℕ → Vector) (s : Run) (d : Reading) → (step R entries s d).end ≡ Some Zero → Agree R R.n (step R entries s d).poly nothing
step_zero R entries s d = go (lead R (cut_at d.corner s.poly)) refl
  where
    go2 : (r : ℕ) (o : Option Reducer) → (reduce R s.kept (cut_at d.corner s.poly) r o).end ≡ Some Zero → Agree R R.n (reduce R s.kept (cut_at d.corner s.poly) r o).poly nothing
    go2 r None e = absurd (cc e)
    go2 r (Some c) e = absurd (cc e)

    go : (o : Option ℕ) → lead R (cut_at d.corner s.poly) ≡ o → (step_at R entries d.known s.kept (cut_at d.corner s.poly) o).end ≡ Some Zero → Agree R R.n (step_at R entries d.known s.kept (cut_at d.corner s.poly) o).poly nothing
    go None e z = lead_none R (cut_at d.corner s.poly) e
    go (Some r) e z = go2 r (choose R r (firsts d.known 0 entries ++ s.kept)) z

-- steps that end with Zero end with 0
pub steps_zero : (R : Ranks) (entries : ℕ → Vector) (ds : List Reading) (s : Run) → (s.end ≡ Some Zero → Agree R R.n s.poly nothing) → (steps R entries s ds).end ≡ Some Zero → Agree R R.n (steps R entries s ds).poly nothing
steps_zero R entries [] s h e = h e
steps_zero R entries (d ∷ ds) s h e = steps_zero R entries ds (step R entries s d) (step_zero R entries s d) e

-- a run that ends with Zero ends with 0
pub run_zero : (R : Ranks) (entries : ℕ → Vector) (f : Vector) (ds : List Reading) → (run_from R entries f ds).end ≡ Some Zero → Agree R R.n (run_from R entries f ds).poly nothing
run_zero R entries f ds e = steps_zero R entries ds _ (λ z. absurd (cc z)) e
