-- A step sees residues alone: from vectors that agree it ends in the same way, with vectors that agree.
-- Leads and ecarts are the same, so are the choices, and inverses of one residue are one residue.
use Rattle.std.proofs.Common.{ℕ, zero, suc, ◌+◌, ◌*◌, ◌-◌, ◌<◌, ◌≤◌, ◌≡◌, max, List, [], ◌∷◌, ◌++◌, Bool, true, false, cond, eqb, ltb, leb, Option, Some, None, refl, ap, ap₂, subst, arith}
use Rattle.std.specs.Prelude.{not, fold, option_map, unwrap_or}
use Rattle.rank_algebra.specs.Ranks.{Ranks, IsRanks}
use Rattle.entry_code.specs.declared.reading.Reading.{Reading}
use Rattle.rank_algebra.specs.Vector.{Same, Vector, shift, Agree, cut_at}
use Rattle.rank_algebra.specs.Ideal.{IsLead}
use Rattle.mora_law.specs.Lead.{is_none_at, lead, top_degree, ecart}
use Rattle.mora_law.specs.Step.{Reducer, reducer_by, reducer_at, reducer, better_by, better, choose, firsts, Run, keep, reduce, step_at, step}
use Rattle.mora_law.specs.Run.{steps, AreOrderly}
use Rattle.mora_law.specs.Alike.{AllAlike, RunAlike}
use Rattle.rank_algebra.proofs.Residues.{same_refl, same_of, same_sym, same_trans, same_add, same_mul, same_times}
use Rattle.rank_algebra.proofs.Linear.{agree_shift, inverse_same}
use Rattle.mora_law.proofs.Ties.{Every}
use Rattle.rank_algebra.proofs.Searches.{find_same, filter_same}
use Rattle.mora_law.proofs.Choice.{lead_some, choose_is}
use Rattle.mora_law.proofs.Orderly.{known_le}

-- vectors that agree have terms of the same ranks
none_alike : (R : Ranks) (v u : Vector) → Agree R R.n v u → (r : ℕ) → r < R.n → is_none_at R v r ≡ is_none_at R u r
none_alike R v u h r l = ap (λ z. eqb z 0) (h.at r l).eq

-- vectors that agree have one lead
pub same_lead : (R : Ranks) (v u : Vector) → Agree R R.n v u → lead R v ≡ lead R u
unfolding lead
same_lead R v u h = find_same (λ r. not (is_none_at R v r)) (λ r. not (is_none_at R u r)) 0 R.n (λ k l. ap not (none_alike R v u h k (omega arith)))

-- the greatest degree of a term is the same
same_top : (R : Ranks) (v u : Vector) → Agree R R.n v u → top_degree R v ≡ top_degree R u
same_top R v u h = ap (fold (λ most r. max most (R.degree r)) 0) (filter_same (λ r. not (is_none_at R v r)) (λ r. not (is_none_at R u r)) 0 R.n (λ k l. ap not (none_alike R v u h k (omega arith))))

-- and so is the ecart
pub same_ecart : (R : Ranks) (v u : Vector) → Agree R R.n v u → ecart R v ≡ ecart R u
unfolding ecart
same_ecart R v u h = ap₂ (λ t o. unwrap_or (option_map (λ r. t - R.degree r) o) 0) (same_top R v u h) (same_lead R v u h)

-- lists alike, one behind the other, are alike
alike_append : (R : Ranks) (gs hs gs' hs' : List Vector) → AllAlike R gs hs → AllAlike R gs' hs' → AllAlike R (gs ++ gs') (hs ++ hs')
alike_append R [] [] gs' hs' a b = b
alike_append R [] (h ∷ hs) gs' hs' a b = absurd a
alike_append R (g ∷ gs) [] gs' hs' a b = absurd a
alike_append R (g ∷ gs) (h ∷ hs) gs' hs' a b = (a.0, alike_append R gs hs gs' hs' a.1 b)

-- the first vectors are alike
alike_firsts : (R : Ranks) (entries entries' : ℕ → Vector) (s left k : ℕ) → k + left ≤ s → ((x : ℕ) → x < s → Agree R R.n (entries x) (entries' x)) → AllAlike R (firsts left k entries) (firsts left k entries')
alike_firsts R entries entries' s zero k l h = tt
alike_firsts R entries entries' s (suc left) k l h = (h k (omega arith), alike_firsts R entries entries' s left (suc k) (omega arith) h)

-- two reducers with one lead and cofactor, whose vectors agree
record ReducerAlike (R : Ranks) (c c' : Reducer) : Type 0 where
  pub poly : Agree R R.n c.poly c'.poly
  pub low : c.lead ≡ c'.lead
  pub cofactor : c.cofactor ≡ c'.cofactor

-- both are reducers alike, or there is none
abbrev Both : Ranks → Option Reducer → Option Reducer → Type 0
Both R None None = Unit {0}
Both R None (Some c) = ⊥
Both R (Some c) None = ⊥
Both R (Some c) (Some c') = ReducerAlike R c c'

-- vectors that agree are reducers alike
reducer_alike : (R : Ranks) (r : ℕ) (g g' : Vector) → Agree R R.n g g' → Both R (reducer R r g) (reducer R r g')
reducer_alike R r g g' h = subst (λ o. Both R (reducer R r g) (reducer_at R r g' o)) (same_lead R g g' h) (go (lead R g))
  where
    go2 : (low : ℕ) (o : Option ℕ) → Both R (reducer_by g low o) (reducer_by g' low o)
    go2 low None = tt
    go2 low (Some q) = record { poly = h; low = refl; cofactor = refl }

    go : (o : Option ℕ) → Both R (reducer_at R r g o) (reducer_at R r g' o)
    go None = tt
    go (Some low) = go2 low (R.quotient r low)

-- the better of two alike is alike
better_alike : (R : Ranks) (a b a' b' : Option Reducer) → Both R a a' → Both R b b' → Both R (better R a b) (better R a' b')
better_alike R None b None b' h k = k
better_alike R None b (Some x) b' h k = absurd h
better_alike R (Some x) b None b' h k = absurd h
better_alike R (Some x) None (Some x') None h k = h
better_alike R (Some x) None (Some x') (Some y) h k = absurd k
better_alike R (Some x) (Some y) (Some x') None h k = absurd k
better_alike R (Some x) (Some y) (Some x') (Some y') h k = subst (λ b. Both R (better R (Some x) (Some y)) (better_by x' y' b)) (ap₂ leb (same_ecart R x.poly x'.poly h.poly) (same_ecart R y.poly y'.poly k.poly)) (go (leb (ecart R x.poly) (ecart R y.poly)))
  where
    go : (b : Bool) → Both R (better_by x y b) (better_by x' y' b)
    go true = h
    go false = k

-- so is what is chosen
choose_alike : (R : Ranks) (r : ℕ) (gs gs' : List Vector) → AllAlike R gs gs' → Both R (choose R r gs) (choose R r gs')
choose_alike R r [] [] a = tt
choose_alike R r [] (g ∷ gs) a = absurd a
choose_alike R r (g ∷ gs) [] a = absurd a
choose_alike R r (g ∷ gs) (g' ∷ gs') a = better_alike R (reducer R r g) (choose R r gs) (reducer R r g') (choose R r gs') (reducer_alike R r g g' a.0) (choose_alike R r gs gs' a.1)

-- inverses of one residue are one residue
inverse_alike : (R : Ranks) → IsRanks R → (a b : ℕ) → (Same R.p a 0 → ⊥) → Same R.p a b → Same R.p (R.inverse_of a) (R.inverse_of b)
inverse_alike R L a b n h = same_trans (same_of _ _ (R.inverse_of a * 1) (omega arith)) (same_trans (same_times (R.inverse_of a) (same_sym (inverse_same R L b (λ z. n (same_trans h z)))))
    (same_trans (same_times (R.inverse_of a) (same_times (R.inverse_of b) (same_sym h))) (same_trans (same_of _ _ (R.inverse_of b * (R.inverse_of a * a)) (omega arith)) (same_trans (same_times (R.inverse_of b) (inverse_same R L a n)) (same_of _ _ _ (omega arith))))))

module _ (R : Ranks) (L : IsRanks R) where
  -- intermediates alike stay so
  keep_alike : (b : Bool) (kept kept' : List Vector) (h h' : Vector) → AllAlike R kept kept' → Agree R R.n h h' → AllAlike R (keep b kept h) (keep b kept' h')
  keep_alike true kept kept' h h' a e = alike_append R kept kept' (h ∷ []) (h' ∷ []) a (e, tt)
  keep_alike false kept kept' h h' a e = a

  -- what is left after subtracting is alike
  reduce_alike : (kept kept' : List Vector) (h h' : Vector) (r : ℕ) → r < R.n → (o o' : Option Reducer) → ((c : Reducer) → o ≡ Some c → IsLead R c.poly c.lead) → Both R o o' → AllAlike R kept kept' → Agree R R.n h h' → RunAlike R (reduce R kept h r o) (reduce R kept' h' r o')
  reduce_alike kept kept' h h' r l None None i b a e = record { end = refl; poly = e; kept = a }
  reduce_alike kept kept' h h' r l None (Some c) i b a e = absurd b
  reduce_alike kept kept' h h' r l (Some c) None i b a e = absurd b
  reduce_alike kept kept' h h' r l (Some c) (Some c') i b a e = record {
    end = refl;
    poly = record { at = λ x m. same_add (e.at x m) (same_mul (same_times (R.p - 1) (same_mul (e.at r l) inverses)) (shifted.at x m)) };
    kept = subst (λ t. AllAlike R (keep (ltb (ecart R h) (ecart R c.poly)) kept h) (keep t kept' h')) (ap₂ ltb (same_ecart R h h' e) (same_ecart R c.poly c'.poly b.poly)) (keep_alike _ kept kept' h h' a e);
  }
    where
      k : IsLead R c.poly c.lead
      k = i c refl

      inverses : Same R.p (R.inverse_of (c.poly c.lead)) (R.inverse_of (c'.poly c'.lead))
      inverses = inverse_alike R L _ _ k.some (subst (λ z. Same R.p (c.poly c.lead) (c'.poly z)) b.low (b.poly.at c.lead k.small))

      shifted : Agree R R.n (shift R c.cofactor c.poly) (shift R c'.cofactor c'.poly)
      shifted = subst (λ z. Agree R R.n (shift R c.cofactor c.poly) (shift R z c'.poly)) b.cofactor (agree_shift R L R.n c.poly c'.poly c.cofactor (omega arith) b.poly)

  -- cuts of what agrees agree
  cut_alike : (w : ℕ) (v u : Vector) → Agree R R.n v u → Agree R R.n (cut_at w v) (cut_at w u)
  cut_alike w v u h = record { at = λ r l. go r l (ltb r w) }
    where
      go : (r : ℕ) → r < R.n → (b : Bool) → Same R.p (cond b (v r) 0) (cond b (u r) 0)
      go r l true = h.at r l
      go r l false = same_refl _ _

  -- nothing is asked of each vector
  any : (gs : List Vector) → Every (λ g. Unit {0}) gs
  any [] = tt
  any (g ∷ gs) = (tt, any gs)

  -- a step from runs alike gives runs alike
  pub step_alike : (entries entries' : ℕ → Vector) (s : ℕ) → ((k : ℕ) → k < s → Agree R R.n (entries k) (entries' k)) → (x y : Run) (d : Reading) → d.known ≤ s → RunAlike R x y → RunAlike R (step R entries x d) (step R entries' y d)
  step_alike entries entries' s a x y d l i = subst (λ o. RunAlike R (step R entries x d) (step_at R entries' d.known y.kept h' o)) (same_lead R h h' e) (go (lead R h) refl)
    where
      h : Vector
      h = cut_at d.corner x.poly

      h' : Vector
      h' = cut_at d.corner y.poly

      e : Agree R R.n h h'
      e = cut_alike d.corner x.poly y.poly i.poly

      cands : List Vector
      cands = firsts d.known 0 entries ++ x.kept

      cands' : List Vector
      cands' = firsts d.known 0 entries' ++ y.kept

      both : AllAlike R cands cands'
      both = alike_append R (firsts d.known 0 entries) (firsts d.known 0 entries') x.kept y.kept (alike_firsts R entries entries' s d.known 0 (omega arith) a) i.kept

      go : (o : Option ℕ) → lead R h ≡ o → RunAlike R (step_at R entries d.known x.kept h o) (step_at R entries' d.known y.kept h' o)
      go None f = record { end = refl; poly = e; kept = i.kept }
      go (Some r) f = reduce_alike x.kept y.kept h h' r (lead_some R h r f).small (choose R r cands) (choose R r cands')
          (λ c g. lead_some R c.poly c.lead (choose_is R L (λ g. Unit {0}) r cands c (any cands) g).low) (choose_alike R r cands cands' both) i.kept e

  -- so do steps
  pub steps_alike : (entries entries' : ℕ → Vector) (s : ℕ) → ((k : ℕ) → k < s → Agree R R.n (entries k) (entries' k)) → (ds : List Reading) (known w : ℕ) → AreOrderly s known w ds → (x y : Run) → RunAlike R x y → RunAlike R (steps R entries x ds) (steps R entries' y ds)
  steps_alike entries entries' s a [] known w o x y i = i
  steps_alike entries entries' s a (d ∷ ds) known w o x y i = steps_alike entries entries' s a ds d.known d.corner o.2 (step R entries x d) (step R entries' y d) (step_alike entries entries' s a x y d (known_le s ds d.known d.corner o.2) i)
