-- A step as the checker makes it is the definition's step.
-- The cut map is the cut vector; the reducer that is chosen is the definition's; residues stand for the numbers of the definition.
use Rattle.std.proofs.Common.{◌≡◌, ℕ, ◌*◌, ◌%◌, ◌<◌, ◌≤◌, List, [], ◌∷◌, ◌++◌, length, get_or, All, Bool, true, false, cond, ltb, Option, Some, None, refl, sym, ◌∙◌, ap, ap₂, subst, arith}
use Rattle.std.proofs.Math.Nat
use Rattle.std.proofs.Math.Path.{fun_ext}
use Rattle.std.proofs.lemmas.List.{get_or_append_left, map-append, length-append}
use Rattle.prime_field.specs.Inverse.{inverse}
use Rattle.sparse_poly.specs.Ideal.{Problem}
use Rattle.entry_code.specs.declared.term.Term.{Term}
use Rattle.entry_code.specs.Placed.{Placed}
use Rattle.entry_code.specs.Entry.{Entry}
use Rattle.rank_algebra.specs.Ranks.{Ranks}
use Rattle.rank_algebra.specs.Vector.{Same, Vector, shift, less, cut_at, Agree}
use Rattle.rank_algebra.proofs.Residues.{same_of, same_trans, same_mod}
use Rattle.rank_algebra.proofs.Linear.{agree_refl, agree_trans}
use Rattle.rank_algebra.proofs.Division.{less_agree}
use Rattle.mora_law.specs.Ring.{ranks_of_problem, IsAdmissible}
use Rattle.mora_law.specs.declared.step_end.StepEnd.TheVariants.{Zero, Reduced, Stuck}
use Rattle.mora_law.specs.Lead.{lead, ecart}
use Rattle.mora_law.specs.Step.{Reducer, Run, choose, firsts, keep, reduce, step_at}
use Rattle.mora_law.specs.Entries.{lead_rank, basis_of}
use Rattle.entry_code.specs.Terms.{vector_of_terms}
use Rattle.mora_law.specs.Alike.{AllAlike, RunAlike}
use Rattle.mora_law.proofs.Ring.{ranks_p, ranks_inverse}
use Rattle.mora_law.proofs.Choice.{lead_some}
use Rattle.cert_check.specs.declared.choice.Place.{Place}
use Rattle.cert_check.specs.declared.choice.Place.TheVariants as places
use Rattle.cert_check.specs.Sparse.{IsFirstTerm, IsClean, AreStored}
use Rattle.cert_check.specs.Replay.{no_terms, vectors_of, AreKept, terms_at, HasPlace, reducer_with, IsPut, state}

-- ---- cuts
-- a cut of a vector of residues is one
pub cut_clean : (P : Problem) (w : ℕ) (v u : Vector) → 0 < P.p → ((r : ℕ) → u r ≡ cut_at w v r) → IsClean P v → IsClean P u
cut_clean P w v u pos e h = record { residue = λ r. subst (λ x. x < P.p) (sym (e r)) (small r (ltb r w)); within = λ r l. e r ∙ none r l (ltb r w) }
  where
    small : (r : ℕ) (b : Bool) → cond b (v r) 0 < P.p
    small r true = h.residue r
    small r false = pos

    none : (r : ℕ) → (ranks_of_problem P).n ≤ r → (b : Bool) → cond b (v r) 0 ≡ 0
    none r l true = h.within r l
    none r l false = refl

-- a vector of zeros has no lead
pub no_lead : (R : Ranks) (v : Vector) → ((r : ℕ) → v r ≡ 0) → lead R v ≡ None
no_lead R v z = go (lead R v) refl
  where
    go : (o : Option ℕ) → lead R v ≡ o → lead R v ≡ None
    go None e = e
    go (Some r) e = absurd ((lead_some R v r e).some (same_of R.p (v r) 0 (z r)))

-- ---- runs alike
-- each list is alike to itself
pub alike_refl : (R : Ranks) (gs : List Vector) → AllAlike R gs gs
alike_refl R [] = tt
alike_refl R (g ∷ gs) = (agree_refl R R.n g, alike_refl R gs)

-- each run is alike to itself
pub run_refl : (R : Ranks) (x : Run) → RunAlike R x x
run_refl R x = record { end = refl; poly = agree_refl R R.n x.poly; kept = alike_refl R x.kept }

-- lists that are alike to one list are alike
all_trans : (R : Ranks) (a b c : List Vector) → AllAlike R a b → AllAlike R b c → AllAlike R a c
all_trans R [] [] [] h k = tt
all_trans R [] [] (z ∷ c) h k = absurd k
all_trans R [] (y ∷ b) c h k = absurd h
all_trans R (x ∷ a) [] c h k = absurd h
all_trans R (x ∷ a) (y ∷ b) [] h k = absurd k
all_trans R (x ∷ a) (y ∷ b) (z ∷ c) h k = (agree_trans h.0 k.0, all_trans R a b c h.1 k.1)

-- and so are runs
pub run_trans : (R : Ranks) (x y z : Run) → RunAlike R x y → RunAlike R y z → RunAlike R x z
run_trans R x y z h k = record { end = h.end ∙ k.end; poly = agree_trans h.poly k.poly; kept = all_trans R x.kept y.kept z.kept h.kept k.kept }

-- ---- intermediates
-- what is put behind the intermediates is put behind their vectors
pub put_vectors : (v : Vector) (b : Bool) (old new : List (Placed Term)) → IsPut v b old new → vectors_of new ≡ keep b (vectors_of old) v
put_vectors v true old new (ts, e, f) =
    ap vectors_of e ∙ map-append (λ (x : Placed Term). vector_of_terms x.list) old (ts ∷ [])
    ∙ ap (λ (u : Vector). vectors_of old ++ u ∷ []) (fun_ext f)
put_vectors v false old new e = ap vectors_of e

-- the terms at a place stay
pub put_terms : (entries : List Entry) (known : ℕ) (v : Vector) (b : Bool) (old new : List (Placed Term)) (x : Place) → IsPut v b old new → HasPlace known (length old) x → terms_at entries new x ≡ terms_at entries old x
put_terms entries known v b old new (places.Entry i) h l = refl
put_terms entries known v true old new (places.Kept k) (ts, e, f) l = ap (λ (x : Placed Term). x.list) (ap (λ xs. get_or xs k no_terms) e ∙ get_or_append_left old (ts ∷ []) no_terms k l)
put_terms entries known v false old new (places.Kept k) e l = ap (λ xs. (get_or xs k no_terms).list) e

-- and the place is still one
pub put_place : (known : ℕ) (v : Vector) (b : Bool) (old new : List (Placed Term)) (x : Place) → IsPut v b old new → HasPlace known (length old) x → HasPlace known (length new) x
put_place known v b old new (places.Entry i) h l = l
put_place known v true old new (places.Kept k) (ts, e, f) l = omega (arith, l, ap length e, length-append old (ts ∷ []))
put_place known v false old new (places.Kept k) e l = omega (arith, l, ap length e)

-- stored terms stand at each place
pub stored_at : (P : Problem) (entries : List Entry) (kept : List (Placed Term)) (x : Place) → All (λ e. AreStored P e.terms) entries → AreKept P kept → HasPlace (length entries) (length kept) x → AreStored P (terms_at entries kept x)
stored_at P entries kept (places.Entry i) h k l = h i _ l
stored_at P entries kept (places.Kept i) h k l = k i no_terms l

-- terms with a coefficient are some
pub terms_some : (ts : List Term) (v : Vector) (t : Term) → ((r : ℕ) → vector_of_terms ts r ≡ v r) → IsFirstTerm v t → 0 < length ts
terms_some [] v t e f = absurd (f.some (sym f.coef ∙ sym (e t.rank)))
terms_some (u ∷ ts) v t e f = omega arith

-- ---- the step
module _ (P : Problem) (h : IsAdmissible P) where
  -- the factor of the code stands for that of the definition
  pub factor_is : (v : Vector) (t : Term) (ts : List Term) (c i f : ℕ) → IsFirstTerm v t → vector_of_terms ts (lead_rank ts) ≡ c → c < P.p → i ≡ inverse P.p c → f ≡ (t.coef * i) % P.p
      → Same (ranks_of_problem P).p f (v t.rank * (ranks_of_problem P).inverse_of (vector_of_terms ts (lead_rank ts)))
  factor_is v t ts c i f first e l ie fe = subst (λ p. Same p f (v t.rank * (ranks_of_problem P).inverse_of (vector_of_terms ts (lead_rank ts)))) (sym (ranks_p P))
      (same_trans (same_of P.p _ _ fe) (same_trans (same_mod P.p (t.coef * i)) (same_of P.p _ _ (ap₂ (λ a b. a * b) (sym first.coef) is))))
    where
      is : i ≡ (ranks_of_problem P).inverse_of (vector_of_terms ts (lead_rank ts))
      is = ie ∙ ap (inverse P.p) (sym (ap (λ x. x % P.p) e ∙ Nat.mod-eq_of_lt l)) ∙ sym (ranks_inverse P (vector_of_terms ts (lead_rank ts)))

  -- what is subtracted and kept is what the definition subtracts and keeps
  pub reduced_is : (v u : Vector) (t : Term) (ts : List Term) (q f : ℕ) (b : Bool) (old new : List (Placed Term)) (own other : ℕ)
      → Same (ranks_of_problem P).p f (v t.rank * (ranks_of_problem P).inverse_of (vector_of_terms ts (lead_rank ts)))
      → Agree (ranks_of_problem P) (ranks_of_problem P).n u (less (ranks_of_problem P) f (shift (ranks_of_problem P) q (vector_of_terms ts)) v)
      → own ≡ ecart (ranks_of_problem P) v → other ≡ ecart (ranks_of_problem P) (vector_of_terms ts) → b ≡ ltb own other → IsPut v b old new
      → RunAlike (ranks_of_problem P) (state (Some Reduced) u new) (reduce (ranks_of_problem P) (vectors_of old) v t.rank (Some (reducer_with ts q)))
  reduced_is v u t ts q f b old new own other fs a oe te be put = record {
    end = refl;
    poly = agree_trans a (less_agree (ranks_of_problem P) (ranks_of_problem P).n f _ (shift (ranks_of_problem P) q (vector_of_terms ts)) v v fs (agree_refl (ranks_of_problem P) (ranks_of_problem P).n v));
    kept = subst (AllAlike (ranks_of_problem P) (vectors_of new)) (put_vectors v b old new put ∙ ap (λ x. keep x (vectors_of old) v) (be ∙ ap₂ ltb oe te)) (alike_refl (ranks_of_problem P) (vectors_of new));
  }

module _ (R : Ranks) (entries : List Entry) (v u : Vector) (kept : List (Placed Term)) (known w : ℕ) (e : (r : ℕ) → u r ≡ cut_at w v r) where
  -- the step of the definition, on the cut vector
  abbrev Stepped : Option ℕ → Run
  Stepped o = step_at R (basis_of entries).member known (vectors_of kept) u o

  -- the cut map is the cut vector
  cut_is : u ≡ cut_at w v
  cut_is = fun_ext e

  -- so the step on the one is that on the other
  to_step : (x : Run) (o : Option ℕ) → lead R u ≡ o → RunAlike R x (Stepped o)
      → RunAlike R x (step_at R (basis_of entries).member known (vectors_of kept) (cut_at w v) (lead R (cut_at w v)))
  to_step x o l a = subst (λ z. RunAlike R x (step_at R (basis_of entries).member known (vectors_of kept) z (lead R z))) cut_is (subst (λ p. RunAlike R x (Stepped p)) (sym l) a)

  -- it ends with zero where nothing is left
  pub step_zero : ((r : ℕ) → u r ≡ 0) → RunAlike R (state (Some Zero) u kept) (step_at R (basis_of entries).member known (vectors_of kept) (cut_at w v) (lead R (cut_at w v)))
  step_zero z = to_step (state (Some Zero) u kept) None (no_lead R u z) (run_refl R (state (Some Zero) u kept))

  -- it is stuck where nothing is chosen
  pub step_stuck : (r : ℕ) → lead R u ≡ Some r → choose R r (firsts known 0 (basis_of entries).member ++ vectors_of kept) ≡ None
      → RunAlike R (state (Some Stuck) u kept) (step_at R (basis_of entries).member known (vectors_of kept) (cut_at w v) (lead R (cut_at w v)))
  step_stuck r l c = to_step (state (Some Stuck) u kept) (Some r) l (subst (λ o. RunAlike R (state (Some Stuck) u kept) (reduce R (vectors_of kept) u r o)) (sym c) (run_refl R (state (Some Stuck) u kept)))

  -- and reduces by what is chosen
  pub step_reduced : (x : Run) (r : ℕ) (g : Reducer) → lead R u ≡ Some r → choose R r (firsts known 0 (basis_of entries).member ++ vectors_of kept) ≡ Some g
      → RunAlike R x (reduce R (vectors_of kept) u r (Some g)) → RunAlike R x (step_at R (basis_of entries).member known (vectors_of kept) (cut_at w v) (lead R (cut_at w v)))
  step_reduced x r g l c a = to_step x (Some r) l (subst (λ o. RunAlike R x (reduce R (vectors_of kept) u r o)) (sym c) a)
