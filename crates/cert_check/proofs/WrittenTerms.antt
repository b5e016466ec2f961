-- The terms of a vector that has terms in the ring are these terms.
-- Rank by rank: a term stands at its rank, with its residue, and nowhere else is there one.
use Rattle.std.proofs.Common.{◌≡◌, ℕ, zero, suc, ◌+◌, ◌%◌, ◌<◌, ◌≤◌, ◌⊎◌, List, [], ◌∷◌, length, get_or, cond, eqb, refl, sym, ◌∙◌, ap, ap₂, arith, inl, inr}
use Rattle.std.proofs.Math.Nat
use Rattle.std.proofs.lemmas.Bool.{cases_lt, eq-eqb, ne_eqb}
use Rattle.sparse_poly.specs.Ideal.{Problem}
use Rattle.entry_code.specs.declared.term.Term.{Term}
use Rattle.rank_algebra.specs.Ranks.{Ranks}
use Rattle.rank_algebra.specs.Vector.{Vector, nothing}
use Rattle.mora_law.specs.Ring.{ranks_of_problem}
use Rattle.mora_law.specs.Entries.{lead_rank, terms_of}
use Rattle.entry_code.specs.Terms.{vector_of_terms}
use Rattle.mora_law.proofs.Ring.{ranks_p}
use Rattle.mora_law.proofs.Terms.{term_by, terms_from, terms_walk}
use Rattle.cert_check.specs.Sparse.{AreRisingTerms, AreInRing}
use Rattle.cert_check.proofs.TermVectors.{rising_rest, first_none}

-- the terms of ranks from r on see the coefficients there alone
from_same : (R : Ranks) (v u : Vector) (left r : ℕ) → ((x : ℕ) → r ≤ x → v x ≡ u x) → terms_from R left r v ≡ terms_from R left r u
from_same R v u zero r h = refl
from_same R v u (suc left) r h = ap₂ (λ c ts. term_by r (c % R.p) ts (eqb (c % R.p) 0)) (h r (omega arith)) (from_same R v u left (suc r) (λ x l. h x (omega (arith, l))))

-- what is known of terms: each rank is below n, and each coefficient is a residue other than 0
AreTerms : ℕ → ℕ → List Term → Type 0
AreTerms p n ts = (k : ℕ) (d : Term) → k < length ts → ((get_or ts k d).rank < n) × (0 < (get_or ts k d).coef) × ((get_or ts k d).coef < p)

-- behind the first as well
terms_rest : (p n : ℕ) (t : Term) (ts : List Term) → AreTerms p n (t ∷ ts) → AreTerms p n ts
unfolding AreTerms
terms_rest p n t ts h k d l = h (suc k) d (omega (arith, l))

-- the terms from rank r on are the list, where its ranks are r or more
from_terms : (R : Ranks) (left r : ℕ) (ts : List Term) → AreRisingTerms ts → AreTerms R.p (r + left) ts → (0 < length ts → r ≤ lead_rank ts) → terms_from R left r (vector_of_terms ts) ≡ ts
unfolding AreTerms
from_terms R zero r [] s h f = refl
from_terms R zero r (t ∷ ts) s h f = absurd (omega (arith, (h 0 t (omega arith)).0, f (omega arith)))
from_terms R (suc left) r [] s h f =
    ap (term_by r (0 % R.p) (terms_from R left (suc r) nothing)) (eq-eqb (0 % R.p) 0 (Nat.zero-mod R.p))
    ∙ from_terms R left (suc r) [] tt (λ k d l. absurd (omega (arith, l))) (λ l. absurd (omega (arith, l)))
from_terms R (suc left) r (t ∷ ts) s h f = go (cases_lt r t.rank)
    (λ l. from_terms R left (suc r) (t ∷ ts) s ranks (λ m. omega (arith, l)))
    (λ b. from_terms R left (suc r) ts (rising_rest t ts s) (terms_rest R.p (suc r + left) t ts ranks) b)
  where
    ranks : AreTerms R.p (suc r + left) (t ∷ ts)
    ranks = λ k d l. let z = h k d l in (omega (arith, z.0), z.1, z.2)

    small : t.coef % R.p ≡ t.coef
    small = Nat.mod-eq_of_lt (h 0 t (omega arith)).2

    some : 0 < t.coef
    some = (h 0 t (omega arith)).1

    first : (us : List Term) → AreRisingTerms (t ∷ us) → r ≡ t.rank → 0 < length us → suc r ≤ lead_rank us
    first [] q e m = absurd (omega (arith, m))
    first (u ∷ us) q e m = omega (arith, q.0, e)

    go : (r < t.rank) ⊎ (t.rank ≤ r) → (r < t.rank → terms_from R left (suc r) (vector_of_terms (t ∷ ts)) ≡ t ∷ ts) → ((0 < length ts → suc r ≤ lead_rank ts) → terms_from R left (suc r) (vector_of_terms ts) ≡ ts)
        → term_by r (vector_of_terms (t ∷ ts) r % R.p) (terms_from R left (suc r) (vector_of_terms (t ∷ ts))) (eqb (vector_of_terms (t ∷ ts) r % R.p) 0) ≡ t ∷ ts
    go (inl l) skip take =
        ap (term_by r (vector_of_terms (t ∷ ts) r % R.p) (terms_from R left (suc r) (vector_of_terms (t ∷ ts)))) (eq-eqb _ 0 (ap (λ x. x % R.p) (first_none (t ∷ ts) r s l) ∙ Nat.zero-mod R.p))
        ∙ skip l
    go (inr l) skip take =
        ap₂ (λ c us. term_by r (c % R.p) us (eqb (c % R.p) 0)) here later
        ∙ ap₂ (λ c b. term_by r c ts b) small (ne_eqb (t.coef % R.p) 0 (λ z. omega (arith, z, small, some)))
        ∙ ap (λ (x : ℕ). let y : Term = record { rank = x; coef = t.coef } in y ∷ ts) is
      where
        is : r ≡ t.rank
        is = omega (arith, l, f (omega arith))

        here : vector_of_terms (t ∷ ts) r ≡ t.coef
        here = ap (λ b. cond b t.coef (vector_of_terms ts r)) (eq-eqb t.rank r (sym is))

        later : terms_from R left (suc r) (vector_of_terms (t ∷ ts)) ≡ ts
        later =
            from_same R (vector_of_terms (t ∷ ts)) (vector_of_terms ts) left (suc r) (λ x m. ap (λ b. cond b t.coef (vector_of_terms ts x)) (ne_eqb t.rank x (λ e. omega (arith, e, m, is))))
            ∙ take (first ts s is)

-- so terms in the ring are those of their vector
pub terms_back : (P : Problem) (ts : List Term) → AreInRing P ts → terms_of (ranks_of_problem P) (vector_of_terms ts) ≡ ts
unfolding AreTerms
terms_back P ts s = terms_walk (ranks_of_problem P) (vector_of_terms ts) ∙ from_terms (ranks_of_problem P) (ranks_of_problem P).n 0 ts s.rising
    (λ k d l. let c = s.residues k d l in (let z = s.ranks k d l in omega (arith, z), c.0, omega (arith, c.1, ranks_p P))) (λ l. omega arith)
