-- Stored terms: what is known of the one at a place, and that the terms of a vector of residues are some.
-- The coefficient at a term's rank is the term's, so it is a residue, and its rank is within the ring.
use Rattle.std.proofs.Common.{◌≡◌, ◌≢◌, ℕ, ◌<◌, ◌≤◌, ◌⊎◌, List, length, get_or, slice_get, All, Some, sym, ◌∙◌, ap, subst, arith, inl, inr}
use Rattle.std.proofs.lemmas.Bool.{cases_lt}
use Rattle.std.proofs.lemmas.Option.{slice_get_within, get_or_from_slice_get}
use Rattle.sparse_poly.specs.Ideal.{Problem}
use Rattle.entry_code.specs.declared.term.Term.{Term}
use Rattle.rank_algebra.specs.Vector.{Vector}
use Rattle.mora_law.specs.Ring.{ranks_of_problem}
use Rattle.entry_code.specs.Terms.{vector_of_terms}
use Rattle.entry_code.specs.declared.item.Item.{Item}
use Rattle.entry_code.specs.Entry.{Entry, no_entry, entry_at}
use Rattle.mora_law.specs.Legal.{IsItemOf}
use Rattle.cert_check.specs.Sparse.{AreRisingTerms, IsClean, AreInRing, AreStored, AreEntries}
use Rattle.cert_check.proofs.TermVectors.{coef_there}

module _ (P : Problem) (ts : List Term) (s : AreInRing P ts) (k : ℕ) (t : Term) (e : slice_get ts k ≡ Some t) where
  -- the rank of a term is within the ring
  pub rank_within : t.rank < (ranks_of_problem P).n
  rank_within = subst (λ (x : Term). x.rank < (ranks_of_problem P).n) (get_or_from_slice_get ts k t t e) (s.ranks k t (slice_get_within ts k t e))

  -- its coefficient isn't 0
  pub coef_some : 0 < t.coef
  coef_some = subst (λ (x : Term). 0 < x.coef) (get_or_from_slice_get ts k t t e) (s.residues k t (slice_get_within ts k t e)).0

  -- and is a residue
  pub coef_residue : t.coef < P.p
  coef_residue = subst (λ (x : Term). x.coef < P.p) (get_or_from_slice_get ts k t t e) (s.residues k t (slice_get_within ts k t e)).1

-- the terms of a vector of residues are in the ring
pub terms_in_ring : (P : Problem) (v : Vector) (ts : List Term) → IsClean P v → AreRisingTerms ts → ((r : ℕ) → vector_of_terms ts r ≡ v r) → All (λ (t : Term). t.coef ≢ 0) ts → AreInRing P ts
terms_in_ring P v ts clean rising value some = record {
  rising = rising;
  ranks = λ k d l. within k d l (cases_lt (get_or ts k d).rank (ranks_of_problem P).n);
  residues = λ k d l. (let n = some k d l in omega (arith, n), let c = clean.residue (get_or ts k d).rank in omega (arith, c, there k d l));
}
  where
    there : (k : ℕ) (d : Term) → k < length ts → v (get_or ts k d).rank ≡ (get_or ts k d).coef
    there k d l = sym (value (get_or ts k d).rank) ∙ coef_there ts k d rising l

    within : (k : ℕ) (d : Term) → k < length ts → ((get_or ts k d).rank < (ranks_of_problem P).n) ⊎ ((ranks_of_problem P).n ≤ (get_or ts k d).rank) → (get_or ts k d).rank < (ranks_of_problem P).n
    within k d l (inl m) = m
    within k d l (inr m) = absurd (some k d l (sym (there k d l) ∙ clean.within (get_or ts k d).rank m))

-- the terms of an entry at a place are stored
pub stored_entry : (P : Problem) (entries : List Entry) (k : ℕ) (e : Entry) → AreEntries P entries → slice_get entries k ≡ Some e → AreStored P e.terms
stored_entry P entries k e s g = subst (λ (x : Entry). AreStored P x.terms) (get_or_from_slice_get entries k e e g) (s k e (slice_get_within entries k e g))

-- they are those of the entry at the place
pub entry_is : (entries : List Entry) (k : ℕ) (e : Entry) → slice_get entries k ≡ Some e → (entry_at entries k).terms ≡ e.terms
entry_is entries k e g = ap (λ (x : Entry). x.terms) (get_or_from_slice_get entries k e no_entry g)

-- so are its readings
pub reads_are : (entries : List Entry) (k : ℕ) (e : Entry) → slice_get entries k ≡ Some e → (entry_at entries k).reads ≡ e.reads
reads_are entries k e g = ap (λ (x : Entry). x.reads) (get_or_from_slice_get entries k e no_entry g)

-- and its item
pub item_is : (entries : List Entry) (k : ℕ) (e : Entry) → slice_get entries k ≡ Some e → (entry_at entries k).item ≡ e.item
item_is entries k e g = ap (λ (x : Entry). x.item) (get_or_from_slice_get entries k e no_entry g)

-- an item speaks of equal numbers of generators in the same way
pub same_item : (i m n : ℕ) (x y : Item) → m ≡ n → x ≡ y → IsItemOf m i x → IsItemOf n i y
same_item i m n x y e f h = subst (λ z. IsItemOf n i z) f (subst (λ k. IsItemOf k i x) e h)
