-- What a certificate says of a block is what the checks go by.
-- Its ring is that of the problem, and its terms by rank stand in the ring.
use Rattle.std.proofs.Common.{◌≡◌, ℕ, zero, suc, ◌<◌, List, [], ◌∷◌, length, All, Option, Some, None, refl, sym, ◌∙◌, subst, arith}
use Rattle.std.specs.List.{AllByRecursion}
use Rattle.sparse_poly.specs.Shape.{shape_of}
use Rattle.sparse_poly.specs.Ideal.{Problem}
use Rattle.entry_code.specs.declared.term.Term.{Term}
use Rattle.mora_law.specs.Ring.{ranks_of_problem}
use Rattle.text_out.specs.declared.answer.Answer.{Answer}
use Rattle.text_out.specs.declared.answer.Answer.TheVariants.{Fits, TooSmall}
use Rattle.cert_grammar.specs.Words.{Ring}
use Rattle.cert_grammar.specs.Cert.{IsVerdict, IsCorner}
use Rattle.cert_grammar.specs.declared.certified.Certified.{Certified}
use Rattle.cert_grammar.specs.Certified.{verdict_of, ring_of, AreTerms, HasCorner, IsCertified}
use Rattle.cert_check.specs.Block.{IsAnswerIn, IsCornerIn, IsRead}
use Rattle.cert_check.specs.Sparse.{AreRisingTerms, AreInRing, AreStored}
use Rattle.cert_check.proofs.Tables.{all_ranks}

-- what holds of each member holds at each place
pub each_all : {X : Type 0} (Q : X → Type 0) (xs : List X) → AllByRecursion Q xs → All Q xs
each_all Q [] h k d l = absurd (omega (arith, l))
each_all Q (x ∷ xs) h zero d l = h.0
each_all Q (x ∷ xs) h (suc k) d l = each_all Q xs h.1 k d (omega (arith, l))

-- what follows of each
each_more : {X : Type 0} (Q S : X → Type 0) → ((x : X) → Q x → S x) → (xs : List X) → AllByRecursion Q xs → AllByRecursion S xs
each_more Q S f [] h = tt
each_more Q S f (x ∷ xs) h = (f x h.0, each_more Q S f xs h.1)

-- terms by rank are in the ring
terms_in : (P : Problem) (ts : List Term) → AreTerms P ts → AreInRing P ts
terms_in P ts h = record { rising = rising ts h; ranks = each_all (λ (t : Term). t.rank < (ranks_of_problem P).n) ts (ranks ts h); residues = each_all (λ (t : Term). (0 < t.coef) × (t.coef < P.p)) ts (residues ts h) }
  where
    rising : (ts : List Term) → AreTerms P ts → AreRisingTerms ts
    rising [] h = tt
    rising (t ∷ []) h = tt
    rising (t ∷ u ∷ ts) h = (h.3, rising (u ∷ ts) h.4)

    ranks : (ts : List Term) → AreTerms P ts → AllByRecursion (λ (t : Term). t.rank < (ranks_of_problem P).n) ts
    ranks [] h = tt
    ranks (t ∷ ts) h = (omega (arith, h.0, all_ranks P (shape_of P) refl), ranks ts h.4)

    residues : (ts : List Term) → AreTerms P ts → AllByRecursion (λ (t : Term). (0 < t.coef) × (t.coef < P.p)) ts
    residues [] h = tt
    residues (t ∷ ts) h = ((h.1, h.2), residues ts h.4)

-- an answer of the ring is in the problem's variables
answer_in : (P : Problem) (r : Ring) (a : Answer) (corner : Option (List ℕ)) → length r.letters ≡ P.n → IsVerdict r (verdict_of a corner) → IsAnswerIn P a
answer_in P r (Fits gs s) corner e h = (
  each_all (λ f. f.n ≡ P.n) gs (each_more _ (λ f. f.n ≡ P.n) (λ f x. x.poly.variables ∙ e) gs h.basis),
  each_all (λ (m : List ℕ). length m ≡ P.n) s (each_more _ (λ (m : List ℕ). length m ≡ P.n) (λ m x. x.in_ring ∙ e) s h.stair),
)
answer_in P r (TooSmall m) corner e h = h.in_ring ∙ e

-- so is the corner that is named
corner_in : (P : Problem) (r : Ring) (a : Answer) (corner : Option (List ℕ)) → length r.letters ≡ P.n → IsVerdict r (verdict_of a corner) → HasCorner a corner → IsCornerIn P corner
corner_in P r (TooSmall m) corner e h c = subst (IsCornerIn P) (sym c) tt
corner_in P r (Fits gs s) corner e h c = go corner h.corner
  where
    go : (o : Option (List ℕ)) → IsCorner r o → IsCornerIn P o
    go None h = tt
    go (Some m) h = h.in_ring ∙ e

-- what is certified was read
pub certified_read : (x : Certified) → IsCertified x → IsRead x
certified_read x h = record {
  problem = h.problem;
  few = h.few_entries;
  entries = each_all (λ e. AreStored x.problem e.terms) x.entries (each_more _ (λ e. AreStored x.problem e.terms) (λ e i. record { terms = terms_in x.problem e.terms i.terms; some = i.some_terms }) x.entries h.entries);
  readings = each_all (λ e. 0 < length e.reads) x.entries (each_more _ (λ e. 0 < length e.reads) (λ e i. i.some_reads) x.entries h.entries);
  answer = answer_in x.problem (ring_of x) x.answer x.corner h.variables h.verdict;
  corner = corner_in x.problem (ring_of x) x.answer x.corner h.variables h.verdict h.corner;
}
