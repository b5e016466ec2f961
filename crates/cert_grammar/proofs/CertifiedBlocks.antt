-- Certificates in the words of problems are those of the grammar: the block of what is certified is one of the grammar,
-- and each block of the grammar is that of one thing certified. Terms by rank and falling monomials are the same.
use Rattle.std.proofs.Common.{◌≡◌, ◌≢◌, ℕ, zero, suc, ◌<◌, ◌≤◌, true, List, [], ◌∷◌, length, map, get_or, Option, refl, sym, ◌∙◌, ap, subst, arith, rules}
use Rattle.std.specs.Prelude.{All, ◌&&◌, nat_le, eqb}
use Rattle.std.specs.List.{AllByRecursion, list_any}
use Rattle.std.proofs.lemmas.Bool.{le-leb, leb-true}
use Rattle.std.proofs.lemmas.List.{length-map}
use Rattle.std.proofs.lemmas.Map.Views.{Contains-from_any, list_any-from_Contains}
use Rattle.prime_field.specs.Prime.{table, InTable}
use Rattle.local_order.specs.Limits.{max_degree, max_generators, max_monomials}
use Rattle.local_order.specs.Mono.{degree}
use Rattle.local_order.specs.Count.{count_by_products, monomial_count}
use Rattle.local_order.proofs.Count.{count_by_products-is}
use Rattle.mono_rank.specs.Rank.{rank_of, mono_of_rank}
use Rattle.mono_rank.proofs.ByRank.{mono_of_rank-is, rank-mono_of_rank}
use Rattle.mono_rank.proofs.Ranks.{rank_above, rank_low, above_of_rank}
use Rattle.sparse_poly.specs.Poly.{Term as PolyTerm, Poly, Polynomial, in_variables, IsAboveFirst, IsCanonical, HasDegreeAtMost}
use Rattle.sparse_poly.specs.Ideal.{Problem, IsProblem}
use Rattle.sparse_poly.specs.Shape.{shape_of}
use Rattle.sparse_poly.specs.Letters.{AreLetters}
use Rattle.entry_code.specs.declared.term.Term.{Term}
use Rattle.entry_code.specs.Entry.{Entry as RunEntry}
use Rattle.text_out.specs.declared.answer.Answer.{Answer}
use Rattle.text_out.specs.declared.answer.Answer.TheVariants as answers
use Rattle.cert_grammar.specs.Limits.{max_prime}
use Rattle.cert_grammar.specs.Words.{Ring, IsPolyOf, is_prime, is_degree}
use Rattle.cert_grammar.specs.Entries.{Entry}
use Rattle.cert_grammar.specs.declared.block.Verdict.{Verdict}
use Rattle.cert_grammar.specs.declared.block.Verdict.TheVariants.{Fits, TooSmall}
use Rattle.cert_grammar.specs.Blocks.{Block}
use Rattle.cert_grammar.specs.Cert.{IsEntry, IsRing, IsBlock, IsVerdict}
use Rattle.cert_grammar.specs.declared.certified.Certified.{Certified}
use Rattle.cert_grammar.specs.Certified.{poly_by_rank, entry_of, verdict_of, ring_of, block_of, IsBefore, AreTerms, IsRunEntry, HasCorner, IsCertified, terms_by_rank, problem_in, run_entry, answer_in, corner_in, certified_of}
use Rattle.cert_grammar.proofs.Tools.{and_true}
use Rattle.cert_grammar.proofs.RingWords.{letters_are, letters_test}

-- ---- terms by rank
-- terms by rank are those of a canonical polynomial
canonical_by_rank : (P : Problem) → 1 ≤ P.n → (ts : List Term) → AreTerms P ts → IsCanonical P.p P.n (poly_by_rank P ts)
canonical_by_rank P some [] h = tt
canonical_by_rank P some (t ∷ ts) h = ((rank-mono_of_rank (shape_of P) t.rank some h.0).in_ring, h.1, h.2, first ts h.3 h.4, canonical_by_rank P some ts h.4)
  where
    first : (ts : List Term) → IsBefore t ts → AreTerms P ts → IsAboveFirst (mono_of_rank (shape_of P) t.rank) (poly_by_rank P ts)
    first [] b k = tt
    first (u ∷ us) b k =
        let a = rank-mono_of_rank (shape_of P) t.rank some h.0 in
        let c = rank-mono_of_rank (shape_of P) u.rank some k.0 in
        above_of_rank (shape_of P) (mono_of_rank (shape_of P) t.rank) (mono_of_rank (shape_of P) u.rank) a.in_ring c.in_ring c.low (omega (arith, a.rank, c.rank, b))

-- and have degrees within that of the problem
low_by_rank : (P : Problem) → 1 ≤ P.n → (ts : List Term) → AreTerms P ts → (k : ℕ) (z : PolyTerm) → k < length (poly_by_rank P ts) → degree (get_or (poly_by_rank P ts) k z).mono ≤ P.d
low_by_rank P some [] h k z i = absurd (omega (arith, i))
low_by_rank P some (t ∷ ts) h zero z i = (rank-mono_of_rank (shape_of P) t.rank some h.0).low
low_by_rank P some (t ∷ ts) h (suc k) z i = low_by_rank P some ts h.4 k z (omega (arith, i))

-- those of a canonical polynomial of low degree are terms by rank
are_terms : (P : Problem) (f : Poly) → IsCanonical P.p P.n f → HasDegreeAtMost P.d f → AreTerms P (terms_by_rank (shape_of P) f)
are_terms P [] h low = tt
are_terms P (t ∷ f) h low =
    (rank_low (shape_of P) t.mono h.0 here, h.1, h.2, before f h.3, are_terms P f h.4 (λ k z i. low (suc k) z (omega (arith, i))))
  where
    here : degree t.mono ≤ P.d
    here = low 0 t (omega arith)

    before : (f : Poly) → IsAboveFirst t.mono f → IsBefore (record { rank = rank_of (shape_of P) t.mono; coef = t.coef }) (terms_by_rank (shape_of P) f)
    before [] a = tt
    before (u ∷ f) a = rank_above (shape_of P) t.mono u.mono h.0 here a

-- they give the polynomial back
poly_again : (P : Problem) (f : Poly) → IsCanonical P.p P.n f → HasDegreeAtMost P.d f → poly_by_rank P (terms_by_rank (shape_of P) f) ≡ f
poly_again P [] h low = refl
poly_again P (t ∷ f) h low =
    ap (λ (m : List ℕ). record { mono = m; coef = t.coef } ∷ poly_by_rank P (terms_by_rank (shape_of P) f))
    (mono_of_rank-is (shape_of P) t.mono (rank_of (shape_of P) t.mono) (record { in_ring = h.0; low = low 0 t (omega arith); rank = refl }))
    ∙ ap (λ (z : Poly). t ∷ z) (poly_again P f h.4 (λ k z i. low (suc k) z (omega (arith, i))))

-- and terms by rank are given back by their polynomial
pub terms_again : (P : Problem) → 1 ≤ P.n → (ts : List Term) → AreTerms P ts → terms_by_rank (shape_of P) (poly_by_rank P ts) ≡ ts
terms_again P some [] h = refl
terms_again P some (t ∷ ts) h =
    ap (λ r. record { rank = r; coef = t.coef } ∷ terms_by_rank (shape_of P) (poly_by_rank P ts)) (rank-mono_of_rank (shape_of P) t.rank some h.0).rank
    ∙ ap (λ (z : List Term). t ∷ z) (terms_again P some ts h.4)

-- a polynomial has terms where its terms by rank are some
some_poly : (P : Problem) (ts : List Term) → 1 ≤ length ts → poly_by_rank P ts ≢ []
some_poly P [] s = absurd (omega arith)
some_poly P (t ∷ ts) s = λ e. absurd (cc)

-- A polynomial that isn't 0 has a term.
some_terms : (P : Problem) (f : Poly) → f ≢ [] → 1 ≤ length (terms_by_rank (shape_of P) f)
some_terms P [] s = absurd (s refl)
some_terms P (t ∷ f) s = omega arith

-- ---- the ring
-- a characteristic of the table passes the test
prime_test : (p : ℕ) → InTable p → is_prime p ≡ true
prime_test p h = go p (list_any-from_Contains {eq = λ a b. eqb b a} (search rules) p table h)
  where
    go : (p : ℕ) → list_any (λ q. eqb q p) table ≡ true → (nat_le p max_prime && list_any (λ q. eqb q p) table) ≡ true
    go p e = ap (λ b. b && list_any (λ q. eqb q p) table) (le-leb p max_prime (low p e)) ∙ e
      where
        low : (p : ℕ) → list_any (λ q. eqb q p) table ≡ true → p ≤ max_prime
        low p e = grind arith

-- and one that passes is in the table
prime_is : (p : ℕ) → is_prime p ≡ true → InTable p
prime_is p h = Contains-from_any {eq = λ a b. eqb b a} eqb_is p table (and_true (nat_le p max_prime) _ h).1
  where
    eqb_is : (x y : ℕ) → eqb y x ≡ true → x ≡ y
    eqb_is x y e = grind arith

-- the degree of a problem passes the test
degree_test : (n d : ℕ) → 1 ≤ d → d ≤ max_degree → monomial_count n d ≤ max_monomials → is_degree n d ≡ true
degree_test n d some low few =
    ap (λ b. b && (nat_le d max_degree && nat_le (count_by_products n d) max_monomials)) (le-leb 1 d some)
    ∙ ap (λ b. b && nat_le (count_by_products n d) max_monomials) (le-leb d max_degree low)
    ∙ ap (λ k. nat_le k max_monomials) (count_by_products-is n d) ∙ le-leb (monomial_count n d) max_monomials few

-- ---- what is certified gives a block
-- the ring
ring_is : (x : Certified) → IsCertified x → IsRing (ring_of x)
ring_is x h = record {
  p = prime_test x.problem.p h.problem.prime;
  letters = letters_test x.letters h.letters;
  d = subst (λ n. is_degree n x.problem.d ≡ true) (sym h.variables) (degree_test x.problem.n x.problem.d h.problem.degree_some h.problem.degree_few h.problem.monomials);
}

-- a polynomial of the problem's ring is one of the block's
poly_is : (x : Certified) → IsCertified x → (f : Poly) → IsCanonical x.problem.p x.problem.n f → HasDegreeAtMost x.problem.d f → IsPolyOf (ring_of x) (in_variables x.problem.n f)
poly_is x h f c low = record { variables = sym h.variables; canonical = subst (λ n. IsCanonical x.problem.p n f) (sym h.variables) c; low = low }

-- the generators
gens_are : (x : Certified) → IsCertified x → (fs : List Poly) → All (IsCanonical x.problem.p x.problem.n) fs → All (HasDegreeAtMost x.problem.d) fs →
    AllByRecursion (IsPolyOf (ring_of x)) (map (in_variables x.problem.n) fs)
gens_are x h [] c low = tt
gens_are x h (f ∷ fs) c low =
    (poly_is x h f (c 0 f (omega arith)) (low 0 f (omega arith)), gens_are x h fs (λ k z i. c (suc k) z (omega (arith, i))) (λ k z i. low (suc k) z (omega (arith, i))))

-- the entries
entries_are : (x : Certified) → IsCertified x → (es : List RunEntry) → AllByRecursion (IsRunEntry x.problem) es → AllByRecursion (IsEntry (ring_of x)) (map (entry_of x.problem) es)
entries_are x h [] k = tt
entries_are x h (e ∷ es) k = (one, entries_are x h es k.1)
  where
    one : IsEntry (ring_of x) (entry_of x.problem e)
    one = record {
      item = k.0.item;
      some = k.0.some_reads;
      reads = k.0.reads;
      poly = record {
        poly = poly_is x h (poly_by_rank x.problem e.terms) (canonical_by_rank x.problem h.problem.some e.terms k.0.terms) (low_by_rank x.problem h.problem.some e.terms k.0.terms);
        some = some_poly x.problem e.terms k.0.some_terms;
      };
    }

-- the block of what is certified is one of the grammar
pub block_is : (x : Certified) → IsCertified x → IsBlock (block_of x)
block_is x h = record {
  ring = ring_is x h;
  few_gens = le-leb (length (map (in_variables x.problem.n) x.problem.gens)) max_generators (let p : length (map (in_variables x.problem.n) x.problem.gens) ≡ length x.problem.gens = length-map x.problem.gens (in_variables x.problem.n) in let q : length x.problem.gens ≤ max_generators = h.problem.few_gens in omega (arith, p, q));
  gens = gens_are x h x.problem.gens h.problem.canonical h.problem.low;
  few_entries = le-leb (length (map (entry_of x.problem) x.entries)) max_monomials (let p : length (map (entry_of x.problem) x.entries) ≡ length x.entries = length-map x.entries (entry_of x.problem) in let q : length x.entries ≤ max_monomials = h.few_entries in omega (arith, p, q));
  entries = entries_are x h x.entries h.entries;
  verdict = h.verdict;
}

-- ---- and each block is that of what is certified
-- the verdict says the answer and the corner
verdict_again : (v : Verdict) → verdict_of (answer_in v) (corner_in v) ≡ v
verdict_again (Fits f) = refl
verdict_again (TooSmall m) = refl

-- A verdict names a corner only where it says that the degree fits.
corner_named : (v : Verdict) → HasCorner (answer_in v) (corner_in v)
corner_named (Fits f) = tt
corner_named (TooSmall m) = refl

-- An answer and its corner are those of the verdict that they make.
pub answer_again : (a : Answer) (o : Option (List ℕ)) → HasCorner a o → (answer_in (verdict_of a o) ≡ a) × (corner_in (verdict_of a o) ≡ o)
answer_again (answers.Fits basis stair) o h = (refl, refl)
answer_again (answers.TooSmall m) o h = (refl, sym h)

-- generators are those of the problem
canonical_gens : (r : Ring) (fs : List Polynomial) → AllByRecursion (IsPolyOf r) fs → (k : ℕ) (z : Poly) → k < length (map (λ f. f.terms) fs) → IsCanonical r.p (length r.letters) (get_or (map (λ f. f.terms) fs) k z)
canonical_gens r [] h k z i = absurd (omega (arith, i))
canonical_gens r (f ∷ fs) h zero z i = h.0.canonical
canonical_gens r (f ∷ fs) h (suc k) z i = canonical_gens r fs h.1 k z (omega (arith, i))

-- The generators of a ring's block have degree at most D.
low_gens : (r : Ring) (fs : List Polynomial) → AllByRecursion (IsPolyOf r) fs → (k : ℕ) (z : Poly) → k < length (map (λ f. f.terms) fs) → HasDegreeAtMost r.d (get_or (map (λ f. f.terms) fs) k z)
low_gens r [] h k z i = absurd (omega (arith, i))
low_gens r (f ∷ fs) h zero z i = h.0.low
low_gens r (f ∷ fs) h (suc k) z i = low_gens r fs h.1 k z (omega (arith, i))

-- They are polynomials in the ring's variables.
gens_again : (r : Ring) (fs : List Polynomial) → AllByRecursion (IsPolyOf r) fs → map (in_variables (length r.letters)) (map (λ f. f.terms) fs) ≡ fs
gens_again r [] h = refl
gens_again r (f ∷ fs) h =
    ap (λ n. in_variables n f.terms ∷ map (in_variables (length r.letters)) (map (λ f. f.terms) fs)) (sym h.0.variables)
    ∙ ap (λ (z : List Polynomial). f ∷ z) (gens_again r fs h.1)

-- the entries have their terms by rank
entries_in : (r : Ring) (P : Problem) → P.p ≡ r.p → P.n ≡ length r.letters → P.d ≡ r.d → (es : List Entry) → AllByRecursion (IsEntry r) es →
    AllByRecursion (IsRunEntry P) (map (run_entry (shape_of P)) es) × (map (entry_of P) (map (run_entry (shape_of P)) es) ≡ es)
entries_in r P p n d [] h = (tt, refl)
entries_in r P p n d (e ∷ es) h = (
  (one, (entries_in r P p n d es h.1).0),
  ap (λ (z : Polynomial). record { item = e.item; reads = e.reads; poly = z } ∷ map (entry_of P) (map (run_entry (shape_of P)) es))
      (ap (in_variables P.n) (poly_again P e.poly.terms canonical low) ∙ ap (λ k. in_variables k e.poly.terms) (n ∙ sym h.0.poly.poly.variables))
      ∙ ap (λ (z : List Entry). e ∷ z) (entries_in r P p n d es h.1).1,
)
  where
    canonical : IsCanonical P.p P.n e.poly.terms
    canonical = subst (λ k. IsCanonical k P.n e.poly.terms) (sym p) (subst (λ k. IsCanonical r.p k e.poly.terms) (sym n) h.0.poly.poly.canonical)

    low : HasDegreeAtMost P.d e.poly.terms
    low = subst (λ k. HasDegreeAtMost k e.poly.terms) (sym d) h.0.poly.poly.low

    one : IsRunEntry P (run_entry (shape_of P) e)
    one = record { item = h.0.item; some_reads = h.0.some; reads = h.0.reads; some_terms = some_terms P e.poly.terms h.0.poly.some; terms = are_terms P e.poly.terms canonical low }

-- the problem of a block is one
pub problem_is : (y : Block) → IsBlock y → IsProblem (problem_in y)
problem_is y h =
    let are : AreLetters y.ring.letters = letters_are y.ring.letters h.ring.letters in
    let q : (nat_le 1 y.ring.d ≡ true) × ((nat_le y.ring.d max_degree && nat_le (count_by_products (length y.ring.letters) y.ring.d) max_monomials) ≡ true) = and_true (nat_le 1 y.ring.d) _ h.ring.d in
    let s : (nat_le y.ring.d max_degree ≡ true) × (nat_le (count_by_products (length y.ring.letters) y.ring.d) max_monomials ≡ true) = and_true (nat_le y.ring.d max_degree) _ q.1 in
    record {
      prime = prime_is y.ring.p h.ring.p;
      some = are.some;
      few = are.few;
      degree_some = leb-true 1 y.ring.d q.0;
      degree_few = leb-true y.ring.d max_degree s.0;
      monomials = subst (λ k. k ≤ max_monomials) (count_by_products-is (length y.ring.letters) y.ring.d) (leb-true (count_by_products (length y.ring.letters) y.ring.d) max_monomials s.1);
      canonical = canonical_gens y.ring y.gens h.gens;
      low = low_gens y.ring y.gens h.gens;
      few_gens = subst (λ k. k ≤ max_generators) (sym (length-map y.gens (λ f. f.terms))) (leb-true (length y.gens) max_generators h.few_gens);
    }

-- what a block certifies is certified
pub certified_is : (y : Block) → IsBlock y → IsCertified (certified_of y)
certified_is y h = record {
  variables = refl;
  letters = letters_are y.ring.letters h.ring.letters;
  problem = problem_is y h;
  few_entries = subst (λ k. k ≤ max_monomials) (sym (length-map y.entries (run_entry (shape_of (problem_in y))))) (leb-true (length y.entries) max_monomials h.few_entries);
  entries = (entries_in y.ring (problem_in y) refl refl refl y.entries h.entries).0;
  verdict = subst (IsVerdict y.ring) (sym (verdict_again y.verdict)) h.verdict;
  corner = corner_named y.verdict;
}

-- and its block is this one
pub block_again : (y : Block) → IsBlock y → block_of (certified_of y) ≡ y
block_again y h =
    ap (λ (z : List Polynomial). record { ring = y.ring; gens = z; entries = map (entry_of (problem_in y)) (map (run_entry (shape_of (problem_in y))) y.entries); verdict = verdict_of (answer_in y.verdict) (corner_in y.verdict) }) (gens_again y.ring y.gens h.gens)
    ∙ ap (λ (z : List Entry). record { ring = y.ring; gens = y.gens; entries = z; verdict = verdict_of (answer_in y.verdict) (corner_in y.verdict) }) (entries_in y.ring (problem_in y) refl refl refl y.entries h.entries).1
    ∙ ap (λ (z : Verdict). record { ring = y.ring; gens = y.gens; entries = y.entries; verdict = z }) (verdict_again y.verdict)
