-- What answers a problem can be certified: its entries are numbers of a certificate with terms by rank, since they are legal,
-- and its answer is in the ring, since it has the monomials and members that the ideal determines, each once.
use Rattle.std.proofs.Common.{◌≡◌, ◌≢◌, ℕ, zero, suc, ◌+◌, ◌%◌, ◌<◌, ◌≤◌, List, [], ◌∷◌, length, map, get_or, Bool, true, false, refl, sym, ◌∙◌, ap, subst, arith}
use Rattle.std.specs.Prelude.{All, Contains, eqb, if◌then◌else◌}
use Rattle.std.proofs.Math.Nat.{mod-lt, mod-eq_of_lt, zero-mod}
use Rattle.std.specs.List.{AllByRecursion, AllZip}
use Rattle.std.proofs.lemmas.Bool.{le-leb}
use Rattle.local_order.specs.Limits.{max_generators, max_monomials}
use Rattle.local_order.specs.Mono.{degree, same}
use Rattle.local_order.specs.Shape.{count}
use Rattle.local_order.proofs.Order.{above_irrefl, same-false}
use Rattle.mono_rank.specs.Rank.{rank_of}
use Rattle.mono_rank.proofs.Ranks.{rank_above, rank_low}
use Rattle.rank_algebra.specs.Ranks.{Ranks}
use Rattle.rank_algebra.specs.Vector.{Same, Vector}
use Rattle.sparse_poly.specs.Poly.{Term as PolyTerm, Poly, Polynomial, coef, total, IsCanonical, IsAboveFirst}
use Rattle.sparse_poly.specs.Ideal.{Problem, IsProblem, IsFalling, IsReducedMember}
use Rattle.sparse_poly.specs.Shape.{shape_of}
use Rattle.sparse_poly.specs.Letters.{AreLetters}
use Rattle.sparse_poly.proofs.Unique.{coef-first, below-down}
use Rattle.entry_code.specs.declared.item.Item.{Item}
use Rattle.entry_code.specs.declared.item.Item.TheVariants.{Generator, Pair}
use Rattle.entry_code.specs.declared.reading.Reading.{Reading}
use Rattle.entry_code.specs.declared.term.Term.{Term}
use Rattle.entry_code.specs.Entry.{Entry, entry_at}
use Rattle.mora_law.specs.Ring.{numbering_of, ranks_of_problem, generators_of}
use Rattle.entry_code.specs.Terms.{vector_of_terms}
use Rattle.mora_law.specs.Lead.{is_none_at}
use Rattle.mora_law.specs.Run.{AreOrderly}
use Rattle.mora_law.specs.Entries.{basis_of, monic as monic_of}
use Rattle.mora_law.specs.Start.{run_of}
use Rattle.mora_law.specs.Legal.{IsItemOf, Legal}
use Rattle.mora_law.proofs.Terms.{term_by, terms_from, terms_walk}
use Rattle.mora_law.proofs.Ring.{ranks_are, ranks_p, problem_is_admissible}
use Rattle.mora_law.proofs.Orderly.{known_le}
use Rattle.mora_law.proofs.Existence.{few_entries}
use Rattle.mora_law.proofs.Problems.{monic}
use Rattle.text_out.specs.Answers.{IsInRing}
use Rattle.text_out.specs.declared.answer.Answer.{Answer}
use Rattle.text_out.specs.declared.answer.Answer.TheVariants as answers
use Rattle.cert_grammar.specs.Words.{Ring, IsNonzeroOf, IsMonoOf}
use Rattle.cert_grammar.specs.Cert.{IsNumber, IsItem, IsReading, IsCorner, IsVerdict}
use Rattle.cert_grammar.specs.Certified.{IsBefore, AreTerms, IsRunEntry, HasCorner, IsCertified, verdict_of}
use Rattle.cert_write.specs.Claim.{last_of, corner_of, claim}
use Rattle.local_std.specs.Answer.{IsAnswerOf}

-- ---- entries
-- What is at most 4,096 is a number of a certificate.
number_is : (n : ℕ) → n ≤ max_monomials → IsNumber n
number_is n l = le-leb n 65535 (omega (arith, l))

-- An item that speaks of the generators and the entries before it has numbers of a certificate.
item_is : (m i : ℕ) (item : Item) → m ≤ max_generators → i ≤ max_monomials → IsItemOf m i item → IsItem item
item_is m i (Generator g) few low h = number_is g (omega (arith, few, h))
item_is m i (Pair a b) few low h = (number_is a (omega (arith, low, h.0, h.1)), number_is b (omega (arith, low, h.1)))

-- Readings in order know no more than the entries before, and have no greater corner than the number of monomials.
reads_are : (i : ℕ) (ds : List Reading) (known w : ℕ) → i ≤ max_monomials → w ≤ max_monomials → AreOrderly i known w ds → AllByRecursion IsReading ds
reads_are i [] known w low few h = tt
reads_are i (d ∷ ds) known w low few h = (
  record { known = number_is d.known (omega (arith, known_le i ds d.known d.corner h.2, low)); corner = number_is d.corner (omega (arith, h.1, few)) },
  reads_are i ds d.known d.corner low (omega (arith, h.1, few)) h.2,
)

-- There are as many ranks as monomials.
ranks_n : (P : Problem) → (ranks_of_problem P).n ≡ count (shape_of P)
unfolding ranks_of_problem numbering_of
ranks_n P = refl

-- Terms with a coefficient of 1 are some.
some_terms : (p r : ℕ) (ts : List Term) → 2 ≤ p → Same p (vector_of_terms ts r) 1 → 1 ≤ length ts
some_terms p r [] two h = absurd (let e : 0 % p ≡ 1 % p = h.eq in omega (arith, e, zero-mod p, mod-eq_of_lt two))
some_terms p r (t ∷ ts) two h = omega arith

-- The terms of a vector are terms by rank.
terms_are : (P : Problem) (R : Ranks) → R.p ≡ P.p → 0 < P.p → (v : Vector) (left from : ℕ) → from + left ≤ count (shape_of P) →
    AreTerms P (terms_from R left from v) × ((t : Term) → t.rank < from → IsBefore t (terms_from R left from v))
terms_are P R p pos v zero from low = (tt, λ t l. tt)
terms_are P R p pos v (suc left) from low = go (is_none_at R v from) refl (terms_are P R p pos v left (suc from) (omega (arith, low)))
  where
    go : (b : Bool) → is_none_at R v from ≡ b → AreTerms P (terms_from R left (suc from) v) × ((t : Term) → t.rank < suc from → IsBefore t (terms_from R left (suc from) v)) →
        AreTerms P (term_by from (v from % R.p) (terms_from R left (suc from) v) b) × ((t : Term) → t.rank < from → IsBefore t (term_by from (v from % R.p) (terms_from R left (suc from) v) b))
    go true e h = (h.0, λ t l. h.1 t (omega (arith, l)))
    go false e h = ((omega (arith, low), some (v from % R.p) e, less, h.1 (record { rank = from; coef = v from % R.p }) (omega arith), h.0), λ t l. l)
      where
        less : v from % R.p < P.p
        less = subst (λ k. v from % k < P.p) (sym p) (mod-lt (v from) pos)

        some : (c : ℕ) → eqb c 0 ≡ false → 0 < c
        some zero n = absurd (cc (n))
        some (suc c) n = omega arith

-- ---- the ring
-- Falling monomials of low degree are no more than there are.
falling_few : (P : Problem) (m : List ℕ) (ms : List (List ℕ)) → IsFalling P (m ∷ ms) → ((k : List ℕ) → Contains (m ∷ ms) k → (length k ≡ P.n) × (degree k ≤ P.d)) →
    rank_of (shape_of P) m + length (m ∷ ms) ≤ count (shape_of P)
falling_few P m [] h low = let l = low m (0, omega arith, refl) in omega (arith, rank_low (shape_of P) m l.0 l.1)
falling_few P m (k ∷ ms) h low =
    let l = low m (0, omega arith, refl) in
    omega (arith, rank_above (shape_of P) m k l.0 l.1 h.0, falling_few P k ms h.1 (λ x c. low x (later x c)))
  where
    later : (x : List ℕ) → Contains (k ∷ ms) x → Contains (m ∷ k ∷ ms) x
    later x c = (suc c.0, omega (arith, c.1), c.2)

-- So is any list of them.
list_few : (P : Problem) (ms : List (List ℕ)) → IsFalling P ms → ((k : List ℕ) → Contains ms k → (length k ≡ P.n) × (degree k ≤ P.d)) → length ms ≤ count (shape_of P)
list_few P [] h low = omega arith
list_few P (m ∷ ms) h low = omega (arith, falling_few P m ms h low)

-- A term of a canonical polynomial has its coefficient.
coef_at : (p n : ℕ) (f : Poly) (k : ℕ) (z : PolyTerm) → IsCanonical p n f → k < length f → coef p f (get_or f k z).mono ≡ (get_or f k z).coef
coef_at p n [] k z h l = absurd (omega (arith, l))
coef_at p n (t ∷ f) zero z h l = coef-first p n t f h
coef_at p n (t ∷ f) (suc k) z h l = go (same-false t.mono (get_or f k z).mono apart) (coef_at p n f k z h.4 (omega (arith, l)))
  where
    below : (f : Poly) (k : ℕ) → IsCanonical p n f → IsAboveFirst t.mono f → k < length f → IsAboveFirst t.mono (get_or f k z ∷ [])
    below [] k h a l = absurd (omega (arith, l))
    below (s ∷ f) zero h a l = a
    below (s ∷ f) (suc k) h a l = below f k h.4 (below-down p n t.mono s f a h.3) (omega (arith, l))

    apart : t.mono ≢ (get_or f k z).mono
    apart e = above_irrefl t.mono (subst (λ m. IsAboveFirst t.mono (record { mono = m; coef = 0 } ∷ [])) (sym e) (below f k h.4 h.3 (omega (arith, l))))

    go : same t.mono (get_or f k z).mono ≡ false → coef p f (get_or f k z).mono ≡ (get_or f k z).coef → coef p (t ∷ f) (get_or f k z).mono ≡ (get_or f k z).coef
    go off e =
        ap (λ b. ((if b then t.coef else 0) + total f (get_or f k z).mono) % p) off
        ∙ ap (λ n. n % p) (let q : 0 + total f (get_or f k z).mono ≡ total f (get_or f k z).mono = omega arith in q) ∙ e

-- A term of a canonical polynomial has a monomial of the ring and a coefficient above 0.
term_in : (p n : ℕ) (f : Poly) (k : ℕ) (z : PolyTerm) → IsCanonical p n f → k < length f → (length (get_or f k z).mono ≡ n) × (0 < (get_or f k z).coef)
term_in p n [] k z h l = absurd (omega (arith, l))
term_in p n (t ∷ f) zero z h l = (h.0, h.1)
term_in p n (t ∷ f) (suc k) z h l = term_in p n f k z h.4 (omega (arith, l))

-- A member of the reduced basis is a polynomial of the ring other than 0.
member_is : (P : Problem) (letters : List ℕ) → length letters ≡ P.n → 2 ≤ P.p → (f : Polynomial) (m : List ℕ) → f.n ≡ P.n → IsReducedMember P f.terms m →
    IsNonzeroOf (record { p = P.p; letters = letters; d = P.d }) f
member_is P letters n two f m own h = record {
  poly = record {
    variables = own ∙ sym n;
    canonical = subst (λ k. IsCanonical P.p k f.terms) (sym n) h.form;
    low = λ k z l.
        let t = term_in P.p P.n f.terms k z h.form l in
        h.low (get_or f.terms k z).mono t.0 (λ e. omega (arith, sym (coef_at P.p P.n f.terms k z h.form l) ∙ e, t.1));
  };
  some = λ e. absurd (zero_no (subst (λ (g : Poly). coef P.p g m ≡ 1) e h.monic));
}
  where
    zero_no : 0 % P.p ≡ 1 → ⊥
    zero_no e = omega (arith, sym (zero-mod P.p) ∙ e)

-- So are all members, and there are as many as leads.
members_are : (P : Problem) (letters : List ℕ) → length letters ≡ P.n → 2 ≤ P.p → (fs : List Polynomial) (leads : List (List ℕ)) → All (λ (f : Polynomial). f.n ≡ P.n) fs →
    AllZip (IsReducedMember P) (map (λ f. f.terms) fs) leads → AllByRecursion (IsNonzeroOf (record { p = P.p; letters = letters; d = P.d })) fs × (length fs ≡ length leads)
members_are P letters n two [] [] own h = (tt, refl)
members_are P letters n two [] (m ∷ leads) own h = absurd h
members_are P letters n two (f ∷ fs) [] own h = absurd h
members_are P letters n two (f ∷ fs) (m ∷ leads) own h =
    let rest = members_are P letters n two fs leads (λ k z l. own (suc k) z (omega (arith, l))) h.1 in
    ((member_is P letters n two f m (own 0 f (omega arith)) h.0, rest.0), ap suc rest.1)

-- The monomials of a list are those of the ring where each that it contains is.
monos_are : (r : Ring) (ms : List (List ℕ)) → ((k : List ℕ) → Contains ms k → (length k ≡ length r.letters) × (degree k ≤ r.d)) → AllByRecursion (IsMonoOf r) ms
monos_are r [] low = tt
monos_are r (m ∷ ms) low =
    let l = low m (0, omega arith, refl) in
    (record { in_ring = l.0; low = l.1 }, monos_are r ms (λ x c. low x (suc c.0, omega (arith, c.1), c.2)))

-- The last of them is.
last_is : (r : Ring) (ms : List (List ℕ)) → AllByRecursion (IsMonoOf r) ms → IsCorner r (last_of ms)
last_is r [] h = tt
last_is r (m ∷ []) h = h.0
last_is r (m ∷ k ∷ ms) h = last_is r (k ∷ ms) h.1

-- ---- all of it
-- the polynomials of an answer are in so many variables
abbrev pub HasVariables : ℕ → Answer → Type 0
HasVariables n (answers.Fits basis stair) = All (λ (f : Polynomial). f.n ≡ n) basis
HasVariables n (answers.TooSmall missing) = Unit {0}

-- An answer in the ring is.
pub ring_variables : (p n : ℕ) (answer : Answer) → IsInRing p n answer → HasVariables n answer
ring_variables p n (answers.Fits basis stair) h = λ k z l. (h.0 k z l).0
ring_variables p n (answers.TooSmall missing) h = tt

module _ (P : Problem) (problem : IsProblem P) (letters : List ℕ) (are : AreLetters letters) (n : length letters ≡ P.n) where
  -- a prime is at least 2
  two : 2 ≤ P.p
  two = (problem_is_admissible P problem).prime.two_up

  -- The verdict that an answer makes is one of the ring.
  verdict_is : (answer : Answer) → HasVariables P.n answer → IsAnswerOf P answer → IsVerdict (record { p = P.p; letters = letters; d = P.d }) (verdict_of answer (corner_of answer))
  verdict_is (answers.TooSmall missing) own h = record { in_ring = h.in_ring ∙ sym n; top = h.top }
  verdict_is (answers.Fits basis stair) own (fits, reduced, staircase) = record {
    few = le-leb (length basis) max_monomials (omega (arith, members.1, few_leads, problem.monomials));
    basis = members.0;
    corner = last_is (record { p = P.p; letters = letters; d = P.d }) stair monos;
    few_stairs = number_is (length stair) (omega (arith, list_few P stair staircase.falling staircase.only, problem.monomials));
    stair = monos;
  }
    where
      members : AllByRecursion (IsNonzeroOf (record { p = P.p; letters = letters; d = P.d })) basis × (length basis ≡ length reduced.leads)
      members = members_are P letters n two basis reduced.leads own reduced.members

      few_leads : length reduced.leads ≤ count (shape_of P)
      few_leads = list_few P reduced.leads reduced.falling (λ k c. let l = (reduced.minimal k).0 c in (l.lead.lead.in_ring, l.lead.low))

      monos : AllByRecursion (IsMonoOf (record { p = P.p; letters = letters; d = P.d })) stair
      monos = monos_are (record { p = P.p; letters = letters; d = P.d }) stair (λ k c. let l = staircase.only k c in (l.0 ∙ sym n, l.1))

  module _ (entries : List Entry) (legal : Legal P entries) where
    -- there are at most as many entries as monomials
    few : length entries ≤ max_monomials
    few = omega (arith, few_entries (ranks_of_problem P) (ranks_are P (problem_is_admissible P problem)) (generators_of P) entries legal, ranks_n P, problem.monomials)

    -- what the run of entry i ends with, made monic
    abbrev ended : ℕ → Vector
    ended i = monic_of (ranks_of_problem P) (run_of (ranks_of_problem P) (generators_of P) (basis_of entries) (entry_at entries i).item (entry_at entries i).reads).poly

    -- Each legal entry is one of a certificate.
    entry_is : (i : ℕ) → i < length entries → IsRunEntry P (entry_at entries i)
    entry_is i l =
        let e = legal i l in
        record {
          item = item_is (length P.gens) i (entry_at entries i).item problem.few_gens (omega (arith, l, few)) e.item;
          some_reads = e.ends.some;
          reads = reads_are i (entry_at entries i).reads 0 (ranks_of_problem P).n (omega (arith, l, few)) (omega (arith, ranks_n P, problem.monomials)) e.orderly;
          some_terms = some_terms P.p ((basis_of entries).lead i) (entry_at entries i).terms two (subst (λ q. Same q (vector_of_terms (entry_at entries i).terms ((basis_of entries).lead i)) 1) (ranks_p P) ((monic P (problem_is_admissible P problem) entries legal).one i l));
          terms = subst (AreTerms P) (sym (e.terms ∙ terms_walk (ranks_of_problem P) (ended i))) (terms_are P (ranks_of_problem P) (ranks_p P) (omega (arith, two)) (ended i) (ranks_of_problem P).n 0 (omega (arith, ranks_n P))).0;
        }

    -- So are all.
    entries_are : (es : List Entry) → ((i : ℕ) → i < length es → IsRunEntry P (entry_at es i)) → AllByRecursion (IsRunEntry P) es
    entries_are [] h = tt
    entries_are (e ∷ es) h = (h 0 (omega arith), entries_are es (λ i l. h (suc i) (omega (arith, l))))

    -- What answers a problem, with legal entries, can be certified.
    pub certified : (answer : Answer) → HasVariables P.n answer → IsAnswerOf P answer → IsCertified (claim letters P entries answer)
    certified answer own h = record {
      variables = n;
      letters = are;
      problem = problem;
      few_entries = few;
      entries = entries_are entries entry_is;
      verdict = verdict_is answer own h;
      corner = corner_is answer;
    }
      where
        corner_is : (a : Answer) → HasCorner a (corner_of a)
        corner_is (answers.Fits basis stair) = tt
        corner_is (answers.TooSmall missing) = refl
