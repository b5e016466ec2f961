-- Polynomials against terms by rank, and against the members of the basis.
-- Two lists of one length are one where they have the same at each place.
use Rattle.std.proofs.Common.{◌≡◌, ℕ, zero, suc, ◌+◌, ◌-◌, ◌<◌, ◌≤◌, ◌↔◌, List, [], ◌∷◌, length, map, get_or, slice_get, Bool, IsTrue, Option, Some, refl, sym, ◌∙◌, ap, ap₂, subst, arith, below_more}
use Rattle.std.proofs.lemmas.List.{get_or-map, length-map, same_lists}
use Rattle.std.proofs.lemmas.Option.{slice_get_within, get_or_from_slice_get}
use Rattle.local_order.specs.Shape.{Shape}
use Rattle.mono_rank.specs.Rank.{HasRank, mono_of_rank}
use Rattle.sparse_poly.specs.Poly.{Term as PolyTerm, Poly, Polynomial, IsSorted}
use Rattle.sparse_poly.specs.Ideal.{Problem}
use Rattle.entry_code.specs.declared.term.Term.{Term}
use Rattle.entry_code.specs.Entry.{Entry}
use Rattle.mora_law.specs.Ring.{numbering_of, ranks_of_problem}
use Rattle.mora_law.specs.Entries.{basis_of, terms_of, poly_term, poly_of_terms}
use Rattle.mora_law.specs.Basis.{tidied, basis}
use Rattle.mora_law.proofs.Ring.{mono_is}
use Rattle.cert_check.specs.Block.{terms_of_each}
use Rattle.cert_check.specs.Sparse.{HasTable}
use Rattle.cert_check.specs.Accepted.{before}
use Rattle.cert_check.proofs.Tables.{mono_of}
use Rattle.cert_check.specs.Answers.{ArePlaces, IsMemberAt}
use Rattle.cert_check.proofs.Minimal.{basis_at_places}

-- a term of a sorted polynomial has the ring's variables
pub sorted_term : (n : ℕ) (f : Poly) (k : ℕ) (t : PolyTerm) → IsSorted n f → slice_get f k ≡ Some t → length t.mono ≡ n
sorted_term n [] k t s e = absurd (cc e)
sorted_term n (u ∷ f) zero t s e = let z : u ≡ t = cc e in subst (λ (x : PolyTerm). length x.mono ≡ n) z s.0
sorted_term n (u ∷ f) (suc k) t s e = sorted_term n f k t s.3 e

-- a term is one by rank where it has its coefficient and the monomial of its rank
pub term_is : (P : Problem) (t : PolyTerm) (u : Term) (m : List ℕ) (answer : Bool) → (numbering_of P).mono u.rank ≡ m → t.coef ≡ u.coef → IsTrue answer ↔ (t.mono ≡ m) → IsTrue answer ↔ (t ≡ poly_term P u)
term_is P t u m answer e q same = (
  (λ y. let z : t.mono ≡ (numbering_of P).mono u.rank = same.0 y ∙ sym e in whole t u.coef ((numbering_of P).mono u.rank) q z),
  (λ g. same.1 (ap (λ (x : PolyTerm). x.mono) g ∙ e)),
)
  where
    whole : (t : PolyTerm) (c : ℕ) (m : List ℕ) → t.coef ≡ c → t.mono ≡ m → t ≡ record { mono = m; coef = c }
    whole t c m q z = ap₂ (λ (m : List ℕ) (c : ℕ). let x : PolyTerm = record { mono = m; coef = c } in x) z q

module _ (P : Problem) (f : Poly) (ts : List Term) where
  -- the first k terms are the same
  pub record AreSameTo (k : ℕ) : Type 0 where
    pub is : (i : ℕ) (d : PolyTerm) → i < k → get_or f i d ≡ get_or (poly_of_terms P ts) i d

  -- at the beginning there are none
  pub none_same : AreSameTo 0
  none_same = record { is = λ i d l. absurd (omega (arith, l)) }

  -- the term at a place of the list of terms
  there : (k : ℕ) (t : PolyTerm) (u : Term) → slice_get f k ≡ Some t → slice_get ts k ≡ Some u → (d : PolyTerm) → (get_or f k d ≡ t) × (get_or (poly_of_terms P ts) k d ≡ poly_term P u)
  there k t u e g d = (get_or_from_slice_get f k t d e, get_or-map (poly_term P) ts k u d (slice_get_within ts k u g) ∙ ap (poly_term P) (get_or_from_slice_get ts k u u g))

  -- one more
  pub one_same : (k : ℕ) (t : PolyTerm) (u : Term) → slice_get f k ≡ Some t → slice_get ts k ≡ Some u → t ≡ poly_term P u → AreSameTo k → AreSameTo (k + 1)
  one_same k t u e g q a = record {
    is = λ i d. below_more (λ i. get_or f i d ≡ get_or (poly_of_terms P ts) i d) k (λ j l. a.is j d l) (let z = there k t u e g d in z.0 ∙ q ∙ sym z.1) i;
  }

  -- where one differs they differ
  pub one_differs : (k : ℕ) (t : PolyTerm) (u : Term) → slice_get f k ≡ Some t → slice_get ts k ≡ Some u → f ≡ poly_of_terms P ts → t ≡ poly_term P u
  one_differs k t u e g q = let z = there k t u e g t in sym z.0 ∙ ap (λ (x : Poly). get_or x k t) q ∙ z.1

  -- all are the same
  pub all_same : (k : ℕ) → length f ≡ length ts → length f ≤ k → AreSameTo k → f ≡ poly_of_terms P ts
  all_same k e l a = same_lists f (poly_of_terms P ts) (e ∙ sym (length-map ts (poly_term P))) (λ i d m. a.is i d (omega (arith, m, l)))

  -- one is as long as the other
  pub same_long : f ≡ poly_of_terms P ts → length f ≡ length ts
  same_long q = ap length q ∙ length-map ts (poly_term P)

-- the polynomial at a place is the member exactly where it has the terms of what its entry makes
pub member_is : (P : Problem) (entries : List Entry) (places : List ℕ) → ArePlaces P entries places → (gs : List Polynomial) (k : ℕ) (f : Polynomial) (ts : List Term)
    → k < length places → slice_get gs k ≡ Some f → ts ≡ terms_of (ranks_of_problem P) (tidied (ranks_of_problem P) (basis_of entries) (get_or places k 0))
    → (f.terms ≡ poly_of_terms P ts) ↔ IsMemberAt P entries gs k
member_is P entries places is gs k f ts l g q = ((λ h. own ∙ h ∙ sym made), (λ h. sym own ∙ h ∙ made))
  where
    own : get_or (terms_of_each gs) k [] ≡ f.terms
    own = get_or-map (λ (x : Polynomial). x.terms) gs k f [] (slice_get_within gs k f g) ∙ ap (λ (x : Polynomial). x.terms) (get_or_from_slice_get gs k f f g)

    made : get_or (basis P entries) k [] ≡ poly_of_terms P ts
    made =
        ap (λ (fs : List Poly). get_or fs k []) (basis_at_places P entries places is)
        ∙ get_or-map (λ j. poly_of_terms P (terms_of (ranks_of_problem P) (tidied (ranks_of_problem P) (basis_of entries) j))) places k 0 [] l
        ∙ ap (poly_of_terms P) (sym q)

-- a monomial is the one of the rank before w where that has it
pub before_is : (P : Problem) → 1 ≤ P.n → (T : Shape) → HasTable P T → (w : ℕ) (k x : List ℕ) (o : Option (List ℕ)) (answer : Bool) → (w ≡ 0 → ⊥) → HasRank T k (w - 1) → o ≡ Some x → IsTrue answer ↔ (k ≡ x)
    → IsTrue answer ↔ (o ≡ before P w)
before_is P some T t zero k x o answer n ranked e same = absurd (n refl)
before_is P some T t (suc w) k x o answer n ranked e same = ((λ y. e ∙ ap Some (sym (same.0 y) ∙ sym is)), (λ g. same.1 (sym is ∙ (let q : Some ((numbering_of P).mono w) ≡ Some x = sym g ∙ e in cc q))))
  where
    is : (numbering_of P).mono w ≡ k
    is = mono_of P some T t k w (subst (HasRank T k) (let z : suc w - 1 ≡ w = omega arith in z) ranked)

-- the monomial of a rank by the table
pub mono_by : (P : Problem) → 1 ≤ P.n → (T : Shape) → HasTable P T → (m : List ℕ) (r : ℕ) → HasRank T m r → mono_of_rank T r ≡ m
mono_by P some T t m r h = ap (λ (x : Shape). mono_of_rank x r) t ∙ sym (mono_is P r) ∙ mono_of P some T t m r h

-- the monomials of ranks against a list, at a place
pub mono_at_place : (P : Problem) → 1 ≤ P.n → (T : Shape) → HasTable P T → (ranks : List ℕ) (list : List (List ℕ)) (k r : ℕ) (m x : List ℕ) → slice_get ranks k ≡ Some r → slice_get list k ≡ Some x → HasRank T m r
    → (get_or list k [] ≡ x) × (get_or (map (mono_of_rank T) ranks) k [] ≡ m)
mono_at_place P some T t ranks list k r m x e g h = (
  get_or_from_slice_get list k x [] g,
  get_or-map (mono_of_rank T) ranks k r [] (slice_get_within ranks k r e) ∙ ap (mono_of_rank T) (get_or_from_slice_get ranks k r r e) ∙ mono_by P some T t m r h,
)
