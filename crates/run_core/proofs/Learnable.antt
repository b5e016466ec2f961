-- The terms of a legal entry are those of a monic polynomial, so a run may learn the entry.
-- The terms of a vector by induction on the ranks; the first coefficient is 1, since a legal entry is monic.
use Rattle.std.proofs.Common.{◌≡◌, ℕ, zero, suc, ◌+◌, ◌%◌, ◌<◌, ◌≤◌, Bool, true, false, cond, eqb, List, [], ◌∷◌, length, get_or, Some, refl, sym, ◌∙◌, ap, subst, arith}
use Rattle.std.specs.List.{slice_get}
use Rattle.std.proofs.Math.Nat.{mod-lt, mod-eq_of_lt}
use Rattle.std.proofs.lemmas.Bool.{eq-eqb}
use Rattle.std.proofs.lemmas.Option.{slice_get-get_or}
use Rattle.std.proofs.lemmas.List.Elements.{All-from_get_or}
use Rattle.local_order.specs.Count.{monomial_count}
use Rattle.sparse_poly.specs.Ideal.{Problem}
use Rattle.entry_code.specs.declared.term.Term.{Term}
use Rattle.entry_code.specs.Entry.{Entry, entry_at}
use Rattle.rank_algebra.specs.Ranks.{Ranks}
use Rattle.rank_algebra.specs.Vector.{Vector, Same}
use Rattle.mora_law.specs.Ring.{ranks_of_problem, IsAdmissible}
use Rattle.mora_law.specs.Lead.{is_none_at}
use Rattle.mora_law.specs.Entries.{lead_rank}
use Rattle.entry_code.specs.Terms.{vector_of_terms}
use Rattle.mora_law.specs.Legal.{Legal}
use Rattle.mora_law.proofs.Terms.{term_by, terms_from, terms_walk}
use Rattle.mora_law.proofs.Ring.{ranks_p, ranks_count, count_is}
use Rattle.mora_law.proofs.Problems.{monic}
use Rattle.mora_law.proofs.EntryPolynomials.{legal_by_rank}
use Rattle.mora_form.specs.State.{AreMonicTerms, first_coef}

-- the term is one of the ranks from r on, with a residue other than 0
record IsTermFrom (R : Ranks) (left r : ℕ) (t : Term) : Type 0 where
  low : r ≤ t.rank
  high : t.rank < r + left
  some : 0 < t.coef
  small : t.coef < R.p

-- each term of some ranks is such a one
terms_within : (R : Ranks) (v : Vector) → 0 < R.p → (left r k : ℕ) (t : Term) → slice_get (terms_from R left r v) k ≡ Some t → IsTermFrom R left r t
terms_within R v positive zero r k t e = absurd (cc e)
terms_within R v positive (suc left) r k t e = go (is_none_at R v r) refl k e (λ j f. terms_within R v positive left (suc r) j t f)
  where
    wider : IsTermFrom R left (suc r) t → IsTermFrom R (suc left) r t
    wider h = record { low = omega (arith, h.low); high = omega (arith, h.high); some = h.some; small = h.small }

    go : (b : Bool) → is_none_at R v r ≡ b → (k : ℕ) → slice_get (term_by r (v r % R.p) (terms_from R left (suc r) v) b) k ≡ Some t →
        ((j : ℕ) → slice_get (terms_from R left (suc r) v) j ≡ Some t → IsTermFrom R left (suc r) t) → IsTermFrom R (suc left) r t
    go true z k f later = wider (later k f)
    go false z (suc k) f later = wider (later k f)
    go false z zero f later =
        let same : record { rank = r; coef = v r % R.p } ≡ t = cc f in
        subst (IsTermFrom R (suc left) r) same (record { low = omega arith; high = omega arith; some = positive_of (v r % R.p) z; small = mod-lt (v r) positive })
      where
        positive_of : (c : ℕ) → eqb c 0 ≡ false → 0 < c
        positive_of zero z = absurd (cc z)
        positive_of (suc c) z = omega arith

-- their ranks rise
terms_rise : (R : Ranks) (v : Vector) → 0 < R.p → (left r i j : ℕ) (t u : Term) → i < j → slice_get (terms_from R left r v) i ≡ Some t → slice_get (terms_from R left r v) j ≡ Some u → t.rank < u.rank
terms_rise R v positive zero r i j t u l e f = absurd (cc e)
terms_rise R v positive (suc left) r i j t u l e f = go (is_none_at R v r) i j l e f (λ a b m x y. terms_rise R v positive left (suc r) a b t u m x y)
  where
    later : List Term
    later = terms_from R left (suc r) v

    go : (b : Bool) (i j : ℕ) → i < j → slice_get (term_by r (v r % R.p) later b) i ≡ Some t → slice_get (term_by r (v r % R.p) later b) j ≡ Some u →
        ((a b : ℕ) → a < b → slice_get later a ≡ Some t → slice_get later b ≡ Some u → t.rank < u.rank) → t.rank < u.rank
    go true i j l e f rest = rest i j l e f
    go false i zero l e f rest = absurd (omega (arith, l))
    go false (suc i) (suc j) l e f rest = rest i j (omega (arith, l)) e f
    go false zero (suc j) l e f rest =
        let same : record { rank = r; coef = v r % R.p } ≡ t = cc e in
        subst (λ (x : Term). x.rank < u.rank) same ((terms_within R v positive left (suc r) j u f).low)

-- nothing isn't 1
zero_not_one : (p : ℕ) → 1 < p → Same p 0 1 → ⊥
zero_not_one p prime s =
    let low : 0 % p ≡ 0 = mod-eq_of_lt (omega (arith, prime)) in
    let high : 1 % p ≡ 1 = mod-eq_of_lt prime in
    absurd (omega (arith, s.eq, low, high))

-- the first coefficient is 1 where it is so modulo p
first_is_one : (p : ℕ) (t : Term) (xs : List Term) → 1 < p → t.coef < p → Same p (vector_of_terms (t ∷ xs) t.rank) 1 → t.coef ≡ 1
first_is_one p t xs prime small same =
    let c : Same p t.coef 1 = subst (λ b. Same p (cond b t.coef (vector_of_terms xs t.rank)) 1) (eq-eqb t.rank t.rank refl) same in
    sym (mod-eq_of_lt small) ∙ c.eq ∙ mod-eq_of_lt prime

-- the terms of a legal entry
pub legal_terms : (P : Problem) → IsAdmissible P → (entries : List Entry) → Legal P entries → (k : ℕ) → k < length entries →
    AreMonicTerms P.p (monomial_count P.n P.d) (entry_at entries k).terms
legal_terms P h entries legal k l = by_terms ts refl
  where
    R : Ranks
    R = ranks_of_problem P

    ts : List Term
    ts = (entry_at entries k).terms

    v : Vector
    v = vector_of_terms ts

    prime : 1 < P.p
    prime = omega (arith, h.prime.two_up)

    count : R.n ≡ monomial_count P.n P.d
    count = ranks_count P ∙ count_is P

    all : terms_from R R.n 0 v ≡ ts
    all = sym (terms_walk R v) ∙ legal_by_rank P h entries legal k l

    positive : 0 < R.p
    positive = omega (arith, prime, ranks_p P)

    at : (j : ℕ) (t : Term) → slice_get ts j ≡ Some t → IsTermFrom R R.n 0 t
    at j t e = terms_within R v positive R.n 0 j t (ap (λ xs. slice_get xs j) all ∙ e)

    no_term : Term
    no_term = record { rank = 0; coef = 0 }

    one : Same P.p (vector_of_terms ts (lead_rank ts)) 1
    one = subst (λ n. Same n (vector_of_terms ts (lead_rank ts)) 1) (ranks_p P) ((monic P h entries legal).one k l)

    by_terms : (xs : List Term) → ts ≡ xs → AreMonicTerms P.p (monomial_count P.n P.d) ts
    by_terms [] e = absurd (zero_not_one P.p prime (subst (λ xs. Same P.p (vector_of_terms xs (lead_rank xs)) 1) e one))
    by_terms (t ∷ xs) e = record {
      some = subst (λ ys. 0 < length ys) (sym e) (omega arith);
      ranks = record {
        rising = λ i j a b m f g. terms_rise R v positive R.n 0 i j a b m (ap (λ ys. slice_get ys i) all ∙ f) (ap (λ ys. slice_get ys j) all ∙ g);
        low = All-from_get_or (λ t. t.rank < monomial_count P.n P.d) ts no_term (λ j m. let h = at j _ (slice_get-get_or ts j no_term m) in omega (arith, h.high, count));
      };
      one = ap first_coef e ∙ first_is_one P.p t xs prime small (subst (λ ys. Same P.p (vector_of_terms ys (lead_rank ys)) 1) e one);
      residues = All-from_get_or (λ t. (0 < t.coef) × (t.coef < P.p)) ts no_term (λ j m. let h = at j _ (slice_get-get_or ts j no_term m) in (h.some, subst (λ n. (get_or ts j no_term).coef < n) (ranks_p P) h.small));
    }
      where
        small : t.coef < P.p
        small = subst (λ n. t.coef < n) (ranks_p P) ((at 0 t (ap (λ ys. slice_get ys 0) e)).small)
