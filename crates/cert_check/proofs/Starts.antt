-- Where runs begin: a generator term by term, and a pair as two multiples.
-- The monomials of a generator have ranks, so each coefficient comes from the terms at one monomial.
use Rattle.std.proofs.Common.{◌≡◌, ℕ, zero, suc, ◌+◌, ◌*◌, ◌-◌, ◌%◌, ◌<◌, ◌≤◌, List, [], ◌∷◌, ◌++◌, length, map, get_or, take, slice_get, Some, cond, eqb, Bool, true, false, ◌&&◌, refl, sym, ◌∙◌, ap, ap₂, subst, arith}
use Rattle.std.proofs.Math.Nat
use Rattle.std.proofs.lemmas.Bool.{eq-eqb, ne_eqb, eqb-true, eqb-false}
use Rattle.std.proofs.lemmas.List.{take_more, take_all}
use Rattle.std.proofs.lemmas.Option.{slice_get_within, get_or_from_slice_get}
use Rattle.local_order.specs.Mono.{degree, same}
use Rattle.local_order.specs.Order.{IsAbove}
use Rattle.local_order.specs.Shape.{Shape}
use Rattle.local_order.proofs.Order.{same-true}
use Rattle.mono_rank.specs.Rank.{HasRank}
use Rattle.mono_rank.specs.Laws.{IsNumbering}
use Rattle.sparse_poly.specs.Poly.{Term as PolyTerm, Poly, Polynomial, in_variables, total, IsCanonical, HasDegreeAtMost}
use Rattle.sparse_poly.specs.Ideal.{Problem, IsProblem}
use Rattle.sparse_poly.proofs.Coef.{total-append}
use Rattle.rank_algebra.specs.Vector.{Same, Vector, less, Agree}
use Rattle.rank_algebra.proofs.Residues.{same_refl, same_of, same_trans, same_add, same_mod, same_minus_minus}
use Rattle.rank_algebra.proofs.Linear.{agree_trans}
use Rattle.rank_algebra.proofs.Division.{less_agree}
use Rattle.mora_law.specs.Ring.{numbering_of, ranks_of_problem, vector_of}
use Rattle.mora_law.proofs.Ring.{numbering_is, rank_is, ranks_p, ranks_count, problem_is_admissible}
use Rattle.cert_check.specs.Sparse.{HasTable, IsClean}

-- ---- generators
-- what a list of polynomials lends
pub lent : (n : ℕ) (gens : List Poly) (g : ℕ) (f : Polynomial) → slice_get (map (in_variables n) gens) g ≡ Some f → f.terms ≡ get_or gens g []
lent n [] g f e = absurd (cc e)
lent n (h ∷ gens) zero f e = let q : in_variables n h ≡ f = cc e in ap (λ (x : Polynomial). x.terms) (sym q)
lent n (h ∷ gens) (suc g) f e = lent n gens g f e

-- what a canonical polynomial of bounded degree has at a place
pub record IsTermIn (P : Problem) (t : PolyTerm) : Type 0 where
  pub in_ring : length t.mono ≡ P.n
  pub low : degree t.mono ≤ P.d
  pub residue : t.coef < P.p

-- A term of a canonical polynomial has the ring's variables and a residue.
canonical_term : (P : Problem) (f : Poly) (k : ℕ) (t : PolyTerm) → IsCanonical P.p P.n f → slice_get f k ≡ Some t → (length t.mono ≡ P.n) × (t.coef < P.p)
canonical_term P [] k t h e = absurd (cc e)
canonical_term P (u ∷ f) zero t h e = let z : u ≡ t = cc e in (subst (λ (x : PolyTerm). length x.mono ≡ P.n) z h.0, subst (λ (x : PolyTerm). x.coef < P.p) z h.2)
canonical_term P (u ∷ f) (suc k) t h e = canonical_term P f k t h.4 e

-- so has a generator
pub generator_term : (P : Problem) → IsProblem P → (g : ℕ) (f : Poly) → g < length P.gens → f ≡ get_or P.gens g [] → (k : ℕ) (t : PolyTerm) → slice_get f k ≡ Some t → IsTermIn P t
generator_term P h g f l q k t e = record {
  in_ring = form.0;
  low = subst (λ (x : PolyTerm). degree x.mono ≤ P.d) (get_or_from_slice_get f k t t e) (low k t (slice_get_within f k t e));
  residue = form.1;
}
  where
    form : (length t.mono ≡ P.n) × (t.coef < P.p)
    form = canonical_term P f k t (subst (IsCanonical P.p P.n) (sym q) (h.canonical g [] l)) e

    low : HasDegreeAtMost P.d f
    low = subst (HasDegreeAtMost P.d) (sym q) (h.low g [] l)

-- u has the terms so far
pub record IsWrittenSoFar (P : Problem) (f : Poly) (u : Vector) : Type 0 where
  pub clean : IsClean P u
  pub value : (r : ℕ) → r < (ranks_of_problem P).n → Same P.p (u r) (total f ((numbering_of P).mono r))

module _ (P : Problem) (h : IsProblem P) where
  -- the prime isn't 0
  pub positive : 0 < P.p
  positive = omega (arith, (problem_is_admissible P h).prime.two_up)

  -- at the beginning there are none
  pub none_written : (f : Poly) (u : Vector) → ((r : ℕ) → u r ≡ 0) → IsWrittenSoFar P (take 0 f) u
  none_written f u z = record {
    clean = record { residue = λ r. omega (arith, z r, positive); within = λ r l. z r };
    value = λ r l. same_of P.p _ _ (z r);
  }

  -- one more term
  pub one_written : (T : Shape) → HasTable P T → (f : Poly) (k : ℕ) (t : PolyTerm) → slice_get f k ≡ Some t → IsTermIn P t → (rank : ℕ) → HasRank T t.mono rank
      → (u u' : Vector) → ((r : ℕ) → u' r ≡ cond (eqb rank r) ((u r + t.coef) % P.p) (u r)) → IsWrittenSoFar P (take k f) u → IsWrittenSoFar P (take (k + 1) f) u'
  one_written T table f k t e s rank ranked u u' step w = record { clean = record { residue = λ r. residue r; within = λ r l. beyond r l }; value = λ r l. value r l }
    where
      W : IsNumbering P.n P.d IsAbove (numbering_of P)
      W = numbering_is P h.some

      is : (numbering_of P).rank t.mono ≡ rank
      is = let z = subst (λ x. HasRank x t.mono rank) table ranked in rank_is P t.mono ∙ z.rank

      small : rank < (ranks_of_problem P).n
      small = omega (arith, is, W.small t.mono s.in_ring s.low, ranks_count P)

      choice : (r : ℕ) (b : Bool) → cond b ((u r + t.coef) % P.p) (u r) < P.p
      choice r true = Nat.mod-lt (u r + t.coef) positive
      choice r false = w.clean.residue r

      residue : (r : ℕ) → u' r < P.p
      residue r = subst (λ x. x < P.p) (sym (step r)) (choice r (eqb rank r))

      beyond : (r : ℕ) → (ranks_of_problem P).n ≤ r → u' r ≡ 0
      beyond r l = step r ∙ ap (λ b. cond b ((u r + t.coef) % P.p) (u r)) (ne_eqb rank r (λ z. omega (arith, z, l, small))) ∙ w.clean.within r l

      more : (m : List ℕ) → total (take (k + 1) f) m ≡ total (take k f) m + cond (same t.mono m) t.coef 0
      more m =
          ap (λ g. total g m) (take_more f k t (slice_get_within f k t e) ∙ ap (λ (x : PolyTerm). take k f ++ x ∷ []) (get_or_from_slice_get f k t t e))
          ∙ total-append (take k f) (t ∷ []) m ∙ omega arith

      there : (r : ℕ) → rank ≡ r → r < (ranks_of_problem P).n → same t.mono ((numbering_of P).mono r) ≡ true
      there r z l = ap (same t.mono) (ap (numbering_of P).mono (sym z ∙ sym is) ∙ W.there t.mono s.in_ring s.low) ∙ itself t.mono
        where
          itself : (m : List ℕ) → same m m ≡ true
          itself [] = refl
          itself (x ∷ m) = ap₂ (λ a b. a && b) (eq-eqb x x refl) (itself m)

      elsewhere : (r : ℕ) → (rank ≡ r → ⊥) → r < (ranks_of_problem P).n → (b : Bool) → same t.mono ((numbering_of P).mono r) ≡ b → same t.mono ((numbering_of P).mono r) ≡ false
      elsewhere r n l true g = absurd (n (sym is ∙ ap (numbering_of P).rank (same-true t.mono ((numbering_of P).mono r) g) ∙ W.back r (omega (arith, l, ranks_count P))))
      elsewhere r n l false g = g

      by : (r : ℕ) → r < (ranks_of_problem P).n → (b : Bool) → eqb rank r ≡ b → Same P.p (cond b ((u r + t.coef) % P.p) (u r)) (total (take k f) ((numbering_of P).mono r) + cond (same t.mono ((numbering_of P).mono r)) t.coef 0)
      by r l true g =
          same_trans (same_mod P.p (u r + t.coef)) (same_add (w.value r l) (same_of P.p _ _ (sym (ap (λ b. cond b t.coef 0) (there r (eqb-true rank r g) l)))))
      by r l false g =
          same_trans (w.value r l) (same_of P.p _ _ (sym (ap (λ b. total (take k f) ((numbering_of P).mono r) + cond b t.coef 0) (elsewhere r (eqb-false rank r g) l (same t.mono ((numbering_of P).mono r)) refl) ∙ omega arith)))

      value : (r : ℕ) → r < (ranks_of_problem P).n → Same P.p (u' r) (total (take (k + 1) f) ((numbering_of P).mono r))
      value r l = same_trans (same_of P.p _ _ (step r)) (same_trans (by r l (eqb rank r) refl) (same_of P.p _ _ (sym (more ((numbering_of P).mono r)))))

  -- all terms written are the vector of the generator
  pub all_written : (f g : Poly) (k : ℕ) (u : Vector) → length f ≤ k → f ≡ g → IsWrittenSoFar P (take k f) u → Agree (ranks_of_problem P) (ranks_of_problem P).n u (vector_of P g)
  all_written f g k u l q w = record {
    at = λ r m. subst (λ p. Same p (u r) (total g ((numbering_of P).mono r))) (sym (ranks_p P))
        (same_trans (w.value r m) (same_of P.p _ _ (ap (λ x. total x ((numbering_of P).mono r)) (take_all k f l ∙ q))));
  }

  -- ---- pairs
  -- what was subtracted at each rank agrees with the difference
  pub subtracted_all : (c : ℕ) (g v u : Vector) (below : ℕ) → (ranks_of_problem P).n ≤ below → ((r : ℕ) → r < below → r < (ranks_of_problem P).n → Same P.p (u r) (less (ranks_of_problem P) c g v r)) → Agree (ranks_of_problem P) (ranks_of_problem P).n u (less (ranks_of_problem P) c g v)
  subtracted_all c g v u below l k = record { at = λ r m. subst (λ p. Same p (u r) (less (ranks_of_problem P) c g v r)) (sym (ranks_p P)) (k r (omega (arith, l, m)) m) }

  -- and so does what was subtracted below some rank
  pub subtracted_to : (c : ℕ) (g v u : Vector) (below : ℕ) → below ≤ (ranks_of_problem P).n → ((r : ℕ) → r < below → r < (ranks_of_problem P).n → Same P.p (u r) (less (ranks_of_problem P) c g v r)) → Agree (ranks_of_problem P) below u (less (ranks_of_problem P) c g v)
  subtracted_to c g v u below l k = record { at = λ r m. subst (λ p. Same p (u r) (less (ranks_of_problem P) c g v r)) (sym (ranks_p P)) (k r m (omega (arith, l, m))) }

  -- 0 less -1 times f, less g, is f less g
  pub pair_is : (w : ℕ) (f g h0 h1 h2 : Vector) (c : ℕ) → c ≡ (P.p - 1) % P.p → ((r : ℕ) → h0 r ≡ 0)
      → Agree (ranks_of_problem P) w h1 (less (ranks_of_problem P) c f h0)
      → Agree (ranks_of_problem P) w h2 (less (ranks_of_problem P) 1 g h1)
      → Agree (ranks_of_problem P) w h2 (less (ranks_of_problem P) 1 g f)
  pair_is w f g h0 h1 h2 c e z a b =
      agree_trans b (less_agree (ranks_of_problem P) w 1 1 g h1 f (same_refl _ 1) (agree_trans a (record { at = λ r l. start r })))
    where
      two : 2 ≤ P.p
      two = (problem_is_admissible P h).prime.two_up

      less_mod : (p : ℕ) → 2 ≤ p → (p - 1) % p ≡ p - 1
      less_mod p l = Nat.mod-eq_of_lt (omega arith)

      c_is : c ≡ P.p - 1
      c_is = e ∙ less_mod P.p two

      turn : (y m c s : ℕ) → y ≡ 0 → c ≡ m → y + m * c * s ≡ m * (m * s)
      turn y m c s e f = ap₂ (λ u v. u + m * v * s) e f ∙ omega arith

      start : (r : ℕ) → Same (ranks_of_problem P).p (h0 r + ((ranks_of_problem P).p - 1) * c * f r) (f r)
      start r =
          same_trans (same_of (ranks_of_problem P).p _ _ (turn (h0 r) ((ranks_of_problem P).p - 1) c (f r) (z r) (c_is ∙ ap (λ q. q - 1) (sym (ranks_p P)))))
          (same_minus_minus (ranks_of_problem P).p (f r) (omega (arith, ranks_p P, positive)))

-- the same difference of equal vectors
pub pair_same : (P : Problem) (w : ℕ) {f g f' g' u : Vector} → f ≡ f' → g ≡ g' → Agree (ranks_of_problem P) w u (less (ranks_of_problem P) 1 g f) → Agree (ranks_of_problem P) w u (less (ranks_of_problem P) 1 g' f')
pair_same P w {f} {g} {f'} {g'} {u} e k a =
    subst (λ x. Agree (ranks_of_problem P) w u (less (ranks_of_problem P) 1 g' x)) e
    (subst (λ x. Agree (ranks_of_problem P) w u (less (ranks_of_problem P) 1 x f)) k a)
