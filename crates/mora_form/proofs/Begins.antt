-- The row from which a run begins is the start of its item.
-- A generator is written into a row; a pair is 0 less -1 times the one multiple, less the other.
use Rattle.std.proofs.Common.{◌≡◌, ℕ, zero, suc, ◌+◌, ◌-◌, ◌*◌, ◌%◌, ◌<◌, ◌≤◌, List, [], ◌∷◌, length, map, get_or, replicate, Some, slice_get, refl, ap, ap₂, sym, ◌∙◌, subst, arith}
use Rattle.std.proofs.lemmas.Option.{slice_get_within, get_or_from_slice_get}
use Rattle.prime_field.specs.Prime.{InTable}
use Rattle.prime_field.proofs.Primality.{IsPrime-table}
use Rattle.local_order.specs.Shape.{Shape, count}
use Rattle.sparse_poly.specs.Shape.{shape_of}
use Rattle.mono_rank.specs.Rank.{mono_of_rank}
use Rattle.mono_rank.specs.Laws.{numbering, rank_cofactor}
use Rattle.mono_rank.proofs.ByRank.{rank-mono_of_rank}
use Rattle.sparse_poly.specs.Poly.{Poly, Polynomial, in_variables, IsCanonical, total, coef}
use Rattle.sparse_poly.specs.Ideal.{Problem, IsProblem}
use Rattle.rank_algebra.specs.Rows.{vector_of_row}
use Rattle.mono_rank.specs.Rows.{SubtractsMultiple, IsRowOf}
use Rattle.rank_algebra.specs.Vector.{Same, shift, less, Agree}
use Rattle.rank_algebra.specs.Division.{pair}
use Rattle.mora_law.specs.Ring.{numbering_of, ranks_of_problem, vector_of, generators_of, ring}
use Rattle.rank_algebra.proofs.Residues.{same_refl, same_of, same_trans, same_add, same_minus_minus, same_mod}
use Rattle.rank_algebra.proofs.Linear.{agree_trans}
use Rattle.mora_law.proofs.Ring.{ranks_p, mono_is, ring_of_problem, ring_p, ring_count, ring_cofactor}
use Rattle.entry_code.specs.declared.item.Item.TheVariants.{Pair}
use Rattle.ecart.specs.declared.summary.Summary.{Summary}
use Rattle.ecart.specs.Choice.{summary_at}
use Rattle.mora_form.specs.Reducers.{row_at}
use Rattle.mora_form.specs.Begin.{basis_in}
use Rattle.mora_law.specs.Start.{start_of}
use Rattle.trunc_row.proofs.Vectors.{subtract_vector}
use Rattle.mora_form.proofs.Vectors.{ring_is}

-- ---- generators
-- what a list of polynomials lends
pub lent : (n : ℕ) (gens : List Poly) (g : ℕ) (f : Polynomial) → slice_get (map (in_variables n) gens) g ≡ Some f → (g < length gens) × (f ≡ in_variables n (get_or gens g []))
lent n [] g f e = absurd (cc e)
lent n (h ∷ gens) zero f e = (omega arith, let q : in_variables n h ≡ f = cc e in sym q)
lent n (h ∷ gens) (suc g) f e = let w = lent n gens g f e in (omega (arith, w.0), w.1)

-- f is generator g of the problem, in canonical form
pub record IsGenerator (P : Problem) (n g : ℕ) (f : Polynomial) : Type 0 where
  pub in_ring : f.n ≡ n
  pub canonical : IsCanonical P.p n f.terms
  pub is : f.terms ≡ get_or P.gens g []
  pub positive : 0 < P.p

-- a member of the list of generators that a problem lends is one of its generators
pub generator_is : (P : Problem) (n g : ℕ) (gens : List Polynomial) (f : Polynomial) → IsProblem P → P.n ≡ n → gens ≡ map (in_variables P.n) P.gens → slice_get gens g ≡ Some f → IsGenerator P n g f
generator_is P n g gens f h e k l =
    let w = lent P.n P.gens g f (ap (λ s. slice_get s g) (sym k) ∙ l) in
    let prime = IsPrime-table P.p h.prime in
    record {
      in_ring = ap (λ x. x.n) w.1 ∙ e;
      canonical = subst (λ m. IsCanonical P.p m f.terms) e (subst (IsCanonical P.p P.n) (ap (λ x. x.terms) (sym w.1)) (h.canonical g [] w.0));
      is = ap (λ x. x.terms) w.1;
      positive = omega (arith, prime.two_up);
    }

-- the row of a generator is its vector
pub generator_row : (P : Problem) (T : Shape) (g : ℕ) (f : Poly) (r : List ℕ) → 1 ≤ T.variables → shape_of P ≡ T → f ≡ get_or P.gens g [] → IsRowOf P.p T (coef P.p f) r
    → Agree (ranks_of_problem P) (count T) (vector_of_row r) (vector_of P (get_or P.gens g []))
generator_row P T g f r some e q h = record {
  at = λ x l. subst (λ p. Same p (get_or r x 0) (total (get_or P.gens g []) ((numbering_of P).mono x))) (sym (ranks_p P))
      (same_trans (same_of P.p _ _ (h.coefs (mono_of_rank T x) x (rank-mono_of_rank T x some l))) (same_trans (same_mod P.p (total f (mono_of_rank T x)))
      (same_of P.p _ _ (ap₂ total q (ap (λ (M : Shape). mono_of_rank M x) (sym e) ∙ sym (mono_is P x))))));
}

-- ---- pairs
-- 0 less -1 times a multiple of f, less a multiple of g, is the multiple of f less that of g
pub pair_row : (p : ℕ) (T : Shape) → InTable p → 1 ≤ T.variables → (c a b : ℕ) (f g none first new : List ℕ) → c ≡ (p - 1) % p → a < count T → b < count T → ((k : ℕ) → get_or none k 0 ≡ 0)
    → SubtractsMultiple p T c a f none first → SubtractsMultiple p T 1 b g first new
    → Agree (ring p T) (ring p T).n (vector_of_row new) (less (ring p T) 1 (shift (ring p T) b (vector_of_row g)) (shift (ring p T) a (vector_of_row f)))
pair_row p T t some c a b f g none first new ce la lb z h k =
    agree_trans (subtract_vector p T (ring p T) (ring_is p T) some 1 b g first new (omega (arith, two)) lb k)
    (record { at = λ x l. same_add (same_trans ((subtract_vector p T (ring p T) (ring_is p T) some c a f none first c_small la h).at x l) (start x)) (same_refl (ring p T).p _) })
  where
    two : 2 ≤ p
    two = let prime = IsPrime-table p t in prime.two_up

    c_is : c ≡ p - 1
    c_is = ce ∙ (let l : 2 ≤ p = (let prime = IsPrime-table p t in prime.two_up) in less_mod p l)
      where
        less_mod : (p : ℕ) → 2 ≤ p → (p - 1) % p ≡ p - 1
        less_mod p l = grind arith

    c_small : c < p
    c_small = omega (arith, c_is, two)

    start : (x : ℕ) → Same (ring p T).p (get_or none x 0 + ((ring p T).p - 1) * c * shift (ring p T) a (vector_of_row f) x) (shift (ring p T) a (vector_of_row f) x)
    start x =
        same_trans (same_of (ring p T).p _ _ (turn (get_or none x 0) ((ring p T).p - 1) c (shift (ring p T) a (vector_of_row f) x) (z x) (c_is ∙ ap (λ q. q - 1) (sym (ring_p p T)))))
        (same_minus_minus (ring p T).p (shift (ring p T) a (vector_of_row f) x) (omega (arith, ring_p p T, two)))
      where
        turn : (y m c s : ℕ) → y ≡ 0 → c ≡ m → y + m * c * s ≡ m * (m * s)
        turn y m c s e f = ap₂ (λ u v. u + m * v * s) e f ∙ omega arith

-- the difference of the multiples by the two cofactors is the S-pair from which the run of a pair begins
pub pair_is : (P : Problem) (p : ℕ) (T : Shape) → P.p ≡ p → shape_of P ≡ T → (rows : List (List ℕ)) (summaries : List Summary) (i j a b : ℕ) (f g new : List ℕ) → f ≡ row_at rows i → g ≡ row_at rows j
    → rank_cofactor (numbering T) (summary_at summaries i).lead (summary_at summaries j).lead ≡ a → rank_cofactor (numbering T) (summary_at summaries j).lead (summary_at summaries i).lead ≡ b
    → Agree (ring p T) (ring p T).n (vector_of_row new) (less (ring p T) 1 (shift (ring p T) b (vector_of_row g)) (shift (ring p T) a (vector_of_row f)))
    → Agree (ranks_of_problem P) (count T) (vector_of_row new) (start_of (ranks_of_problem P) (generators_of P) (basis_in rows summaries) (Pair i j))
pair_is P p T e k rows summaries i j a b f g new fe ge ae be h =
    subst (λ R. Agree R (count T) (vector_of_row new) (pair R (basis_in rows summaries) i j)) (sym same)
    (subst (λ w. Agree (ring p T) w (vector_of_row new) (pair (ring p T) (basis_in rows summaries) i j)) (ring_count p T)
    (subst (λ x. Agree (ring p T) (ring p T).n (vector_of_row new) (less (ring p T) 1 (shift (ring p T) x (vector_of_row (row_at rows j))) (shift (ring p T) ((ring p T).cofactor (summary_at summaries i).lead (summary_at summaries j).lead) (vector_of_row (row_at rows i)))))
    (sym be ∙ sym (ring_cofactor p T _ _))
    (subst (λ x. Agree (ring p T) (ring p T).n (vector_of_row new) (less (ring p T) 1 (shift (ring p T) b (vector_of_row (row_at rows j))) (shift (ring p T) x (vector_of_row (row_at rows i)))))
    (sym ae ∙ sym (ring_cofactor p T _ _))
    (subst (λ x. Agree (ring p T) (ring p T).n (vector_of_row new) (less (ring p T) 1 (shift (ring p T) b (vector_of_row x)) (shift (ring p T) a (vector_of_row (row_at rows i))))) ge
    (subst (λ x. Agree (ring p T) (ring p T).n (vector_of_row new) (less (ring p T) 1 (shift (ring p T) b (vector_of_row g)) (shift (ring p T) a (vector_of_row x)))) fe h)))))
  where
    same : ranks_of_problem P ≡ ring p T
    same = ring_of_problem P ∙ ap (λ x. ring x (shape_of P)) e ∙ ap (ring p) k

-- the row at a place
pub got_row : (rows : List (List ℕ)) (i : ℕ) (r : List ℕ) → slice_get rows i ≡ Some r → (i < length rows) × (r ≡ row_at rows i)
got_row rows i r e = (slice_get_within rows i r e, sym (get_or_from_slice_get rows i r [] e))

-- a list of zeros has 0 at each place
pub zeros : (n k : ℕ) → (let z : ℕ = 0 in get_or (replicate n z) k z ≡ z)
zeros zero k = refl
zeros (suc n) zero = refl
zeros (suc n) (suc k) = zeros n k
