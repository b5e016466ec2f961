-- Products of polynomials with terms by rank: within degree d a product with a monomial is a shift, and beyond it there is nothing.
-- So a space of vectors that is closed under shifts is closed under products with polynomials.
use Rattle.std.proofs.Common.{◌≡◌, ℕ, suc, ◌*◌, ◌<◌, ◌≤◌, ◌⊎◌, List, [], ◌∷◌, ◌++◌, length, get_or, Option, Some, None, refl, sym, ◌∙◌, ap, arith, inl, inr, mul-zero}
use Rattle.std.proofs.lemmas.Bool.{cases_lt}
use Rattle.local_order.specs.Mono.{degree, mono_times, Divides, divides}
use Rattle.local_order.specs.Order.{IsAbove}
use Rattle.local_order.proofs.Order.{degree-mono_times, divides_cases}
use Rattle.local_order.proofs.Division.{divides_iff}
use Rattle.mono_rank.specs.Laws.{Numbering, IsNumbering, ranks_of, rank_times, rank_quotient}
use Rattle.rank_algebra.specs.Ranks.{Ranks}
use Rattle.mono_rank.proofs.Products.{IsWithin, within_of_rank, mono-times}
use Rattle.mono_rank.proofs.Quotients.{is_over, times_over}
use Rattle.sparse_poly.specs.Poly.{Poly, total, IsIn, term_times, times, combination}
use Rattle.sparse_poly.proofs.Coef.{total-append, total-term_times, total-shift_off}
use Rattle.sparse_poly.proofs.Member.{AllIn}
use Rattle.rank_algebra.specs.Vector.{Vector, nothing, coef_at, shift, Agree}
use Rattle.rank_algebra.specs.Combination.{IsSpace}
use Rattle.rank_algebra.proofs.Linear.{agree_of}

-- f by rank
abbrev pub row : Numbering → Poly → Vector
row O f = λ r. total f (O.mono r)

module _ (p n d : ℕ) (inv : ℕ → ℕ) (O : Numbering) (W : IsNumbering n d IsAbove O) where
  -- computing by rank
  abbrev R : Ranks
  R = ranks_of p inv d O

  -- a product with a monomial of degree at most d is a shift
  pub term_inside : (c : ℕ) (a : List ℕ) (f : Poly) → length a ≡ n → degree a ≤ d → IsIn n f → (r : ℕ) → r < O.count →
      total (term_times c a f) (O.mono r) ≡ c * shift R (O.rank a) (row O f) r
  term_inside c a f e low i r l = go (rank_quotient O r (O.rank a)) refl
    where
      go : (o : Option ℕ) → rank_quotient O r (O.rank a) ≡ o → total (term_times c a f) (O.mono r) ≡ c * coef_at (row O f) o
      go (Some s) q =
          let t : rank_times d O (O.rank a) s ≡ r = times_over n d IsAbove O W r (O.rank a) s q in
          let w : IsWithin d O (O.rank a) s = within_of_rank d O (O.rank a) s (omega (arith, t, l)) in
          let m : O.mono r ≡ mono_times a (O.mono s) = ap O.mono (sym t) ∙ mono-times n d IsAbove O W (O.rank a) s w ∙ ap (λ x. mono_times x (O.mono s)) (W.there a e low) in
          ap (total (term_times c a f)) m ∙ total-term_times c a f (O.mono s) n i e (W.in_ring s w.right)
      go None q = total-shift_off c a f (O.mono r) n i e (W.in_ring r l) (off (divides_cases a (O.mono r) long)) ∙ sym (mul-zero c)
        where
          long : length a ≡ length (O.mono r)
          long = e ∙ sym (W.in_ring r l)

          off : Divides a (O.mono r) ⊎ ((k : List ℕ) → length k ≡ length (O.mono r) → O.mono r ≡ mono_times a k → ⊥) → (k : List ℕ) → length k ≡ length (O.mono r) → O.mono r ≡ mono_times a k → ⊥
          off (inr none) = none
          off (inl factor) =
              let s = is_over O r (O.rank a) _ (record { whole = l; part = W.small a e low; divisor = ap (λ x. divides x (O.mono r)) (W.there a e low) ∙ (divides_iff a (O.mono r) long).1 factor; rank = refl }) in
              absurd (cc (s, q))

  -- and one beyond degree d has no term of a rank
  term_outside : (c : ℕ) (a : List ℕ) (f : Poly) → length a ≡ n → d < degree a → IsIn n f → (r : ℕ) → r < O.count → total (term_times c a f) (O.mono r) ≡ 0
  term_outside c a f e high i r l =
      total-shift_off c a f (O.mono r) n i e (W.in_ring r l) (λ k g h. omega (arith, ap degree h, degree-mono_times a k, W.low r l, high))

  module _ (S : Vector → Type 0) (I : IsSpace R S) (closed : (a : ℕ) (v : Vector) → S v → S (shift R a v)) where
    -- so the space has the products with terms
    term_in : (c : ℕ) (a : List ℕ) (f : Poly) → length a ≡ n → IsIn n f → S (row O f) → S (row O (term_times c a f))
    term_in c a f e i h = go (cases_lt d (degree a))
      where
        go : (d < degree a) ⊎ (degree a ≤ d) → S (row O (term_times c a f))
        go (inl high) = I.alike _ nothing (agree_of R R.n _ _ (λ r l. term_outside c a f e high i r l)) I.empty
        go (inr low) = I.alike _ _ (agree_of R R.n _ _ (λ r l. term_inside c a f e low i r l)) (I.multiple c _ (closed (O.rank a) _ h))

    -- sums
    sum_in : (f g : Poly) → S (row O f) → S (row O g) → S (row O (f ++ g))
    sum_in f g h k = I.alike _ _ (agree_of R R.n _ _ (λ r l. total-append f g (O.mono r))) (I.plus _ _ h k)

    -- products
    times_in : (q f : Poly) → IsIn n q → IsIn n f → S (row O f) → S (row O (times q f))
    times_in [] f j i h = I.empty
    times_in (t ∷ q) f j i h = sum_in (term_times t.coef t.mono f) (times q f) (term_in t.coef t.mono f j.0 i h) (times_in q f j.1 i h)

    -- and combinations
    pub combination_in : (q : ℕ → Poly) (fs : List Poly) → ((k : ℕ) → IsIn n (q k)) → AllIn n fs → ((k : ℕ) → k < length fs → S (row O (get_or fs k []))) →
        S (row O (combination q fs))
    combination_in q [] j i h = I.empty
    combination_in q (f ∷ fs) j i h =
        sum_in (times (q 0) f) (combination (λ k. q (suc k)) fs) (times_in (q 0) f (j 0) i.0 (h 0 (omega arith)))
        (combination_in (λ k. q (suc k)) fs (λ k. j (suc k)) i.1 (λ k l. h (suc k) (omega arith)))

  -- a shift is the product with the monomial
  pub shift_is : (a : ℕ) (f : Poly) → a < O.count → IsIn n f → Agree R R.n (shift R a (row O f)) (row O (term_times 1 (O.mono a) f))
  shift_is a f l i = agree_of R R.n _ _ (λ r m. sym (term_inside 1 (O.mono a) f (W.in_ring a l) (W.low a l) i r m
      ∙ (let e : 1 * shift R (O.rank (O.mono a)) (row O f) r ≡ shift R (O.rank (O.mono a)) (row O f) r = omega arith in e)
      ∙ ap (λ x. shift R x (row O f) r) (W.back a l)))
