-- The jacobian ideal of a function modulo degree d + 1 depends on the function up to degree d + 1 alone.
-- A derivative has at a monomial a multiple of the coefficient at its product with the variable, whose degree is one more.
use Rattle.std.proofs.Common.{◌≡◌, ℕ, zero, suc, ◌+◌, ◌%◌, ◌<◌, ◌≤◌, List, [], ◌∷◌, ◌++◌, length, slice_index, refl, sym, ap, ◌∙◌, arith, add-one, ⊎_elim}
use Rattle.std.proofs.lemmas.Bool.{cases_lt}
use Rattle.std.proofs.lemmas.List.{length-set}
use Rattle.std.proofs.lemmas.List.FromFn.{map-range_with_len_more}
use Rattle.prime_field.proofs.Residue.{mul_same}
use Rattle.local_order.specs.Mono.{degree}
use Rattle.sparse_poly.specs.Poly.{Poly, total, coef, cut, derivative, IsIn, IsSame}
use Rattle.sparse_poly.specs.Jacobian.{partial, jacobian_ideal}
use Rattle.sparse_poly.proofs.Coef.{total-cut_in, total-cut_out}
use Rattle.sparse_poly.proofs.Canonical.{coef-canonical, IsCanonical-canonical}
use Rattle.sparse_poly.proofs.Cuts.{IsCanonical-cut}
use Rattle.sparse_poly.proofs.Derivatives.{raised, total-derivative, in-derivative}
use Rattle.sparse_poly.proofs.Unique.{canonical_unique, same_total}

-- one more exponent makes the degree greater by one
degree-raised : (i : ℕ) (k : List ℕ) → i < length k → degree (raised i k) ≡ degree k + 1
degree-raised i [] l = absurd (omega arith)
degree-raised zero (x ∷ k) l = omega arith
degree-raised (suc i) (x ∷ k) l = omega (arith, degree-raised i k (omega arith))

module _ (p n d : ℕ) (f g : Poly) (pos : 0 < p) (own : IsIn n f) (other : IsIn n g) (alike : IsSame p n (cut (d + 1) f) (cut (d + 1) g)) where
  -- the partial derivatives of functions that agree up to degree d + 1 agree up to degree d
  partial_alike : (i : ℕ) → i < n → (k : List ℕ) → length k ≡ n → degree k ≤ d → coef p (partial p i f) k ≡ coef p (partial p i g) k
  partial_alike i within k l low =
      let r : List ℕ = raised i k in
      let there : degree r ≤ d + 1 = omega (arith, degree-raised i k (omega (arith, within, l)), low) in
      let same : total f r % p ≡ total g r % p =
      ap (λ x. x % p) (sym (total-cut_in (d + 1) f r there)) ∙ alike r (length-set k i (slice_index k i + 1) ∙ l) ∙ ap (λ x. x % p) (total-cut_in (d + 1) g r there) in
      coef-canonical p (derivative i f) k
      ∙ ap (λ x. x % p) (total-derivative n i f k own l within)
      ∙ mul_same p (slice_index k i + 1) (slice_index k i + 1) (total f r) (total g r) refl same
      ∙ ap (λ x. x % p) (sym (total-derivative n i g k other l within))
      ∙ sym (coef-canonical p (derivative i g) k)

  -- so what is cut of them has the same coefficients
  cut_alike : (i : ℕ) → i < n → IsSame p n (cut d (partial p i f)) (cut d (partial p i g))
  cut_alike i within k l = ⊎_elim
      (λ high. ap (λ x. x % p) (total-cut_out d (partial p i f) k high ∙ sym (total-cut_out d (partial p i g) k high)))
      (λ low. ap (λ x. x % p) (total-cut_in d (partial p i f) k low) ∙ partial_alike i within k l low ∙ ap (λ x. x % p) (sym (total-cut_in d (partial p i g) k low)))
      (cases_lt d (degree k))

  -- and is the same list
  cut_same : (i : ℕ) → i < n → cut d (partial p i f) ≡ cut d (partial p i g)
  cut_same i within =
      let w = IsCanonical-cut p n d (partial p i f) (IsCanonical-canonical p n (derivative i f) pos (in-derivative n i f own)) in
      let v = IsCanonical-cut p n d (partial p i g) (IsCanonical-canonical p n (derivative i g) pos (in-derivative n i g other)) in
      canonical_unique p n (cut d (partial p i f)) (cut d (partial p i g)) w v (same_total p n (cut d (partial p i f)) (cut d (partial p i g)) pos w v (cut_alike i within))

  -- the first ones are the same
  first_same : (k : ℕ) → k ≤ n → jacobian_ideal p k d f ≡ jacobian_ideal p k d g
  first_same zero l = refl
  first_same (suc k) l =
      let so : Poly → ℕ → Poly = λ h i. cut d (partial p i h) in
      ap (λ j. jacobian_ideal p j d f) (sym (add-one k))
      ∙ map-range_with_len_more (so f) 0 k k (omega arith)
      ∙ ap (λ (z : List Poly). z ++ so f k ∷ []) (first_same k (omega arith))
      ∙ ap (λ (z : Poly). jacobian_ideal p k d g ++ z ∷ []) (cut_same k (omega arith))
      ∙ sym (map-range_with_len_more (so g) 0 k k (omega arith))
      ∙ ap (λ j. jacobian_ideal p j d g) (add-one k)

  -- the generators are the same
  pub jacobian_alike : jacobian_ideal p n d f ≡ jacobian_ideal p n d g
  jacobian_alike = first_same n (omega arith)
