-- A test of all pairs of exponents answers for each place.
-- So it decides whether two monomials are coprime.
use Rattle.std.proofs.Common.{◌≡◌, ℕ, ◌<◌, ◌⊎◌, ◌↔◌, ◌≢◌, List, length, get_or, Bool, true, false, IsTrue, MatchBool, refl, inl, inr, subst, arith}
use Rattle.std.specs.List.{zip, AllWithin, HoldsAt}
use Rattle.std.proofs.lemmas.Bool.{false≢true}
use Rattle.std.proofs.lemmas.Slice.Zip.{length-zip, get_or-zip}
use Rattle.local_order.specs.Mono.{IsCoprime}
use Rattle.local_order.proofs.Division.{IsCoprime-from_places, places_from_IsCoprime}

-- what a test of all pairs says of each place
places_from_pairs : (Yes No : ℕ × ℕ → Type 0) (r : Bool) (a b : List ℕ) → length a ≡ length b →
    MatchBool r (AllWithin Yes (zip a b) 0 (length (zip a b))) ((k : ℕ) × (k < length (zip a b)) × HoldsAt No (zip a b) k) →
    MatchBool r ((k : ℕ) → k < length a → Yes (get_or a k 0, get_or b k 0)) ((k : ℕ) × (k < length a) × No (get_or a k 0, get_or b k 0))
places_from_pairs Yes No true a b e h = λ k l. subst Yes (get_or-zip a b k (0, 0) l (omega (arith, e))) (h k (0, 0) (omega arith) (omega (arith, length-zip a b, e)))
places_from_pairs Yes No false a b e h =
    let l : h.0 < length a = omega (arith, h.1, length-zip a b, e) in
    (h.0, l, subst No (get_or-zip a b h.0 (0, 0) l (omega (arith, e))) (h.2 (0, 0)))

-- the test whether one of each two exponents is 0 decides whether the two are coprime
pub IsCoprime_decided : (r : Bool) (a b : List ℕ) → length a ≡ length b →
    MatchBool r (AllWithin (λ p. (p.0 ≡ 0) ⊎ (p.1 ≡ 0)) (zip a b) 0 (length (zip a b))) ((k : ℕ) × (k < length (zip a b)) × HoldsAt (λ p. (p.0 ≢ 0) × (p.1 ≢ 0)) (zip a b) k) →
    IsTrue r ↔ IsCoprime a b
IsCoprime_decided r a b e h = go r (places_from_pairs (λ p. (p.0 ≡ 0) ⊎ (p.1 ≡ 0)) (λ p. (p.0 ≢ 0) × (p.1 ≢ 0)) r a b e h)
  where
    both : (k : ℕ) → get_or a k 0 ≢ 0 → get_or b k 0 ≢ 0 → (get_or a k 0 ≡ 0) ⊎ (get_or b k 0 ≡ 0) → ⊥
    both k n m (inl z) = n z
    both k n m (inr z) = m z

    go : (t : Bool) → MatchBool t ((k : ℕ) → k < length a → (get_or a k 0 ≡ 0) ⊎ (get_or b k 0 ≡ 0)) ((k : ℕ) × (k < length a) × ((get_or a k 0 ≢ 0) × (get_or b k 0 ≢ 0))) → IsTrue t ↔ IsCoprime a b
    go true each = (λ _. IsCoprime-from_places a b each, λ _. refl)
    go false some = (λ f. absurd (false≢true f), λ c. absurd (both some.0 some.2.0 some.2.1 (places_from_IsCoprime a b e c some.0 some.1)))
