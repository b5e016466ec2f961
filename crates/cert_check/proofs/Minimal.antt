-- The entries with a minimal lead, as the program and as the definition look for them.
-- Each search ends at the first that passes; those of all ranks stand one after another.
use Rattle.std.proofs.Common.{◌≡◌, ℕ, zero, suc, ◌+◌, ◌<◌, ◌≤◌, List, [], ◌∷◌, ◌++◌, length, map, All, true, false, ◌&&◌, eqb, Option, Some, None, is_none, refl, sym, ◌∙◌, ap, ap₂, subst, arith}
use Rattle.std.specs.Prelude.{filter_map, option_map}
use Rattle.std.specs.List.{range_with_len, cons_option}
use Rattle.std.proofs.lemmas.Bool.{eq-eqb}
use Rattle.std.proofs.lemmas.List.{append-nil, length-map}
use Rattle.std.proofs.lemmas.List.Elements.{All-push, filter_map-append}
use Rattle.sparse_poly.specs.Ideal.{Problem}
use Rattle.entry_code.specs.Entry.{Entry}
use Rattle.rank_algebra.specs.Ranks.{Ranks}
use Rattle.rank_algebra.specs.Division.{Basis}
use Rattle.rank_algebra.proofs.Searches.{found, first_found, none_found}
use Rattle.mora_law.specs.Ring.{ranks_of_problem}
use Rattle.mora_law.specs.Entries.{basis_of, terms_of, poly_of_terms}
use Rattle.mora_law.specs.Basis.{divides_other, is_minimal, minimal_with, tidied, plain_basis, basis}
use Rattle.cert_check.specs.Answers.{ArePlaces}

module _ (R : Ranks) (B : Basis) where
  -- another lead divides, so the lead isn't minimal
  pub not_minimal : (k j : ℕ) → j < B.size → divides_other R B k j ≡ true → ((i : ℕ) → i < j → divides_other R B k i ≡ false) → false ≡ is_minimal R B k
  not_minimal k j l e n = sym (ap is_none (first_found (divides_other R B k) 0 B.size j (omega arith) (omega (arith, l)) e (λ i a b. n i b)))

  -- none divides, so it is
  pub all_others : (k j : ℕ) → B.size ≤ j → ((i : ℕ) → i < j → divides_other R B k i ≡ false) → true ≡ is_minimal R B k
  all_others k j l n = sym (ap is_none (none_found (divides_other R B k) 0 B.size (λ i a b. n i (omega (arith, b, l)))))

  -- the first place with a minimal lead of this rank is found
  pub minimal_there : (r k : ℕ) → k < B.size → B.lead k ≡ r → true ≡ is_minimal R B k → ((i : ℕ) → i < k → (eqb (B.lead i) r && is_minimal R B i) ≡ false) → Some k ≡ minimal_with R B r
  minimal_there r k l e m n = sym (first_found (λ j. eqb (B.lead j) r && is_minimal R B j) 0 B.size k (omega arith) (omega (arith, l)) (ap₂ (λ x y. x && y) (eq-eqb (B.lead k) r e) (sym m)) (λ i a b. n i b))

  -- or there is none
  pub minimal_nowhere : (r k : ℕ) → B.size ≤ k → ((i : ℕ) → i < k → (eqb (B.lead i) r && is_minimal R B i) ≡ false) → None ≡ minimal_with R B r
  minimal_nowhere r k l n = sym (none_found (λ j. eqb (B.lead j) r && is_minimal R B j) 0 B.size (λ i a b. n i (omega (arith, b, l))))

  -- a place is below the number of members
  pub minimal_small : (r k : ℕ) → minimal_with R B r ≡ Some k → k < B.size
  minimal_small r k e = omega (arith, (found (λ j. eqb (B.lead j) r && is_minimal R B j) 0 B.size k e).0)

-- ---- rank by rank
-- one number more
range_more : (a n : ℕ) → range_with_len a (suc n) ≡ range_with_len a n ++ (a + n) ∷ []
range_more a zero = let z : a ≡ a + 0 = omega arith in ap (λ x. x ∷ []) z
range_more a (suc n) = let z : a + 1 + n ≡ a + suc n = omega arith in ap (λ xs. a ∷ xs) (range_more (a + 1) n ∙ ap (λ x. range_with_len (a + 1) n ++ x ∷ []) z)

-- what is found with it
pub filter_more : {A : Type 0} (h : ℕ → Option A) (n : ℕ) → filter_map h (range_with_len 0 (n + 1)) ≡ filter_map h (range_with_len 0 n) ++ cons_option (h n) []
filter_more h n =
    let z : n + 1 ≡ suc n = omega arith in
    let y : 0 + n ≡ n = omega arith in
    ap (λ x. filter_map h (range_with_len 0 x)) z ∙ ap (filter_map h) (range_more 0 n) ∙ filter_map-append h (range_with_len 0 n) ((0 + n) ∷ []) ∙ ap (λ x. filter_map h (range_with_len 0 n) ++ cons_option (h x) []) y

-- what is made of each that is found
filter_then : {A C : Type 0} (h : ℕ → Option A) (f : A → C) (a n : ℕ) → filter_map (λ r. option_map f (h r)) (range_with_len a n) ≡ map f (filter_map h (range_with_len a n))
filter_then {A = A} {C = C} h f a zero = refl
filter_then {A = A} {C = C} h f a (suc n) = ap (cons_option (option_map f (h a))) (filter_then h f (a + 1) n) ∙ go (h a) (filter_map h (range_with_len (a + 1) n))
  where
    go : (o : Option A) (xs : List A) → cons_option (option_map f o) (map f xs) ≡ map f (cons_option o xs)
    go None xs = refl
    go (Some x) xs = refl

-- what holds of each that is found holds of all
filter_all : {A : Type 0} (h : ℕ → Option A) (Q : A → Type 0) (n : ℕ) → ((r : ℕ) (x : A) → h r ≡ Some x → Q x) → All Q (filter_map h (range_with_len 0 n))
filter_all {A = A} h Q zero f = λ k d l. absurd (omega (arith, l))
filter_all {A = A} h Q (suc n) f = subst (λ m. All Q (filter_map h (range_with_len 0 m))) (let z : n + 1 ≡ suc n = omega arith in z) (subst (All Q) (sym (filter_more h n)) (go (filter_all h Q n f) (h n) refl))
  where
    go : All Q (filter_map h (range_with_len 0 n)) → (o : Option A) → h n ≡ o → All Q (filter_map h (range_with_len 0 n) ++ cons_option o [])
    go all None e = subst (All Q) (sym (append-nil (filter_map h (range_with_len 0 n)))) all
    go all (Some x) e = All-push Q (filter_map h (range_with_len 0 n)) x all (f n x e)

module _ (P : Problem) (entries : List Entry) (places : List ℕ) (is : ArePlaces P entries places) where
  -- member k is made by the entry at the k-th place
  pub basis_at_places : basis P entries ≡ map (λ k. poly_of_terms P (terms_of (ranks_of_problem P) (tidied (ranks_of_problem P) (basis_of entries) k))) places
  unfolding plain_basis
  basis_at_places =
      ap (map (poly_of_terms P)) (filter_then (minimal_with (ranks_of_problem P) (basis_of entries)) (λ k. terms_of (ranks_of_problem P) (tidied (ranks_of_problem P) (basis_of entries) k)) 0 (ranks_of_problem P).n
      ∙ ap (map (λ k. terms_of (ranks_of_problem P) (tidied (ranks_of_problem P) (basis_of entries) k))) (sym is))
      ∙ twice places
    where
      twice : (ks : List ℕ) → map (poly_of_terms P) (map (λ k. terms_of (ranks_of_problem P) (tidied (ranks_of_problem P) (basis_of entries) k)) ks) ≡ map (λ k. poly_of_terms P (terms_of (ranks_of_problem P) (tidied (ranks_of_problem P) (basis_of entries) k))) ks
      twice [] = refl
      twice (k ∷ ks) = ap (λ fs. poly_of_terms P (terms_of (ranks_of_problem P) (tidied (ranks_of_problem P) (basis_of entries) k)) ∷ fs) (twice ks)

  -- there are as many members as places
  pub members_many : length (basis P entries) ≡ length places
  members_many = ap length basis_at_places ∙ length-map places (λ k. poly_of_terms P (terms_of (ranks_of_problem P) (tidied (ranks_of_problem P) (basis_of entries) k)))

  -- each place is that of an entry
  pub places_small : All (λ k. k < length entries) places
  places_small = subst (All (λ k. k < length entries)) (sym is) (filter_all (minimal_with (ranks_of_problem P) (basis_of entries)) (λ k. k < length entries) (ranks_of_problem P).n (minimal_small (ranks_of_problem P) (basis_of entries)))
