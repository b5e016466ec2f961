-- The places with a minimal lead, as the program and as the definition look for them.
-- Each search ends at the first that passes; those of all ranks stand one after another.
use Rattle.std.proofs.Common.{◌≡◌, ℕ, zero, suc, ◌+◌, ◌<◌, ◌≤◌, List, [], ◌∷◌, ◌++◌, length, get_or, map, All, true, false, not, ◌&&◌, eqb, Option, Some, None, is_some, is_none, refl, sym, ◌∙◌, ap, ap₂, subst, arith, below_more}
use Rattle.std.specs.Prelude.{filter_map, option_map}
use Rattle.std.specs.List.{range_with_len, cons_option}
use Rattle.std.proofs.lemmas.List.{append-nil}
use Rattle.std.proofs.lemmas.List.Elements.{All-push, filter_map-append}
use Rattle.local_order.specs.Shape.{Shape}
use Rattle.rank_algebra.specs.Ranks.{Ranks}
use Rattle.sparse_poly.specs.Shape.{shape_of}
use Rattle.sparse_poly.specs.Ideal.{Problem}
use Rattle.rank_algebra.specs.Division.{Basis}
use Rattle.mora_law.specs.Ring.{ranks_of_problem}
use Rattle.mora_law.specs.Basis.{divides_other, is_minimal, minimal_with}
use Rattle.rank_algebra.proofs.Searches.{found, first_found, none_found}
use Rattle.tail_reduce.specs.Divisors.{AreLeadsOf, minimal_places}

-- ---- one lead
-- no lead before the k-th divides the one at `place`
pub record NoneOther (table : Shape) (leads : List ℕ) (place k : ℕ) : Type 0 where
  pub is : (P : Problem) (B : Basis) → AreLeadsOf P B table leads → (j : ℕ) → j < k → divides_other (ranks_of_problem P) B place j ≡ false

-- another one divides, so the lead isn't minimal
pub not_minimal : (P : Problem) (B : Basis) (table : Shape) (leads : List ℕ) (place k : ℕ) → AreLeadsOf P B table leads → k < length leads → divides_other (ranks_of_problem P) B place k ≡ true →
    NoneOther table leads place k → false ≡ is_minimal (ranks_of_problem P) B place
not_minimal P B table leads place k h l e n =
    sym (ap is_none (first_found (divides_other (ranks_of_problem P) B place) 0 B.size k (omega arith) (omega (arith, h.size)) e (λ j a b. n.is P B h j b)))

-- none divides, so it is
pub all_others : (P : Problem) (B : Basis) (table : Shape) (leads : List ℕ) (place k : ℕ) → AreLeadsOf P B table leads → length leads ≤ k → NoneOther table leads place k → true ≡ is_minimal (ranks_of_problem P) B place
all_others P B table leads place k h l n = sym (ap is_none (none_found (divides_other (ranks_of_problem P) B place) 0 B.size (λ j a b. n.is P B h j (omega (arith, b, h.size)))))

-- whether another divides, by the ranks of the leads
pub other_by : (P : Problem) (B : Basis) (table : Shape) (leads : List ℕ) (place k : ℕ) → AreLeadsOf P B table leads → place < length leads → k < length leads →
    divides_other (ranks_of_problem P) B place k ≡ (not (eqb k place) && is_some ((ranks_of_problem P).quotient (get_or leads place 0) (get_or leads k 0)))
other_by P B table leads place k h l m = ap₂ (λ x y. not (eqb k place) && is_some ((ranks_of_problem P).quotient x y)) (h.lead place l) (h.lead k m)

-- one that is the lead itself, or doesn't divide, is passed
pub other_more : (table : Shape) (leads : List ℕ) (place k : ℕ) → place < length leads → k < length leads →
    ((P : Problem) → table ≡ shape_of P → (not (eqb k place) && is_some ((ranks_of_problem P).quotient (get_or leads place 0) (get_or leads k 0))) ≡ false) →
    NoneOther table leads place k → NoneOther table leads place (k + 1)
other_more table leads place k l m e n = record {
  is = λ P B h. below_more (λ j. divides_other (ranks_of_problem P) B place j ≡ false) k (n.is P B h) (other_by P B table leads place k h l m ∙ e P h.table_is);
}

-- ---- all leads of a rank
-- no place before the k-th has a minimal lead of this rank
pub record NoneMinimal (table : Shape) (leads : List ℕ) (rank k : ℕ) : Type 0 where
  pub is : (P : Problem) (B : Basis) → AreLeadsOf P B table leads → (j : ℕ) → j < k → (eqb (B.lead j) rank && is_minimal (ranks_of_problem P) B j) ≡ false

-- the first place is found
pub minimal_there : (P : Problem) (B : Basis) (table : Shape) (leads : List ℕ) (rank k : ℕ) → AreLeadsOf P B table leads → k < length leads → (eqb (B.lead k) rank && is_minimal (ranks_of_problem P) B k) ≡ true →
    NoneMinimal table leads rank k → Some k ≡ minimal_with (ranks_of_problem P) B rank
minimal_there P B table leads rank k h l e n =
    sym (first_found (λ j. eqb (B.lead j) rank && is_minimal (ranks_of_problem P) B j) 0 B.size k (omega arith) (omega (arith, h.size)) e (λ j a b. n.is P B h j b))

-- or there is none
pub minimal_nowhere : (P : Problem) (B : Basis) (table : Shape) (leads : List ℕ) (rank k : ℕ) → AreLeadsOf P B table leads → length leads ≤ k → NoneMinimal table leads rank k →
    None ≡ minimal_with (ranks_of_problem P) B rank
minimal_nowhere P B table leads rank k h l n = sym (none_found (λ j. eqb (B.lead j) rank && is_minimal (ranks_of_problem P) B j) 0 B.size (λ j a b. n.is P B h j (omega (arith, b, h.size))))

-- ---- rank by rank
-- one number more
range_more : (a n : ℕ) → range_with_len a (suc n) ≡ range_with_len a n ++ (a + n) ∷ []
range_more a zero = let z : a ≡ a + 0 = omega arith in ap (λ x. x ∷ []) z
range_more a (suc n) = let z : a + 1 + n ≡ a + suc n = omega arith in ap (λ xs. a ∷ xs) (range_more (a + 1) n ∙ ap (λ x. range_with_len (a + 1) n ++ x ∷ []) z)

-- what is found with it
walk_more : {A : Type 0} (h : ℕ → Option A) (a n : ℕ) → filter_map h (range_with_len a (suc n)) ≡ filter_map h (range_with_len a n) ++ cons_option (h (a + n)) []
walk_more h a n = ap (filter_map h) (range_more a n) ∙ filter_map-append h (range_with_len a n) ((a + n) ∷ [])

-- the same from 0 on, as a loop counts
pub filter_more : {A : Type 0} (h : ℕ → Option A) (n : ℕ) → filter_map h (range_with_len 0 (n + 1)) ≡ filter_map h (range_with_len 0 n) ++ cons_option (h n) []
filter_more h n =
    let z : n + 1 ≡ suc n = omega arith in
    let y : 0 + n ≡ n = omega arith in
    ap (λ x. filter_map h (range_with_len 0 x)) z ∙ walk_more h 0 n ∙ ap (λ x. filter_map h (range_with_len 0 n) ++ cons_option (h x) []) y

-- what is made of each that is found
pub filter_then : {A C : Type 0} (h : ℕ → Option A) (f : A → C) (a n : ℕ) → filter_map (λ r. option_map f (h r)) (range_with_len a n) ≡ map f (filter_map h (range_with_len a n))
filter_then {A = A} {C = C} h f a zero = refl
filter_then {A = A} {C = C} h f a (suc n) = ap (cons_option (option_map f (h a))) (filter_then h f (a + 1) n) ∙ go (h a) (filter_map h (range_with_len (a + 1) n))
  where
    go : (o : Option A) (xs : List A) → cons_option (option_map f o) (map f xs) ≡ map f (cons_option o xs)
    go None xs = refl
    go (Some x) xs = refl

-- what holds of each that is found holds of all
filter_all : {A : Type 0} (h : ℕ → Option A) (Q : A → Type 0) (a n : ℕ) → ((r : ℕ) (x : A) → h r ≡ Some x → Q x) → All Q (filter_map h (range_with_len a n))
filter_all {A = A} h Q a zero f = λ k d l. absurd (omega arith)
filter_all {A = A} h Q a (suc n) f = subst (All Q) (sym (walk_more h a n)) (go (filter_all h Q a n f) (h (a + n)) refl)
  where
    go : All Q (filter_map h (range_with_len a n)) → (o : Option A) → h (a + n) ≡ o → All Q (filter_map h (range_with_len a n) ++ cons_option o [])
    go all None e = subst (All Q) (sym (append-nil (filter_map h (range_with_len a n)))) all
    go all (Some x) e = All-push Q (filter_map h (range_with_len a n)) x all (f (a + n) x e)

-- the minimal places are places
pub places_small : (R : Ranks) (B : Basis) (n : ℕ) → All (λ k. k < B.size) (minimal_places R B n)
places_small R B n = filter_all (minimal_with R B) (λ k. k < B.size) 0 n
    (λ r k e. omega (arith, (found (λ j. eqb (B.lead j) r && is_minimal R B j) 0 B.size k e).0))
