-- The list of the program: at each step it has the monomials of the ranks so far, and the next monomial has the next rank as its place.
-- The degree is low as long as the number of monomials isn't reached.
use Rattle.std.proofs.Common.{◌≡◌, ℕ, ◌+◌, ◌-◌, ◌<◌, ◌≤◌, ◌⊎◌, List, [], ◌∷◌, ◌++◌, length, get_or, replicate, refl, ap, sym, ◌∙◌, inl, inr, subst, arith}
use Rattle.std.proofs.lemmas.Bool.{cases_lt}
use Rattle.std.proofs.lemmas.List.{length-append, length-replicate, get_or_append_left, get_or-append_right}
use Rattle.local_order.specs.Mono.{IsWithinLimits}
use Rattle.local_order.specs.Count.{monomial_count}
use Rattle.local_order.specs.Shape.{Shape, count}
use Rattle.local_order.proofs.Places.{small_from_degree}
use Rattle.mono_rank.specs.Rank.{HasRank, mono_at}
use Rattle.mono_rank.specs.Next.{IsNext}
use Rattle.mono_rank.specs.Stored.{ListsRanks}
use Rattle.mono_rank.proofs.Places.{place, degree_of_place}
use Rattle.mono_rank.proofs.Walk.{place-is_next, place-one}
use Rattle.mono_rank.proofs.Ranks.{rank_is_place}

-- s has the monomials of the first r ranks, and m is the monomial of place r
pub record ListsUpTo (T : Shape) (s : List (List ℕ)) (r : ℕ) (m : List ℕ) : Type 0 where
  pub long : length s ≡ r
  pub each : (k : ℕ) → k < r → HasRank T (mono_at s k) k
  pub in_ring : length m ≡ T.variables
  pub next_place : place m ≡ r

-- at first there is none, and 1 is to come
pub lists_none : (T : Shape) → 1 ≤ T.variables → ListsUpTo T [] 0 (replicate T.variables 0)
lists_none T some = record {
  long = refl;
  each = λ k l. absurd (omega (arith, l));
  in_ring = let z : ℕ = 0 in length-replicate T.variables z;
  next_place = place-one T.variables some;
}

-- the monomial to come has a low degree and its place as rank
pub has_rank : (T : Shape) (m : List ℕ) (r : ℕ) → 1 ≤ T.variables → length m ≡ T.variables → place m ≡ r → r < count T → HasRank T m r
has_rank T m r some e f l =
    let below : place m < count T = omega arith in
    record {
      in_ring = e;
      low = degree_of_place m T.degree (omega arith) (omega (arith, below, ap (λ k. monomial_count k T.degree) e));
      rank = rank_is_place T m some e below ∙ f;
    }

-- a monomial joins the list, and the next one is to come
pub lists_more : (T : Shape) (s : List (List ℕ)) (r : ℕ) (m b : List ℕ) → 1 ≤ T.variables → r < count T → ListsUpTo T s r m → IsNext m b → ListsUpTo T (s ++ m ∷ []) (r + 1) b
lists_more T s r m b some l h next = record {
  long = omega (arith, length-append s (m ∷ []), h.long);
  each = λ k g. at k (cases_lt k r) g;
  in_ring = next.in_ring ∙ h.in_ring;
  next_place = omega (arith, place-is_next m b (omega (arith, h.in_ring)) next, h.next_place);
}
  where
    at : (k : ℕ) → (k < r) ⊎ (r ≤ k) → k < r + 1 → HasRank T (mono_at (s ++ m ∷ []) k) k
    at k (inl a) g = subst (λ x. HasRank T x k) (sym (get_or_append_left s (m ∷ []) [] k (omega (arith, h.long)))) (h.each k a)
    at k (inr a) g =
        let last : k ≡ r = omega arith in
        let read : mono_at (s ++ m ∷ []) r ≡ m =
        get_or-append_right s (m ∷ []) r r [] h.long (omega arith) ∙ ap (λ i. get_or (m ∷ []) i []) (let z : r - r ≡ 0 = omega arith in z) in
        subst (λ i. HasRank T (mono_at (s ++ m ∷ []) i) i) (sym last) (subst (λ x. HasRank T x r) (sym read) (has_rank T m r some h.in_ring h.next_place l))

-- at the end all are listed
pub lists_all : (T : Shape) (s : List (List ℕ)) (r : ℕ) (m : List ℕ) → ListsUpTo T s r m → r ≡ count T → ListsRanks T s
lists_all T s r m h e = record { all = h.long ∙ e; each = λ k l. h.each k (omega (arith, h.long)) }

-- a monomial of low degree can be made
pub can_be_made : (T : Shape) (m : List ℕ) (r : ℕ) → 1 ≤ T.variables → T.variables ≤ 8 → T.degree ≤ 255 → HasRank T m r → IsWithinLimits m
can_be_made T m r some few low h = (omega (arith, h.in_ring), omega (arith, h.in_ring), small_from_degree m (omega (arith, h.low)))
