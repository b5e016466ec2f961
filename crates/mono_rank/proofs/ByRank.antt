-- The list of all monomials by rank: at each rank it has the monomial of that rank, and it falls.
-- The monomial of a rank is found among all monomials, since only one has the rank.
use Rattle.std.proofs.Common.{◌≡◌, ℕ, zero, suc, ◌+◌, ◌<◌, ◌≤◌, List, [], ◌∷◌, length, get_or, Contains, Bool, true, false, cond, eqb, refl, ap, sym, ◌∙◌, subst, arith}
use Rattle.std.proofs.lemmas.Bool.{eqb-true, eq-eqb}
use Rattle.std.proofs.lemmas.List.{get_or_default, length-replicate}
use Rattle.local_order.specs.Mono.{degree, mono_one}
use Rattle.local_order.specs.Order.{IsAbove}
use Rattle.local_order.specs.Count.{monomials}
use Rattle.local_order.specs.Shape.{Shape, count}
use Rattle.local_order.proofs.Division.{degree-one}
use Rattle.local_order.proofs.Listing.{in_monomials, monomials_are}
use Rattle.mono_rank.specs.Rank.{rank_of, HasRank, mono_at, ListsMonomials, first_of_rank, mono_of_rank, of_ranks, by_rank}
use Rattle.mono_rank.proofs.Ranks.{one_of_rank, above_of_rank, rank_low, rank_small, rank_reached}
use Rattle.mono_rank.proofs.Walk.{walk}

-- ---- the monomial of a rank
-- in a list of monomials the first of a rank is the only one
first_found : (T : Shape) (r : ℕ) (s : List (List ℕ)) (m : List ℕ) (k : ℕ) → k < length s → get_or s k m ≡ m → HasRank T m r →
    ((x : List ℕ) → Contains s x → (length x ≡ T.variables) × (degree x ≤ T.degree)) → first_of_rank T r s ≡ m
first_found T r [] m k l e h all = absurd (omega arith)
first_found T r (x ∷ s) m k l e h all = go (eqb (rank_of T x) r) refl k l e (λ j f g. first_found T r s m j f g h later)
  where
    later : (y : List ℕ) → Contains s y → (length y ≡ T.variables) × (degree y ≤ T.degree)
    later y c = all y (suc c.0, omega (arith, c.1), c.2)

    go : (b : Bool) → eqb (rank_of T x) r ≡ b → (k : ℕ) → k < suc (length s) → get_or (x ∷ s) k m ≡ m →
        ((j : ℕ) → j < length s → get_or s j m ≡ m → first_of_rank T r s ≡ m) → cond b x (first_of_rank T r s) ≡ m
    go true f k l e rest =
        let there = all x (0, omega arith, refl) in
        one_of_rank T x m r (record { in_ring = there.0; low = there.1; rank = eqb-true (rank_of T x) r f }) h
    go false f zero l e rest = absurd (let g : false ≡ true = sym f ∙ eq-eqb (rank_of T x) r (ap (rank_of T) e ∙ h.rank) in cc)
    go false f (suc k) l e rest = rest k (omega arith) e

-- it is the one that has the rank
pub mono_of_rank-is : (T : Shape) (m : List ℕ) (r : ℕ) → HasRank T m r → mono_of_rank T r ≡ m
unfolding mono_of_rank
mono_of_rank-is T m r h =
    let there = in_monomials T.variables T.degree m h.in_ring h.low in
    first_found T r (monomials T.variables T.degree) m there.0 there.1 there.2 h (monomials_are T.variables T.degree)

-- and each number below the number of monomials has one
pub rank-mono_of_rank : (T : Shape) (r : ℕ) → 1 ≤ T.variables → r < count T → HasRank T (mono_of_rank T r) r
rank-mono_of_rank T r some l =
    let h = rank_reached T r some l in
    subst (λ m. HasRank T m r) (sym (mono_of_rank-is T (walk T.variables r) r h)) h

-- 1 has rank 0
pub rank-one : (T : Shape) → 1 ≤ T.variables → HasRank T (mono_one T.variables) 0
rank-one T some =
    let z : ℕ = 0 in
    rank_reached T 0 some (omega (arith, rank_low T (mono_one T.variables) (length-replicate T.variables z) (omega (arith, degree-one T.variables))))

-- ---- the list by rank
length-of_ranks : (T : Shape) (r k : ℕ) → length (of_ranks T r k) ≡ k
length-of_ranks T r zero = refl
length-of_ranks T r (suc k) = ap suc (length-of_ranks T (suc r) k)

-- its member at place j is the monomial whose rank is j more than that of the first
of_ranks-at : (T : Shape) (r k j : ℕ) → j < k → mono_at (of_ranks T r k) j ≡ mono_of_rank T (r + j)
of_ranks-at T r zero j l = absurd (omega arith)
of_ranks-at T r (suc k) zero l = ap (mono_of_rank T) (let e : r ≡ r + 0 = omega arith in e)
of_ranks-at T r (suc k) (suc j) l = of_ranks-at T (suc r) k j (omega arith) ∙ ap (mono_of_rank T) (let e : suc r + j ≡ r + suc j = omega arith in e)

-- it has all monomials
pub length-by_rank : (T : Shape) → length (by_rank T) ≡ count T
unfolding by_rank
length-by_rank T = length-of_ranks T 0 (count T)

-- at each rank stands the monomial of the rank
pub by_rank-at : (T : Shape) (r : ℕ) → r < count T → mono_at (by_rank T) r ≡ mono_of_rank T r
unfolding by_rank
by_rank-at T r l = of_ranks-at T 0 (count T) r l ∙ ap (mono_of_rank T) (let e : 0 + r ≡ r = omega arith in e)

-- a monomial stands at its rank
pub by_rank-rank : (T : Shape) (m : List ℕ) (r : ℕ) → HasRank T m r → mono_at (by_rank T) r ≡ m
by_rank-rank T m r h = by_rank-at T r (rank_small T m r h) ∙ mono_of_rank-is T m r h

-- and what stands at a place has the place as its rank
pub rank-by_rank : (T : Shape) (r : ℕ) → 1 ≤ T.variables → r < length (by_rank T) → HasRank T (mono_at (by_rank T) r) r
rank-by_rank T r some l =
    let low : r < count T = omega (arith, length-by_rank T) in
    subst (λ m. HasRank T m r) (sym (by_rank-at T r low)) (rank-mono_of_rank T r some low)

-- the list falls, and has exactly the monomials of bounded degree
pub by_rank-lists : (T : Shape) → 1 ≤ T.variables → ListsMonomials T (by_rank T)
by_rank-lists T some = record {
  falling = λ i j l k. falls i j l k (rank-by_rank T i some (omega arith)) (rank-by_rank T j some k);
  exactly = λ m. (λ c. there m c, λ h. listed m h.0 h.1);
}
  where
    falls : (i j : ℕ) → i < j → j < length (by_rank T) → HasRank T (mono_at (by_rank T) i) i → HasRank T (mono_at (by_rank T) j) j → IsAbove (mono_at (by_rank T) i) (mono_at (by_rank T) j)
    falls i j l k a b = above_of_rank T (mono_at (by_rank T) i) (mono_at (by_rank T) j) a.in_ring b.in_ring b.low (omega (arith, a.rank, b.rank))

    there : (m : List ℕ) → Contains (by_rank T) m → (length m ≡ T.variables) × (degree m ≤ T.degree)
    there m c =
        let h = rank-by_rank T c.0 some c.1 in
        subst (λ x. (length x ≡ T.variables) × (degree x ≤ T.degree)) (get_or_default (by_rank T) c.0 [] m c.1 ∙ c.2) (h.in_ring, h.low)

    listed : (m : List ℕ) → length m ≡ T.variables → degree m ≤ T.degree → Contains (by_rank T) m
    listed m e l =
        let r = rank_of T m in
        let low : r < length (by_rank T) = omega (arith, rank_low T m e l, length-by_rank T) in
        let at : mono_at (by_rank T) r ≡ m = by_rank-rank T m r (record { in_ring = e; low = l; rank = refl }) in
        (r, low, sym (get_or_default (by_rank T) r [] m low) ∙ at)
