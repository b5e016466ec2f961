-- What a table answers for products, quotients and cofactors of monomials is what computing by rank has for their ranks.
-- Quotients and cofactors have no greater degree than a monomial that has a rank, so they have ranks too.
use Rattle.std.proofs.Common.{◌≡◌, ℕ, ◌<◌, ◌≤◌, List, length, Some, cond, ltb, refl, ap, ap₂, sym, ◌∙◌, ◌⊎◌, inl, inr, subst, arith}
use Rattle.std.specs.Prelude.{Option, None, MatchOption, IfSome, IsSome}
use Rattle.std.proofs.lemmas.Bool.{lt-ltb, and_from}
use Rattle.std.proofs.lemmas.List.{ext_get_or}
use Rattle.local_order.specs.Mono.{degree, mono_times, mono_quotient, mono_lcm, Divides, divides}
use Rattle.local_order.specs.Order.{IsAbove}
use Rattle.local_order.specs.Shape.{Shape, count}
use Rattle.local_order.proofs.Order.{length-mono_quotient}
use Rattle.local_order.proofs.Places.{length-mono_lcm, get_or-mono_quotient, get_or-mono_lcm}
use Rattle.local_order.proofs.Division.{divides_iff}
use Rattle.local_order.proofs.Quotients.{degree-mono_quotient}
use Rattle.mono_rank.specs.Rank.{rank_of, HasRank, mono_of_rank}
use Rattle.mono_rank.specs.Laws.{numbering, rank_times, rank_quotient, rank_cofactor}
use Rattle.mono_rank.proofs.ByRank.{mono_of_rank-is, rank-mono_of_rank}
use Rattle.mono_rank.proofs.Ranks.{rank_small}
use Rattle.mono_rank.proofs.Products.{IsWithin, within_cases, times_small}
use Rattle.mono_rank.proofs.Numbers.{ranks_are_numbering, rank_of_product, product_past_degree, quotient_of_ranks}
use Rattle.mono_rank.proofs.Quotients.{is_over}

-- ---- products
-- a rank that is that of the product of all monomials of two ranks is their product
pub product_told : (T : Shape) (a b r : ℕ) → 1 ≤ T.variables → a < count T → b < count T → ((x y : List ℕ) → HasRank T x a → HasRank T y b → HasRank T (mono_times x y) r) →
    (rank_times T.degree (numbering T) a b ≡ r) × (r < count T)
product_told T a b r some l m f =
    let h = rank-mono_of_rank T a some l in
    let k = rank-mono_of_rank T b some m in
    (rank_of_product T (mono_of_rank T a) (mono_of_rank T b) a b r h k).0 (f (mono_of_rank T a) (mono_of_rank T b) h k)

-- where that product is beyond the degree, the product of the ranks is the number of monomials
pub product_past : (T : Shape) (a b : ℕ) → 1 ≤ T.variables → a < count T → b < count T → ((x y : List ℕ) → HasRank T x a → HasRank T y b → T.degree < degree (mono_times x y)) →
    rank_times T.degree (numbering T) a b ≡ count T
product_past T a b some l m f =
    let h = rank-mono_of_rank T a some l in
    let k = rank-mono_of_rank T b some m in
    (product_past_degree T (mono_of_rank T a) (mono_of_rank T b) a b some h k).0 (f (mono_of_rank T a) (mono_of_rank T b) h k)

-- a product of ranks is a rank, or the number of monomials
pub product_cases : (T : Shape) (a b : ℕ) → 1 ≤ T.variables → (rank_times T.degree (numbering T) a b < count T) ⊎ (rank_times T.degree (numbering T) a b ≡ count T)
product_cases T a b some = go (within_cases T.degree (numbering T) a b)
  where
    go : IsWithin T.degree (numbering T) a b ⊎ ((IsWithin T.degree (numbering T) a b → ⊥) × (rank_times T.degree (numbering T) a b ≡ count T)) →
        (rank_times T.degree (numbering T) a b < count T) ⊎ (rank_times T.degree (numbering T) a b ≡ count T)
    go (inl w) = inl (times_small T.variables T.degree IsAbove (numbering T) (ranks_are_numbering T some) a b w)
    go (inr f) = inr f.1

-- ---- quotients
-- a quotient has no greater degree than what is divided
pub quotient_fits : (T : Shape) (x y : List ℕ) (r : ℕ) → HasRank T x r → (length (mono_quotient x y) ≡ T.variables) × (degree (mono_quotient x y) ≤ T.degree)
quotient_fits T x y r h = (length-mono_quotient x y ∙ h.in_ring, omega (arith, degree-mono_quotient x y, h.low))

-- the rank of a quotient is the quotient of the ranks
pub quotient_is : (T : Shape) (x y : List ℕ) (r a s : ℕ) → HasRank T x r → HasRank T y a → Divides y x → HasRank T (mono_quotient x y) s → rank_quotient (numbering T) r a ≡ Some s
quotient_is T x y r a s h k e qs =
    let mx : mono_of_rank T r ≡ x = mono_of_rank-is T x r h in
    let my : mono_of_rank T a ≡ y = mono_of_rank-is T y a k in
    let long : length y ≡ length x = k.in_ring ∙ sym h.in_ring in
    is_over (numbering T) r a s (record {
      whole = rank_small T x r h;
      part = rank_small T y a k;
      divisor = ap₂ divides my mx ∙ (divides_iff y x long).1 e;
      rank = ap (rank_of T) (ap₂ mono_quotient mx my) ∙ qs.rank;
    })

-- so what a table answers for a quotient is the quotient of the ranks
pub quotient_told : (T : Shape) (x y q : List ℕ) (r a : ℕ) (o : Option ℕ) → HasRank T x r → HasRank T y a → Divides y x → q ≡ mono_quotient x y →
    MatchOption o (T.degree < degree q) (HasRank T q) → o ≡ rank_quotient (numbering T) r a
quotient_told T x y q r a None h k e qe m = absurd (omega (arith, m, ap degree qe, (quotient_fits T x y r h).1))
quotient_told T x y q r a (Some s) h k e qe m = sym (quotient_is T x y r a s h k e (subst (λ w. HasRank T w s) qe m))

-- where one monomial doesn't divide the other there is none
pub quotient_untold : (T : Shape) (x y : List ℕ) (r a : ℕ) → HasRank T x r → HasRank T y a → (Divides y x → ⊥) → None ≡ rank_quotient (numbering T) r a
quotient_untold T x y r a h k never = go (rank_quotient (numbering T) r a) refl
  where
    go : (o : Option ℕ) → rank_quotient (numbering T) r a ≡ o → None ≡ o
    go None e = refl
    go (Some s) e = absurd (never ((quotient_of_ranks T y x a r k h).1 (s, e)))

-- where one monomial divides the other there is one
pub quotient_some : (T : Shape) (r a : ℕ) → 1 ≤ T.variables → r < count T → a < count T → Divides (mono_of_rank T a) (mono_of_rank T r) → IsSome (rank_quotient (numbering T) r a)
quotient_some T r a some l m e =
    let w = (quotient_of_ranks T (mono_of_rank T a) (mono_of_rank T r) a r (rank-mono_of_rank T a some m) (rank-mono_of_rank T r some l)).0 e in
    subst IsSome (sym w.1) refl

-- a rank that is answered is one
pub answered_low : (T : Shape) (q : List ℕ) (o : Option ℕ) → MatchOption o (T.degree < degree q) (HasRank T q) → IfSome o (λ s. s < count T)
answered_low T q None m = tt
answered_low T q (Some s) m = rank_small T q s m

-- ---- cofactors
-- what a lacks to the least common multiple of a and b is what it lacks to b
pub over_left : (a b : List ℕ) → length a ≡ length b → mono_quotient (mono_lcm a b) a ≡ mono_quotient b a
over_left a b e =
    ext_get_or 0 (mono_quotient (mono_lcm a b) a) (mono_quotient b a)
    (length-mono_quotient (mono_lcm a b) a ∙ length-mono_lcm a b e ∙ sym (length-mono_quotient b a))
    (λ k l. omega (arith, get_or-mono_quotient (mono_lcm a b) a k, get_or-mono_lcm a b k, get_or-mono_quotient b a k))

-- so is what is told as lacking to it
pub lacking_told : (T : Shape) (x y z q : List ℕ) (a b : ℕ) (o : Option (List ℕ)) → HasRank T x a → HasRank T y b → z ≡ mono_lcm x y → IfSome o (λ m. m ≡ mono_quotient z x) → o ≡ Some q →
    q ≡ mono_quotient y x
lacking_told T x y z q a b o h k e f g =
    subst (λ o. IfSome o (λ m. m ≡ mono_quotient z x)) g f ∙ ap (λ s. mono_quotient s x) e ∙ over_left x y (h.in_ring ∙ sym k.in_ring)

-- it has low degree, so a table answers
pub lacking_fits : (T : Shape) (x y q : List ℕ) (b : ℕ) → HasRank T y b → q ≡ mono_quotient y x → (length q ≡ T.variables) × (degree q ≤ T.degree)
lacking_fits T x y q b k e = subst (λ z. (length z ≡ T.variables) × (degree z ≤ T.degree)) (sym e) (quotient_fits T y x b k)

-- where the degree is low there is an answer
pub some_rank : (T : Shape) (q : List ℕ) (o : Option ℕ) → MatchOption o (T.degree < degree q) (HasRank T q) → degree q ≤ T.degree → IsSome o
some_rank T q None h l = absurd (omega (arith, h, l))
some_rank T q (Some s) h l = refl

-- which is the rank
pub answered : (T : Shape) (q : List ℕ) (o : Option ℕ) (s : ℕ) → MatchOption o (T.degree < degree q) (HasRank T q) → o ≡ Some s → HasRank T q s
answered T q o s h e = subst (λ o. MatchOption o (T.degree < degree q) (HasRank T q)) e h

-- and this is what ranks have for it
pub cofactor_told : (T : Shape) (x y q : List ℕ) (a b s : ℕ) → HasRank T x a → HasRank T y b → q ≡ mono_quotient y x → HasRank T q s → s ≡ rank_cofactor (numbering T) a b
cofactor_told T x y q a b s h k qe qs =
    let N = count T in
    let mx : mono_of_rank T a ≡ x = mono_of_rank-is T x a h in
    let my : mono_of_rank T b ≡ y = mono_of_rank-is T y b k in
    sym (ap (λ t. cond t (rank_of T (mono_quotient (mono_of_rank T b) (mono_of_rank T a))) N)
    (and_from (ltb a N) (ltb b N) (lt-ltb a N (rank_small T x a h)) (lt-ltb b N (rank_small T y b k)))
    ∙ ap (rank_of T) (ap₂ mono_quotient my mx ∙ sym qe)
    ∙ qs.rank)
