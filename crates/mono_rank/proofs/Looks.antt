-- What a table gives for a rank is the monomial of that rank.
-- So products and divisors of what it gives are those of the monomials of the ranks.
use Rattle.std.proofs.Common.{◌≡◌, ℕ, zero, suc, ◌+◌, ◌-◌, ◌*◌, ◌<◌, ◌≤◌, ◌↔◌, List, [], length, get_or, All, Option, IsTrue, Bool, ap, sym, ◌∙◌, subst, arith}
use Rattle.std.specs.Option.{MatchOption}
use Rattle.std.proofs.lemmas.List.{get_or_read}
use Rattle.local_order.specs.Mono.{degree, mono_times, Divides}
use Rattle.local_order.specs.Count.{monomial_count}
use Rattle.local_order.specs.Shape.{Shape, count}
use Rattle.local_order.proofs.Order.{degree-mono_times, length-mono_times}
use Rattle.local_order.proofs.Places.{small_from_degree}
use Rattle.mono_rank.specs.Rank.{HasRank, fewer}
use Rattle.mono_rank.specs.Stored.{IsTable}
use Rattle.mono_rank.proofs.Pascal.{count_some, count_in_degree}
use Rattle.mono_rank.proofs.Counts.{count_read}
use Rattle.mono_rank.proofs.Ranks.{one_of_rank}

-- a table is one of the shape that it is seen as
pub seen : (M S : Shape) (s : List (List ℕ)) (c : List ℕ) → M ≡ S → IsTable M s c → IsTable S s c
seen M S s c e T = subst (λ (k : Shape). IsTable k s c) e T

-- what is looked up has the rank
pub looked_up : (S : Shape) (a : ℕ) (s : List (List ℕ)) (c : List ℕ) (t : List ℕ) → IsTable S s c → a < count S → t ≡ get_or s a t → HasRank S t a
looked_up S a s c t T l e =
    let there : a < length s = omega (arith, T.monos.all) in
    subst (λ x. HasRank S x a) (sym (get_or_read s a t there e [])) (T.monos.each a there)

-- and is each monomial of the rank
pub looked_up_same : (S : Shape) (a : ℕ) (s : List (List ℕ)) (c : List ℕ) (t x : List ℕ) → IsTable S s c → a < count S → t ≡ get_or s a t → HasRank S x a → t ≡ x
looked_up_same S a s c t x T l e h = one_of_rank S t x a (looked_up S a s c t T l e) h

-- the product of two that are looked up has small exponents
pub product_small : (T : Shape) (a b : ℕ) (t u : List ℕ) → T.degree ≤ 255 → HasRank T t a → HasRank T u b → All (λ e. e ≤ 1000) (mono_times t u)
product_small T a b t u low h k = small_from_degree (mono_times t u) (omega (arith, degree-mono_times t u, h.low, k.low))

-- it has as many exponents
pub length-product : (T : Shape) (a b : ℕ) (t u v : List ℕ) → HasRank T t a → HasRank T u b → v ≡ mono_times t u → length v ≡ T.variables
length-product T a b t u v h k e = ap length e ∙ length-mono_times t u (h.in_ring ∙ sym k.in_ring) ∙ k.in_ring

-- the rank of the product of what is looked up is that of the product of the monomials of the ranks
pub product_rank : (T : Shape) (a b : ℕ) (t u v x y : List ℕ) (r : Option ℕ) → HasRank T t a → HasRank T u b → v ≡ mono_times t u → HasRank T x a → HasRank T y b →
    MatchOption r (T.degree < degree v) (HasRank T v) → MatchOption r (T.degree < degree (mono_times x y)) (HasRank T (mono_times x y))
product_rank T a b t u v x y r h k e f g m =
    let one : t ≡ x = one_of_rank T t x a h f in
    let two : u ≡ y = one_of_rank T u y b k g in
    let same : v ≡ mono_times x y = e ∙ ap (λ w. mono_times w u) one ∙ ap (mono_times x) two in
    subst (λ w. MatchOption r (T.degree < degree w) (HasRank T w)) same m

-- what divides what is looked up
pub divides_rank : (T : Shape) (a b : ℕ) (t u x y : List ℕ) (r : Bool) → HasRank T t a → HasRank T u b → HasRank T x a → HasRank T y b →
    IsTrue r ↔ Divides t u → IsTrue r ↔ Divides x y
divides_rank T a b t u x y r h k f g i =
    subst (λ w. IsTrue r ↔ Divides w y) (one_of_rank T t x a h f) (subst (λ w. IsTrue r ↔ Divides t w) (one_of_rank T u y b k g) i)

-- ---- the first of a degree
-- fewer monomials have a degree below one that is reached than there are
pub fewer_small : (n d e : ℕ) → e ≤ d → 1 ≤ n → fewer n e < monomial_count n d
fewer_small n d e l some = go e l
  where
    go : (e : ℕ) → e ≤ d → fewer n e < monomial_count n d
    go zero l = count_some n d
    go (suc e) l = one n some
      where
        one : (n : ℕ) → 1 ≤ n → monomial_count n e < monomial_count n d
        one zero s = absurd (omega arith)
        one (suc n) s = omega (arith, count_some n (suc e), count_in_degree (suc n) (suc e) d l)

-- the number that is looked up
pub first_read : (S : Shape) (e : ℕ) (s : List (List ℕ)) (c : List ℕ) (t : ℕ) → IsTable S s c → e ≤ S.degree → t ≡ get_or c (8 * e + S.variables - 1) t → t ≡ fewer S.variables e
first_read S e s c t T l h =
    let there : 8 * e + S.variables - 1 < length c = omega (arith, T.rows, T.limits.few, T.limits.some) in
    get_or_read c (8 * e + S.variables - 1) t there h 0 ∙ count_read c e S.variables (8 * e + S.variables - 1) T.counts T.limits.some T.limits.few (omega arith) there
