-- The ranks of a table number the monomials by the order ds, so all that holds of numberings holds of them.
-- What the laws say of products and quotients of ranks is read back on monomials by their ranks.
use Rattle.std.proofs.Common.{◌≡◌, ℕ, ◌*◌, ◌%◌, ◌<◌, ◌≤◌, ◌↔◌, ◌⊎◌, List, length, Some, refl, ap, sym, ◌∙◌, inl, inr, arith}
use Rattle.std.proofs.Math.Path.{ap₂}
use Rattle.std.proofs.lemmas.Bool.{cases_lt}
use Rattle.local_order.specs.Mono.{degree, mono_times, mono_quotient, Divides, divides}
use Rattle.local_order.specs.Order.{IsAbove}
use Rattle.local_order.specs.Shape.{Shape, count}
use Rattle.local_order.proofs.Order.{degree-mono_times, length-mono_times, above_trans, above_irrefl, above_cases, above-mono_times, degree_of_above}
use Rattle.local_order.proofs.Division.{divides_iff}
use Rattle.mono_rank.specs.Rank.{rank_of, HasRank, mono_of_rank}
use Rattle.mono_rank.specs.Laws.{IsDegreeOrder, Numbering, IsNumbering, numbering, rank_times, rank_quotient, ranks_of}
use Rattle.rank_algebra.specs.Ranks.{IsRanks}
use Rattle.mono_rank.proofs.Ranks.{rank_low, rank_above, rank_small}
use Rattle.mono_rank.proofs.ByRank.{mono_of_rank-is, rank-mono_of_rank}
use Rattle.mono_rank.proofs.Products.{IsWithin, times_within, times_past, within_of_rank, times_small, times_comm, times_assoc, some_monomials, times_unit, times_le, times_grows}
use Rattle.mono_rank.proofs.Quotients.{over_is, is_over, times_over, over_times, lcm_from_both, lcm_is_least}

-- ---- numberings
-- numbers of monomials by any order that goes by degree first have the laws of ranks
pub numbering_has_laws : (n d p : ℕ) (inv : ℕ → ℕ) (Above : List ℕ → List ℕ → Type 0) (O : Numbering) → IsDegreeOrder n Above → IsNumbering n d Above O → 0 < p →
    ((c : ℕ) → (c % p ≡ 0 → ⊥) → (inv c * c) % p ≡ 1 % p) → IsRanks (ranks_of p inv d O)
numbering_has_laws n d p inv Above O D W some inverse = record {
  prime_pos = some;
  some = some_monomials n d Above O D W;
  inverse = inverse;
  comm = times_comm n d Above O W;
  assoc = times_assoc n d Above O W;
  unit = times_unit n d Above O D W;
  le = times_le n d Above O D W;
  grows = times_grows n d Above O D W;
  quotient_times = times_over n d Above O W;
  times_quotient = over_times n d Above O W;
  lcm = lcm_from_both n d Above O W;
  least = lcm_is_least n d Above O W;
}

-- the order ds goes by degree first
pub ds_is_degree_order : (n : ℕ) → IsDegreeOrder n IsAbove
ds_is_degree_order n = record {
  irreflexive = above_irrefl;
  transitive = above_trans;
  total = λ a b e f. above_cases a b (e ∙ sym f);
  by_degree = λ a b l. inl l;
  degrees = degree_of_above;
  products = λ c a b e f g. above-mono_times c a b (e ∙ sym f) (e ∙ sym g);
}

-- ranks number the monomials by the order ds
pub ranks_are_numbering : (T : Shape) → 1 ≤ T.variables → IsNumbering T.variables T.degree IsAbove (numbering T)
ranks_are_numbering T some = record {
  in_ring = λ r l. (rank-mono_of_rank T r some l).in_ring;
  low = λ r l. (rank-mono_of_rank T r some l).low;
  small = rank_low T;
  there = λ m e l. mono_of_rank-is T m (rank_of T m) (record { in_ring = e; low = l; rank = refl });
  back = λ r l. (rank-mono_of_rank T r some l).rank;
  falls = λ a b e l f k. rank_above T a b e l;
}

-- so ranks have the laws of ranks
pub ranks_have_laws : (T : Shape) (p : ℕ) (inv : ℕ → ℕ) → 1 ≤ T.variables → 0 < p → ((c : ℕ) → (c % p ≡ 0 → ⊥) → (inv c * c) % p ≡ 1 % p) → IsRanks (ranks_of p inv T.degree (numbering T))
ranks_have_laws T p inv some = numbering_has_laws T.variables T.degree p inv IsAbove (numbering T) (ds_is_degree_order T.variables) (ranks_are_numbering T some)

-- ---- monomials by their ranks
-- ranks are within bounds where the degree of the product is at most d
within_by_degree : (T : Shape) (x y : List ℕ) (a b : ℕ) → HasRank T x a → HasRank T y b → degree (mono_times x y) ≤ T.degree → IsWithin T.degree (numbering T) a b
within_by_degree T x y a b h k l = record {
  left = rank_small T x a h;
  right = rank_small T y b k;
  low = omega (arith, l, degree-mono_times x y, ap degree (mono_of_rank-is T x a h), ap degree (mono_of_rank-is T y b k));
}

-- where ranks are within bounds, the degree of the product is at most d
degree_within : (T : Shape) (x y : List ℕ) (a b : ℕ) → HasRank T x a → HasRank T y b → IsWithin T.degree (numbering T) a b → degree (mono_times x y) ≤ T.degree
degree_within T x y a b h k s =
    omega (arith, s.low, degree-mono_times x y, ap degree (mono_of_rank-is T x a h), ap degree (mono_of_rank-is T y b k))

-- within bounds the product of ranks is the rank of the product
times_is_rank : (T : Shape) (x y : List ℕ) (a b : ℕ) → HasRank T x a → HasRank T y b → IsWithin T.degree (numbering T) a b →
    rank_times T.degree (numbering T) a b ≡ rank_of T (mono_times x y)
times_is_rank T x y a b h k s =
    times_within T.degree (numbering T) a b s ∙ ap (rank_of T) (ap₂ mono_times (mono_of_rank-is T x a h) (mono_of_rank-is T y b k))

-- a product has a rank exactly where the product of the ranks is that rank
pub rank_of_product : (T : Shape) (x y : List ℕ) (a b r : ℕ) → HasRank T x a → HasRank T y b →
    HasRank T (mono_times x y) r ↔ ((rank_times T.degree (numbering T) a b ≡ r) × (r < count T))
rank_of_product T x y a b r h k = (there, back)
  where
    there : HasRank T (mono_times x y) r → (rank_times T.degree (numbering T) a b ≡ r) × (r < count T)
    there m = (times_is_rank T x y a b h k (within_by_degree T x y a b h k m.low) ∙ m.rank, rank_small T (mono_times x y) r m)

    back : (rank_times T.degree (numbering T) a b ≡ r) × (r < count T) → HasRank T (mono_times x y) r
    back e =
        let s : IsWithin T.degree (numbering T) a b = within_of_rank T.degree (numbering T) a b (omega (arith, e.0, e.1)) in
        record {
          in_ring = length-mono_times x y (h.in_ring ∙ sym k.in_ring) ∙ k.in_ring;
          low = degree_within T x y a b h k s;
          rank = sym (times_is_rank T x y a b h k s) ∙ e.0;
        }

-- a product is beyond degree d exactly where the product of the ranks is the number of monomials
pub product_past_degree : (T : Shape) (x y : List ℕ) (a b : ℕ) → 1 ≤ T.variables → HasRank T x a → HasRank T y b →
    (T.degree < degree (mono_times x y)) ↔ (rank_times T.degree (numbering T) a b ≡ count T)
product_past_degree T x y a b some h k = (
  λ l. times_past T.degree (numbering T) a b (λ s. omega (arith, l, degree_within T x y a b h k s)),
  λ e. go (cases_lt T.degree (degree (mono_times x y))) e,
)
  where
    go : (T.degree < degree (mono_times x y)) ⊎ (degree (mono_times x y) ≤ T.degree) → rank_times T.degree (numbering T) a b ≡ count T → T.degree < degree (mono_times x y)
    go (inl l) e = l
    go (inr l) e = absurd (omega (arith, e, times_small T.variables T.degree IsAbove (numbering T) (ranks_are_numbering T some) a b (within_by_degree T x y a b h k l)))

-- a monomial divides another exactly where there is a quotient of the ranks
pub quotient_of_ranks : (T : Shape) (x y : List ℕ) (a b : ℕ) → HasRank T x a → HasRank T y b →
    Divides x y ↔ ((s : ℕ) × (rank_quotient (numbering T) b a ≡ Some s))
quotient_of_ranks T x y a b h k = (there, back)
  where
    same : divides (mono_of_rank T a) (mono_of_rank T b) ≡ divides x y
    same = ap₂ divides (mono_of_rank-is T x a h) (mono_of_rank-is T y b k)

    long : length x ≡ length y
    long = h.in_ring ∙ sym k.in_ring

    there : Divides x y → (s : ℕ) × (rank_quotient (numbering T) b a ≡ Some s)
    there e =
        let s : ℕ = rank_of T (mono_quotient (mono_of_rank T b) (mono_of_rank T a)) in (
          s,
          is_over (numbering T) b a s (record { whole = rank_small T y b k; part = rank_small T x a h; divisor = same ∙ (divides_iff x y long).1 e; rank = refl }),
        )

    back : (s : ℕ) × (rank_quotient (numbering T) b a ≡ Some s) → Divides x y
    back e = (divides_iff x y long).0 (sym same ∙ (over_is (numbering T) b a e.0 e.1).divisor)
