-- The corner of leads as a number is the least rank that covers: multiples by rank are the multiples of monomials.
-- There is one least rank alone, and what some leads cover is covered by more leads too.
use Rattle.std.proofs.Common.{◌≡◌, ℕ, ◌+◌, ◌*◌, ◌%◌, ◌<◌, ◌≤◌, ◌⊎◌, List, length, get_or, Some, refl, sym, ◌∙◌, ap, inl, inr, arith}
use Rattle.std.specs.List.{Contains}
use Rattle.std.proofs.lemmas.Bool.{cases_lt}
use Rattle.std.proofs.lemmas.List.{get_or_default}
use Rattle.local_order.specs.Mono.{Divides}
use Rattle.local_order.specs.Shape.{Shape, count}
use Rattle.rank_algebra.specs.Ranks.{IsRanks}
use Rattle.rank_algebra.specs.Division.{IsMultiple as IsMultipleByRank, IsCover}
use Rattle.rank_algebra.proofs.Corner.{corner_is as corner_covers, corner_least}
use Rattle.mono_rank.specs.Rank.{HasRank, mono_of_rank}
use Rattle.mono_rank.specs.Laws.{numbering, rank_times}
use Rattle.mono_rank.specs.Cover.{IsMultipleOfRanks, Covers, IsCorner, with_leads, ranks_in, corner_of_leads}
use Rattle.mono_rank.proofs.Ranks.{rank_small}
use Rattle.mono_rank.proofs.ByRank.{rank-mono_of_rank}
use Rattle.mono_rank.proofs.Products.{IsWithin, within_of_rank}
use Rattle.mono_rank.proofs.Numbers.{ranks_have_laws, quotient_of_ranks}

-- each number is 0 modulo 1
mod_one : (c : ℕ) → c % 1 ≡ 0
mod_one c = omega arith

module _ (T : Shape) (some : 1 ≤ T.variables) where
  -- the ranks have the laws of ranks
  L : IsRanks (ranks_in T)
  L = ranks_have_laws T 1 (λ c. 0) some (omega arith) (λ c n. absurd (n (mod_one c)))

  -- a multiple by rank is one of the monomial of the lead
  multiple_to : (leads m : List ℕ) (r : ℕ) → HasRank T m r → IsMultipleByRank (ranks_in T) (with_leads leads) r → IsMultipleOfRanks T leads m
  multiple_to leads m r h x =
      let l : ℕ = get_or leads x.place 0 in
      let small : r < count T = rank_small T m r h in
      let within : IsWithin T.degree (numbering T) x.cofactor l = within_of_rank T.degree (numbering T) x.cofactor l (omega (arith, x.is, small)) in
      let k : HasRank T (mono_of_rank T l) l = rank-mono_of_rank T l some within.right in
      let turned : (ranks_in T).times l x.cofactor ≡ r = L.comm l x.cofactor ∙ x.is in
      let over = L.times_quotient l x.cofactor (omega (arith, turned, small)) in (
        l,
        mono_of_rank T l,
        (x.place, x.known, get_or_default leads x.place l 0 x.known),
        k,
        (quotient_of_ranks T (mono_of_rank T l) m l r k h).1 (x.cofactor, ap (λ q. (ranks_in T).quotient q l) (sym turned) ∙ over),
      )

  -- and a multiple of the monomial is one by rank
  multiple_from : (leads m : List ℕ) (r : ℕ) → HasRank T m r → IsMultipleOfRanks T leads m → IsMultipleByRank (ranks_in T) (with_leads leads) r
  multiple_from leads m r h (l, k, (j, jl, e), b, d) =
      let q = (quotient_of_ranks T k m l r b h).0 d in
      let at : get_or leads j 0 ≡ l = get_or_default leads j 0 l jl ∙ e in
      record { place = j; cofactor = q.0; known = jl; is = ap ((ranks_in T).times q.0) at ∙ L.comm q.0 l ∙ L.quotient_times r l q.0 q.1 }

  -- the number is the corner
  pub corner_is : (leads : List ℕ) → IsCorner T leads (corner_of_leads T leads)
  unfolding corner_of_leads
  corner_is leads = record {
    covers = λ m r l h. multiple_to leads m r h (c.covers r l (rank_small T m r h));
    low = c.within;
    least = λ w cover. least w cover (cases_lt (count T) w);
  }
    where
      c : IsCover (ranks_in T) (with_leads leads) (corner_of_leads T leads)
      c = corner_covers (ranks_in T) L (with_leads leads)

      least : (w : ℕ) → Covers T leads w → (count T < w) ⊎ (w ≤ count T) → corner_of_leads T leads ≤ w
      least w cover (inl l) = omega (arith, c.within, l)
      least w cover (inr l) = corner_least (ranks_in T) L (with_leads leads) w (record {
        within = l;
        covers = λ r m n. let h = rank-mono_of_rank T r some n in multiple_from leads (mono_of_rank T r) r h (cover (mono_of_rank T r) r m h);
      })

-- there is one corner alone
pub one_corner : (T : Shape) (leads : List ℕ) (v w : ℕ) → IsCorner T leads v → IsCorner T leads w → v ≡ w
one_corner T leads v w a b = omega (arith, a.least w b.covers, b.least v a.covers)

-- the corner never rises as leads are added
pub corner_never_rises : (T : Shape) (leads more : List ℕ) → 1 ≤ T.variables → ((l : ℕ) → Contains leads l → Contains more l) → corner_of_leads T more ≤ corner_of_leads T leads
corner_never_rises T leads more some among =
    (corner_is T some more).least (corner_of_leads T leads) (λ m r l h.
    let M = (corner_is T some leads).covers m r l h in (M.0, M.1, among M.0 M.2, M.3, M.4))
