-- The staircase of leads that show those of an ideal is the staircase of the ideal, and tells whether the degree fits.
-- Each rank of it is that of a monomial that is no lead; whether a monomial is a multiple of a lead can be tested.
use Rattle.std.proofs.Common.{◌≡◌, ℕ, suc, ◌<◌, ◌≤◌, ◌↔◌, ◌⊎◌, List, [], ◌∷◌, length, map, get_or, refl, sym, ◌∙◌, ap, subst, inl, inr, arith}
use Rattle.std.specs.List.{Contains}
use Rattle.std.proofs.lemmas.Bool.{cases_lt}
use Rattle.std.proofs.lemmas.List.{length-map, get_or-map}
use Rattle.std.proofs.lemmas.List.Elements.{Contains-get_or}
use Rattle.local_order.specs.Mono.{degree}
use Rattle.sparse_poly.specs.Shape.{shape_of}
use Rattle.mono_rank.specs.Rank.{HasRank, rank_of, mono_of_rank}
use Rattle.mono_rank.specs.Cover.{IsMultipleOfRanks}
use Rattle.mono_rank.proofs.ByRank.{mono_of_rank-is}
use Rattle.mono_rank.proofs.Ranks.{rank_above, above_of_rank}
use Rattle.sparse_poly.specs.Ideal.{Problem, IsGreater, IsLeadOfIdeal, IsFalling, IsStaircase, Fits, IsFirstMissing}
use Rattle.staircase.specs.Stair.{IsRising, IsStairOf, IsLeastOfDegree, ShowLeads}
use Rattle.staircase.proofs.Decided.{multiple_decided}
use Rattle.mono_rank.proofs.Members.{in_rest}

-- a rising list without its first number rises
pub rising_rest : (r : ℕ) (rs : List ℕ) → IsRising (r ∷ rs) → IsRising rs
rising_rest r rs h = record { rising = λ i j l m. h.rising (suc i) (suc j) (omega (arith, l)) (omega (arith, m)) }

-- a member of a list is mapped to a member
mapped : (f : ℕ → List ℕ) (rs : List ℕ) (r : ℕ) → Contains rs r → Contains (map f rs) (f r)
mapped f rs r (k, l, e) = (k, omega (arith, l, length-map rs f), get_or-map f rs k r (f r) l ∙ ap f e)

-- and a member of the mapped list comes from one
unmapped : (f : ℕ → List ℕ) (rs : List ℕ) (m : List ℕ) → Contains (map f rs) m → (r : ℕ) × Contains rs r × (f r ≡ m)
unmapped f rs m (k, l, e) =
    let within : k < length rs = omega (arith, l, length-map rs f) in
    (get_or rs k 0, Contains-get_or rs k 0 within, sym (get_or-map f rs k 0 m within) ∙ e)

-- monomials of rising ranks fall
falls : (P : Problem) (rs : List ℕ) → IsRising rs → ((r : ℕ) → Contains rs r → HasRank (shape_of P) (mono_of_rank (shape_of P) r) r) → IsFalling P (map (mono_of_rank (shape_of P)) rs)
falls P [] h has = tt
falls P (a ∷ []) h has = tt
falls P (a ∷ b ∷ rs) h has = (first, falls P (b ∷ rs) (rising_rest a (b ∷ rs) h) (λ r c. has r (in_rest a r (b ∷ rs) c)))
  where
    first : IsGreater P (mono_of_rank (shape_of P) a) (mono_of_rank (shape_of P) b)
    first =
        let ha = has a (0, omega arith, refl) in
        let hb = has b (1, omega arith, refl) in
        above_of_rank (shape_of P) (mono_of_rank (shape_of P) a) (mono_of_rank (shape_of P) b) ha.in_ring hb.in_ring hb.low (omega (arith, ha.rank, hb.rank, h.rising 0 1 (omega arith) (omega arith)))

module _ (P : Problem) (leads ranks : List ℕ) (some : 1 ≤ P.n) (shown : ShowLeads P leads) (S : IsStairOf (shape_of P) leads ranks) where
  -- each rank of the staircase is that of a monomial that is no multiple
  pub ranked : (r : ℕ) → Contains ranks r → HasRank (shape_of P) (mono_of_rank (shape_of P) r) r × (¬ IsMultipleOfRanks (shape_of P) leads (mono_of_rank (shape_of P) r))
  ranked r c =
      let x = (S.exactly r).0 c in
      let same : x.0 ≡ mono_of_rank (shape_of P) r = sym (mono_of_rank-is (shape_of P) x.0 r x.1) in
      (subst (λ m. HasRank (shape_of P) m r) same x.1, subst (λ m. ¬ IsMultipleOfRanks (shape_of P) leads m) same x.2)

  -- so it is no lead of the ideal
  no_lead : (r : ℕ) → Contains ranks r → IsLeadOfIdeal P (mono_of_rank (shape_of P) r) → ⊥
  no_lead r c h = let x = ranked r c in x.1 ((shown (mono_of_rank (shape_of P) r) x.0.in_ring x.0.low).0 h)

  -- a monomial that is no lead has its rank in the staircase
  in_stair : (m : List ℕ) → length m ≡ P.n → degree m ≤ P.d → (IsMultipleOfRanks (shape_of P) leads m → ⊥) → Contains ranks (rank_of (shape_of P) m)
  in_stair m e low never = (S.exactly (rank_of (shape_of P) m)).1 (m, record { in_ring = e; low = low; rank = refl }, never)

  -- the monomials of the ranks are the staircase of the ideal
  pub stair_is : IsStaircase P (map (mono_of_rank (shape_of P)) ranks)
  stair_is = record {
    falling = falls P ranks S.rises (λ r c. (ranked r c).0);
    exactly = λ m e low. (
      λ c h. let x = unmapped (mono_of_rank (shape_of P)) ranks m c in no_lead x.0 x.1 (subst (IsLeadOfIdeal P) (sym x.2) h),
      λ outside. subst (Contains (map (mono_of_rank (shape_of P)) ranks)) (mono_of_rank-is (shape_of P) m (rank_of (shape_of P) m) (record { in_ring = e; low = low; rank = refl }))
          (mapped (mono_of_rank (shape_of P)) ranks (rank_of (shape_of P) m) (in_stair m e low (λ M. outside ((shown m e low).1 M)))),
    );
    only = λ m c. let x = unmapped (mono_of_rank (shape_of P)) ranks m c in
        subst (λ k. (length k ≡ P.n) × (degree k ≤ P.d)) x.2 (let h = (ranked x.0 x.1).0 in (h.in_ring, h.low));
  }

  -- a monomial whose rank isn't in the staircase is a lead
  lead_or_in : (m : List ℕ) → length m ≡ P.n → degree m ≤ P.d → (Contains ranks (rank_of (shape_of P) m) → ⊥) → IsLeadOfIdeal P m
  lead_or_in m e low out = (shown m e low).1 (go (multiple_decided (shape_of P) leads m some e))
    where
      go : IsMultipleOfRanks (shape_of P) leads m ⊎ (¬ IsMultipleOfRanks (shape_of P) leads m) → IsMultipleOfRanks (shape_of P) leads m
      go (inl M) = M
      go (inr never) = absurd (out (in_stair m e low never))

  -- the degree fits exactly where the monomials of all ranks have a lesser degree
  pub fits_by_ranks : ((r : ℕ) → Contains ranks r → degree (mono_of_rank (shape_of P) r) < P.d) ↔ Fits P
  fits_by_ranks = (to, from)
    where
      to : ((r : ℕ) → Contains ranks r → degree (mono_of_rank (shape_of P) r) < P.d) → Fits P
      to none m e top =
          let h : HasRank (shape_of P) m (rank_of (shape_of P) m) = record { in_ring = e; low = omega (arith, top); rank = refl } in
          lead_or_in m e (omega (arith, top)) (λ c. absurd (omega (arith, top, none (rank_of (shape_of P) m) c, ap degree (mono_of_rank-is (shape_of P) m (rank_of (shape_of P) m) h))))

      from : Fits P → (r : ℕ) → Contains ranks r → degree (mono_of_rank (shape_of P) r) < P.d
      from fits r c = go (cases_lt (degree (mono_of_rank (shape_of P) r)) P.d)
        where
          h : HasRank (shape_of P) (mono_of_rank (shape_of P) r) r
          h = (ranked r c).0

          go : (degree (mono_of_rank (shape_of P) r) < P.d) ⊎ (P.d ≤ degree (mono_of_rank (shape_of P) r)) → degree (mono_of_rank (shape_of P) r) < P.d
          go (inl l) = l
          go (inr l) = absurd (no_lead r c (fits (mono_of_rank (shape_of P) r) h.in_ring (omega (arith, l, h.low))))

  -- the least rank of the greatest degree is that of the first missing monomial
  pub missing_is : (r : ℕ) → IsLeastOfDegree (shape_of P) P.d ranks r → IsFirstMissing P (mono_of_rank (shape_of P) r)
  missing_is r l = record { in_ring = h.in_ring; top = l.of_degree; missing = no_lead r l.there; first = first }
    where
      m : List ℕ
      m = mono_of_rank (shape_of P) r

      h : HasRank (shape_of P) m r
      h = (ranked r l.there).0

      first : (k : List ℕ) → length k ≡ P.n → degree k ≡ P.d → IsGreater P k m → IsLeadOfIdeal P k
      first k e top up = lead_or_in k e (omega (arith, top)) (λ c.
          let j : HasRank (shape_of P) k (rank_of (shape_of P) k) = record { in_ring = e; low = omega (arith, top); rank = refl } in
          omega (arith, l.least (rank_of (shape_of P) k) c (ap degree (mono_of_rank-is (shape_of P) k (rank_of (shape_of P) k) j) ∙ top), rank_above (shape_of P) k m e (omega (arith, top)) up, h.rank))
