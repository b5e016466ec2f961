-- The leads of the entries by rank, and the monomials that are multiples of none.
-- A lead as a monomial and its rank stand at the same place; two lists that fall and have the same monomials are one.
use Rattle.std.proofs.Common.{◌≡◌, ℕ, suc, ◌+◌, ◌<◌, ◌≤◌, ◌↔◌, ◌⊎◌, List, [], ◌∷◌, ◌++◌, length, map, take, get_or, Bool, IsTrue, Contains, All, refl, sym, ◌∙◌, ap, subst, arith, inl, inr}
use Rattle.std.proofs.Math.Path.{fun_ext}
use Rattle.std.proofs.lemmas.List.{get_or-map, length-map, get_or_default, take_more}
use Rattle.local_order.specs.Mono.{degree, Divides}
use Rattle.local_order.specs.Order.{IsAbove}
use Rattle.local_order.proofs.Order.{above_cases}
use Rattle.sparse_poly.specs.Shape.{shape_of}
use Rattle.local_order.specs.Shape.{Shape, count}
use Rattle.mono_rank.specs.Rank.{HasRank, mono_of_rank}
use Rattle.mono_rank.proofs.Ranks.{rank_small}
use Rattle.mono_rank.specs.Laws.{IsNumbering}
use Rattle.mono_rank.specs.Cover.{IsMultipleOfRanks}
use Rattle.sparse_poly.specs.Ideal.{Problem, IsGreater, IsFalling}
use Rattle.sparse_poly.proofs.Falling.{among_of_contains, contains_of_among, falling_same}
use Rattle.entry_code.specs.Entry.{Entry, no_entry, entry_at}
use Rattle.staircase.specs.Stair.{IsRising, IsStairOf, IsLeastOfDegree}
use Rattle.mora_law.specs.Ring.{numbering_of, IsAdmissible}
use Rattle.mora_law.specs.Entries.{lead_rank}
use Rattle.mora_law.proofs.Divisors.{above_by_rank}
use Rattle.mora_law.proofs.Ring.{numbering_is, rank_is, mono_is, ranks_count, has_rank}
use Rattle.cert_check.specs.Sparse.{HasTable, AreEntries, lead_ranks}
use Rattle.cert_check.proofs.Tables.{all_ranks}
use Rattle.cert_check.specs.Accepted.{IsMultipleOfLeads, IsFirstFree, IsFreeList}
use Rattle.cert_check.proofs.Leaves.{lead_within}
use Rattle.cert_check.proofs.Decide.{Decided}
use Rattle.cert_check.proofs.Monomials.{decided_led}

module _ (P : Problem) (h : IsAdmissible P) (entries : List Entry) (s : AreEntries P entries) where
  -- the numbering goes by the order
  W : IsNumbering P.n P.d IsAbove (numbering_of P)
  W = numbering_is P h.some

  -- the lead of each entry is the monomial of its rank
  lead_is : (k : ℕ) → k < length entries → HasRank (shape_of P) ((numbering_of P).mono (lead_rank (entry_at entries k).terms)) (lead_rank (entry_at entries k).terms)
  lead_is k l = has_rank P (lead_rank (entry_at entries k).terms) h.some (omega (arith, lead_within P entries s k l, ranks_count P))

  -- multiples of a lead are multiples by its rank
  pub to_ranks : (m : List ℕ) → IsMultipleOfLeads P entries m → IsMultipleOfRanks (shape_of P) (lead_ranks entries) m
  to_ranks m (l, (j, jl, g), x) =
      let jn : j < length entries = omega (arith, jl, length-map entries (λ (e : Entry). (numbering_of P).mono (lead_rank e.terms))) in
      let same : l ≡ (numbering_of P).mono (lead_rank (entry_at entries j).terms) = sym g ∙ get_or-map (λ (e : Entry). (numbering_of P).mono (lead_rank e.terms)) entries j no_entry l jn in (
        lead_rank (entry_at entries j).terms,
        (numbering_of P).mono (lead_rank (entry_at entries j).terms),
        (j, omega (arith, jn, length-map entries (λ (e : Entry). lead_rank e.terms)), get_or-map (λ (e : Entry). lead_rank e.terms) entries j no_entry _ jn),
        lead_is j jn,
        subst (λ y. Divides y m) same x,
      )

  -- and the other way round
  pub from_ranks : (m : List ℕ) → IsMultipleOfRanks (shape_of P) (lead_ranks entries) m → IsMultipleOfLeads P entries m
  from_ranks m (l, a, (j, jl, g), b, x) =
      let jn : j < length entries = omega (arith, jl, length-map entries (λ (e : Entry). lead_rank e.terms)) in
      let rank : lead_rank (entry_at entries j).terms ≡ l = sym (get_or-map (λ (e : Entry). lead_rank e.terms) entries j no_entry l jn) ∙ g in
      let same : a ≡ (numbering_of P).mono (lead_rank (entry_at entries j).terms) = sym (W.there a b.in_ring b.low) ∙ ap (numbering_of P).mono (rank_is P a ∙ b.rank ∙ sym rank) in (
        (numbering_of P).mono (lead_rank (entry_at entries j).terms),
        (j, omega (arith, jn, length-map entries (λ (e : Entry). (numbering_of P).mono (lead_rank e.terms))), get_or-map (λ (e : Entry). (numbering_of P).mono (lead_rank e.terms)) entries j no_entry _ jn),
        subst (λ y. Divides y m) same x,
      )

  module _ (ranks : List ℕ) (stair : IsStairOf (shape_of P) (lead_ranks entries) ranks) where
    -- a rank of the staircase is that of a monomial that is a multiple of no lead
    pub stair_free : (r : ℕ) → Contains ranks r → HasRank (shape_of P) ((numbering_of P).mono r) r × (IsMultipleOfLeads P entries ((numbering_of P).mono r) → ⊥)
    stair_free r c =
        let z = (stair.exactly r).0 c in
        let same : z.0 ≡ (numbering_of P).mono r = sym (W.there z.0 z.1.in_ring z.1.low) ∙ ap (numbering_of P).mono (rank_is P z.0 ∙ z.1.rank) in
        (subst (λ y. HasRank (shape_of P) y r) same z.1, λ led. z.2 (to_ranks z.0 (subst (IsMultipleOfLeads P entries) (sym same) led)))

    -- and each such monomial has its rank there
    pub free_stair : (m : List ℕ) → length m ≡ P.n → degree m ≤ P.d → (IsMultipleOfLeads P entries m → ⊥) → Contains ranks ((numbering_of P).rank m)
    free_stair m e low n = (stair.exactly ((numbering_of P).rank m)).1 (m, record { in_ring = e; low = low; rank = sym (rank_is P m) }, λ x. n (from_ranks m x))

    -- the least rank of degree d is that of the first such monomial of degree d
    pub least_first : (r : ℕ) → IsLeastOfDegree (shape_of P) P.d ranks r → IsFirstFree P entries ((numbering_of P).mono r)
    least_first r least = record {
      in_ring = own.0.in_ring;
      top = ap degree (mono_is P r) ∙ least.of_degree;
      free = own.1;
      first = λ k e top above. go k e top above (decided_led P h.some entries k);
    }
      where
        own : HasRank (shape_of P) ((numbering_of P).mono r) r × (IsMultipleOfLeads P entries ((numbering_of P).mono r) → ⊥)
        own = stair_free r least.there

        go : (k : List ℕ) → length k ≡ P.n → degree k ≡ P.d → IsGreater P k ((numbering_of P).mono r) → Decided (IsMultipleOfLeads P entries k) → IsMultipleOfLeads P entries k
        go k e top above (inl led) = led
        go k e top above (inr n) =
            let low : degree k ≤ P.d = omega (arith, top) in
            let later = W.falls k ((numbering_of P).mono r) e low (stair_free r least.there).0.in_ring (stair_free r least.there).0.low above in
            let back = rank_is P ((numbering_of P).mono r) ∙ (stair_free r least.there).0.rank in
            let most = least.least ((numbering_of P).rank k) (free_stair k e low n) (ap degree (sym (mono_is P ((numbering_of P).rank k)) ∙ W.there k e low) ∙ top) in
            absurd (omega (arith, later, back, most))

    -- where each has a lesser degree there is none
    pub none_first : ((r : ℕ) → Contains ranks r → degree (mono_of_rank (shape_of P) r) < P.d) → (m : List ℕ) → IsFirstFree P entries m → ⊥
    none_first n m f =
        let low : degree m ≤ P.d = omega (arith, f.top) in
        let z = n ((numbering_of P).rank m) (free_stair m f.in_ring low f.free) in
        absurd (omega (arith, z, ap degree (sym (mono_is P ((numbering_of P).rank m)) ∙ W.there m f.in_ring low), f.top))

  -- there is one first such monomial at most
  pub one_first : (m k : List ℕ) → IsFirstFree P entries m → IsFirstFree P entries k → m ≡ k
  one_first m k f g = go (above_cases m k (f.in_ring ∙ sym g.in_ring))
    where
      go : (m ≡ k) ⊎ (IsAbove m k ⊎ IsAbove k m) → m ≡ k
      go (inl e) = e
      go (inr (inl a)) = absurd (f.free (g.first m f.in_ring f.top a))
      go (inr (inr a)) = absurd (g.free (f.first k g.in_ring g.top a))

  -- and one list of all
  pub one_list : (a b : List (List ℕ)) → IsFreeList P entries a → IsFreeList P entries b → a ≡ b
  one_list a b f g = falling_same P a b f.falling g.falling
      (λ m c. let z = contains_of_among a m c in let o = f.only m z in among_of_contains b m ((g.exactly m o.0 o.1).1 ((f.exactly m o.0 o.1).0 z)))
      (λ m c. let z = contains_of_among b m c in let o = g.only m z in among_of_contains a m ((f.exactly m o.0 o.1).1 ((g.exactly m o.0 o.1).0 z)))

-- ---- the list of the ranks' monomials
-- a member of the list of monomials comes from a rank
unmapped : (f : ℕ → List ℕ) (rs : List ℕ) (m : List ℕ) → Contains (map f rs) m → (r : ℕ) × Contains rs r × (f r ≡ m)
unmapped f rs m (k, l, e) =
    let n : k < length rs = omega (arith, l, length-map rs f) in
    (get_or rs k 0, (k, n, get_or_default rs k _ 0 n), sym (get_or-map f rs k 0 m n) ∙ e)

-- and each rank gives one
mapped : (f : ℕ → List ℕ) (rs : List ℕ) (r : ℕ) → Contains rs r → Contains (map f rs) (f r)
mapped f rs r (k, l, e) = (k, omega (arith, l, length-map rs f), get_or-map f rs k r (f r) l ∙ ap f e)

-- each member of a list that rises is below the next
rising_rest : (a : ℕ) (rs : List ℕ) → IsRising (a ∷ rs) → IsRising rs
rising_rest a rs h = record { rising = λ i j l m. h.rising (suc i) (suc j) (omega (arith, l)) (omega (arith, m)) }

module _ (P : Problem) (h : IsAdmissible P) (entries : List Entry) (s : AreEntries P entries) where
  -- monomials of rising ranks fall
  falls : (rs : List ℕ) → IsRising rs → ((r : ℕ) → Contains rs r → HasRank (shape_of P) ((numbering_of P).mono r) r) → IsFalling P (map (numbering_of P).mono rs)
  falls [] rise has = tt
  falls (a ∷ []) rise has = tt
  falls (a ∷ b ∷ rs) rise has = (
    above_by_rank P h a b (rise.rising 0 1 (omega arith) (omega arith)) (let k = has b (1, omega arith, refl) in omega (arith, (numbering_is P h.some).small ((numbering_of P).mono b) k.in_ring k.low, rank_is P ((numbering_of P).mono b), k.rank)),
    falls (b ∷ rs) (rising_rest a (b ∷ rs) rise) (λ r (k, l, e). has r (suc k, omega (arith, l), e)),
  )

  -- the monomials of the staircase's ranks are those that are multiples of no lead
  pub stair_list : (ranks : List ℕ) → IsStairOf (shape_of P) (lead_ranks entries) ranks → IsFreeList P entries (map (numbering_of P).mono ranks)
  stair_list ranks stair = record {
    falling = falls ranks stair.rises (λ r c. (stair_free P h entries s ranks stair r c).0);
    exactly = λ m e low. (
      (λ c led. let z = unmapped (numbering_of P).mono ranks m c in (stair_free P h entries s ranks stair z.0 z.1).1 (subst (IsMultipleOfLeads P entries) (sym z.2) led)),
      (λ n. subst (Contains (map (numbering_of P).mono ranks)) ((numbering_is P h.some).there m e low) (mapped (numbering_of P).mono ranks ((numbering_of P).rank m) (free_stair P h entries s ranks stair m e low n))),
    );
    only = λ m c. let z = unmapped (numbering_of P).mono ranks m c in let k = (stair_free P h entries s ranks stair z.0 z.1).0 in
        subst (λ y. (length y ≡ P.n) × (degree y ≤ P.d)) z.2 (k.in_ring, k.low);
  }

-- ---- by a table
module _ (P : Problem) (h : IsAdmissible P) (entries : List Entry) (s : AreEntries P entries) (T S : Shape) (t : T ≡ shape_of P) (e : S ≡ T) (ranks : List ℕ) (stair : IsStairOf T (lead_ranks entries) ranks) where
  -- the staircase among the monomials of the problem
  own_stair : IsStairOf (shape_of P) (lead_ranks entries) ranks
  own_stair = subst (λ x. IsStairOf x (lead_ranks entries) ranks) t stair

  -- the least rank of the greatest degree, among those of the problem
  own_least : (r : ℕ) → IsLeastOfDegree S S.degree ranks r → IsLeastOfDegree (shape_of P) P.d ranks r
  own_least r least = subst (λ (x : Shape). IsLeastOfDegree x x.degree ranks r) (e ∙ t) least

  -- a rank of the staircase is one of the table
  pub stair_small : (r : ℕ) → Contains ranks r → r < count T
  stair_small r c = subst (λ x. r < count x) (sym t) (rank_small (shape_of P) ((numbering_of P).mono r) r (stair_free P h entries s ranks (subst (λ x. IsStairOf x (lead_ranks entries) ranks) t stair) r c).0)

  -- the monomial of the least rank of the greatest degree is the missing one, and no other is
  pub missing_is : (r : ℕ) (k m : List ℕ) (answer : Bool) → IsLeastOfDegree S S.degree ranks r → HasRank T k r → IsTrue answer ↔ (k ≡ m) → IsTrue answer ↔ IsFirstFree P entries m
  missing_is r k m answer least ranked same = (
    λ y. subst (IsFirstFree P entries) (is ∙ same.0 y) first,
    λ f. same.1 (sym is ∙ one_first P h entries s _ m first f),
  )
    where
      first : IsFirstFree P entries ((numbering_of P).mono r)
      first = least_first P h entries s ranks (subst (λ x. IsStairOf x (lead_ranks entries) ranks) t stair) r (subst (λ (x : Shape). IsLeastOfDegree x x.degree ranks r) (e ∙ t) least)

      own : HasRank (shape_of P) k r
      own = subst (λ x. HasRank x k r) t ranked

      is : (numbering_of P).mono r ≡ k
      is = ap (numbering_of P).mono (sym (rank_is P k ∙ (subst (λ x. HasRank x k r) t ranked).rank)) ∙ (numbering_is P h.some).there k (subst (λ x. HasRank x k r) t ranked).in_ring (subst (λ x. HasRank x k r) t ranked).low

  -- where each rank has a lesser degree there is none
  pub none_missing : ((r : ℕ) → Contains ranks r → degree (mono_of_rank S r) < S.degree) → (m : List ℕ) → IsFirstFree P entries m → ⊥
  none_missing n m f = none_first P h entries s ranks (subst (λ x. IsStairOf x (lead_ranks entries) ranks) t stair) (subst (λ (x : Shape). (r : ℕ) → Contains ranks r → degree (mono_of_rank x r) < x.degree) (e ∙ t) n) m f

  -- the list of the ranks' monomials is the list that is asked for, and no other is
  pub list_is : (list : List (List ℕ)) → (list ≡ map (mono_of_rank T) ranks) ↔ IsFreeList P entries list
  list_is list = (
    λ q. subst (IsFreeList P entries) (sym (q ∙ same)) whole,
    λ f. one_list P h entries s list _ f whole ∙ sym same,
  )
    where
      whole : IsFreeList P entries (map (numbering_of P).mono ranks)
      whole = stair_list P h entries s ranks (subst (λ x. IsStairOf x (lead_ranks entries) ranks) t stair)

      same : map (mono_of_rank T) ranks ≡ map (numbering_of P).mono ranks
      same = ap (λ (f : ℕ → List ℕ). map f ranks) (ap mono_of_rank t ∙ fun_ext (λ r. sym (mono_is P r)))

-- one rank more
pub ranks_more : (entries : List Entry) (k r : ℕ) (rs qs : List ℕ) → k < length entries → lead_rank (entry_at entries k).terms ≡ r → rs ≡ take k (lead_ranks entries) → qs ≡ rs ++ r ∷ [] → qs ≡ take (k + 1) (lead_ranks entries)
ranks_more entries k r rs qs l e h g =
    g ∙ ap (λ (xs : List ℕ). xs ++ r ∷ []) h
    ∙ sym (take_more (lead_ranks entries) k r (omega (arith, l, length-map entries (λ (x : Entry). lead_rank x.terms)))
    ∙ ap (λ (x : ℕ). take k (lead_ranks entries) ++ x ∷ []) (get_or-map (λ (x : Entry). lead_rank x.terms) entries k no_entry r l ∙ e))

-- the ranks of leads are those of the table
pub leads_small : (P : Problem) (T : Shape) → HasTable P T → (entries : List Entry) → AreEntries P entries → All (λ l. l < count T) (lead_ranks entries)
leads_small P T t entries s k d l =
    let m : k < length entries = omega (arith, l, length-map entries (λ (x : Entry). lead_rank x.terms)) in
    subst (λ x. x < count T) (sym (get_or-map (λ (x : Entry). lead_rank x.terms) entries k no_entry d m)) (omega (arith, lead_within P entries s k m, all_ranks P T t))
