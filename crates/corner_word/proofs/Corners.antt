-- The least rank with only marks from it on is the corner of each list of leads that the marks are the cover of.
-- An added lead marks its multiples, and so the cover is one of the longer list.
use Rattle.std.proofs.Common.{◌≡◌, ℕ, zero, suc, ◌<◌, ◌≤◌, ◌↔◌, ◌⊎◌, List, [], ◌∷◌, ◌++◌, length, replicate, take, drop, Bool, true, false, IsTrue, refl, ap, sym, ◌∙◌, subst, inl, inr, arith}
use Rattle.std.specs.List.{Contains}
use Rattle.std.proofs.lemmas.Bool.{cases_lt}
use Rattle.std.proofs.lemmas.List.{length-replicate, get_or-replicate}
use Rattle.std.proofs.lemmas.List.Elements.{Contains-append_left, Contains-push, Contains-push_cases}
use Rattle.std.proofs.Math.Seq.{take-append_seam}
use Rattle.local_order.specs.Mono.{Divides}
use Rattle.local_order.specs.Shape.{Shape, count}
use Rattle.mono_rank.specs.Rank.{HasRank}
use Rattle.mono_rank.specs.Cover.{IsMultipleOfRanks, Covers, IsCorner}
use Rattle.mono_rank.proofs.Walk.{walk}
use Rattle.mono_rank.proofs.Ranks.{rank_small, rank_reached}
use Rattle.corner_word.specs.Marks.{Covered, mark_at, marked_from, IsCoverOf, IsMarkedFrom, IsLeastMarked, IsCoverKept}
use Rattle.corner_word.proofs.Ranks.{marked_is}

-- ---- marks and multiples
-- the marks are those of the multiples of these leads
pub record AreMarksOf (T : Shape) (leads : List ℕ) (marks : List Bool) : Type 0 where
  pub each : (m : List ℕ) (r : ℕ) → HasRank T m r → IsTrue (mark_at marks r) ↔ IsMultipleOfRanks T leads m

-- then the cover that is shown is that of these leads
pub cover_from : (T : Shape) (leads : List ℕ) (marks : List Bool) → AreMarksOf T leads marks → IsCoverOf leads (record { shape = T; multiples = marked_from 0 marks })
cover_from T leads marks A = record { each = λ m r h. let w = marked_is marks r in (λ c. (A.each m r h).0 (w.0 c), λ M. w.1 ((A.each m r h).1 M)) }

-- and the other way round
pub cover_to : (T : Shape) (leads : List ℕ) (marks : List Bool) (c : Covered) → record { shape = T; multiples = marked_from 0 marks } ≡ c → IsCoverOf leads c → AreMarksOf T leads marks
cover_to T leads marks c e C =
    let D : IsCoverOf leads (record { shape = T; multiples = marked_from 0 marks }) = subst (IsCoverOf leads) (sym e) C in
    record { each = λ m r h. let w = marked_is marks r in (λ t. (D.each m r h).0 (w.1 t), λ M. w.0 ((D.each m r h).1 M)) }

-- ---- the corner
-- the first rank that has only marks from it on is the corner
pub corner_is : (T : Shape) (marks : List Bool) (w : ℕ) (c : Covered) (leads : List ℕ) → record { shape = T; multiples = marked_from 0 marks } ≡ c → IsCoverKept T marks w →
    IsCoverOf leads c → IsCorner c.shape leads w
corner_is T marks w c leads e K C = subst (λ (x : Covered). IsCorner x.shape leads w) e (record {
  covers = λ m r l h. (D.each m r h).0 (K.corner.marked.from r l (omega (arith, K.all, rank_small T m r h)));
  low = omega (arith, K.all, K.corner.marked.low);
  least = λ v V. go v V (cases_lt v w);
})
  where
    D : AreMarksOf T leads marks
    D = cover_to T leads marks c e C

    none_below : (v k : ℕ) → Covers T leads v → v ≤ k → suc k ≡ w → ⊥
    none_below v k V l f =
        let small : k < count T = omega (arith, K.all, K.corner.marked.low) in
        let h : HasRank T (walk T.variables k) k = rank_reached T k K.some small in
        let set : IsTrue (mark_at marks k) = (D.each (walk T.variables k) k h).1 (V (walk T.variables k) k l h) in
        let clear : mark_at marks k ≡ false = K.corner.before k f in
        let no : false ≡ true = sym clear ∙ set in
        absurd (cc (no))

    last : (v w' : ℕ) → w' ≡ w → Covers T leads v → v < w' → ⊥
    last v zero f V l = omega arith
    last v (suc k) f V l = none_below v k V (omega arith) f

    go : (v : ℕ) → Covers T leads v → (v < w) ⊎ (w ≤ v) → w ≤ v
    go v V (inl l) = absurd (last v w refl V l)
    go v V (inr l) = l

-- ---- no leads
-- with no marks the corner is behind the last rank
pub kept_first : (T : Shape) (w : ℕ) (marks : List Bool) → 1 ≤ T.variables → w ≡ count T → marks ≡ replicate w false → IsCoverKept T marks w
kept_first T w marks some e f =
    let long : length marks ≡ w = ap length f ∙ length-replicate w false in
    record {
      some = some;
      all = long ∙ e;
      corner = record {
        marked = record { low = omega arith; from = λ r l h. absurd (omega arith) };
        before = λ k h. ap (λ s. mark_at s k) f ∙ get_or-replicate w k false false (omega arith);
      };
    }

-- no marks are those of no leads
pub cover_first : (T : Shape) (w : ℕ) (marks : List Bool) → w ≡ count T → marks ≡ replicate w false → AreMarksOf T [] marks
cover_first T w marks e f = record { each = λ m r h. (λ t. absurd (no m r h t), λ M. absurd (none M.2)) }
  where
    no : (m : List ℕ) (r : ℕ) → HasRank T m r → IsTrue (mark_at marks r) → ⊥
    no m r h t =
        let clear : mark_at marks r ≡ false = ap (λ s. mark_at s r) f ∙ get_or-replicate w r false false (omega (arith, e, rank_small T m r h)) in
        let wrong : false ≡ true = sym clear ∙ t in
        absurd (cc (wrong))

    none : {l : ℕ} → Contains [] l → ⊥
    none h = omega (arith, h.1)

-- ---- one more lead
-- the marks t are those of s and of the multiples of the lead
abbrev pub MarksMultiples : Shape → List Bool → List Bool → ℕ → Type 0
MarksMultiples T s t lead = (k m : List ℕ) (r : ℕ) → HasRank T k lead → HasRank T m r → IsTrue (mark_at t r) ↔ (IsTrue (mark_at s r) ⊎ Divides k m)

-- what was marked over a table of the same monomials
pub marked_over : (T N : Shape) (s u t : List Bool) (lead : ℕ) (c : Covered) → record { shape = T; multiples = marked_from 0 s } ≡ c → N ≡ c.shape → u ≡ s →
    MarksMultiples N u t lead → MarksMultiples T s t lead
marked_over T N s u t lead c e f h M =
    let same : N ≡ T = f ∙ sym (ap (λ (x : Covered). x.shape) e) in
    subst (λ v. MarksMultiples T v t lead) h (subst (λ x. MarksMultiples x u t lead) same M)

-- the lead is one of the monomials
pub lead_low : (T : Shape) (s : List Bool) (lead : ℕ) (c : Covered) → record { shape = T; multiples = marked_from 0 s } ≡ c → lead < count c.shape → lead < count T
lead_low T s lead c e l = subst (λ (x : Covered). lead < count x.shape) (sym e) l

-- marks that are written over as many
pub written_over : (l : ℕ) (t s : List Bool) → length t ≡ l → take l (t ++ drop (length t) s) ≡ t
written_over l t s e = subst (λ k. take k (t ++ drop (length t) s) ≡ t) e (take-append_seam t (drop (length t) s))

-- the ranks that were marked stay so
pub marked_still : (T : Shape) (s t : List Bool) (lead w : ℕ) → IsCoverKept T s w → lead < count T → length t ≡ length s →
    MarksMultiples T s t lead → IsMarkedFrom t w
marked_still T s t lead w K l e more = record {
  low = omega (arith, K.corner.marked.low);
  from = λ r f g.
      (more (walk T.variables lead) (walk T.variables r) r (rank_reached T lead K.some l) (rank_reached T r K.some (omega (arith, K.all)))).1
      (inl (K.corner.marked.from r f (omega arith)));
}

-- the first rank that is found among the new marks is kept beside them
pub kept_more : (T : Shape) (s t v : List Bool) (w u : ℕ) → IsCoverKept T s w → length t ≡ length s → v ≡ t → IsLeastMarked v u → IsCoverKept T v u
kept_more T s t v w u K e f F = record { some = K.some; all = ap length f ∙ e ∙ K.all; corner = F }

-- the marks of the multiples of one more lead make those of one more
pub cover_more : (T : Shape) (s t : List Bool) (lead : ℕ) (leads : List ℕ) → 1 ≤ T.variables → lead < count T →
    MarksMultiples T s t lead → AreMarksOf T leads s → AreMarksOf T (leads ++ lead ∷ []) t
cover_more T s t lead leads some l more C = record { each = λ m r h. (λ u. there m r h ((more (walk T.variables lead) m r has h).0 u), λ M. back m r h M) }
  where
    has : HasRank T (walk T.variables lead) lead
    has = rank_reached T lead some l

    there : (m : List ℕ) (r : ℕ) → HasRank T m r → IsTrue (mark_at s r) ⊎ Divides (walk T.variables lead) m → IsMultipleOfRanks T (leads ++ lead ∷ []) m
    there m r h (inl u) = let M : IsMultipleOfRanks T leads m = (C.each m r h).0 u in (M.0, M.1, Contains-append_left leads (lead ∷ []) M.0 M.2, M.3, M.4)
    there m r h (inr D) = (lead, walk T.variables lead, Contains-push leads lead, has, D)

    back : (m : List ℕ) (r : ℕ) → HasRank T m r → IsMultipleOfRanks T (leads ++ lead ∷ []) m → IsTrue (mark_at t r)
    back m r h M = go (Contains-push_cases leads lead M.0 M.2)
      where
        go : Contains leads M.0 ⊎ (lead ≡ M.0) → IsTrue (mark_at t r)
        go (inl i) = (more (walk T.variables lead) m r has h).1 (inl ((C.each m r h).1 (M.0, M.1, i, M.3, M.4)))
        go (inr e) = (more M.1 m r (subst (HasRank T M.1) (sym e) M.3) h).1 (inr M.4)
