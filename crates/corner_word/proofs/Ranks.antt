-- The ranks that are marked are those that a cover shows.
-- A rank is in the list exactly where its mark is set, by induction along the marks.
use Rattle.std.proofs.Common.{◌≡◌, ℕ, suc, ◌-◌, ◌<◌, ◌≤◌, ◌↔◌, ◌⊎◌, List, [], ◌∷◌, Bool, true, false, IsTrue, ap, sym, ◌∙◌, subst, inl, inr, arith}
use Rattle.std.specs.List.{Contains}
use Rattle.std.proofs.lemmas.Bool.{cases_lt}
use Rattle.mono_rank.proofs.Members.{first_or_rest, in_rest}
use Rattle.corner_word.specs.Marks.{mark_at, marked_from}

-- the mark of a later rank is that among the other marks
later : (b : Bool) (marks : List Bool) (k r : ℕ) → suc k ≤ r → mark_at (b ∷ marks) (r - k) ≡ mark_at marks (r - suc k)
later b marks k r l = ap (mark_at (b ∷ marks)) (let e : r - k ≡ suc (r - suc k) = omega (arith, l) in e)

-- a rank is in the list exactly where its mark is set
pub in_marked : (k : ℕ) (marks : List Bool) (r : ℕ) → Contains (marked_from k marks) r ↔ ((k ≤ r) × IsTrue (mark_at marks (r - k)))
in_marked k [] r = (λ c. absurd (omega (arith, c.1)), λ t. absurd (cc (t.1)))
in_marked k (true ∷ marks) r = (λ c. to (in_marked (suc k) marks r) (first_or_rest k r (marked_from (suc k) marks) c), λ t. from (in_marked (suc k) marks r) t (cases_lt k r))
  where
    Rest : Type 0
    Rest = Contains (marked_from (suc k) marks) r ↔ ((suc k ≤ r) × IsTrue (mark_at marks (r - suc k)))

    to : Rest → (k ≡ r) ⊎ Contains (marked_from (suc k) marks) r → (k ≤ r) × IsTrue (mark_at (true ∷ marks) (r - k))
    to rest (inl e) = (omega arith, ap (mark_at (true ∷ marks)) (let z : r - k ≡ 0 = omega (arith, e) in z))
    to rest (inr c) = let t = rest.0 c in (omega (arith, t.0), subst IsTrue (sym (later true marks k r t.0)) t.1)

    from : Rest → (k ≤ r) × IsTrue (mark_at (true ∷ marks) (r - k)) → (k < r) ⊎ (r ≤ k) → Contains (k ∷ marked_from (suc k) marks) r
    from rest t (inl l) = in_rest k r (marked_from (suc k) marks) (rest.1 (l, subst IsTrue (later true marks k r l) t.1))
    from rest t (inr l) = (0, omega arith, let e : k ≡ r = omega (arith, t.0, l) in e)
in_marked k (false ∷ marks) r = (
  λ c. let t = (in_marked (suc k) marks r).0 c in (omega (arith, t.0), subst IsTrue (sym (later false marks k r t.0)) t.1),
  λ t. from (in_marked (suc k) marks r) t (cases_lt k r),
)
  where
    from : Contains (marked_from (suc k) marks) r ↔ ((suc k ≤ r) × IsTrue (mark_at marks (r - suc k))) → (k ≤ r) × IsTrue (mark_at (false ∷ marks) (r - k)) → (k < r) ⊎ (r ≤ k)
        → Contains (marked_from (suc k) marks) r
    from rest t (inl l) = rest.1 (l, subst IsTrue (later false marks k r l) t.1)
    from rest t (inr l) =
        let none : mark_at (false ∷ marks) (r - k) ≡ false = ap (mark_at (false ∷ marks)) (let z : r - k ≡ 0 = omega (arith, t.0, l) in z) in
        let wrong : false ≡ true = sym none ∙ t.1 in
        absurd (cc (wrong))

-- so it is a multiple of the cover's leads exactly where it is marked
pub marked_is : (marks : List Bool) (r : ℕ) → Contains (marked_from 0 marks) r ↔ IsTrue (mark_at marks r)
marked_is marks r = (
  λ c. subst (λ k. IsTrue (mark_at marks k)) (let e : r - 0 ≡ r = omega arith in e) ((in_marked 0 marks r).0 c).1,
  λ t. (in_marked 0 marks r).1 (omega arith, subst (λ k. IsTrue (mark_at marks k)) (let e : r ≡ r - 0 = omega arith in e) t),
)
