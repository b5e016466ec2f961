-- A factor with constant term 1 can be taken away: where u f is in a space that is closed under monomials, f is.
-- From the last monomial back, each multiple of f is in the space. No inverse of a unit is made.
use Rattle.std.proofs.Common.{ℕ, zero, suc, ◌+◌, ◌*◌, ◌-◌, ◌<◌, ◌≤◌, ◌≡◌, List, map, Option, Some, None, refl, sym, ◌∙◌, ap, subst, arith, ◌⊎◌, inl, inr}
use Rattle.std.proofs.lemmas.Bool.{cases_lt}
use Rattle.rank_algebra.specs.Ranks.{Ranks, IsRanks}
use Rattle.rank_algebra.specs.Vector.{Same, Vector, nothing, add, coef_at, shift, Agree}
use Rattle.rank_algebra.specs.Combination.{Part, value, Each, IsSpace, IsProper}
use Rattle.rank_algebra.proofs.Residues.{same_refl, same_of, same_sym, same_trans, same_add, same_less}
use Rattle.rank_algebra.proofs.Linear.{agree_of, shift_add, shift_unit, part_shift, value_shift, each_map, value_in}
use Rattle.rank_algebra.proofs.Echelon.{less_in}

-- less the second of two summands
pub in_from_sum : (R : Ranks) → IsRanks R → (S : Vector → Type 0) → IsSpace R S → (v u : Vector) → S u → S (add v u) → S v
in_from_sum R L S I v u h k = I.alike _ _ (record { at = λ r l. same_sym (same_trans (same_of _ _ (v r + (u r + (R.p - 1) * u r)) (omega arith)) (same_trans (same_add (same_refl R.p (v r)) (same_less R.p (u r) L.prime_pos)) (same_of _ _ _ (omega arith)))) }) (less_in R S I 1 u (add v u) h k)

module _ (R : Ranks) (L : IsRanks R) where
  -- a multiple by what is no rank is 0
  pub shift_beyond : (a : ℕ) (v : Vector) → R.n ≤ a → Agree R R.n (shift R a v) nothing
  shift_beyond a v m = record { at = λ r l. go r l (R.quotient r a) refl }
    where
      go : (r : ℕ) → r < R.n → (o : Option ℕ) → R.quotient r a ≡ o → Same R.p (coef_at v o) 0
      go r l None e = same_refl _ _
      go r l (Some s) e = let z : R.times s a ≡ r = L.comm s a ∙ L.quotient_times r a s e in absurd (omega (arith, z, l, m, L.le s a (subst (λ x. x < R.n) (sym z) l)))

  -- a product with more than 1 has a greater rank
  pub times_more : (a b : ℕ) → a < R.n → 0 < b → a < R.times a b
  times_more a b l h = go (cases_lt (R.times a b) R.n)
    where
      go : (R.times a b < R.n) ⊎ (R.n ≤ R.times a b) → a < R.times a b
      go (inl m) = omega (arith, L.grows a 0 b h m, L.comm a 0, L.unit a)
      go (inr m) = omega (arith, l, m)

  module _ (S : Vector → Type 0) (I : IsSpace R S) (closed : (a : ℕ) (v : Vector) → S v → S (shift R a v)) (f : Vector) (units : List Part) (proper : Each IsProper units) (h : S (add f (value R (λ k. f) units))) where
    -- the monomial of a part comes after a
    record Later (a : ℕ) (t : Part) : Type 0 where
      pub later : a < t.mono

    -- a multiple of f is in the space where all later ones are
    at_shift : (a : ℕ) → a < R.n → ((b : ℕ) → a < b → S (shift R b f)) → S (shift R a f)
    at_shift a l more = in_from_sum R L S I (shift R a f) (value R (λ k. f) (map (part_shift R a) units)) others
        (I.alike _ _ (record { at = λ r m. same_of _ _ _ (sym (shift_add R L a f (value R (λ k. f) units) r ∙ ap (λ z. shift R a f r + z) (sym (value_shift R L (λ k. f) a units r m)))) }) (closed a _ h))
      where
        others : S (value R (λ k. f) (map (part_shift R a) units))
        others = value_in R L (λ k. f) S I (Later a) (λ t k. more t.mono k.later) (map (part_shift R a) units) (each_map IsProper (Later a) (part_shift R a) (λ t k. record { later = times_more a t.mono l k.proper }) units proper)

    -- so all multiples are, from the last one back
    go_shift : (k a : ℕ) → R.n ≤ a + k → (b : ℕ) → a ≤ b → S (shift R b f)
    go_shift zero a e b m = I.alike _ nothing (shift_beyond b f (omega arith)) I.empty
    go_shift (suc k) a e b m = go (cases_lt b R.n) (λ c n. go_shift k (suc a) (omega arith) c n)
      where
        go : (b < R.n) ⊎ (R.n ≤ b) → ((c : ℕ) → suc a ≤ c → S (shift R c f)) → S (shift R b f)
        go (inr n) up = I.alike _ nothing (shift_beyond b f n) I.empty
        go (inl n) up = at_shift b n (λ c o. up c (omega arith))

    -- and so is f
    pub unit_away : S f
    unit_away = I.alike _ _ (agree_of R R.n _ _ (λ r l. sym (shift_unit R L f r l))) (go_shift R.n 0 (omega arith) 0 (omega arith))
