-- From what a run begins with to what it ends with, and back, in any space that is closed under monomials.
-- The two differ by a unit, by a combination of entries, and by what comes from the corner on, which is in the space.
use Rattle.std.proofs.Common.{ℕ, ◌*◌, ◌-◌, ◌<◌, ◌≤◌, max, List, [], ◌∷◌, arith, ◌⊎◌, inl, inr}
use Rattle.std.proofs.lemmas.Bool.{cases_lt}
use Rattle.rank_algebra.specs.Ranks.{Ranks, IsRanks}
use Rattle.rank_algebra.specs.Vector.{Same, Vector, nothing, add, shift, Agree, less}
use Rattle.rank_algebra.specs.Combination.{Part, value, Each, IsSpace, IsProper}
use Rattle.rank_algebra.specs.Division.{Basis, IsMonic, IsCover, IsFrom}
use Rattle.rank_algebra.proofs.Residues.{same_refl, same_of, same_sym, same_trans, same_add, same_times, same_less}
use Rattle.rank_algebra.proofs.Linear.{agree_refl, agree_of, agree_trans, agree_add, value_in}
use Rattle.rank_algebra.proofs.Echelon.{echelon, less_in, in_from_less}
use Rattle.rank_algebra.proofs.First.{shift_lowest}
use Rattle.rank_algebra.proofs.Division.{multiple_lowest, multiple_one}
use Rattle.rank_algebra.proofs.Units.{unit_away}
use Rattle.mora_law.proofs.Ties.{Tied}

-- less an equal
less_equal : (R : Ranks) → IsRanks R → (w : ℕ) (v u : Vector) → Agree R w v u → Agree R w (less R 1 u v) nothing
less_equal R L w v u h = record { at = λ r l. same_trans (same_add (h.at r l) (same_refl R.p _)) (same_trans (same_of _ _ _ (omega arith)) (same_less R.p (u r) L.prime_pos)) }

-- the difference of two vectors without terms below a rank has none
less_nothing : (R : Ranks) (w : ℕ) (v u : Vector) → Agree R w v nothing → Agree R w u nothing → Agree R w (less R 1 u v) nothing
less_nothing R w v u h k = record { at = λ r l. same_trans (same_add (h.at r l) (same_times ((R.p - 1) * 1) (k.at r l))) (same_of _ _ _ (omega arith)) }

-- no term below two ranks is none below the greater
agree_max : (R : Ranks) (a b : ℕ) (v : Vector) → Agree R a v nothing → Agree R b v nothing → Agree R (max a b) v nothing
agree_max R a b v h k = record { at = λ r l. go r l (cases_lt r a) }
  where
    go : (r : ℕ) → r < max a b → (r < a) ⊎ (a ≤ r) → Same R.p (v r) 0
    go r l (inl m) = h.at r m
    go r l (inr m) = k.at r (omega arith)

module _ (R : Ranks) (L : IsRanks R) where
  -- a combination of polynomials that begin at l
  value_lowest : (entries : ℕ → Vector) (l : ℕ) → l ≤ R.n → (P : Part → Type 0) → ((t : Part) → P t → Agree R l (shift R t.mono (entries t.place)) nothing) → (ts : List Part) → Each P ts → Agree R l (value R entries ts) nothing
  value_lowest entries l m P up [] h = agree_refl R l nothing
  value_lowest entries l m P up (t ∷ ts) h = record { at = λ r o. same_trans (same_add (same_times t.coef ((up t h.0).at r o)) ((value_lowest entries l m P up ts h.1).at r o)) (same_of _ _ _ (omega arith)) }

  -- a multiple of a vector from l on is from l on
  shift_from : (a l : ℕ) (v : Vector) → l ≤ R.n → Agree R l v nothing → Agree R l (shift R a v) nothing
  shift_from a l v m h = record { at = λ r o. shift_lowest R L a l v h r (omega arith) (go r o (cases_lt (R.times a l) R.n)) }
    where
      go : (r : ℕ) → r < l → (R.times a l < R.n) ⊎ (R.n ≤ R.times a l) → r < R.times a l
      go r o (inl n) = omega (arith, o, L.le a l n)
      go r o (inr n) = omega (arith, o, n, m)

  module _ (B : Basis) (M : IsMonic R B) (S : Vector → Type 0) (I : IsSpace R S) (closed : (a : ℕ) (v : Vector) → S v → S (shift R a v)) where
    -- if S has what a run begins with and the entries it knew, it has what the run ends with
    pub tied_out : (known w : ℕ) (f h : Vector) → IsCover R (record { size = known; member = B.member; lead = B.lead }) w → known ≤ B.size → ((k : ℕ) → k < known → S (B.member k))
        → (l : ℕ) → Tied R B known l f w h → S f → S h
    tied_out known w f h C kn mem l t sf = in_from_less R L S I 1 d h sd
        (echelon R L S I w (λ r m n. let c = C.covers r m n in record {
          poly = shift R c.cofactor (B.member c.place);
          member = closed c.cofactor _ (mem c.place c.known);
          lowest = multiple_lowest R L B M r c.place c.cofactor (omega (arith, c.known, kn)) n c.is;
          one = multiple_one R L B M r c.place c.cofactor (omega (arith, c.known, kn)) n c.is;
        })
        (less R 1 d h) (less_equal R L w h d hd))
      where
        uf : Vector
        uf = add f (value R (λ k. f) t.units)

        suf : S uf
        suf = I.plus _ _ sf (value_in R L (λ k. f) S I IsProper (λ x y. closed x.mono f sf) t.units t.proper)

        sparts : S (value R B.member t.parts)
        sparts = value_in R L B.member S I (IsFrom R B known l) (λ x y. closed x.mono _ (mem x.place y.earlier)) t.parts t.allowed

        d : Vector
        d = less R 1 (value R B.member t.parts) uf

        sd : S d
        sd = less_in R S I 1 _ _ sparts suf

        hd : Agree R w h d
        hd = record { at = λ r o. same_sym (same_trans (same_add (t.is.at r o) (same_refl R.p _)) (same_trans (same_of _ _ _ (omega arith)) (same_trans (same_add (same_refl R.p (h r)) (same_less R.p (value R B.member t.parts r) L.prime_pos)) (same_of _ _ _ (omega arith))))) }

  module _ (B : Basis) (M : IsMonic R B) (l : ℕ) (ln : l ≤ R.n) (S : Vector → Type 0) (I : IsSpace R S) (closed : (a : ℕ) (v : Vector) → S v → S (shift R a v)) (mem : (t : Part) → IsFrom R B B.size l t → S (shift R t.mono (B.member t.place))) where
    -- if S has what a run ends with and the multiples of entries from l on, it has what the run begins with
    pub tied_in : (known w : ℕ) (f h : Vector) → IsCover R B w → known ≤ B.size → Agree R l f nothing → Agree R l h nothing → Tied R B known l f w h → S h → S f
    tied_in known w f h C kn fl hl t sh = unit_away R L S I closed f t.units t.proper suf
      where
        uf : Vector
        uf = add f (value R (λ k. f) t.units)

        earlier : (x : Part) → IsFrom R B known l x → IsFrom R B B.size l x
        earlier x y = record { earlier = omega (arith, y.earlier, kn); from = y.from }

        d : Vector
        d = add h (value R B.member t.parts)

        sd : S d
        sd = I.plus _ _ sh (value_in R L B.member S I (IsFrom R B known l) (λ x y. mem x (earlier x y)) t.parts t.allowed)

        part_low : (x : Part) → IsFrom R B known l x → Agree R l (shift R x.mono (B.member x.place)) nothing
        part_low x y = record { at = λ r o. shift_lowest R L x.mono (B.lead x.place) (B.member x.place) (M.lowest x.place (earlier x y).earlier) r (omega arith) (omega (arith, y.from, o)) }

        ufl : Agree R l uf nothing
        ufl = agree_trans (agree_add fl (value_lowest (λ k. f) l ln IsProper (λ x y. shift_from x.mono l f ln fl) t.units t.proper)) (agree_of R l _ _ (λ r o. omega arith))

        dl : Agree R l d nothing
        dl = agree_trans (agree_add hl (value_lowest B.member l ln (IsFrom R B known l) part_low t.parts t.allowed)) (agree_of R l _ _ (λ r o. omega arith))

        suf : S uf
        suf = in_from_less R L S I 1 d uf sd
            (echelon R L S I (max w l) (λ r m n. let c = C.covers r (omega arith) n in record {
              poly = shift R c.cofactor (B.member c.place);
              member = mem (record { coef = 1; mono = c.cofactor; place = c.place }) (record { earlier = c.known; from = omega (arith, c.is) });
              lowest = multiple_lowest R L B M r c.place c.cofactor c.known n c.is;
              one = multiple_one R L B M r c.place c.cofactor c.known n c.is;
            })
            (less R 1 d uf) (agree_max R w l _ (less_equal R L w uf d t.is) (less_nothing R l uf d ufl dl)))
