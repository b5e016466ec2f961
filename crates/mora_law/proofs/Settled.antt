-- The start of a settled item is in each space that is closed under monomials and has the later multiples of the entries.
-- By its entry, by its run to Zero, or since plain division takes it away.
use Rattle.std.proofs.Common.{ℕ, suc, ◌+◌, ◌*◌, ◌-◌, ◌<◌, ◌≤◌, ◌≡◌, List, length, sym, ◌∙◌, subst, arith, ◌⊎◌, inl, inr}
use Rattle.std.proofs.lemmas.Bool.{cases_lt}
use Rattle.rank_algebra.specs.Ranks.{Ranks, IsRanks}
use Rattle.entry_code.specs.declared.reading.Reading.{Reading}
use Rattle.entry_code.specs.declared.item.Item.{Item}
use Rattle.entry_code.specs.Entry.{Entry, entry_at}
use Rattle.rank_algebra.specs.Vector.{Same, Vector, nothing, shift, Agree}
use Rattle.rank_algebra.specs.Combination.{Part, IsSpace}
use Rattle.rank_algebra.specs.Division.{Basis, IsMonic, IsCover, corner_of, first_of, pair, lcm_of, IsFrom}
use Rattle.rank_algebra.specs.Ideal.{IsLead, Generators}
use Rattle.mora_law.specs.Run.{run_from, AreOrderly, last_known, last_corner}
use Rattle.mora_law.specs.Entries.{basis_of}
use Rattle.mora_law.specs.Start.{start_of}
use Rattle.mora_law.specs.Legal.{AreLegal}
use Rattle.mora_law.specs.Settled.{HasEntry, GoesToZero, LeavesNothing}
use Rattle.rank_algebra.proofs.Residues.{same_of, same_trans, same_add, same_times, same_less}
use Rattle.rank_algebra.proofs.Linear.{agree_of, shift_unit}
use Rattle.rank_algebra.proofs.Division.{gone_span, multiple_lowest, multiple_one}
use Rattle.rank_algebra.proofs.Corner.{corner_is, corner_later}
use Rattle.mora_law.proofs.Ties.{Tied}
use Rattle.mora_law.proofs.Choice.{lead_some}
use Rattle.mora_law.proofs.TiedRuns.{run_is_tied, run_zero}
use Rattle.mora_law.proofs.Across.{tied_in}
use Rattle.mora_law.proofs.Legal.{begun, ended, entry_lead, entry_monic, entry_lead_rank, legal_monic, last_is_corner}
use Rattle.mora_law.proofs.Orderly.{orderly_more, last_known_le, last_corner_le, last_corner_ge}

-- a cover by the first entries is one by all
pub corner_more : (R : Ranks) (B : Basis) (i w : ℕ) → i ≤ B.size → IsCover R (first_of i B) w → IsCover R B w
corner_more R B i w l c = record { within = c.within; covers = λ r m n. let x = c.covers r m n in record { place = x.place; cofactor = x.cofactor; known = omega (arith, x.known, l); is = x.is } }

module _ (R : Ranks) (L : IsRanks R) (G : Generators) (entries : List Entry) (legal : AreLegal R G entries) where
  -- the entries as vectors, with their leads
  abbrev B : Basis
  B = basis_of entries

  -- they are monic
  M : IsMonic R B
  M = legal_monic R L G entries legal

  -- their corner covers
  C : IsCover R B (corner_of R B)
  C = corner_is R L B

  module _ (m : ℕ) (mn : m ≤ R.n) (S : Vector → Type 0) (I : IsSpace R S) (closed : (a : ℕ) (v : Vector) → S v → S (shift R a v)) (mem : (t : Part) → IsFrom R B B.size m t → S (shift R t.mono (B.member t.place))) where
    -- where a run ends with Zero
    by_zero : (item : Item) → Agree R m (start_of R G B item) nothing → GoesToZero R G entries item → S (start_of R G B item)
    by_zero item low z = tied_in R L B M m mn S I closed mem (last_known 0 z.reads) (last_corner R.n z.reads) _ _
        (corner_later R B (corner_of R B) _ C (last_corner_ge R B _ R.n z.reads C.within z.corners) (last_corner_le B.size z.reads 0 R.n z.orderly))
        (last_known_le B.size z.reads 0 R.n z.orderly) low law.1 law.0 (I.alike _ nothing (run_zero R B.member _ z.reads z.last_end) I.empty)
      where
        law : Tied R B (last_known 0 z.reads) m (start_of R G B item) (last_corner R.n z.reads) (run_from R B.member (start_of R G B item) z.reads).poly × Agree R m (run_from R B.member (start_of R G B item) z.reads).poly nothing
        law = run_is_tied R L B M (start_of R G B item) m mn low z.reads z.orderly

    -- where an entry has the item
    by_entry : (k : ℕ) → k < length entries → Agree R m (begun R L G entries legal k) nothing → S (begun R L G entries legal k)
    by_entry k l low = tied_in R L B M m mn S I closed mem (last_known 0 reads) (last_corner R.n reads) _ (ended R L G entries legal k)
        (corner_more R B k _ (omega arith) (last_is_corner R L G entries legal k l))
        (last_known_le B.size reads 0 R.n orderly) low law.1 law.0 (I.alike _ _ (entry_monic R L G entries legal k l).back (I.multiple _ (B.member k) own))
      where
        reads : List Reading
        reads = (entry_at entries k).reads

        orderly : AreOrderly B.size 0 R.n reads
        orderly = orderly_more k B.size (omega arith) reads 0 R.n (legal k l).orderly

        law : Tied R B (last_known 0 reads) m (begun R L G entries legal k) (last_corner R.n reads) (ended R L G entries legal k) × Agree R m (ended R L G entries legal k) nothing
        law = run_is_tied R L B M (begun R L G entries legal k) m mn low reads orderly

        past : (r : ℕ) → IsLead R (ended R L G entries legal k) r → m ≤ r
        past r i = go (cases_lt r m)
          where
            go : (r < m) ⊎ (m ≤ r) → m ≤ r
            go (inl n) = absurd (i.some (law.1.at r n))
            go (inr n) = n

        own : S (B.member k)
        own = I.alike _ _ (agree_of R R.n _ _ (λ r o. sym (shift_unit R L (B.member k) r o)))
            (mem (record { coef = 1; mono = 0; place = k }) (record { earlier = l; from = omega (arith, L.unit (B.lead k) (M.small k l), entry_lead_rank R L G entries legal k l, past _ (lead_some R (ended R L G entries legal k) _ (entry_lead R L G entries legal k l).is)) }))

    -- where plain division leaves nothing
    by_remainder : (item : Item) → Agree R m (start_of R G B item) nothing → LeavesNothing R G entries item → S (start_of R G B item)
    by_remainder item low d = gone_span R L B M (corner_of R B) C S I m mn mem (corner_of R B) 0 (omega arith) _ low (record { gone = d })

    -- so the start of a settled item is in the space
    pub settled_in : (item : Item) → Agree R m (start_of R G B item) nothing → (HasEntry entries item ⊎ GoesToZero R G entries item) ⊎ LeavesNothing R G entries item → S (start_of R G B item)
    settled_in item low (inl (inl h)) = subst (λ x. S (start_of R G B x)) h.is (by_entry h.place h.within (subst (λ x. Agree R m (start_of R G B x) nothing) (sym h.is) low))
    settled_in item low (inl (inr z)) = by_zero item low z
    settled_in item low (inr d) = by_remainder item low d

  -- the start of a pair begins past the least common multiple
  pub pair_low : (i j : ℕ) → i < B.size → j < B.size → lcm_of R B i j < R.n → Agree R (suc (lcm_of R B i j)) (pair R B i j) nothing
  pair_low i j l m n = record { at = λ x o. go x o (cases_lt x (lcm_of R B i j)) }
    where
      q : ℕ
      q = R.cofactor (B.lead i) (B.lead j)

      q' : ℕ
      q' = R.cofactor (B.lead j) (B.lead i)

      e : R.times q (B.lead i) ≡ lcm_of R B i j
      e = L.comm q (B.lead i)

      e' : R.times q' (B.lead j) ≡ lcm_of R B i j
      e' = L.comm q' (B.lead j) ∙ sym (L.lcm (B.lead i) (B.lead j))

      go : (x : ℕ) → x < suc (lcm_of R B i j) → (x < lcm_of R B i j) ⊎ (lcm_of R B i j ≤ x) → Same R.p (shift R q (B.member i) x + (R.p - 1) * 1 * shift R q' (B.member j) x) 0
      go x o (inl k) = same_trans (same_add ((multiple_lowest R L B M (lcm_of R B i j) i q l n e).at x k) (same_times ((R.p - 1) * 1) ((multiple_lowest R L B M (lcm_of R B i j) j q' m n e').at x k))) (same_of _ _ _ (omega arith))
      go x o (inr k) = let z : lcm_of R B i j ≡ x = omega arith in subst (λ y. Same R.p (shift R q (B.member i) y + (R.p - 1) * 1 * shift R q' (B.member j) y) 0) z
          (same_trans (same_add (multiple_one R L B M (lcm_of R B i j) i q l n e) (same_times ((R.p - 1) * 1) (multiple_one R L B M (lcm_of R B i j) j q' m n e')))
          (same_trans (same_of _ _ _ (omega arith)) (same_less R.p 1 L.prime_pos)))
