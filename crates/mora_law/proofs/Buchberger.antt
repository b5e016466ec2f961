-- Buchberger's criterion modulo degree d + 1 by rank: where every item is settled, the leads are the multiples of leads of entries.
-- Each S-pair that no earlier lead makes needless is below its lcm, so plain division leaves nothing of the ideal.
use Rattle.std.proofs.Common.{ℕ, suc, ◌<◌, ◌≤◌, ◌≡◌, List, [], ◌∷◌, length, sym, subst, arith, ◌⊎◌, inl, inr}
use Rattle.std.proofs.lemmas.Bool.{cases_lt}
use Rattle.rank_algebra.specs.Ranks.{Ranks, IsRanks}
use Rattle.entry_code.specs.declared.item.Item.{Item}
use Rattle.entry_code.specs.declared.item.Item.TheVariants.{Generator, Pair}
use Rattle.entry_code.specs.Entry.{Entry}
use Rattle.rank_algebra.specs.Vector.{Vector, shift}
use Rattle.rank_algebra.specs.Combination.{Part, Span, IsSpace}
use Rattle.rank_algebra.specs.Division.{Basis, IsMonic, IsMultiple, IsCover, IsBelow, Below, corner_of, pair, lcm_of, IsFrom}
use Rattle.rank_algebra.specs.Ideal.{InSpan, IsLeadOfSpan, Generators}
use Rattle.mora_law.specs.Entries.{basis_of}
use Rattle.mora_law.specs.Legal.{IsItemOf, AreLegal}
use Rattle.mora_law.specs.Settled.{HasEntry, GoesToZero, LeavesNothing}
use Rattle.rank_algebra.proofs.Residues.{same_sym, same_trans}
use Rattle.rank_algebra.proofs.Linear.{agree_of, span_space, span_shift, span_in}
use Rattle.rank_algebra.proofs.Division.{Gone, gone_space, Settles, all_gone, lead_multiple, multiple_lowest, multiple_one}
use Rattle.rank_algebra.proofs.Corner.{corner_is}
use Rattle.mora_law.proofs.Criteria.{IsSettledByRank, AllSettledByRank}
use Rattle.mora_law.proofs.Choice.{lead_some}
use Rattle.mora_law.proofs.Terms.{one_is}
use Rattle.mora_law.proofs.Legal.{legal_monic, entry_lead, entries_in, in_space, in_closed, in_gens}
use Rattle.mora_law.proofs.Settled.{settled_in, pair_low}
use Rattle.mora_law.proofs.Product.{product_in}

module _ (R : Ranks) (L : IsRanks R) (G : Generators) (entries : List Entry) (legal : AreLegal R G entries) (settled : AllSettledByRank R G entries) where
  -- the entries as vectors, with their leads
  abbrev B : Basis
  B = basis_of entries

  -- they are monic
  M : IsMonic R B
  M = legal_monic R L G entries legal

  -- their corner covers
  C : IsCover R B (corner_of R B)
  C = corner_is R L B

  -- each item is settled or leaves nothing
  by_ticket : (item : Item) → IsItemOf G.count (length entries) item → IsSettledByRank R G entries item ⊎ LeavesNothing R G entries item
  by_ticket item f = settled item f

  -- combinations below a rank are a space
  below_space : (l : ℕ) → IsSpace R (Below R B l)
  below_space l = span_space R L B.member (IsBelow R B l) (λ d t k. record { known = k.known; below = k.below })

  -- closed under monomials
  below_closed : (l : ℕ) → l < R.n → (a : ℕ) (v : Vector) → Below R B l v → Below R B l (shift R a v)
  below_closed l m a v h = span_shift R L B.member (IsBelow R B l) (IsBelow R B l) a (λ t k. record { known = k.known; below = subst (λ z. l < z) (sym (L.assoc a t.mono (B.lead t.place))) (go t k (cases_lt (R.times a (R.times t.mono (B.lead t.place))) R.n)) }) v h
    where
      go : (t : Part) → IsBelow R B l t → (R.times a (R.times t.mono (B.lead t.place)) < R.n) ⊎ (R.n ≤ R.times a (R.times t.mono (B.lead t.place))) → l < R.times a (R.times t.mono (B.lead t.place))
      go t k (inl n) = omega (arith, L.le a (R.times t.mono (B.lead t.place)) n, k.below)
      go t k (inr n) = omega (arith, m, n)

  -- that has the later multiples of entries
  below_part : (l : ℕ) (t : Part) → IsFrom R B B.size (suc l) t → Below R B l (shift R t.mono (B.member t.place))
  below_part l t h = record { parts = record { coef = 1; mono = t.mono; place = t.place } ∷ []; allowed = (record { known = h.earlier; below = h.from }, tt); is = agree_of R R.n _ _ (λ r o. omega arith) }

  -- so each S-pair that is needed lies below its least common multiple
  settles : Settles R B
  settles = record { pairs = pairs }
    where
      pairs : (i j : ℕ) → i < j → j < B.size → lcm_of R B i j < R.n → ((k q : ℕ) → k < i → R.times q (B.lead k) ≡ lcm_of R B i j → ⊥) → Below R B (lcm_of R B i j) (pair R B i j)
      pairs i j l m n unneeded = go (by_ticket (Pair i j) (l, m))
        where
          lcm : ℕ
          lcm = lcm_of R B i j

          others : (HasEntry entries (Pair i j) ⊎ GoesToZero R G entries (Pair i j)) ⊎ LeavesNothing R G entries (Pair i j) → Below R B lcm (pair R B i j)
          others h = settled_in R L G entries legal (suc lcm) n (Below R B lcm) (below_space lcm) (below_closed lcm n) (below_part lcm) (Pair i j) (pair_low R L G entries legal i j (omega arith) m n) h

          go : IsSettledByRank R G entries (Pair i j) ⊎ LeavesNothing R G entries (Pair i j) → Below R B lcm (pair R B i j)
          go (inl (inl (inl (inl p)))) = product_in R L B M i j (omega arith) m p n (Below R B lcm) (below_space lcm) (below_part lcm)
          go (inl (inl (inl (inr c)))) = absurd (unneeded c.place c.cofactor c.below c.divides)
          go (inl (inl (inr h))) = others (inl (inl h))
          go (inl (inr h)) = others (inl (inr h))
          go (inr h) = others (inr h)

  -- a combination of entries
  abbrev Combined : Vector → Type 0
  Combined v = Span R B.member (λ t. t.place < B.size) v

  -- combinations of entries are a space
  combined_space : IsSpace R Combined
  combined_space = span_space R L B.member (λ t. t.place < B.size) (λ d t h. h)

  -- closed under monomials
  combined_closed : (a : ℕ) (v : Vector) → Combined v → Combined (shift R a v)
  combined_closed a v h = span_shift R L B.member (λ t. t.place < B.size) (λ t. t.place < B.size) a (λ t k. k) v h

  -- that has the multiples of entries
  combined_part : (t : Part) → IsFrom R B B.size 0 t → Combined (shift R t.mono (B.member t.place))
  combined_part t h = record { parts = record { coef = 1; mono = t.mono; place = t.place } ∷ []; allowed = (h.earlier, tt); is = agree_of R R.n _ _ (λ r o. omega arith) }

  -- the generators are combinations of entries
  gens_combined : (g : ℕ) → g < G.count → Combined (G.member g)
  gens_combined g l = go (by_ticket (Generator g) l)
    where
      others : (HasEntry entries (Generator g) ⊎ GoesToZero R G entries (Generator g)) ⊎ LeavesNothing R G entries (Generator g) → Combined (G.member g)
      others h = settled_in R L G entries legal 0 (omega arith) Combined combined_space combined_closed combined_part (Generator g) (record { at = λ r o. absurd (omega (arith, o)) }) h

      go : IsSettledByRank R G entries (Generator g) ⊎ LeavesNothing R G entries (Generator g) → Combined (G.member g)
      go (inl (inl (inl s))) = absurd s
      go (inl (inl (inr h))) = others (inl (inl h))
      go (inl (inr h)) = others (inl (inr h))
      go (inr h) = others (inr h)

  -- a member of the ideal leaves nothing
  pub in_gone : (v : Vector) → InSpan R G v → Gone R B (corner_of R B) 0 v
  in_gone v h = span_in R L B.member (Gone R B (corner_of R B) 0) gs (λ t. t.place < B.size) (λ t k. all_gone R L B M (corner_of R B) C settles t.place t.mono k) v
      (span_in R L G.member Combined combined_space (λ t. t.place < G.count) (λ t k. combined_closed t.mono _ (gens_combined t.place k)) v h)
    where
      gs : IsSpace R (Gone R B (corner_of R B) 0)
      gs = gone_space R B (corner_of R B) 0 (omega (arith, C.within))

  -- Buchberger's criterion
  pub only_multiples : (r : ℕ) → IsLeadOfSpan R G r → IsMultiple R B r
  only_multiples r h = let i = h.is in lead_multiple R L B M (corner_of R B) C h.poly (in_gone h.poly h.inside) r i.small i.low i.some

module _ (R : Ranks) (L : IsRanks R) (G : Generators) (entries : List Entry) (legal : AreLegal R G entries) where
  -- each multiple of a lead is a lead
  pub all_multiples : (r : ℕ) → r < R.n → IsMultiple R (basis_of entries) r → IsLeadOfSpan R G r
  all_multiples r l m = record {
    poly = shift R m.cofactor ((basis_of entries).member m.place);
    inside = in_closed R L G entries legal m.cofactor _ (entries_in R L G entries legal (InSpan R G) (in_space R L G entries legal) (in_closed R L G entries legal) (in_gens R L G entries legal) m.place m.known);
    is = record { small = l; low = multiple_lowest R L (basis_of entries) M r m.place m.cofactor m.known l m.is; some = λ z. one_is R L _ _ (lead_some R _ _ (entry_lead R L G entries legal m.place m.known).is) (same_trans (same_sym (multiple_one R L (basis_of entries) M r m.place m.cofactor m.known l m.is)) z) };
  }
    where
      M : IsMonic R (basis_of entries)
      M = legal_monic R L G entries legal
