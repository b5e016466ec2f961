-- The basis that plain division makes of settled entries is the reduced one, by rank.
-- Walking over the ranks from the last back, the members found so far are those with minimal leads.
use Rattle.std.proofs.Common.{ℕ, zero, suc, ◌+◌, ◌<◌, ◌≤◌, ◌≡◌, List, ◌∷◌, map, Bool, true, false, eqb, Option, Some, None, refl, sym, ◌∙◌, ap, ap₂, subst, arith, ◌⊎◌, inl, inr}
use Rattle.std.specs.Prelude.{find, filter_map, option_map, is_some, is_none, not, ◌&&◌}
use Rattle.std.specs.List.{range_with_len, cons_option}
use Rattle.std.proofs.lemmas.Bool.{cases_lt, eqb-true, eq-eqb}
use Rattle.rank_algebra.specs.Ranks.{Ranks, IsRanks}
use Rattle.entry_code.specs.declared.term.Term.{Term}
use Rattle.entry_code.specs.Entry.{Entry}
use Rattle.rank_algebra.specs.Vector.{Same, Vector}
use Rattle.rank_algebra.specs.Division.{Basis, IsMonic, IsMultiple}
use Rattle.rank_algebra.specs.Ideal.{IsLeadOfSpan, Generators}
use Rattle.mora_law.specs.Lead.{lead}
use Rattle.mora_law.specs.Entries.{terms_of, lead_rank, basis_of}
use Rattle.entry_code.specs.Terms.{vector_of_terms}
use Rattle.mora_law.specs.Legal.{AreLegal}
use Rattle.mora_law.specs.Basis.{tidied, divides_other, is_minimal, minimal_with, plain_basis}
use Rattle.rank_algebra.proofs.Residues.{same_sym, same_trans}
use Rattle.rank_algebra.proofs.First.{quotient_lead}
use Rattle.rank_algebra.proofs.Searches.{and_true, found, not_found, none_found}
use Rattle.mora_law.proofs.Criteria.{AllSettledByRank}
use Rattle.mora_law.proofs.ReducedByRank.{Mem, Rising, IsMinimal, IsMember, Members, IsReducedByRank}
use Rattle.mora_law.proofs.Choice.{lead_some, lead_is}
use Rattle.mora_law.proofs.Terms.{terms_same, terms_agree, first_is_lead}
use Rattle.mora_law.proofs.Legal.{legal_monic, in_space}
use Rattle.mora_law.proofs.PlainBasis.{tidied_in, tidied_tail, tidied_lead, tidied_one}
use Rattle.mora_law.proofs.Buchberger.{only_multiples, all_multiples}
use Rattle.mora_law.proofs.Distinct.{no_earlier}

-- where the test holds no other lead divides
alone_by_test : (R : Ranks) (B : Basis) (k : ℕ) → is_minimal R B k ≡ true → (x q : ℕ) → x < B.size → R.quotient (B.lead k) (B.lead x) ≡ Some q → x ≡ k
alone_by_test R B k e x q l f = at (eqb x k) refl (sym (ap (λ o. not (eqb x k) && is_some o) f) ∙ not_found (divides_other R B k) 0 B.size none x (omega arith) (omega arith))
  where
    none : find (divides_other R B k) (range_with_len 0 B.size) ≡ None
    none = go (find (divides_other R B k) (range_with_len 0 B.size)) e
      where
        go : (o : Option ℕ) → is_none o ≡ true → o ≡ None
        go None e = refl
        go (Some y) e = absurd (cc e)

    at : (b : Bool) → eqb x k ≡ b → (not (eqb x k) && true) ≡ false → x ≡ k
    at true g z = eqb-true x k g
    at false g z = absurd (let y : (not false && true) ≡ false = ap (λ b. not b && true) (sym g) ∙ z in cc y)

-- and where no other lead divides the test holds
test_by_alone : (R : Ranks) (B : Basis) (k : ℕ) → ((x q : ℕ) → x < B.size → R.quotient (B.lead k) (B.lead x) ≡ Some q → x ≡ k) → is_minimal R B k ≡ true
test_by_alone R B k h = ap is_none (none_found (divides_other R B k) 0 B.size (λ j l m. go j (omega arith) (R.quotient (B.lead k) (B.lead j)) refl))
  where
    neither : (b : Bool) → (b && false) ≡ false
    neither true = refl
    neither false = refl

    go : (j : ℕ) → j < B.size → (o : Option ℕ) → R.quotient (B.lead k) (B.lead j) ≡ o → (not (eqb j k) && is_some o) ≡ false
    go j l None e = neither (not (eqb j k))
    go j l (Some q) e = ap (λ b. not b && true) (eq-eqb j k (h j q l e))

module _ (R : Ranks) (L : IsRanks R) (G : Generators) (entries : List Entry) (legal : AreLegal R G entries) (settled : AllSettledByRank R G entries) where
  -- the entries as vectors, with their leads
  abbrev B : Basis
  B = basis_of entries

  -- they are monic
  M : IsMonic R B
  M = legal_monic R L G entries legal

  -- the k-th member
  member_is : (k : ℕ) → k < B.size → IsMember R G (terms_of R (tidied R B k)) × (lead_rank (terms_of R (tidied R B k)) ≡ B.lead k)
  member_is k l = (
    record {
      canonical = terms_same R (vector_of_terms (terms_of R v)) v (terms_agree R v);
      inside = (in_space R L G entries legal).alike _ _ (terms_agree R v) (tidied_in R L G entries legal settled k l);
      leads = lead_here ∙ ap Some (sym first);
      one = subst (λ x. Same R.p (vector_of_terms (terms_of R v) x) 1) (sym first) (same_trans ((terms_agree R v).at (B.lead k) (M.small k l)) (tidied_one R L G entries legal settled k l));
      tail = λ r n h. same_trans ((terms_agree R v).at r h.is.small) (tidied_tail R L G entries legal settled k l r (λ z. n (z ∙ sym first)) h);
    },
    first,
  )
    where
      v : Vector
      v = tidied R B k

      first : lead_rank (terms_of R v) ≡ B.lead k
      first = first_is_lead R v (B.lead k) (tidied_lead R L G entries legal settled k l)

      lead_here : lead R (vector_of_terms (terms_of R v)) ≡ Some (B.lead k)
      lead_here = let i = lead_some R v (B.lead k) (tidied_lead R L G entries legal settled k l) in lead_is R _ (B.lead k) (record {
        small = i.small;
        low = record { at = λ x m. same_trans ((terms_agree R v).at x (omega (arith, m, i.small))) (i.low.at x m) };
        some = λ z. i.some (same_trans (same_sym ((terms_agree R v).at (B.lead k) i.small)) z);
      })

  -- a lead with Lead alone is the one of an entry that no other lead divides, and the other way round
  minimal_entry : (k : ℕ) → k < B.size → is_minimal R B k ≡ true → IsMinimal R G (B.lead k)
  minimal_entry k l e = record { leads = all_multiples R L G entries legal (B.lead k) (M.small k l) (record { place = k; cofactor = 0; known = l; is = L.unit (B.lead k) (M.small k l) }); alone = alone }
    where
      alone : (q s : ℕ) → R.times q s ≡ B.lead k → IsLeadOfSpan R G s → s ≡ B.lead k
      alone q s f h = omega (arith, up, down)
        where
          m : IsMultiple R B s
          m = only_multiples R L G entries legal settled s h

          whole : R.times (R.times q m.cofactor) (B.lead m.place) ≡ B.lead k
          whole = L.assoc q m.cofactor (B.lead m.place) ∙ ap (R.times q) m.is ∙ f

          same : m.place ≡ k
          same = alone_by_test R B k e m.place (R.times q m.cofactor) m.known (quotient_lead R L B (B.lead k) m.place (R.times q m.cofactor) (M.small k l) whole)

          up : s ≤ B.lead k
          up = omega (arith, f, L.le q s (omega (arith, f, M.small k l)))

          down : B.lead k ≤ s
          down = let z : R.times m.cofactor (B.lead k) ≡ s = subst (λ y. R.times m.cofactor (B.lead y) ≡ s) same m.is in omega (arith, z, L.le m.cofactor (B.lead k) (omega (arith, z, h.is.small)))

  -- a minimal lead is the lead of an entry
  entry_minimal : (r : ℕ) → IsMinimal R G r → (k : ℕ) × (k < B.size) × (B.lead k ≡ r)
  entry_minimal r h = (m.place, m.known, h.alone m.cofactor (B.lead m.place) m.is (all_multiples R L G entries legal (B.lead m.place) (M.small m.place m.known) (record { place = m.place; cofactor = 0; known = m.known; is = L.unit (B.lead m.place) (M.small m.place m.known) })))
    where
      m : IsMultiple R B r
      m = only_multiples R L G entries legal settled r h.leads

  -- which no other lead divides
  minimal_alone : (k : ℕ) → k < B.size → IsMinimal R G (B.lead k) → is_minimal R B k ≡ true
  minimal_alone k l h = test_by_alone R B k only
    where
      only : (x q : ℕ) → x < B.size → R.quotient (B.lead k) (B.lead x) ≡ Some q → x ≡ k
      only x q xs e = go (cases_lt x k) (cases_lt k x)
        where
          turned : R.times q (B.lead x) ≡ B.lead k
          turned = L.comm q (B.lead x) ∙ L.quotient_times (B.lead k) (B.lead x) q e

          same : B.lead x ≡ B.lead k
          same = h.alone q (B.lead x) turned (all_multiples R L G entries legal (B.lead x) (M.small x xs) (record { place = x; cofactor = 0; known = xs; is = L.unit (B.lead x) (M.small x xs) }))

          go : (x < k) ⊎ (k ≤ x) → (k < x) ⊎ (x ≤ k) → x ≡ k
          go (inl m) c = absurd (no_earlier R L G entries legal k x q l m turned)
          go (inr m) (inl n) = absurd (no_earlier R L G entries legal x k 0 xs n (L.unit (B.lead k) (M.small k l) ∙ sym same))
          go (inr m) (inr n) = omega arith

  -- the members with leads from r on
  record Good (r : ℕ) (gs : List (List Term)) : Type 0 where
    pub members : Members R G gs
    pub rising : Rising (map lead_rank gs)
    pub from : (x : ℕ) → Mem x (map lead_rank gs) → (r ≤ x) × IsMinimal R G x
    pub all : (x : ℕ) → r ≤ x → IsMinimal R G x → Mem x (map lead_rank gs)

  -- the terms of the member with this lead
  abbrev at_rank : ℕ → Option (List Term)
  at_rank r = option_map (λ k. terms_of R (tidied R B k)) (minimal_with R B r)

  -- the walk from r on has found them
  good_from : (left r : ℕ) → r + left ≡ R.n → Good r (filter_map at_rank (range_with_len r left))
  good_from zero r e = record { members = tt; rising = tt; from = λ x m. absurd m; all = λ x l h. absurd (omega (arith, l, e, h.leads.is.small)) }
  good_from (suc left) r e = go (minimal_with R B r) refl (good_from left (r + 1) (omega arith))
    where
      later : List (List Term)
      later = filter_map at_rank (range_with_len (r + 1) left)

      skip : (IsMinimal R G r → ⊥) → Good (r + 1) later → Good r later
      skip n g = record { members = g.members; rising = g.rising; from = λ x m. let h = g.from x m in (omega (arith, h.0), h.1); all = λ x l h. at x h (cases_lt r x) l }
        where
          at : (x : ℕ) → IsMinimal R G x → (r < x) ⊎ (x ≤ r) → r ≤ x → Mem x (map lead_rank later)
          at x h (inl m) l = g.all x (omega (arith, m)) h
          at x h (inr m) l = let z : x ≡ r = omega arith in absurd (n (subst (IsMinimal R G) z h))

      take : (k : ℕ) → k < B.size → B.lead k ≡ r → IsMinimal R G r → Good (r + 1) later → Good r (terms_of R (tidied R B k) ∷ later)
      take k l f h g = record {
        members = (mem.0, g.members);
        rising = ((λ x m. omega (arith, (g.from x m).0, first)), g.rising);
        from = λ x m. from x m;
        all = λ x n j. all x j (cases_lt r x) n;
      }
        where
          mem : IsMember R G (terms_of R (tidied R B k)) × (lead_rank (terms_of R (tidied R B k)) ≡ B.lead k)
          mem = member_is k l

          first : lead_rank (terms_of R (tidied R B k)) ≡ r
          first = mem.1 ∙ f

          from : (x : ℕ) → Mem x (lead_rank (terms_of R (tidied R B k)) ∷ map lead_rank later) → (r ≤ x) × IsMinimal R G x
          from x (inl z) = (omega (arith, z, first), subst (IsMinimal R G) (sym (z ∙ first)) h)
          from x (inr m) = let i = g.from x m in (omega (arith, i.0), i.1)

          all : (x : ℕ) → IsMinimal R G x → (r < x) ⊎ (x ≤ r) → r ≤ x → Mem x (lead_rank (terms_of R (tidied R B k)) ∷ map lead_rank later)
          all x j (inl m) n = inr (g.all x (omega (arith, m)) j)
          all x j (inr m) n = inl (omega (arith, m, n, first))

      go : (o : Option ℕ) → minimal_with R B r ≡ o → Good (r + 1) later → Good r (cons_option (option_map (λ k. terms_of R (tidied R B k)) o) later)
      go None f g = skip (λ h. let x = entry_minimal r h in
          let no = not_found (λ k. eqb (B.lead k) r && is_minimal R B k) 0 B.size f x.0 (omega arith) (omega (arith, x.1)) in
          let yes_lead : eqb (B.lead x.0) r ≡ true = eq-eqb (B.lead x.0) r x.2 in
          let yes_minimal : is_minimal R B x.0 ≡ true = minimal_alone x.0 x.1 (subst (IsMinimal R G) (sym x.2) h) in
          let z : (true && true) ≡ false = ap₂ ◌&&◌ (sym yes_lead) (sym yes_minimal) ∙ no in
          cc z) g
      go (Some k) f g = take k kn at (subst (IsMinimal R G) at (minimal_entry k kn both.1)) g
        where
          is : (k < 0 + B.size) × ((eqb (B.lead k) r && is_minimal R B k) ≡ true)
          is = found (λ k. eqb (B.lead k) r && is_minimal R B k) 0 B.size k f

          kn : k < B.size
          kn = omega (arith, is.0)

          both : (eqb (B.lead k) r ≡ true) × (is_minimal R B k ≡ true)
          both = and_true (eqb (B.lead k) r) (is_minimal R B k) is.1

          at : B.lead k ≡ r
          at = eqb-true (B.lead k) r both.0

  -- so the basis is the reduced one
  pub plain_reduced : IsReducedByRank R G (plain_basis R B)
  unfolding plain_basis
  plain_reduced = record { members = g.members; rising = g.rising; exactly = λ r. ((λ m. (g.from r m).1), (λ h. g.all r (omega arith) h)) }
    where
      g : Good 0 (filter_map at_rank (range_with_len 0 R.n))
      g = good_from R.n 0 (omega arith)
