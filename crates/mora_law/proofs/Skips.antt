-- A pair that is skipped by the monomials of the leads is skipped by rank, where the least common multiple has a rank.
-- Where it has none, the S-pair is 0 modulo degree d + 1.
use Rattle.std.proofs.Common.{◌≡◌, ℕ, ◌+◌, ◌*◌, ◌-◌, ◌<◌, ◌≤◌, ◌⊎◌, List, [], ◌∷◌, length, max, Bool, true, false, ◌&&◌, ◌||◌, Option, Some, None, cond, eqb, IsSome, refl, sym, ◌∙◌, ap, ap₂, arith, inl, inr}
use Rattle.std.specs.Prelude.{option_map}
use Rattle.std.proofs.lemmas.Bool.{eqb-true}
use Rattle.local_order.specs.Mono.{mono_times, mono_quotient, mono_lcm, divides, coprime}
use Rattle.local_order.specs.Order.{IsAbove}
use Rattle.mono_rank.specs.Rank.{mono_at}
use Rattle.mono_rank.specs.Laws.{Numbering, IsNumbering, ranks_of}
use Rattle.rank_algebra.specs.Ranks.{Ranks, IsRanks}
use Rattle.mono_rank.proofs.Products.{within_of_rank, same_length, mono-times, times_comm}
use Rattle.mono_rank.proofs.Quotients.{is_over, times_over, mono-cofactor, cofactor_small}
use Rattle.rank_algebra.specs.Vector.{Same, nothing, shift, Agree}
use Rattle.rank_algebra.specs.Division.{Basis, IsMonic, pair, lcm_of}
use Rattle.rank_algebra.proofs.Residues.{same_of, same_trans, same_add, same_times}
use Rattle.rank_algebra.proofs.First.{shift_lowest}
use Rattle.mora_law.specs.declared.skip.Skip.TheVariants.{Product, Chain}
use Rattle.mora_law.specs.Skip.{chain, skip}
use Rattle.rank_algebra.proofs.Searches.{and_true, found}
use Rattle.mora_law.proofs.Criteria.{IsProduct, IsChain}

-- ---- monomials
-- what a coprime monomial lacks is the whole of the other
coprime_quotient : (a b : List ℕ) → length a ≡ length b → coprime a b ≡ true → mono_quotient b a ≡ b
coprime_quotient [] [] l e = refl
coprime_quotient [] (y ∷ b) l e = absurd (omega (arith, l))
coprime_quotient (x ∷ a) [] l e = refl
coprime_quotient (x ∷ a) (y ∷ b) l e = let h = and_true (eqb x 0 || eqb y 0) (coprime a b) e in ap₂ ◌∷◌ (go (eqb x 0) refl (eqb y 0) refl h.0) (coprime_quotient a b (omega (arith, l)) h.1)
  where
    go : (u : Bool) → eqb x 0 ≡ u → (v : Bool) → eqb y 0 ≡ v → (eqb x 0 || eqb y 0) ≡ true → y - x ≡ y
    go true f v g k = omega (arith, eqb-true x 0 f)
    go false f true g k = omega (arith, eqb-true y 0 g)
    go false f false g k = absurd (let z : (false || false) ≡ true = ap₂ ◌||◌ (sym f) (sym g) ∙ k in cc z)

-- being coprime goes both ways
coprime_comm : (a b : List ℕ) → length a ≡ length b → coprime a b ≡ true → coprime b a ≡ true
coprime_comm [] [] l e = refl
coprime_comm [] (y ∷ b) l e = refl
coprime_comm (x ∷ a) [] l e = refl
coprime_comm (x ∷ a) (y ∷ b) l e = let h = and_true (eqb x 0 || eqb y 0) (coprime a b) e in ap₂ ◌&&◌ (go (eqb x 0) (eqb y 0) h.0) (coprime_comm a b (omega (arith, l)) h.1)
  where
    go : (u v : Bool) → (u || v) ≡ true → (v || u) ≡ true
    go true true k = refl
    go true false k = refl
    go false true k = refl
    go false false k = k

-- the least common multiple is a product with what the other has more
lcm_is_product : (a b : List ℕ) → length a ≡ length b → mono_lcm a b ≡ mono_times a (mono_quotient b a)
lcm_is_product [] [] l = refl
lcm_is_product [] (y ∷ b) l = absurd (omega (arith, l))
lcm_is_product (x ∷ a) [] l = absurd (omega (arith, l))
lcm_is_product (x ∷ a) (y ∷ b) l = ap₂ ◌∷◌ (let e : max x y ≡ x + (y - x) = omega arith in e) (lcm_is_product a b (omega (arith, l)))

-- ---- by rank
module _ (p n d : ℕ) (inv : ℕ → ℕ) (O : Numbering) (W : IsNumbering n d IsAbove O) (B : Basis) (small : (k : ℕ) → k < B.size → B.lead k < O.count) where
  -- computing by rank
  abbrev R : Ranks
  R = ranks_of p inv d O

  -- the lead of entry k as a monomial
  abbrev mono : ℕ → List ℕ
  mono k = O.mono (B.lead k)

  -- the least common multiple of two leads as a monomial
  lcm_mono : (i j : ℕ) → i < B.size → j < B.size → lcm_of R B i j < O.count → O.mono (lcm_of R B i j) ≡ mono_lcm (mono i) (mono j)
  lcm_mono i j l m s =
      mono-times n d IsAbove O W (B.lead i) _ (within_of_rank d O (B.lead i) _ s)
      ∙ ap (mono_times (mono i)) (mono-cofactor n d IsAbove O W (B.lead i) (B.lead j) (small i l) (small j m))
      ∙ sym (lcm_is_product (mono i) (mono j) (same_length n d IsAbove O W (B.lead i) (B.lead j) (small i l) (small j m)))

  -- a coprime lead lacks the whole of the other
  cofactor_back : (i j : ℕ) → i < B.size → j < B.size → coprime (mono i) (mono j) ≡ true → R.cofactor (B.lead i) (B.lead j) ≡ B.lead j
  cofactor_back i j l m e =
      sym (W.back _ (cofactor_small n d IsAbove O W (B.lead i) (B.lead j) (small i l) (small j m)))
      ∙ ap O.rank (mono-cofactor n d IsAbove O W (B.lead i) (B.lead j) (small i l) (small j m)
      ∙ coprime_quotient (mono i) (mono j) (same_length n d IsAbove O W (B.lead i) (B.lead j) (small i l) (small j m)) e)
      ∙ W.back (B.lead j) (small j m)

  -- a lead that divides the monomial of a rank has the rank as a multiple
  multiple_of : (k r : ℕ) → k < B.size → r < O.count → divides (mono k) (O.mono r) ≡ true → (q : ℕ) × (R.times q (B.lead k) ≡ r)
  multiple_of k r l m e =
      let s = is_over O r (B.lead k) _ (record { whole = m; part = small k l; divisor = e; rank = refl }) in
      (_, times_comm n d IsAbove O W _ (B.lead k) ∙ times_over n d IsAbove O W r (B.lead k) _ s)

  -- so what is skipped by monomials is skipped by rank
  pub skipped_by_rank : (ms : List (List ℕ)) → ((k : ℕ) → k < B.size → mono_at ms k ≡ mono k) → (i j : ℕ) → i < j → j < B.size → lcm_of R B i j < O.count →
      IsSome (skip ms i j) → IsProduct R B i j ⊎ IsChain R B i j
  unfolding skip
  skipped_by_rank ms at i j l m s e = go (coprime (mono_at ms i) (mono_at ms j)) refl e
    where
      il : i < B.size
      il = omega arith

      long : length (mono i) ≡ length (mono j)
      long = same_length n d IsAbove O W (B.lead i) (B.lead j) (small i il) (small j m)

      m0 : List ℕ
      m0 = mono_lcm (mono_at ms i) (mono_at ms j)

      by_chain : (o : Option ℕ) → chain ms i m0 ≡ o → IsSome (option_map (λ k. Chain k) o) → IsChain R B i j
      by_chain None f g = absurd (cc g)
      by_chain (Some k) f g =
          let h = found (λ k. divides (mono_at ms k) m0) 0 i k f in
          let ki : k < i = omega (arith, h.0) in
          let kn : k < B.size = omega (arith, ki, il) in
          let q = multiple_of k (lcm_of R B i j) kn s (ap₂ divides (sym (at k kn)) (lcm_mono i j il m s ∙ sym (ap₂ mono_lcm (at i il) (at j m))) ∙ h.1) in
          record { place = k; below = ki; cofactor = q.0; divides = q.1 }

      go : (b : Bool) → coprime (mono_at ms i) (mono_at ms j) ≡ b → IsSome (cond b (Some Product) (option_map (λ k. Chain k) (chain ms i m0))) → IsProduct R B i j ⊎ IsChain R B i j
      go true f g =
          let c : coprime (mono i) (mono j) ≡ true = ap₂ coprime (sym (at i il)) (sym (at j m)) ∙ f in
          inl (record { left = cofactor_back i j il m c; right = cofactor_back j i m il (coprime_comm (mono i) (mono j) long c) })
      go false f g = inr (by_chain (chain ms i m0) refl g)

-- the S-pair whose least common multiple is beyond degree d is 0
pub pair_nothing : (R : Ranks) → IsRanks R → (B : Basis) → IsMonic R B → (i j : ℕ) → i < B.size → j < B.size → R.n ≤ lcm_of R B i j → Agree R R.n (pair R B i j) nothing
pair_nothing R L B M i j l m big = record {
  at = λ r o. same_trans (same_add (part i j l r o (omega (arith, big, L.comm (B.lead i) (R.cofactor (B.lead i) (B.lead j)))))
      (same_times ((R.p - 1) * 1) (part j i m r o (omega (arith, big, L.lcm (B.lead i) (B.lead j), L.comm (B.lead j) (R.cofactor (B.lead j) (B.lead i))))))) (same_of _ _ _ (omega arith));
}
  where
    part : (i j : ℕ) → i < B.size → (r : ℕ) → r < R.n → R.n ≤ R.times (R.cofactor (B.lead i) (B.lead j)) (B.lead i) → Same R.p (shift R (R.cofactor (B.lead i) (B.lead j)) (B.member i) r) 0
    part i j l r o big = shift_lowest R L (R.cofactor (B.lead i) (B.lead j)) (B.lead i) (B.member i) (M.lowest i l) r o (omega (arith, o, big))
