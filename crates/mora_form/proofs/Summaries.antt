-- What summaries tell of rows: their ecarts.
-- The greatest degree of a term is a bound of all degrees, and is reached.
use Rattle.std.proofs.Common.{◌≡◌, ℕ, ◌-◌, ◌%◌, ◌<◌, ◌≤◌, List, get_or, Bool, true, eqb, Option, Some, None, ap, ap₂, sym, ◌∙◌, subst, arith}
use Rattle.std.specs.Prelude.{MatchOption, not}
use Rattle.std.specs.Option.{unwrap_or, option_map}
use Rattle.std.proofs.lemmas.Bool.{eq-eqb, ne_eqb}
use Rattle.prime_field.specs.Prime.{InTable}
use Rattle.local_order.specs.Mono.{degree}
use Rattle.local_order.specs.Shape.{Shape, count}
use Rattle.mono_rank.specs.Rank.{mono_of_rank}
use Rattle.mono_rank.proofs.ByRank.{rank-mono_of_rank, mono_of_rank-is}
use Rattle.mono_rank.proofs.Ranks.{rank_small}
use Rattle.rank_algebra.specs.Rows.{IsRow, IsZeroRow, BeginsAt, vector_of_row}
use Rattle.mono_rank.specs.Rows.{HasTopDegree}
use Rattle.trunc_row.proofs.Residues.{row_mod}
use Rattle.mora_law.specs.Lead.{ecart, top_degree, is_none_at}
use Rattle.rank_algebra.proofs.Searches.{greatest_low, greatest_high}
use Rattle.ecart.specs.declared.summary.Summary.{Summary}
use Rattle.ecart.specs.Choice.{ecart_of}
use Rattle.mora_form.specs.Reducers.{IsSummaryOf}
use Rattle.mora_law.specs.Ring.{ring}
use Rattle.mora_form.proofs.Vectors.{lead_of_row}
use Rattle.mora_law.proofs.Ring.{ring_p, ring_count, ring_degree}

-- a row that begins has a top degree
pub top_told : (T : Shape) (r : List ℕ) (k : ℕ) (o : Option ℕ) (other t : ℕ) → BeginsAt r k → MatchOption o (IsZeroRow r) (HasTopDegree T r) → t ≡ unwrap_or o other → HasTopDegree T r t
top_told T r k None other t b h e = absurd (b.some (h k))
top_told T r k (Some u) other t b h e = subst (HasTopDegree T r) (sym e) h

-- ---- the top degree by ranks
module _ (p : ℕ) (T : Shape) (r : List ℕ) (w : IsRow p (count T) r) where
  -- whether the row has a term of rank k
  abbrev test : ℕ → Bool
  test k = not (is_none_at (ring p T) (vector_of_row r) k)

  -- there is no term where the residue is 0
  none_is : (k : ℕ) → is_none_at (ring p T) (vector_of_row r) k ≡ eqb (get_or r k 0) 0
  none_is k = ap (λ q. eqb (get_or r k 0 % q) 0) (ring_p p T) ∙ ap (λ x. eqb x 0) (row_mod p (count T) r k w)

  -- where the test holds the residue isn't 0
  some_by_test : (k : ℕ) → test k ≡ true → get_or r k 0 ≡ 0 → ⊥
  some_by_test k e z = absurd (cc (sym (ap not (none_is k ∙ eq-eqb (get_or r k 0) 0 z)) ∙ e))

  -- and the other way round
  test_by_some : (k : ℕ) → (get_or r k 0 ≡ 0 → ⊥) → test k ≡ true
  test_by_some k e = ap not (none_is k ∙ ne_eqb (get_or r k 0) 0 e)

  -- the top degree of the row is that of its vector
  pub top_of_row : 1 ≤ T.variables → (t : ℕ) → HasTopDegree T r t → top_degree (ring p T) (vector_of_row r) ≡ t
  top_of_row some t h = omega (arith, low, high)
    where
      low : top_degree (ring p T) (vector_of_row r) ≤ t
      low = greatest_low test (ring p T).degree t 0 0 (ring p T).n (omega arith)
          (λ k l m e. let small : k < count T = omega (arith, m, ring_count p T) in
          omega (arith, ring_degree p T k, h.greatest (mono_of_rank T k) k (rank-mono_of_rank T k some small) (some_by_test k e)))

      high : t ≤ top_degree (ring p T) (vector_of_row r)
      high = let at = greatest_high test (ring p T).degree 0 0 (ring p T).n h.rank (omega arith) (omega (arith, rank_small T h.mono h.rank h.ranked, ring_count p T)) (test_by_some h.rank h.some) in
          omega (arith, at, ring_degree p T h.rank, ap degree (mono_of_rank-is T h.mono h.rank h.ranked), h.reached)

  -- the ecart is the one that the summary tells
  pub ecart_of_row : InTable p → 1 ≤ T.variables → (s : Summary) → IsSummaryOf T r s → ecart (ring p T) (vector_of_row r) ≡ ecart_of s
  unfolding ecart
  ecart_of_row t some s h =
      ap (λ o. unwrap_or (option_map (λ k. top_degree (ring p T) (vector_of_row r) - (ring p T).degree k) o) 0) (lead_of_row p T t some r s.lead w h.begins)
      ∙ ap₂ (λ a b. a - b) (top_of_row some s.top_degree h.top) (ring_degree p T s.lead ∙ sym h.lead)
