-- The multiple of a reducer that has a row's leading term is subtracted.
-- The reducer has 0 before its lead, so the row is left without terms up to its own lead.
use Rattle.std.proofs.Common.{◌≡◌, ℕ, ◌+◌, ◌-◌, ◌*◌, ◌%◌, ◌<◌, ◌≤◌, ◌⊎◌, List, get_or, Option, Some, None, refl, ap, sym, ◌∙◌, inl, inr, subst, arith}
use Rattle.std.proofs.lemmas.Bool.{cases_lt, cases_eq}
use Rattle.prime_field.specs.Prime.{InTable}
use Rattle.prime_field.specs.Inverse.{inverse}
use Rattle.local_order.specs.Shape.{Shape, count}
use Rattle.mono_rank.specs.Laws.{numbering, rank_quotient}
use Rattle.rank_algebra.specs.Ranks.{IsRanks}
use Rattle.rank_algebra.specs.Rows.{IsRow, BeginsAt, vector_of_row}
use Rattle.mono_rank.specs.Rows.{SubtractsMultiple}
use Rattle.trunc_row.proofs.Residues.{row_small, row_mod}
use Rattle.rank_algebra.specs.Vector.{Same, coef_at, shift}
use Rattle.rank_algebra.proofs.Residues.{same_refl, same_of, same_trans, same_add, same_mul, same_times, same_gone, same_mod}
use Rattle.rank_algebra.proofs.Linear.{agree_trans, inverse_same}
use Rattle.mora_law.specs.Ring.{ring}
use Rattle.mora_form.specs.Reduction.{IsReduced}
use Rattle.trunc_row.proofs.Vectors.{subtract_vector}
use Rattle.mora_form.proofs.Vectors.{ring_is, residue_same, begins_lead}
use Rattle.mora_law.proofs.Ring.{ring_p, ring_count, ring_quotient, ring_inverse, ring_laws}

module _ (p : ℕ) (T : Shape) (t : InTable p) (some : 1 ≤ T.variables) (g r : List ℕ) (wg : IsRow p (count T) g) (wr : IsRow p (count T) r) (lead low a : ℕ) (b : BeginsAt r lead) (bg : BeginsAt g low)
    (e : rank_quotient (numbering T) lead low ≡ Some a) (la : a < count T) where
  -- the inverse of the lead's coefficient is that of the field
  inv_is : (ring p T).inverse_of (get_or g low 0) ≡ inverse p (get_or g low 0)
  inv_is = ring_inverse p T (get_or g low 0) ∙ ap (inverse p) (row_mod p (count T) g low wg)

  -- it is what the definition of steps subtracts
  pub reduced_is : (c : ℕ) (s : List ℕ) → c < p → c ≡ (get_or r lead 0 * inverse p (get_or g low 0)) % p → SubtractsMultiple p T c a g r s → IsReduced p T g low r lead s
  reduced_is c s lc ce h = (
    a,
    ring_quotient p T lead low ∙ e,
    agree_trans (subtract_vector p T (ring p T) (ring_is p T) some c a g r s lc la h) (record { at = λ k l. same_add (same_refl (ring p T).p _) (same_mul (same_times ((ring p T).p - 1) same_c) (same_refl (ring p T).p _)) }),
  )
    where
      same_c : Same (ring p T).p c (get_or r lead 0 * (ring p T).inverse_of (get_or g low 0))
      same_c = subst (λ q. Same q c (get_or r lead 0 * (ring p T).inverse_of (get_or g low 0))) (sym (ring_p p T))
          (same_trans (same_of p _ _ ce) (same_trans (same_mod p _) (same_of p _ _ (ap (λ x. get_or r lead 0 * x) (sym inv_is)))))

  -- the ring has the laws of computing by rank
  L : IsRanks (ring p T)
  L = ring_laws p T t some

  -- the lead is the rank of a monomial
  lead_small : lead < count T
  lead_small = omega (arith, b.within, wr.full)

  -- the cofactor times the reducer's lead is the lead
  whole : (ring p T).times a low ≡ lead
  whole = L.comm a low ∙ L.quotient_times lead low a (ring_quotient p T lead low ∙ e)

  -- the multiple begins at the row's lead
  before : (k : ℕ) → k < lead → shift (ring p T) a (vector_of_row g) k ≡ 0
  before k l = go ((ring p T).quotient k a) refl
    where
      go : (o : Option ℕ) → (ring p T).quotient k a ≡ o → coef_at (vector_of_row g) o ≡ 0
      go None f = refl
      go (Some q) f = at (cases_lt q low)
        where
          is : (ring p T).times a q ≡ k
          is = L.quotient_times k a q f

          at : (q < low) ⊎ (low ≤ q) → get_or g q 0 ≡ 0
          at (inl m) = bg.before q m
          at (inr m) = absurd (apart (cases_eq q low))
            where
              apart : (q ≡ low) ⊎ (q ≡ low → ⊥) → ⊥
              apart (inl z) = omega (arith, ap ((ring p T).times a) z, is, whole, l)
              apart (inr z) = omega (arith, L.grows a low q (omega (arith, m, z)) (omega (arith, is, l, lead_small, ring_count p T)), is, whole, l)

  -- at the lead the multiple has the reducer's first coefficient
  there : shift (ring p T) a (vector_of_row g) lead ≡ get_or g low 0
  there = ap (coef_at (vector_of_row g)) (ap (λ k. (ring p T).quotient k a) (sym whole) ∙ L.times_quotient a low (omega (arith, whole, lead_small, ring_count p T)))

  -- so the leading term goes, and no greater one comes
  pub less_is : (s : List ℕ) → IsRow p (count T) s → IsReduced p T g low r lead s → (k : ℕ) → k ≤ lead → get_or s k 0 ≡ 0
  less_is s ws h k l = residue_same p (get_or s k 0) 0 small (omega (arith, small)) (subst (λ q. Same q (get_or s k 0) 0) (ring_p p T) (go (cases_eq k lead)))
    where
      small : get_or s k 0 < p
      small = row_small p (count T) s k ws (omega (arith, l, lead_small))

      c : ℕ
      c = get_or r lead 0 * (ring p T).inverse_of (get_or g low 0)

      same_shift : h.0 ≡ a
      same_shift = cc (h.1, ring_quotient p T lead low, e)

      agrees : Same (ring p T).p (get_or s k 0) (get_or r k 0 + ((ring p T).p - 1) * (get_or r lead 0 * (ring p T).inverse_of (get_or g low 0)) * shift (ring p T) a (vector_of_row g) k)
      agrees = subst (λ u. Same (ring p T).p (get_or s k 0) (get_or r k 0 + ((ring p T).p - 1) * (get_or r lead 0 * (ring p T).inverse_of (get_or g low 0)) * shift (ring p T) u (vector_of_row g) k)) same_shift
          (h.2.at k (omega (arith, l, lead_small, ring_count p T)))

      go : (k ≡ lead) ⊎ (k ≡ lead → ⊥) → Same (ring p T).p (get_or s k 0) 0
      go (inr z) = same_trans agrees (same_of (ring p T).p _ _ (none (get_or r k 0) (((ring p T).p - 1) * (get_or r lead 0 * (ring p T).inverse_of (get_or g low 0))) (shift (ring p T) a (vector_of_row g) k) (b.before k (omega (arith, l, z))) (before k (omega (arith, l, z)))))
        where
          none : (x m y : ℕ) → x ≡ 0 → y ≡ 0 → x + m * y ≡ 0
          none x m y e f = omega (arith, e, ap (λ z. m * z) f)
      go (inl z) = same_trans agrees (same_trans (same_of (ring p T).p _ _ (turn (get_or r k 0) (get_or r lead 0) ((ring p T).p - 1) ((ring p T).inverse_of (get_or g low 0)) (shift (ring p T) a (vector_of_row g) k) (get_or g low 0)
          (ap (λ i. get_or r i 0) z) (ap (λ i. shift (ring p T) a (vector_of_row g) i) z ∙ there)))
          (same_gone (ring p T).p (get_or r lead 0) ((ring p T).inverse_of (get_or g low 0) * get_or g low 0) L.prime_pos (inverse_same (ring p T) L (get_or g low 0) (begins_lead p T t some g low wg bg).some)))
        where
          turn : (x y m i s g : ℕ) → x ≡ y → s ≡ g → x + m * (y * i) * s ≡ y + m * y * (i * g)
          turn x y m i s g e f = ap (λ u. u + m * (y * i) * s) e ∙ ap (λ u. y + m * (y * i) * u) f ∙ omega arith
