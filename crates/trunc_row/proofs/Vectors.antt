-- A multiple that is subtracted from a row, as vectors over any ranks that are those of the monomials.
-- A residue of the difference is one of the definition's: where the shift divides, with the residue at the quotient, and elsewhere with 0.
use Rattle.std.proofs.Common.{◌≡◌, ℕ, ◌+◌, ◌-◌, ◌*◌, ◌<◌, ◌≤◌, List, length, get_or, Option, Some, None, refl, ap, sym, ◌∙◌, subst, arith}
use Rattle.local_order.specs.Mono.{degree, mono_times, mono_quotient}
use Rattle.local_order.specs.Shape.{Shape, count}
use Rattle.local_order.proofs.Order.{mono_times-mono_quotient}
use Rattle.mono_rank.specs.Rank.{HasRank, mono_of_rank}
use Rattle.mono_rank.specs.Laws.{numbering, rank_quotient}
use Rattle.mono_rank.specs.Rows.{SubtractsMultiple}
use Rattle.mono_rank.proofs.ByRank.{rank-mono_of_rank}
use Rattle.mono_rank.proofs.Quotients.{IsOver, over_is}
use Rattle.mono_rank.proofs.Numbers.{quotient_of_ranks}
use Rattle.mono_rank.proofs.Divided.{quotient_fits}
use Rattle.rank_algebra.specs.Ranks.{Ranks}
use Rattle.rank_algebra.specs.Rows.{vector_of_row}
use Rattle.rank_algebra.specs.Vector.{Same, coef_at, shift, less, Agree}
use Rattle.rank_algebra.proofs.Residues.{same_refl, same_of, same_trans, same_add, same_mul, same_mod, same_minus}
use Rattle.entry_code.specs.declared.term.Term.{Term}
use Rattle.entry_code.specs.Terms.{vector_of_terms, HasRisingRanks}
use Rattle.trunc_row.specs.Rows.{IsRowOfTerms}
use Rattle.trunc_row.proofs.TermRows.{terms_row_of}

-- these ranks are those of the monomials of T, modulo p
pub record IsRing (p : ℕ) (T : Shape) (R : Ranks) : Type 0 where
  pub field : R.p ≡ p
  pub all : R.n ≡ count T
  pub quotient : (r a : ℕ) → R.quotient r a ≡ rank_quotient (numbering T) r a

-- the row less a multiple of another is the vector less the multiple of the other's
pub subtract_vector : (p : ℕ) (T : Shape) (R : Ranks) → IsRing p T R → 1 ≤ T.variables → (c a : ℕ) (g r s : List ℕ) → c < p → a < count T → SubtractsMultiple p T c a g r s
    → Agree R R.n (vector_of_row s) (less R c (shift R a (vector_of_row g)) (vector_of_row r))
subtract_vector p T R ring some c a g r s lc la h = record {
  at = λ k l. subst (λ q. Same q (get_or s k 0) (get_or r k 0 + (q - 1) * c * shift R a (vector_of_row g) k)) (sym ring.field)
      (at k (omega (arith, l, ring.all)) (rank_quotient (numbering T) k a) refl);
}
  where
    hx : HasRank T (mono_of_rank T a) a
    hx = rank-mono_of_rank T a some la

    at : (k : ℕ) → k < count T → (o : Option ℕ) → rank_quotient (numbering T) k a ≡ o
        → Same p (get_or s k 0) (get_or r k 0 + (p - 1) * c * shift R a (vector_of_row g) k)
    at k l None e = same_of p _ _ (h.others (mono_of_rank T a) (mono_of_rank T k) k hx (rank-mono_of_rank T k some l)
        (λ v. absurd (cc (sym e, ((quotient_of_ranks T (mono_of_rank T a) (mono_of_rank T k) a k hx (rank-mono_of_rank T k some l)).0 v).1)))
        ∙ none (get_or r k 0) ((p - 1) * c) (shift R a (vector_of_row g) k) (ap (coef_at (vector_of_row g)) (ring.quotient k a ∙ e)))
      where
        none : (x m y : ℕ) → y ≡ 0 → x ≡ x + m * y
        none x m y e = omega (arith, ap (λ z. m * z) e)
    at k l (Some q) e =
        same_trans (same_of p _ _ (h.multiples (mono_of_rank T a) quotient q k hx hq hk))
        (same_trans (same_mod p (get_or r k 0 + (p - c) * get_or g q 0))
        (same_add (same_refl p (get_or r k 0)) (same_mul (same_minus p c lc) (same_of p _ _ (sym (ap (coef_at (vector_of_row g)) (ring.quotient k a ∙ e)))))))
      where
        over : IsOver (numbering T) k a q
        over = over_is (numbering T) k a q e

        hm : HasRank T (mono_of_rank T k) k
        hm = rank-mono_of_rank T k some l

        quotient : List ℕ
        quotient = mono_quotient (mono_of_rank T k) (mono_of_rank T a)

        long : length (mono_of_rank T a) ≡ length (mono_of_rank T k)
        long = hx.in_ring ∙ sym hm.in_ring

        fits : (length (mono_quotient (mono_of_rank T k) (mono_of_rank T a)) ≡ T.variables) × (degree (mono_quotient (mono_of_rank T k) (mono_of_rank T a)) ≤ T.degree)
        fits = quotient_fits T (mono_of_rank T k) (mono_of_rank T a) k hm

        hq : HasRank T quotient q
        hq = record { in_ring = fits.0; low = fits.1; rank = over.rank }

        hk : HasRank T (mono_times (mono_of_rank T a) quotient) k
        hk = subst (λ m. HasRank T m k) (mono_times-mono_quotient (mono_of_rank T a) (mono_of_rank T k) long over.divisor) hm

-- so is a row less a multiple of terms, whose row any is that has them
pub subtract_terms : (p : ℕ) (T : Shape) (R : Ranks) → IsRing p T R → 1 ≤ T.variables → (c a : ℕ) (ts : List Term) (r s : List ℕ) → c < p → a < count T → HasRisingRanks (count T) ts
    → ((g : List ℕ) → IsRowOfTerms (count T) ts g → SubtractsMultiple p T c a g r s)
    → Agree R R.n (vector_of_row s) (less R c (shift R a (vector_of_terms ts)) (vector_of_row r))
subtract_terms p T R ring some c a ts r s lc la w h =
    let g = terms_row_of (count T) ts w in
    let rows = subtract_vector p T R ring some c a g.0 r s lc la (h g.0 g.1) in
    record { at = λ k l. subst (λ x. Same R.p (get_or s k 0) (get_or r k 0 + (R.p - 1) * c * x)) (same_at g.0 g.1 (R.quotient k a)) (rows.at k l) }
  where
    same_at : (g : List ℕ) → IsRowOfTerms (count T) ts g → (o : Option ℕ) → coef_at (vector_of_row g) o ≡ coef_at (vector_of_terms ts) o
    same_at g m None = refl
    same_at g m (Some q) = m.coefs q
