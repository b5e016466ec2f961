-- Divisors by rank: a monomial divides another exactly where the rank of the other is a multiple of its rank.
-- Both ways go through the product of the two monomials of a rank.
use Rattle.std.proofs.Common.{◌≡◌, ℕ, ◌<◌, ◌≤◌, List, length, refl, sym, ◌∙◌, ap, ap₂, arith}
use Rattle.local_order.specs.Mono.{degree, mono_times, Divides, divides}
use Rattle.local_order.specs.Order.{IsAbove}
use Rattle.local_order.proofs.Order.{mono_times_comm}
use Rattle.local_order.proofs.Division.{divides_iff}
use Rattle.mono_rank.specs.Laws.{Numbering, IsNumbering}
use Rattle.mono_rank.proofs.Products.{IsWithin, within_of_rank, mono-times, times_comm, above_of_less}
use Rattle.mono_rank.proofs.Quotients.{is_over, times_over}
use Rattle.mono_rank.proofs.Numbers.{ds_is_degree_order}
use Rattle.sparse_poly.specs.Ideal.{Problem}
use Rattle.mora_law.specs.Ring.{numbering_of, ranks_of_problem, IsAdmissible}
use Rattle.mora_law.proofs.Ring.{numbering_is}

module _ (P : Problem) (h : IsAdmissible P) where
  -- the numbering of the problem
  abbrev O : Numbering
  O = numbering_of P

  -- it numbers the monomials by the order
  W : IsNumbering P.n P.d IsAbove (numbering_of P)
  W = numbering_is P h.some

  -- a divisor has the rank of what it divides as a multiple
  pub multiple_by_rank : (k m : List ℕ) → length k ≡ P.n → degree k ≤ P.d → length m ≡ P.n → degree m ≤ P.d → Divides k m →
      (q : ℕ) × ((ranks_of_problem P).times q ((numbering_of P).rank k) ≡ (numbering_of P).rank m)
  unfolding ranks_of_problem
  multiple_by_rank k m e low f high factor =
      let s = is_over O (O.rank m) (O.rank k) _ (record {
        whole = W.small m f high;
        part = W.small k e low;
        divisor = ap₂ divides (W.there k e low) (W.there m f high) ∙ (divides_iff k m (e ∙ sym f)).1 factor;
        rank = refl;
      }) in
      (_, times_comm P.n P.d IsAbove O W _ (O.rank k) ∙ times_over P.n P.d IsAbove O W (O.rank m) (O.rank k) _ s)

  -- a multiple of a rank is divided by its monomial
  pub divisor_of_rank : (q s : ℕ) (m : List ℕ) → length m ≡ P.n → degree m ≤ P.d → (ranks_of_problem P).times q s ≡ (numbering_of P).rank m →
      (s < (numbering_of P).count) × Divides ((numbering_of P).mono s) m
  unfolding ranks_of_problem
  divisor_of_rank q s m f high e = (w.right, (O.mono q, W.in_ring q w.left ∙ sym f, whole ∙ mono_times_comm (O.mono q) (O.mono s)))
    where
      w : IsWithin P.d (numbering_of P) q s
      w = within_of_rank P.d O q s (omega (arith, e, W.small m f high))

      whole : m ≡ mono_times ((numbering_of P).mono q) ((numbering_of P).mono s)
      whole = sym (W.there m f high) ∙ ap O.mono (sym e) ∙ mono-times P.n P.d IsAbove O W q s w

  -- the lesser rank has the greater monomial
  pub above_by_rank : (x y : ℕ) → x < y → y < (numbering_of P).count → IsAbove ((numbering_of P).mono x) ((numbering_of P).mono y)
  above_by_rank x y l m = above_of_less P.n P.d IsAbove O (ds_is_degree_order P.n) W x y l m
