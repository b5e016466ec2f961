-- What a table of ranks answers, said of the problem's ranks.
-- These are those of the table's shape, for which the answers are told.
use Rattle.std.proofs.Common.{◌≡◌, ℕ, refl, sym, ◌∙◌, ap}
use Rattle.local_order.specs.Shape.{Shape, count}
use Rattle.sparse_poly.specs.Shape.{shape_of}
use Rattle.sparse_poly.specs.Ideal.{Problem}
use Rattle.mono_rank.specs.Laws.{numbering, rank_quotient}
use Rattle.rank_algebra.specs.Ranks.{Ranks}
use Rattle.mora_law.specs.Ring.{ranks_of_problem}
use Rattle.mora_law.proofs.Ring.{ranks_p, ring_of_problem, ring_count, ring_quotient}
use Rattle.trunc_row.proofs.Vectors.{IsRing}

-- there are as many ranks as monomials
pub ranks_n : (P : Problem) → (ranks_of_problem P).n ≡ count (shape_of P)
ranks_n P = ap (λ (R : Ranks). R.n) (ring_of_problem P) ∙ ring_count P.p (shape_of P)

-- the quotient that a table answers is the quotient of the ranks
pub quotient_is : (P : Problem) (T : Shape) (r a : ℕ) → T ≡ shape_of P → rank_quotient (numbering T) r a ≡ (ranks_of_problem P).quotient r a
quotient_is P T r a e =
    ap (λ S. rank_quotient (numbering S) r a) e ∙ sym (ring_quotient P.p (shape_of P) r a) ∙ sym (ap (λ (R : Ranks). R.quotient r a) (ring_of_problem P))

-- the ranks of a problem are those of the monomials
pub ring_is : (P : Problem) → IsRing P.p (shape_of P) (ranks_of_problem P)
ring_is P = record { field = ranks_p P; all = ranks_n P; quotient = λ r a. sym (quotient_is P (shape_of P) r a refl) }
