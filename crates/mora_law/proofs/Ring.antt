-- The ranks of a problem have the laws of ranks: its numbering numbers the monomials by the order ds, and the inverse is one.
-- No other proof looks into the numbering of a problem.
use Rattle.std.proofs.Common.{◌≡◌, ℕ, ◌*◌, ◌%◌, ◌<◌, ◌≤◌, List, [], refl, sym, ◌∙◌, ap, arith}
use Rattle.std.proofs.Math.Nat.{mod-lt, mod-mod}
use Rattle.std.proofs.lemmas.Nat.{mul-mod}
use Rattle.prime_field.specs.Prime.{IsPrime, InTable}
use Rattle.prime_field.specs.Inverse.{inverse}
use Rattle.prime_field.proofs.Inverse.{inverse-law}
use Rattle.prime_field.proofs.Primality.{IsPrime-table}
use Rattle.local_order.specs.Order.{IsAbove}
use Rattle.local_order.specs.Mono.{degree, mono_one}
use Rattle.local_order.specs.Count.{monomial_count}
use Rattle.local_order.specs.Shape.{Shape, count}
use Rattle.sparse_poly.specs.Shape.{shape_of}
use Rattle.mono_rank.specs.Rank.{HasRank, rank_of, mono_of_rank}
use Rattle.mono_rank.specs.Laws.{IsNumbering, numbering, rank_times, rank_quotient, rank_cofactor, ranks_of}
use Rattle.rank_algebra.specs.Ranks.{IsRanks}
use Rattle.mono_rank.proofs.ByRank.{rank-one}
use Rattle.mono_rank.proofs.Numbers.{numbering_has_laws, ds_is_degree_order, ranks_are_numbering}
use Rattle.sparse_poly.specs.Ideal.{Problem, IsProblem}
use Rattle.sparse_poly.proofs.Unique.{in_of_canonical}
use Rattle.mora_law.specs.Ring.{numbering_of, ranks_of_problem, ring, IsAdmissible}

-- the numbering of a problem numbers the monomials by the order ds
pub numbering_is : (P : Problem) → 1 ≤ P.n → IsNumbering P.n P.d IsAbove (numbering_of P)
unfolding numbering_of
numbering_is P some = ranks_are_numbering (shape_of P) some

-- ---- the numbering by the order ds
pub count_is : (P : Problem) → (numbering_of P).count ≡ monomial_count P.n P.d
unfolding numbering_of
count_is P = refl

-- the rank of a monomial
pub rank_is : (P : Problem) (m : List ℕ) → (numbering_of P).rank m ≡ rank_of (shape_of P) m
unfolding numbering_of
rank_is P m = refl

-- the monomial of a rank
pub mono_is : (P : Problem) (r : ℕ) → (numbering_of P).mono r ≡ mono_of_rank (shape_of P) r
unfolding numbering_of
mono_is P r = refl

-- the monomial of a rank has the rank
pub has_rank : (P : Problem) (r : ℕ) → 1 ≤ P.n → r < (numbering_of P).count → HasRank (shape_of P) ((numbering_of P).mono r) r
has_rank P r some l = let W = numbering_is P some in
    record { in_ring = W.in_ring r l; low = W.low r l; rank = sym (rank_is P ((numbering_of P).mono r)) ∙ W.back r l }

-- 1 has rank 0
pub rank_of_one : (P : Problem) → 1 ≤ P.n → (numbering_of P).rank (mono_one P.n) ≡ 0
rank_of_one P some = rank_is P (mono_one P.n) ∙ (rank-one (shape_of P) some).rank

-- and is the monomial of rank 0
pub mono_of_zero : (P : Problem) → 1 ≤ P.n → (numbering_of P).mono 0 ≡ mono_one P.n
mono_of_zero P some =
    let h = rank-one (shape_of P) some in
    ap (numbering_of P).mono (sym (rank_of_one P some)) ∙ (numbering_is P some).there (mono_one P.n) h.in_ring h.low

-- ---- the laws of ranks
-- the inverse of what a number stands for
inverse_is : (p c : ℕ) → IsPrime p → (c % p ≡ 0 → ⊥) → (inverse p (c % p) * c) % p ≡ 1 % p
inverse_is p c prime n =
    mul-mod (inverse p (c % p)) c p
    ∙ ap (λ x. (inverse p (c % p) % p * x) % p) (sym (mod-mod c p))
    ∙ sym (mul-mod (inverse p (c % p)) (c % p) p)
    ∙ ap (λ x. x % p) (let e : inverse p (c % p) * (c % p) ≡ c % p * inverse p (c % p) = omega arith in e)
    ∙ inverse-law p (c % p) prime (mod-lt c (omega (arith, prime.two_up))) n
    ∙ (let two : 2 ≤ p = prime.two_up in let e : 1 ≡ 1 % p = grind arith in e)

-- the ranks of a problem have the laws of ranks
pub ranks_are : (P : Problem) → IsAdmissible P → IsRanks (ranks_of_problem P)
unfolding ranks_of_problem
ranks_are P h =
    numbering_has_laws P.n P.d P.p (λ c. inverse P.p (c % P.p)) IsAbove (numbering_of P) (ds_is_degree_order P.n) (numbering_is P h.some)
    (omega (arith, h.prime.two_up)) (λ c. inverse_is P.p c h.prime)

-- ---- what the record of ranks has
pub ranks_p : (P : Problem) → (ranks_of_problem P).p ≡ P.p
unfolding ranks_of_problem
ranks_p P = refl

-- the number of monomials
pub ranks_count : (P : Problem) → (ranks_of_problem P).n ≡ (numbering_of P).count
unfolding ranks_of_problem
ranks_count P = refl

-- products of ranks
pub ranks_times : (P : Problem) (a b : ℕ) → (ranks_of_problem P).times a b ≡ rank_times P.d (numbering_of P) a b
unfolding ranks_of_problem
ranks_times P a b = refl

-- quotients of ranks
pub ranks_quotient : (P : Problem) (r a : ℕ) → (ranks_of_problem P).quotient r a ≡ rank_quotient (numbering_of P) r a
unfolding ranks_of_problem
ranks_quotient P r a = refl

-- cofactors of ranks
pub ranks_cofactor : (P : Problem) (a b : ℕ) → (ranks_of_problem P).cofactor a b ≡ rank_cofactor (numbering_of P) a b
unfolding ranks_of_problem
ranks_cofactor P a b = refl

-- the degree of a rank
pub ranks_degree : (P : Problem) (r : ℕ) → (ranks_of_problem P).degree r ≡ degree ((numbering_of P).mono r)
unfolding ranks_of_problem
ranks_degree P r = refl

-- inverses
pub ranks_inverse : (P : Problem) (c : ℕ) → (ranks_of_problem P).inverse_of c ≡ inverse P.p (c % P.p)
unfolding ranks_of_problem
ranks_inverse P c = refl

-- the record is that of the numbering
pub ranks_record : (P : Problem) → ranks_of_problem P ≡ ranks_of P.p (λ c. inverse P.p (c % P.p)) P.d (numbering_of P)
unfolding ranks_of_problem
ranks_record P = refl

-- a problem within the limits has a prime, a variable, and generators in its variables
pub problem_is_admissible : (P : Problem) → IsProblem P → IsAdmissible P
problem_is_admissible P h = record {
  prime = IsPrime-table P.p h.prime;
  some = h.some;
  in_ring = λ k l d. in_of_canonical P.p P.n _ (h.canonical k l d);
}

-- ---- the ring of a field and the monomials
-- it is that of each problem over the field, in these variables and modulo this degree
pub ring_of_problem : (P : Problem) → ranks_of_problem P ≡ ring P.p (shape_of P)
unfolding ranks_of_problem numbering_of
ring_of_problem P = refl

-- its field has p members
pub ring_p : (p : ℕ) (T : Shape) → (ring p T).p ≡ p
unfolding ranks_of_problem numbering_of
ring_p p T = refl

-- it has a rank for each monomial of degree at most d
pub ring_count : (p : ℕ) (T : Shape) → (ring p T).n ≡ count T
unfolding ranks_of_problem numbering_of
ring_count p T = refl

-- its products are those of monomials by rank
pub ring_times : (p : ℕ) (T : Shape) (a b : ℕ) → (ring p T).times a b ≡ rank_times T.degree (numbering T) a b
unfolding ranks_of_problem numbering_of
ring_times p T a b = refl

-- and so are its quotients
pub ring_quotient : (p : ℕ) (T : Shape) (r a : ℕ) → (ring p T).quotient r a ≡ rank_quotient (numbering T) r a
unfolding ranks_of_problem numbering_of
ring_quotient p T r a = refl

-- and so are its cofactors
pub ring_cofactor : (p : ℕ) (T : Shape) (a b : ℕ) → (ring p T).cofactor a b ≡ rank_cofactor (numbering T) a b
unfolding ranks_of_problem numbering_of
ring_cofactor p T a b = refl

-- its degrees are those of monomials
pub ring_degree : (p : ℕ) (T : Shape) (r : ℕ) → (ring p T).degree r ≡ degree (mono_of_rank T r)
unfolding ranks_of_problem numbering_of
ring_degree p T r = refl

-- its inverses are those of residues
pub ring_inverse : (p : ℕ) (T : Shape) (c : ℕ) → (ring p T).inverse_of c ≡ inverse p (c % p)
unfolding ranks_of_problem numbering_of
ring_inverse p T c = refl

-- it has the laws of computing by rank
pub ring_laws : (p : ℕ) (T : Shape) → InTable p → 1 ≤ T.variables → IsRanks (ring p T)
ring_laws p T t some = ranks_are (record { p = p; n = T.variables; d = T.degree; gens = [] }) (record { prime = IsPrime-table p t; some = some; in_ring = λ k x l. absurd (omega (arith, l)) })
