-- What the table of monomials answers, as quotients, cofactors and products of the problem's ranks.
-- The table numbers the problem's monomials, so its ranks are the problem's.
use Rattle.std.proofs.Common.{◌≡◌, ℕ, ◌<◌, ◌≤◌, List, Option, Some, None, IsSome, MatchOption, refl, sym, ◌∙◌, ap, subst, arith}
use Rattle.local_order.specs.Mono.{degree, mono_times}
use Rattle.local_order.specs.Order.{IsAbove}
use Rattle.local_order.specs.Count.{monomial_count}
use Rattle.local_order.specs.Shape.{Shape, count}
use Rattle.sparse_poly.specs.Shape.{shape_of}
use Rattle.mono_rank.specs.Rank.{HasRank}
use Rattle.mono_rank.specs.Laws.{Numbering, IsNumbering, numbering, rank_quotient, rank_cofactor}
use Rattle.local_order.proofs.Order.{degree-mono_times}
use Rattle.mono_rank.proofs.Products.{IsWithin, times_within, within_of_rank}
use Rattle.sparse_poly.specs.Ideal.{Problem}
use Rattle.mora_law.specs.Ring.{numbering_of, ranks_of_problem}
use Rattle.mora_law.proofs.Ring.{numbering_is, count_is, rank_is, ranks_count, ranks_times, ranks_degree, has_rank}
use Rattle.cert_check.specs.Sparse.{HasTable}

-- a rank of the problem is one of the table
pub small : (P : Problem) (T : Shape) (r : ℕ) → HasTable P T → r < (ranks_of_problem P).n → r < count T
small P T r t l = subst (λ x. r < count x) (sym t) (let z : r < monomial_count P.n P.d = omega (arith, l, ranks_count P, count_is P) in z)

-- the table has as many monomials as the problem has ranks
pub all_ranks : (P : Problem) (T : Shape) → HasTable P T → (ranks_of_problem P).n ≡ count T
all_ranks P T t = ranks_count P ∙ count_is P ∙ ap count (sym t)

-- a monomial of degree at most d has a rank
pub some_rank : (T : Shape) (m : List ℕ) (o : Option ℕ) → MatchOption o (T.degree < degree m) (HasRank T m) → degree m ≤ T.degree → IsSome o
some_rank T m None h l = absurd (omega (arith, h, l))
some_rank T m (Some r) h l = refl

-- the one that is answered
pub rank_told : (T : Shape) (m : List ℕ) (o : Option ℕ) (r : ℕ) → MatchOption o (T.degree < degree m) (HasRank T m) → o ≡ Some r → HasRank T m r
rank_told T m o r h e = subst (λ o. MatchOption o (T.degree < degree m) (HasRank T m)) e h

-- its quotients are those of the ring
pub quotient_told : (P : Problem) (T : Shape) → HasTable P T → (r a : ℕ) → rank_quotient (numbering T) r a ≡ (ranks_of_problem P).quotient r a
unfolding ranks_of_problem numbering_of
quotient_told P T t r a = ap (λ x. rank_quotient (numbering x) r a) t

-- and so are its cofactors
pub cofactor_told : (P : Problem) (T : Shape) → HasTable P T → (a b : ℕ) → rank_cofactor (numbering T) a b ≡ (ranks_of_problem P).cofactor a b
unfolding ranks_of_problem numbering_of
cofactor_told P T t a b = ap (λ x. rank_cofactor (numbering x) a b) t

module _ (P : Problem) (some : 1 ≤ P.n) (T : Shape) (t : HasTable P T) where
  -- the numbering of the problem
  abbrev O : Numbering
  O = numbering_of P

  -- it goes by the order
  W : IsNumbering P.n P.d IsAbove (numbering_of P)
  W = numbering_is P some

  -- a monomial with a rank by the table has it in the problem
  in_problem : (m : List ℕ) (r : ℕ) → HasRank T m r → HasRank (shape_of P) m r
  in_problem m r k = subst (λ x. HasRank x m r) t k

  -- the monomial of that rank is it
  pub mono_of : (m : List ℕ) (r : ℕ) → HasRank T m r → (numbering_of P).mono r ≡ m
  mono_of m r k = let z = in_problem m r k in ap (numbering_of P).mono (sym (rank_is P m ∙ z.rank)) ∙ W.there m z.in_ring z.low

-- ---- products
module _ (P : Problem) (some : 1 ≤ P.n) (T : Shape) (t : HasTable P T) (a b : ℕ) (al : a < (ranks_of_problem P).n) (bl : b < (ranks_of_problem P).n) where
  -- the monomials of the two ranks
  abbrev pub left : List ℕ
  left = (numbering_of P).mono a

  -- the monomial of the second rank
  abbrev pub right : List ℕ
  right = (numbering_of P).mono b

  -- a rank of the problem is one of the table
  to_table : (m : List ℕ) (r : ℕ) → HasRank (shape_of P) m r → HasRank T m r
  to_table m r k = subst (λ x. HasRank x m r) (sym t) k

  -- they have their ranks in the table
  pub left_ranked : HasRank T left a
  left_ranked = to_table left a (has_rank P a some (omega (arith, al, ranks_count P)))

  -- The second monomial has the second rank.
  pub right_ranked : HasRank T right b
  right_ranked = to_table right b (has_rank P b some (omega (arith, bl, ranks_count P)))

  -- where the product's degree is too great its rank is past the last
  pub times_missed : T.degree < degree (mono_times left right) → (ranks_of_problem P).times a b < (ranks_of_problem P).n → ⊥
  times_missed h l =
      let w = within_of_rank P.d (numbering_of P) a b (omega (arith, l, ranks_times P a b, ranks_count P)) in
      absurd (omega (arith, h, w.low, ap (λ (x : Shape). x.degree) t, degree-mono_times left right))

  -- else it is the one that the table finds
  pub times_found : (r : ℕ) → HasRank T (mono_times left right) r → ((ranks_of_problem P).times a b ≡ r) × (r < (ranks_of_problem P).n)
  times_found r k =
      let W' = numbering_is P some in
      let z = subst (λ x. HasRank x (mono_times left right) r) t k in
      let w : IsWithin P.d (numbering_of P) a b = record { left = omega (arith, al, ranks_count P); right = omega (arith, bl, ranks_count P); low = omega (arith, z.low, degree-mono_times left right) } in
      let e : (numbering_of P).rank (mono_times left right) ≡ r = rank_is P _ ∙ z.rank in
      (ranks_times P a b ∙ times_within P.d (numbering_of P) a b w ∙ e, omega (arith, e, W'.small _ z.in_ring z.low, ranks_count P))

-- the degree that the table tells is that of the rank
pub degree_told : (P : Problem) → 1 ≤ P.n → (T : Shape) → HasTable P T → (r : ℕ) → r < (ranks_of_problem P).n → (x : ℕ) → ((m : List ℕ) → HasRank T m r → x ≡ degree m) → x ≡ (ranks_of_problem P).degree r
degree_told P some T t r l x f = f ((numbering_of P).mono r) (left_ranked P some T t r r l l) ∙ sym (ranks_degree P r)
