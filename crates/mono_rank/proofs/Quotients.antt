-- The laws of quotients of ranks and of least common multiples, for any numbering.
-- Where one monomial divides another, the quotient of their ranks is the rank of the quotient; what a lacks to b is a rank for all ranks a and b.
use Rattle.std.proofs.Common.{◌≡◌, ℕ, ◌<◌, ◌≤◌, List, length, Bool, true, false, ◌&&◌, Some, None, cond, ltb, refl, ap, sym, ◌∙◌, arith}
use Rattle.std.proofs.Math.Path.{ap₂}
use Rattle.std.proofs.lemmas.Bool.{and_parts, and_from, ltb-true, lt-ltb}
use Rattle.local_order.specs.Mono.{degree, mono_times, mono_quotient, divides}
use Rattle.local_order.proofs.Order.{degree-mono_times, length-mono_quotient, mono_times-mono_quotient, divides-mono_times}
use Rattle.local_order.proofs.Quotients.{degree-mono_quotient, mono_quotient_of_product, common_multiple_from_both, cofactor_divides, cofactor_gives_other}
use Rattle.mono_rank.specs.Laws.{Numbering, IsNumbering, rank_times, rank_quotient, rank_cofactor}
use Rattle.mono_rank.proofs.Products.{IsWithin, times_within, within_of_rank, times_same, same_length, mono-times}

-- ---- quotients
-- r and a are ranks, the monomial of a divides that of r, and s is the rank of the quotient
pub record IsOver (O : Numbering) (r a s : ℕ) : Type 0 where
  pub whole : r < O.count
  pub part : a < O.count
  pub divisor : divides (O.mono a) (O.mono r) ≡ true
  pub rank : O.rank (mono_quotient (O.mono r) (O.mono a)) ≡ s

-- what a test lets through has passed it
let_through : (t : Bool) (v s : ℕ) → cond t (Some v) None ≡ Some s → (t ≡ true) × (v ≡ s)
let_through true v s e = (refl, cc)
let_through false v s e = absurd (cc)

-- a quotient of ranks is the rank of the quotient
pub over_is : (O : Numbering) (r a s : ℕ) → rank_quotient O r a ≡ Some s → IsOver O r a s
over_is O r a s e =
    let found = let_through (ltb r O.count && (ltb a O.count && divides (O.mono a) (O.mono r))) (O.rank (mono_quotient (O.mono r) (O.mono a))) s e in
    let outer = and_parts (ltb r O.count) (ltb a O.count && divides (O.mono a) (O.mono r)) found.0 in
    let inner = and_parts (ltb a O.count) (divides (O.mono a) (O.mono r)) outer.1 in
    record { whole = ltb-true r O.count outer.0; part = ltb-true a O.count inner.0; divisor = inner.1; rank = found.1 }

-- where one monomial divides another, the rank of the quotient is the quotient of the ranks
pub is_over : (O : Numbering) (r a s : ℕ) → IsOver O r a s → rank_quotient O r a ≡ Some s
is_over O r a s h =
    ap (λ t. cond t (Some (O.rank (mono_quotient (O.mono r) (O.mono a)))) None)
    (and_from (ltb r O.count) (ltb a O.count && divides (O.mono a) (O.mono r)) (lt-ltb r O.count h.whole)
    (and_from (ltb a O.count) (divides (O.mono a) (O.mono r)) (lt-ltb a O.count h.part) h.divisor))
    ∙ ap Some h.rank

module _ (n d : ℕ) (Above : List ℕ → List ℕ → Type 0) (O : Numbering) (W : IsNumbering n d Above O) where
  -- a quotient has n exponents
  quotient_in_ring : (r a : ℕ) → r < O.count → length (mono_quotient (O.mono r) (O.mono a)) ≡ n
  quotient_in_ring r a l = length-mono_quotient (O.mono r) (O.mono a) ∙ W.in_ring r l

  -- a quotient has degree at most d
  quotient_low : (r a : ℕ) → r < O.count → degree (mono_quotient (O.mono r) (O.mono a)) ≤ d
  quotient_low r a l = omega (arith, degree-mono_quotient (O.mono r) (O.mono a), W.low r l)

  -- ranks whose monomials multiply to the monomial of a rank do so too
  times_from_monomials : (a s r : ℕ) → a < O.count → s < O.count → r < O.count → mono_times (O.mono a) (O.mono s) ≡ O.mono r → rank_times d O a s ≡ r
  times_from_monomials a s r l k m e =
      let t : IsWithin d O a s = record { left = l; right = k; low = omega (arith, degree-mono_times (O.mono a) (O.mono s), ap degree e, W.low r m) } in
      times_within d O a s t ∙ ap O.rank e ∙ W.back r m

  -- a divisor times the quotient gives back what is divided
  pub times_over : (r a s : ℕ) → rank_quotient O r a ≡ Some s → rank_times d O a s ≡ r
  times_over r a s e =
      let h = over_is O r a s e in
      let small : s < O.count = omega (arith, W.small _ (quotient_in_ring r a h.whole) (quotient_low r a h.whole), h.rank) in
      let at : O.mono s ≡ mono_quotient (O.mono r) (O.mono a) = ap O.mono (sym h.rank) ∙ W.there _ (quotient_in_ring r a h.whole) (quotient_low r a h.whole) in
      times_from_monomials a s r h.part small h.whole
      (ap (mono_times (O.mono a)) at ∙ sym (mono_times-mono_quotient (O.mono a) (O.mono r) (same_length n d Above O W a r h.part h.whole) h.divisor))

  -- a product that is a rank, divided by one factor, is the other
  pub over_times : (a s : ℕ) → rank_times d O a s < O.count → rank_quotient O (rank_times d O a s) a ≡ Some s
  over_times a s l =
      let t = within_of_rank d O a s l in
      let m = mono-times n d Above O W a s t in
      let long = same_length n d Above O W a s t.left t.right in
      is_over O (rank_times d O a s) a s (record {
        whole = l;
        part = t.left;
        divisor = ap (divides (O.mono a)) m ∙ divides-mono_times (O.mono a) (O.mono s) (sym long);
        rank = ap O.rank (ap (λ x. mono_quotient x (O.mono a)) m ∙ mono_quotient_of_product (O.mono a) (O.mono s) long) ∙ W.back s t.right;
      })

  -- ---- least common multiples
  -- what a lacks to b is the rank of the quotient of b by a, as far as it goes
  cofactor_is : (a b : ℕ) → a < O.count → b < O.count → rank_cofactor O a b ≡ O.rank (mono_quotient (O.mono b) (O.mono a))
  cofactor_is a b l m =
      ap (λ t. cond t (O.rank (mono_quotient (O.mono b) (O.mono a))) O.count) (and_from (ltb a O.count) (ltb b O.count) (lt-ltb a O.count l) (lt-ltb b O.count m))

  -- the monomial of what a lacks to b is that quotient
  pub mono-cofactor : (a b : ℕ) → a < O.count → b < O.count → O.mono (rank_cofactor O a b) ≡ mono_quotient (O.mono b) (O.mono a)
  mono-cofactor a b l m = ap O.mono (cofactor_is a b l m) ∙ W.there _ (quotient_in_ring b a m) (quotient_low b a m)

  -- what a lacks to b is a rank where a and b are ranks
  pub cofactor_small : (a b : ℕ) → a < O.count → b < O.count → rank_cofactor O a b < O.count
  cofactor_small a b l m = omega (arith, cofactor_is a b l m, W.small _ (quotient_in_ring b a m) (quotient_low b a m))

  -- what a lacks to b is a rank only where a and b are ranks
  ranks_of_cofactor : (a b : ℕ) → rank_cofactor O a b < O.count → (a < O.count) × (b < O.count)
  ranks_of_cofactor a b l =
      let parts = and_parts (ltb a O.count) (ltb b O.count) (tested (ltb a O.count && ltb b O.count) (O.rank (mono_quotient (O.mono b) (O.mono a))) l) in
      (ltb-true a O.count parts.0, ltb-true b O.count parts.1)
    where
      tested : (t : Bool) (v : ℕ) → cond t v O.count < O.count → t ≡ true
      tested true v l = refl
      tested false v l = absurd (omega arith)

  -- a times what it lacks to b, and b times what it lacks to a, have one monomial
  common_monomial : (a b : ℕ) → a < O.count → b < O.count → mono_times (O.mono a) (O.mono (rank_cofactor O a b)) ≡ mono_times (O.mono b) (O.mono (rank_cofactor O b a))
  common_monomial a b l m =
      ap (mono_times (O.mono a)) (mono-cofactor a b l m)
      ∙ common_multiple_from_both (O.mono a) (O.mono b) (same_length n d Above O W a b l m)
      ∙ sym (ap (mono_times (O.mono b)) (mono-cofactor b a m l))

  -- where one of them is within bounds, the other is
  within_across : (a b : ℕ) → IsWithin d O a (rank_cofactor O a b) → IsWithin d O b (rank_cofactor O b a)
  within_across a b s =
      let both = ranks_of_cofactor a b s.right in
      record {
        left = both.1;
        right = cofactor_small b a both.1 both.0;
        low = omega (
          arith,
          s.low,
          ap degree (common_monomial a b both.0 both.1),
          degree-mono_times (O.mono a) (O.mono (rank_cofactor O a b)),
          degree-mono_times (O.mono b) (O.mono (rank_cofactor O b a)),
        );
      }

  -- the least common multiple is the same from both sides
  pub lcm_from_both : (a b : ℕ) → rank_times d O a (rank_cofactor O a b) ≡ rank_times d O b (rank_cofactor O b a)
  lcm_from_both a b =
      times_same d O a (rank_cofactor O a b) b (rank_cofactor O b a) (within_across a b) (within_across b a) (λ s t. common_monomial a b s.left t.left)

  -- each common multiple is a multiple of the least common multiple
  pub lcm_is_least : (a b x y : ℕ) → rank_times d O a x < O.count → rank_times d O a x ≡ rank_times d O b y →
      (c : ℕ) × (rank_times d O c (rank_cofactor O a b) ≡ x) × (rank_times d O c (rank_cofactor O b a) ≡ y)
  lcm_is_least a b x y l e = (
    O.rank rest,
    times_from_monomials (O.rank rest) (rank_cofactor O a b) x small (cofactor_small a b s.left t.left) s.right
        (ap₂ mono_times at (mono-cofactor a b s.left t.left) ∙ cofactor_divides (O.mono a) (O.mono b) (O.mono x) (O.mono y) ab xb same),
    times_from_monomials (O.rank rest) (rank_cofactor O b a) y small (cofactor_small b a t.left s.left) t.right
        (ap₂ mono_times at (mono-cofactor b a t.left s.left) ∙ cofactor_gives_other (O.mono a) (O.mono b) (O.mono x) (O.mono y) ab xb yb same),
  )
    where
      s : IsWithin d O a x
      s = within_of_rank d O a x l

      t : IsWithin d O b y
      t = within_of_rank d O b y (omega (arith, l, e))

      same : mono_times (O.mono a) (O.mono x) ≡ mono_times (O.mono b) (O.mono y)
      same = sym (mono-times n d Above O W a x s) ∙ ap O.mono e ∙ mono-times n d Above O W b y t

      ab : length (O.mono a) ≡ length (O.mono b)
      ab = same_length n d Above O W a b s.left t.left

      xb : length (O.mono x) ≡ length (O.mono b)
      xb = same_length n d Above O W x b s.right t.left

      yb : length (O.mono y) ≡ length (O.mono b)
      yb = same_length n d Above O W y b t.right t.left

      rest : List ℕ
      rest = mono_quotient (O.mono x) (mono_quotient (O.mono b) (O.mono a))

      long : length rest ≡ n
      long = length-mono_quotient (O.mono x) (mono_quotient (O.mono b) (O.mono a)) ∙ W.in_ring x s.right

      low : degree rest ≤ d
      low = omega (arith, degree-mono_quotient (O.mono x) (mono_quotient (O.mono b) (O.mono a)), W.low x s.right)

      small : O.rank rest < O.count
      small = W.small rest long low

      at : O.mono (O.rank rest) ≡ rest
      at = W.there rest long low
