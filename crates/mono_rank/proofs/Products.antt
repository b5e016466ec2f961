-- The laws of products of ranks, for any numbering by an order that goes by degree first.
-- A product is within bounds where its degree is at most d, and is then the rank of the product of the monomials; else it is the number of monomials.
use Rattle.std.proofs.Common.{◌≡◌, ℕ, ◌+◌, ◌<◌, ◌≤◌, ◌⊎◌, List, length, Bool, true, false, ◌&&◌, cond, ltb, leb, refl, ap, sym, ◌∙◌, inl, inr, arith}
use Rattle.std.proofs.lemmas.Bool.{cases_lt, and_parts, and_from, ltb-true, lt-ltb, leb-true, le-leb}
use Rattle.std.proofs.lemmas.List.{length-replicate}
use Rattle.local_order.specs.Mono.{degree, mono_one, mono_times}
use Rattle.local_order.proofs.Order.{degree-mono_times, length-mono_times, mono_times_comm, mono_times_assoc}
use Rattle.local_order.proofs.Division.{degree-one}
use Rattle.local_order.proofs.Quotients.{mono_times-degree_zero}
use Rattle.mono_rank.specs.Laws.{IsDegreeOrder, Numbering, IsNumbering, rank_times}

-- ---- within bounds
-- a and b are ranks, and the product of their monomials has degree at most d
pub record IsWithin (d : ℕ) (O : Numbering) (a b : ℕ) : Type 0 where
  pub left : a < O.count
  pub right : b < O.count
  pub low : degree (O.mono a) + degree (O.mono b) ≤ d

-- whether a and b are within bounds, as a test
abbrev within : ℕ → Numbering → ℕ → ℕ → Bool
within d O a b = ltb a O.count && (ltb b O.count && leb (degree (O.mono a) + degree (O.mono b)) d)

-- what passes the test is within bounds
within-true : (d : ℕ) (O : Numbering) (a b : ℕ) → within d O a b ≡ true → IsWithin d O a b
within-true d O a b e =
    let outer = and_parts (ltb a O.count) (ltb b O.count && leb (degree (O.mono a) + degree (O.mono b)) d) e in
    let inner = and_parts (ltb b O.count) (leb (degree (O.mono a) + degree (O.mono b)) d) outer.1 in
    record { left = ltb-true a O.count outer.0; right = ltb-true b O.count inner.0; low = leb-true (degree (O.mono a) + degree (O.mono b)) d inner.1 }

-- what is within bounds passes the test
within-intro : (d : ℕ) (O : Numbering) (a b : ℕ) → IsWithin d O a b → within d O a b ≡ true
within-intro d O a b s =
    and_from (ltb a O.count) (ltb b O.count && leb (degree (O.mono a) + degree (O.mono b)) d) (lt-ltb a O.count s.left)
    (and_from (ltb b O.count) (leb (degree (O.mono a) + degree (O.mono b)) d) (lt-ltb b O.count s.right) (le-leb (degree (O.mono a) + degree (O.mono b)) d s.low))

-- within bounds the product has the rank of the product of the monomials
pub times_within : (d : ℕ) (O : Numbering) (a b : ℕ) → IsWithin d O a b → rank_times d O a b ≡ O.rank (mono_times (O.mono a) (O.mono b))
times_within d O a b s = ap (λ t. cond t (O.rank (mono_times (O.mono a) (O.mono b))) O.count) (within-intro d O a b s)

-- two ranks are within bounds, or their product is the number of monomials
pub within_cases : (d : ℕ) (O : Numbering) (a b : ℕ) → IsWithin d O a b ⊎ ((IsWithin d O a b → ⊥) × (rank_times d O a b ≡ O.count))
within_cases d O a b = go (within d O a b) refl
  where
    go : (t : Bool) → within d O a b ≡ t → IsWithin d O a b ⊎ ((IsWithin d O a b → ⊥) × (rank_times d O a b ≡ O.count))
    go true e = inl (within-true d O a b e)
    go false e = inr (
      λ s. (let f : true ≡ false = sym (within-intro d O a b s) ∙ e in cc),
      ap (λ t. cond t (O.rank (mono_times (O.mono a) (O.mono b))) O.count) e,
    )

-- past the bounds the product is the number of monomials
pub times_past : (d : ℕ) (O : Numbering) (a b : ℕ) → (IsWithin d O a b → ⊥) → rank_times d O a b ≡ O.count
times_past d O a b f = go (within_cases d O a b)
  where
    go : IsWithin d O a b ⊎ ((IsWithin d O a b → ⊥) × (rank_times d O a b ≡ O.count)) → rank_times d O a b ≡ O.count
    go (inl s) = absurd (f s)
    go (inr h) = h.1

-- a product that is a rank is within bounds
pub within_of_rank : (d : ℕ) (O : Numbering) (a b : ℕ) → rank_times d O a b < O.count → IsWithin d O a b
within_of_rank d O a b l = go (within_cases d O a b)
  where
    go : IsWithin d O a b ⊎ ((IsWithin d O a b → ⊥) × (rank_times d O a b ≡ O.count)) → IsWithin d O a b
    go (inl s) = s
    go (inr h) = absurd (omega (arith, h.1))

-- two products are the same where each is within bounds if the other is, and then the products of the monomials are the same
pub times_same : (d : ℕ) (O : Numbering) (a b c e : ℕ) → (IsWithin d O a b → IsWithin d O c e) → (IsWithin d O c e → IsWithin d O a b) →
    (IsWithin d O a b → IsWithin d O c e → mono_times (O.mono a) (O.mono b) ≡ mono_times (O.mono c) (O.mono e)) → rank_times d O a b ≡ rank_times d O c e
times_same d O a b c e there back same = go (within_cases d O a b)
  where
    go : IsWithin d O a b ⊎ ((IsWithin d O a b → ⊥) × (rank_times d O a b ≡ O.count)) → rank_times d O a b ≡ rank_times d O c e
    go (inl s) = times_within d O a b s ∙ ap O.rank (same s (there s)) ∙ sym (times_within d O c e (there s))
    go (inr h) = h.1 ∙ sym (times_past d O c e (λ s. h.0 (back s)))

-- where a and b are within bounds, b and a are
within_comm : (d : ℕ) (O : Numbering) (a b : ℕ) → IsWithin d O a b → IsWithin d O b a
within_comm d O a b s = record { left = s.right; right = s.left; low = omega (arith, s.low) }

module _ (n d : ℕ) (Above : List ℕ → List ℕ → Type 0) (O : Numbering) (W : IsNumbering n d Above O) where
  -- ---- the monomial of a product
  -- the monomials of two ranks have as many exponents
  pub same_length : (a b : ℕ) → a < O.count → b < O.count → length (O.mono a) ≡ length (O.mono b)
  same_length a b l m = W.in_ring a l ∙ sym (W.in_ring b m)

  -- the product of monomials has n exponents
  product_in_ring : (a b : ℕ) → IsWithin d O a b → length (mono_times (O.mono a) (O.mono b)) ≡ n
  product_in_ring a b s = length-mono_times (O.mono a) (O.mono b) (same_length a b s.left s.right) ∙ W.in_ring b s.right

  -- within bounds the product of monomials has degree at most d
  product_low : (a b : ℕ) → IsWithin d O a b → degree (mono_times (O.mono a) (O.mono b)) ≤ d
  product_low a b s = omega (arith, degree-mono_times (O.mono a) (O.mono b), s.low)

  -- within bounds the product of ranks is the rank of the product
  pub mono-times : (a b : ℕ) → IsWithin d O a b → O.mono (rank_times d O a b) ≡ mono_times (O.mono a) (O.mono b)
  mono-times a b s = ap O.mono (times_within d O a b s) ∙ W.there _ (product_in_ring a b s) (product_low a b s)

  -- within bounds the product is a rank
  pub times_small : (a b : ℕ) → IsWithin d O a b → rank_times d O a b < O.count
  times_small a b s = omega (arith, times_within d O a b s, W.small _ (product_in_ring a b s) (product_low a b s))

  -- within bounds degrees add up
  pub degree-times : (a b : ℕ) → IsWithin d O a b → degree (O.mono (rank_times d O a b)) ≡ degree (O.mono a) + degree (O.mono b)
  degree-times a b s = ap degree (mono-times a b s) ∙ degree-mono_times (O.mono a) (O.mono b)

  -- ---- laws
  -- the factors may change places
  pub times_comm : (a b : ℕ) → rank_times d O a b ≡ rank_times d O b a
  times_comm a b =
      times_same d O a b b a (within_comm d O a b) (within_comm d O b a) (λ s t. mono_times_comm (O.mono a) (O.mono b))

  -- where (a b) c is within bounds, b c and a (b c) are
  within_right : (a b c : ℕ) → IsWithin d O (rank_times d O a b) c → IsWithin d O b c × IsWithin d O a (rank_times d O b c)
  within_right a b c s =
      let t = within_of_rank d O a b s.left in
      let u : IsWithin d O b c = record { left = t.right; right = s.right; low = omega (arith, s.low, degree-times a b t) } in
      (u, record { left = t.left; right = times_small b c u; low = omega (arith, s.low, degree-times a b t, degree-times b c u) })

  -- where a (b c) is within bounds, (a b) c is
  within_left : (a b c : ℕ) → IsWithin d O a (rank_times d O b c) → IsWithin d O (rank_times d O a b) c
  within_left a b c s =
      let t = within_of_rank d O b c s.right in
      let u : IsWithin d O a b = record { left = s.left; right = t.left; low = omega (arith, s.low, degree-times b c t) } in
      record { left = times_small a b u; right = t.right; low = omega (arith, s.low, degree-times b c t, degree-times a b u) }

  -- products may be taken in any order
  pub times_assoc : (a b c : ℕ) → rank_times d O (rank_times d O a b) c ≡ rank_times d O a (rank_times d O b c)
  times_assoc a b c =
      times_same d O (rank_times d O a b) c a (rank_times d O b c) (λ s. (within_right a b c s).1) (within_left a b c)
      (λ s t.
      ap (λ m. mono_times m (O.mono c)) (mono-times a b (within_of_rank d O a b s.left))
      ∙ mono_times_assoc (O.mono a) (O.mono b) (O.mono c)
      ∙ sym (ap (mono_times (O.mono a)) (mono-times b c (within_of_rank d O b c t.right))))

  -- a product with a monomial of degree 0 is the other factor
  times-degree_zero : (a b : ℕ) → IsWithin d O a b → degree (O.mono a) ≡ 0 → rank_times d O a b ≡ b
  times-degree_zero a b s z =
      times_within d O a b s
      ∙ ap O.rank (mono_times-degree_zero (O.mono a) (O.mono b) (same_length a b s.left s.right) z)
      ∙ W.back b s.right

module _ (n d : ℕ) (Above : List ℕ → List ℕ → Type 0) (O : Numbering) (D : IsDegreeOrder n Above) (W : IsNumbering n d Above O) where
  -- ---- 1
  -- 1 has a rank, so there are monomials
  pub some_monomials : 0 < O.count
  some_monomials = let z : ℕ = 0 in omega (arith, W.small (mono_one n) (length-replicate n z) (omega (arith, degree-one n)))

  -- the first monomial has degree 0
  first_degree : degree (O.mono 0) ≡ 0
  first_degree = go (cases_lt 0 (degree (O.mono 0)))
    where
      long : length (mono_one n) ≡ n
      long = let z : ℕ = 0 in length-replicate n z

      go : (0 < degree (O.mono 0)) ⊎ (degree (O.mono 0) ≤ 0) → degree (O.mono 0) ≡ 0
      go (inr l) = omega arith
      go (inl l) =
          let above : Above (mono_one n) (O.mono 0) = D.by_degree (mono_one n) (O.mono 0) (omega (arith, degree-one n)) in
          let less = W.falls (mono_one n) (O.mono 0) long (omega (arith, degree-one n)) (W.in_ring 0 some_monomials) (W.low 0 some_monomials) above in
          absurd (omega (arith, less, W.back 0 some_monomials))

  -- a product with the first monomial is the other factor
  pub times_unit : (a : ℕ) → a < O.count → rank_times d O 0 a ≡ a
  times_unit a l =
      times-degree_zero n d Above O W 0 a (record { left = some_monomials; right = l; low = omega (arith, first_degree, W.low a l) }) first_degree

  -- ---- the order
  -- the lesser rank has the greater monomial
  pub above_of_less : (b c : ℕ) → b < c → c < O.count → Above (O.mono b) (O.mono c)
  above_of_less b c l m = go (D.total (O.mono b) (O.mono c) (W.in_ring b (omega arith)) (W.in_ring c m))
    where
      go : (O.mono b ≡ O.mono c) ⊎ (Above (O.mono b) (O.mono c) ⊎ Above (O.mono c) (O.mono b)) → Above (O.mono b) (O.mono c)
      go (inl e) = absurd (omega (arith, ap O.rank e, W.back b (omega arith), W.back c m))
      go (inr (inl h)) = h
      go (inr (inr h)) =
          let bn : b < O.count = omega arith in
          absurd (omega (arith, W.falls (O.mono c) (O.mono b) (W.in_ring c m) (W.low c m) (W.in_ring b bn) (W.low b bn) h, W.back b bn, W.back c m))

  -- the product with the greater monomial has the lesser rank
  pub times_grows : (a b c : ℕ) → b < c → rank_times d O a c < O.count → rank_times d O a b < rank_times d O a c
  times_grows a b c l m =
      let s = within_of_rank d O a c m in
      let bn : b < O.count = omega (arith, s.right) in
      let above = above_of_less b c l s.right in
      let t : IsWithin d O a b = record { left = s.left; right = bn; low = omega (arith, D.degrees (O.mono b) (O.mono c) above, s.low) } in
      omega (
        arith,
        times_within d O a b t,
        times_within d O a c s,
        W.falls _ _ (product_in_ring n d Above O W a b t) (product_low n d Above O W a b t) (product_in_ring n d Above O W a c s) (product_low n d Above O W a c s)
            (D.products (O.mono a) (O.mono b) (O.mono c) (W.in_ring a s.left) (W.in_ring b bn) (W.in_ring c s.right) above),
      )

  -- a product has no lesser rank than a factor
  pub times_le : (a b : ℕ) → rank_times d O a b < O.count → b ≤ rank_times d O a b
  times_le a b l = go (cases_lt 0 (degree (O.mono a)))
    where
      s : IsWithin d O a b
      s = within_of_rank d O a b l

      go : (0 < degree (O.mono a)) ⊎ (degree (O.mono a) ≤ 0) → b ≤ rank_times d O a b
      go (inr z) = omega (arith, times-degree_zero n d Above O W a b s (omega arith))
      go (inl p) =
          let above : Above (O.mono b) (mono_times (O.mono a) (O.mono b)) = D.by_degree (O.mono b) (mono_times (O.mono a) (O.mono b)) (omega (arith, degree-mono_times (O.mono a) (O.mono b))) in
          omega (
            arith,
            W.back b s.right,
            times_within d O a b s,
            W.falls _ _ (W.in_ring b s.right) (W.low b s.right) (product_in_ring n d Above O W a b s) (product_low n d Above O W a b s) above,
          )
