-- The first member of least ecart among those that reduce.
-- It is found from the end on: a member takes the place of the one found behind it where its ecart is at most as great.
use Rattle.std.proofs.Common.{◌≡◌, ℕ, ◌+◌, ◌<◌, ◌≤◌, ◌⊎◌, List, length, Option, Some, None, inl, inr, ap, subst, arith}
use Rattle.std.proofs.lemmas.Bool.{cases_lt}
use Rattle.local_order.specs.Shape.{Shape}
use Rattle.ecart.specs.declared.summary.Summary.{Summary}
use Rattle.ecart.specs.Choice.{Reduces, ecart_at, IsFirstLeast, IsPlace, HasNoGreaterEcart}

-- the first member of least ecart among those from place `start` on that reduce is at place i
pub record LeastFrom (T : Shape) (list : List Summary) (r start i : ℕ) : Type 0 where
  pub from : start ≤ i
  pub within : i < length list
  pub reduces : Reduces T list r i
  pub least : (j : ℕ) → start ≤ j → j < length list → Reduces T list r j → ecart_at list i ≤ ecart_at list j
  pub first : (j : ℕ) → start ≤ j → j < i → Reduces T list r j → ecart_at list i < ecart_at list j

-- it is what was found, and nothing was where none reduces
abbrev pub FoundFrom : Shape → List Summary → ℕ → ℕ → Option ℕ → Type 0
FoundFrom T list r start None = (j : ℕ) → start ≤ j → j < length list → Reduces T list r j → ⊥
FoundFrom T list r start (Some i) = LeastFrom T list r start i

-- what was found is a place of the list
pub place_of : (T : Shape) (list : List Summary) (r start : ℕ) (best : Option ℕ) → FoundFrom T list r start best → IsPlace list best
place_of T list r start None h = tt
place_of T list r start (Some i) h = h.within

-- what was found from the first place on is the first of least ecart
pub found_all : (T : Shape) (list : List Summary) (r : ℕ) (best : Option ℕ) → FoundFrom T list r 0 best → IsFirstLeast T list r best
found_all T list r None h = λ j l w. h j (omega arith) l w
found_all T list r (Some i) h = record {
  within = h.within;
  reduces = h.reduces;
  least = λ j l w. h.least j (omega arith) l w;
  first = λ j l w. h.first j (omega arith) l w;
}

-- a member that reduces and has no greater ecart than what was found behind it is found
pub found_next : (T : Shape) (list : List Summary) (r i : ℕ) (best : Option ℕ) → FoundFrom T list r (i + 1) best → i < length list
    → HasNoGreaterEcart list i best → Reduces T list r i → FoundFrom T list r i (Some i)
found_next T list r i best h l e w = record {
  from = omega arith;
  within = l;
  reduces = w;
  least = λ j f m v. go j v f m (cases_lt i j);
  first = λ j f m v. absurd (omega (arith, f, m));
}
  where
    behind : (best : Option ℕ) → FoundFrom T list r (i + 1) best → HasNoGreaterEcart list i best → (j : ℕ) → i < j → j < length list → Reduces T list r j → ecart_at list i ≤ ecart_at list j
    behind None h e j f m v = absurd (h j (omega arith) m v)
    behind (Some b) h e j f m v = omega (arith, e, h.least j (omega arith) m v)

    go : (j : ℕ) → Reduces T list r j → i ≤ j → j < length list → (i < j) ⊎ (j ≤ i) → ecart_at list i ≤ ecart_at list j
    go j v f m (inl b) = behind best h e j b m v
    go j v f m (inr b) = let q : i ≡ j = omega arith in subst (λ k. ecart_at list i ≤ ecart_at list k) q (omega arith)

-- a member that doesn't reduce, or has a greater ecart than what was found behind it, changes nothing
pub found_before : (T : Shape) (list : List Summary) (r i : ℕ) (best : Option ℕ) → FoundFrom T list r (i + 1) best
    → (HasNoGreaterEcart list i best → Reduces T list r i → ⊥) → FoundFrom T list r i best
found_before T list r i None h none = λ j f l w. go j w l f (cases_lt i j)
  where
    go : (j : ℕ) → Reduces T list r j → j < length list → i ≤ j → (i < j) ⊎ (j ≤ i) → ⊥
    go j w l f (inl m) = h j (omega arith) l w
    go j w l f (inr m) = let q : j ≡ i = omega arith in none tt (subst (Reduces T list r) q w)
found_before T list r i (Some b) h none = record {
  from = omega (arith, h.from);
  within = h.within;
  reduces = h.reduces;
  least = λ j f l w. less j w l f (cases_lt i j);
  first = λ j f l w. go j w l f (cases_lt i j);
}
  where
    greater : Reduces T list r i → ecart_at list b < ecart_at list i
    greater w = at (cases_lt (ecart_at list b) (ecart_at list i))
      where
        at : (ecart_at list b < ecart_at list i) ⊎ (ecart_at list i ≤ ecart_at list b) → ecart_at list b < ecart_at list i
        at (inl m) = m
        at (inr m) = absurd (none m w)

    less : (j : ℕ) → Reduces T list r j → j < length list → i ≤ j → (i < j) ⊎ (j ≤ i) → ecart_at list b ≤ ecart_at list j
    less j w l f (inl m) = h.least j (omega arith) l w
    less j w l f (inr m) = let q : j ≡ i = omega arith in omega (arith, greater (subst (Reduces T list r) q w), ap (ecart_at list) q)

    go : (j : ℕ) → Reduces T list r j → j < b → i ≤ j → (i < j) ⊎ (j ≤ i) → ecart_at list b < ecart_at list j
    go j w l f (inl m) = h.first j (omega arith) l w
    go j w l f (inr m) = let q : j ≡ i = omega arith in omega (arith, greater (subst (Reduces T list r) q w), ap (ecart_at list) q)
