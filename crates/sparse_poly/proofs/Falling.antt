-- Lists of monomials in falling order with the same members are the same.
-- Each head is in the other list, and above all that follows its own, so the heads are the same, and so are the tails.
use Rattle.std.proofs.Common.{◌≡◌, ℕ, zero, suc, ◌<◌, ◌⊎◌, List, [], ◌∷◌, length, get_or, Contains, refl, sym, ◌∙◌, inl, inr, subst, arith}
use Rattle.std.specs.List.{AllZip}
use Rattle.local_order.proofs.Order.{above_irrefl, above_trans}
use Rattle.sparse_poly.specs.Ideal.{Problem, IsGreater, IsFalling}

-- ---- members
-- x is the first, or among the others
abbrev pub Among : {X : Type 0} → List X → X → Type 0
Among [] x = ⊥
Among (y ∷ ys) x = (y ≡ x) ⊎ Among ys x

-- a member is among the list
pub among_of_contains : {X : Type 0} (xs : List X) (x : X) → Contains xs x → Among xs x
among_of_contains {X = X} xs x (k, l, e) = go xs k l e
  where
    go : (xs : List X) (k : ℕ) → k < length xs → get_or xs k x ≡ x → Among xs x
    go [] k l e = absurd (omega arith)
    go (y ∷ ys) zero l e = inl e
    go (y ∷ ys) (suc k) l e = inr (go ys k (omega arith) e)

-- and what is among it is a member
pub contains_of_among : {X : Type 0} (xs : List X) (x : X) → Among xs x → Contains xs x
contains_of_among [] x h = absurd h
contains_of_among (y ∷ ys) x (inl e) = (0, omega arith, e)
contains_of_among (y ∷ ys) x (inr h) = let r = contains_of_among ys x h in (suc r.0, omega (arith, r.1), r.2)

-- where R holds place by place, each member of the first list has a member of the second
pub paired_left : {X Y : Type 0} (R : X → Y → Type 0) (xs : List X) (ys : List Y) (x : X) → AllZip R xs ys → Among xs x → (y : Y) × Among ys y × R x y
paired_left R [] ys x r h = absurd h
paired_left R (a ∷ xs) [] x r h = absurd r
paired_left R (a ∷ xs) (b ∷ ys) x r (inl e) = (b, inl refl, subst (λ z. R z b) e r.0)
paired_left R (a ∷ xs) (b ∷ ys) x r (inr h) = let q = paired_left R xs ys x r.1 h in (q.0, inr q.1, q.2)

-- and each member of the second one of the first
pub paired_right : {X Y : Type 0} (R : X → Y → Type 0) (xs : List X) (ys : List Y) (y : Y) → AllZip R xs ys → Among ys y → (x : X) × Among xs x × R x y
paired_right R [] [] y r h = absurd h
paired_right R [] (b ∷ ys) y r h = absurd r
paired_right R (a ∷ xs) [] y r h = absurd h
paired_right R (a ∷ xs) (b ∷ ys) y r (inl e) = (a, inl refl, subst (R a) e r.0)
paired_right R (a ∷ xs) (b ∷ ys) y r (inr h) = let q = paired_right R xs ys y r.1 h in (q.0, inr q.1, q.2)

-- ---- falling lists
-- the first is above each other
head_above : (P : Problem) (a : List ℕ) (s : List (List ℕ)) (m : List ℕ) → IsFalling P (a ∷ s) → Among s m → IsGreater P a m
head_above P a [] m f h = absurd h
head_above P a (b ∷ s) m f (inl e) = subst (λ x. IsGreater P a x) e f.0
head_above P a (b ∷ s) m f (inr h) = above_trans a b m f.0 (head_above P b s m f.1 h)

-- the others fall as well
falling_tail : (P : Problem) (a : List ℕ) (s : List (List ℕ)) → IsFalling P (a ∷ s) → IsFalling P s
falling_tail P a [] f = tt
falling_tail P a (b ∷ s) f = f.1

-- each member of s is one of t
abbrev Within : List (List ℕ) → List (List ℕ) → Type 0
Within s t = (m : List ℕ) → Among s m → Among t m

-- the heads are the same
same_heads : (P : Problem) (x y : List ℕ) (s t : List (List ℕ)) → IsFalling P (x ∷ s) → IsFalling P (y ∷ t) → Within (x ∷ s) (y ∷ t) → Within (y ∷ t) (x ∷ s) → x ≡ y
same_heads P x y s t f g a b = go (a x (inl refl)) (b y (inl refl))
  where
    go : Among (y ∷ t) x → Among (x ∷ s) y → x ≡ y
    go (inl e) h = sym e
    go (inr h) (inl e) = e
    go (inr h) (inr k) = absurd (above_irrefl x (above_trans x y x (head_above P x s y f k) (head_above P y t x g h)))

-- behind the same head the members are the same
tail_within : (P : Problem) (x y : List ℕ) (s t : List (List ℕ)) → IsFalling P (x ∷ s) → x ≡ y → Within (x ∷ s) (y ∷ t) → Within s t
tail_within P x y s t f e a m h = go (a m (inr h))
  where
    go : Among (y ∷ t) m → Among t m
    go (inl q) = absurd (above_irrefl x (subst (λ z. IsGreater P x z) (sym q ∙ sym e) (head_above P x s m f h)))
    go (inr k) = k

-- so the lists are
pub falling_same : (P : Problem) (s t : List (List ℕ)) → IsFalling P s → IsFalling P t → ((m : List ℕ) → Among s m → Among t m) → ((m : List ℕ) → Among t m → Among s m) → s ≡ t
falling_same P [] [] f g a b = refl
falling_same P [] (y ∷ t) f g a b = absurd (b y (inl refl))
falling_same P (x ∷ s) [] f g a b = absurd (a x (inl refl))
falling_same P (x ∷ s) (y ∷ t) f g a b =
    let e : x ≡ y = same_heads P x y s t f g a b in
    λ i. e i ∷ falling_same P s t (falling_tail P x s f) (falling_tail P y t g) (tail_within P x y s t f e a) (tail_within P y x t s g (sym e) b) i
