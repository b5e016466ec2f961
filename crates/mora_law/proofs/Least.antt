-- The choice of a reducer by its properties: it is the one of least ecart, and of these the first.
-- So whoever finds such a place in the list has found what the step chooses.
use Rattle.std.proofs.Common.{◌≡◌, ℕ, zero, suc, ◌<◌, ◌≤◌, ◌⊎◌, List, [], ◌∷◌, length, get_or, Bool, true, false, leb, Option, Some, None, refl, sym, ◌∙◌, ap, subst, arith, inl, inr}
use Rattle.std.proofs.lemmas.Bool.{cases_lt, le-leb, leb-true, leb-false}
use Rattle.rank_algebra.specs.Ranks.{Ranks}
use Rattle.rank_algebra.specs.Vector.{Vector, nothing}
use Rattle.mora_law.specs.Lead.{ecart}
use Rattle.mora_law.specs.Step.{Reducer, reducer, better_by, better, choose, IsFirstOfLeastEcart}

-- what is chosen stands in the list
pub chosen_stands : (R : Ranks) (r : ℕ) (gs : List Vector) (c : Reducer) → choose R r gs ≡ Some c → (k : ℕ) × (k < length gs) × (reducer R r (get_or gs k nothing) ≡ Some c)
chosen_stands R r [] c e = absurd (cc e)
chosen_stands R r (g ∷ gs) c e = go (reducer R r g) refl (choose R r gs) refl e (chosen_stands R r gs)
  where
    go : (a : Option Reducer) → reducer R r g ≡ a → (b : Option Reducer) → choose R r gs ≡ b → better R a b ≡ Some c →
        ((x : Reducer) → choose R r gs ≡ Some x → (k : ℕ) × (k < length gs) × (reducer R r (get_or gs k nothing) ≡ Some x)) →
        (k : ℕ) × (k < suc (length gs)) × (reducer R r (get_or (g ∷ gs) k nothing) ≡ Some c)
    go None f b h z up = let y = up c (h ∙ z) in (suc y.0, omega (arith, y.1), y.2)
    go (Some a) f None h z up = (0, omega arith, f ∙ z)
    go (Some a) f (Some b) h z up = at (leb (ecart R a.poly) (ecart R b.poly)) z
      where
        at : (t : Bool) → better_by a b t ≡ Some c → (k : ℕ) × (k < suc (length gs)) × (reducer R r (get_or (g ∷ gs) k nothing) ≡ Some c)
        at true z = (0, omega arith, f ∙ z)
        at false z = let y = up c (h ∙ z) in (suc y.0, omega (arith, y.1), y.2)

-- where no vector is a reducer nothing is chosen
pub none_chosen : (R : Ranks) (r : ℕ) (gs : List Vector) → ((k : ℕ) → k < length gs → reducer R r (get_or gs k nothing) ≡ None) → choose R r gs ≡ None
none_chosen R r [] h = refl
none_chosen R r (g ∷ gs) h = ap (λ a. better R a (choose R r gs)) (h 0 (omega arith)) ∙ none_chosen R r gs (λ k l. h (suc k) (omega arith))

-- and where nothing is chosen no vector is a reducer
pub none_each : (R : Ranks) (r : ℕ) (gs : List Vector) → choose R r gs ≡ None → (k : ℕ) → k < length gs → reducer R r (get_or gs k nothing) ≡ None
none_each R r [] e k l = absurd (omega (arith, l))
none_each R r (g ∷ gs) e k l = go (reducer R r g) refl (choose R r gs) refl e (none_each R r gs) k l
  where
    both : (a b : Reducer) (t : Bool) → better_by a b t ≡ None → ⊥
    both a b true z = cc z
    both a b false z = cc z

    go : (a : Option Reducer) → reducer R r g ≡ a → (b : Option Reducer) → choose R r gs ≡ b → better R a b ≡ None →
        (choose R r gs ≡ None → (k : ℕ) → k < length gs → reducer R r (get_or gs k nothing) ≡ None) → (k : ℕ) → k < suc (length gs) → reducer R r (get_or (g ∷ gs) k nothing) ≡ None
    go None f b h z up zero l = f
    go None f b h z up (suc k) l = up (h ∙ z) k (omega (arith, l))
    go (Some a) f None h z up k l = absurd (cc z)
    go (Some a) f (Some b) h z up k l = absurd (both a b (leb (ecart R a.poly) (ecart R b.poly)) z)

-- the first reducer of least ecart is chosen
pub least_chosen : (R : Ranks) (r : ℕ) (gs : List Vector) (k : ℕ) (c : Reducer) → IsFirstOfLeastEcart R r gs k c → choose R r gs ≡ Some c
least_chosen R r [] k c h = absurd (omega (arith, h.within))
least_chosen R r (g ∷ gs) zero c h = ap (λ a. better R a (choose R r gs)) h.is ∙ go (choose R r gs) refl
  where
    go : (b : Option Reducer) → choose R r gs ≡ b → better R (Some c) b ≡ Some c
    go None e = refl
    go (Some b) e =
        let y = chosen_stands R r gs b e in
        ap (better_by c b) (le-leb (ecart R c.poly) (ecart R b.poly) (h.behind (suc y.0) b (omega arith) (omega (arith, y.1)) y.2))
least_chosen R r (g ∷ gs) (suc k) c h = ap (better R (reducer R r g)) (least_chosen R r gs k c later) ∙ go (reducer R r g) refl
  where
    later : IsFirstOfLeastEcart R r gs k c
    later = record {
      within = omega (arith, h.within);
      is = h.is;
      before = λ j x l e. h.before (suc j) x (omega arith) e;
      behind = λ j x l m e. h.behind (suc j) x (omega arith) (omega arith) e;
    }

    go : (a : Option Reducer) → reducer R r g ≡ a → better R a (Some c) ≡ Some c
    go None e = refl
    go (Some a) e = at (leb (ecart R a.poly) (ecart R c.poly)) refl
      where
        at : (t : Bool) → leb (ecart R a.poly) (ecart R c.poly) ≡ t → better_by a c t ≡ Some c
        at true f = absurd (omega (arith, h.before 0 a (omega arith) e, leb-true (ecart R a.poly) (ecart R c.poly) f))
        at false f = refl

-- so what is chosen is the first reducer of least ecart
pub chosen_least : (R : Ranks) (r : ℕ) (gs : List Vector) (c : Reducer) → choose R r gs ≡ Some c → (k : ℕ) × IsFirstOfLeastEcart R r gs k c
chosen_least R r [] c e = absurd (cc e)
chosen_least R r (g ∷ gs) c e = go (reducer R r g) refl (choose R r gs) refl e (chosen_least R r gs)
  where
    -- one vector more in front, which is no reducer, or one of greater ecart
    later : (x : Reducer) (k : ℕ) → IsFirstOfLeastEcart R r gs k x → ((a : Reducer) → reducer R r g ≡ Some a → ecart R x.poly < ecart R a.poly) → IsFirstOfLeastEcart R r (g ∷ gs) (suc k) x
    later x k h front = record { within = omega (arith, h.within); is = h.is; before = before; behind = behind }
      where
        before : (j : ℕ) (y : Reducer) → j < suc k → reducer R r (get_or (g ∷ gs) j nothing) ≡ Some y → ecart R x.poly < ecart R y.poly
        before zero y l m = front y m
        before (suc j) y l m = h.before j y (omega (arith, l)) m

        behind : (j : ℕ) (y : Reducer) → suc k < j → j < suc (length gs) → reducer R r (get_or (g ∷ gs) j nothing) ≡ Some y → ecart R x.poly ≤ ecart R y.poly
        behind zero y l m o = absurd (omega (arith, l))
        behind (suc j) y l m o = h.behind j y (omega (arith, l)) (omega (arith, m)) o

    -- the vector in front is a reducer, and none behind it has less ecart
    front : (x : Reducer) → reducer R r g ≡ Some x → ((j : ℕ) (y : Reducer) → j < length gs → reducer R r (get_or gs j nothing) ≡ Some y → ecart R x.poly ≤ ecart R y.poly) → IsFirstOfLeastEcart R r (g ∷ gs) 0 x
    front x f least = record { within = omega arith; is = f; before = λ j y l m. absurd (omega (arith, l)); behind = behind }
      where
        behind : (j : ℕ) (y : Reducer) → 0 < j → j < suc (length gs) → reducer R r (get_or (g ∷ gs) j nothing) ≡ Some y → ecart R x.poly ≤ ecart R y.poly
        behind zero y l m o = absurd (omega (arith, l))
        behind (suc j) y l m o = least j y (omega (arith, m)) o

    -- the least of a list bounds each of its reducers
    bound : (x : Reducer) (k : ℕ) → IsFirstOfLeastEcart R r gs k x → (j : ℕ) (y : Reducer) → j < length gs → reducer R r (get_or gs j nothing) ≡ Some y → ecart R x.poly ≤ ecart R y.poly
    bound x k h j y l m = at (cases_lt j k) (cases_lt k j)
      where
        at : (j < k) ⊎ (k ≤ j) → (k < j) ⊎ (j ≤ k) → ecart R x.poly ≤ ecart R y.poly
        at (inl o) z = omega (arith, h.before j y o m)
        at (inr o) (inl z) = h.behind j y z l m
        at (inr o) (inr z) = let same : k ≡ j = omega arith in
            let one : Some x ≡ Some y = sym h.is ∙ ap (λ i. reducer R r (get_or gs i nothing)) same ∙ m in
            let eq : x ≡ y = cc one in omega (arith, ap (λ i. ecart R i.poly) eq)

    go : (a : Option Reducer) → reducer R r g ≡ a → (b : Option Reducer) → choose R r gs ≡ b → better R a b ≡ Some c →
        ((x : Reducer) → choose R r gs ≡ Some x → (k : ℕ) × IsFirstOfLeastEcart R r gs k x) → (k : ℕ) × IsFirstOfLeastEcart R r (g ∷ gs) k c
    go None f b h z up = let y = up c (h ∙ z) in (suc y.0, later c y.0 y.1 (λ a m. absurd (cc (sym f ∙ m))))
    go (Some a) f None h z up = (0, front c (f ∙ z) (λ j y l m. absurd (cc (sym (none_each R r gs h j l) ∙ m))))
    go (Some a) f (Some b) h z up = at (leb (ecart R a.poly) (ecart R b.poly)) refl z (up b h)
      where
        at : (t : Bool) → leb (ecart R a.poly) (ecart R b.poly) ≡ t → better_by a b t ≡ Some c → ((k : ℕ) × IsFirstOfLeastEcart R r gs k b) → (k : ℕ) × IsFirstOfLeastEcart R r (g ∷ gs) k c
        at true m z u = let eq : a ≡ c = cc z in (0, front c (f ∙ z) (λ j y l n. omega (arith, bound b u.0 u.1 j y l n, leb-true (ecart R a.poly) (ecart R b.poly) m, ap (λ i. ecart R i.poly) eq)))
        at false m z u = let eq : b ≡ c = cc z in
            let lt : ecart R b.poly < ecart R a.poly = leb-false (ecart R a.poly) (ecart R b.poly) m in
            let last : IsFirstOfLeastEcart R r gs u.0 c = subst (IsFirstOfLeastEcart R r gs u.0) eq u.1 in
            (suc u.0, later c u.0 last (λ x n. let same : Some a ≡ Some x = sym f ∙ n in let ax : a ≡ x = cc same in omega (arith, lt, ap (λ i. ecart R i.poly) eq, ap (λ i. ecart R i.poly) ax)))
