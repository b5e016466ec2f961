-- The list of all monomials of bounded degree has each of them once, and as many as are counted.
-- Each fact goes by Pascal's rule: without the first variable, or with it.
use Rattle.std.proofs.Common.{◌≡◌, ℕ, zero, suc, ◌+◌, ◌-◌, ◌<◌, ◌≤◌, ◌≢◌, ◌⊎◌, List, [], ◌∷◌, ◌++◌, length, map, get_or, Contains, refl, ap, sym, ◌∙◌, inl, inr, ⊎_elim, subst, arith}
use Rattle.std.specs.List.{AllPairs}
use Rattle.std.proofs.lemmas.Bool.{cases_lt}
use Rattle.std.proofs.lemmas.List.{length-append, length-map, length-replicate, get_or_append_left, get_or-append_right, get_or-map, get_or_default}
use Rattle.std.proofs.lemmas.List.Elements.{Contains-append_left, Contains-append_right, Contains-append_cases, Contains-get_or}
use Rattle.local_order.specs.Mono.{degree, mono_one}
use Rattle.local_order.specs.Count.{monomial_count, raised, monomials}
use Rattle.local_order.proofs.Division.{degree-one, one_of_degree}

-- ---- how many
-- the list is as long as the number of monomials
pub length-monomials : (n d : ℕ) → length (monomials n d) ≡ monomial_count n d
length-monomials zero d = refl
length-monomials (suc n) zero = refl
length-monomials (suc n) (suc d) =
    length-append (map (λ m. 0 ∷ m) (monomials n (suc d))) (map raised (monomials (suc n) d))
    ∙ omega (arith, length-map (monomials n (suc d)) (λ m. 0 ∷ m), length-map (monomials (suc n) d) raised, length-monomials n (suc d), length-monomials (suc n) d)

-- ---- which
-- a mapped list has the image of each member
Contains-map : {X Y : Type 0} (f : X → Y) (xs : List X) (x : X) → Contains xs x → Contains (map f xs) (f x)
Contains-map f xs x c = (c.0, omega (arith, length-map xs f, c.1), get_or-map f xs c.0 x (f x) c.1 ∙ ap f c.2)

-- and nothing else
Contains-unmap : {X Y : Type 0} (f : X → Y) (xs : List X) (d : X) (y : Y) → Contains (map f xs) y → (x : X) × Contains xs x × (f x ≡ y)
Contains-unmap f xs d y c =
    let l : c.0 < length xs = omega (arith, length-map xs f, c.1) in
    (get_or xs c.0 d, (c.0, l, get_or_default xs c.0 (get_or xs c.0 d) d l), sym (get_or-map f xs c.0 d y l) ∙ c.2)

-- each monomial of bounded degree stands in the list
pub in_monomials : (n d : ℕ) (m : List ℕ) → length m ≡ n → degree m ≤ d → Contains (monomials n d) m
in_monomials zero d [] e l = (0, omega arith, refl)
in_monomials zero d (x ∷ m) e l = absurd (omega arith)
in_monomials (suc n) zero m e l = (0, omega arith, sym (one_of_degree m (omega arith) ∙ ap mono_one e))
in_monomials (suc n) (suc d) [] e l = absurd (omega arith)
in_monomials (suc n) (suc d) (zero ∷ m) e l =
    Contains-append_left (map (λ v. 0 ∷ v) (monomials n (suc d))) (map raised (monomials (suc n) d)) (0 ∷ m) (Contains-map (λ v. 0 ∷ v) (monomials n (suc d)) m (in_monomials n (suc d) m (omega arith) (omega arith)))
in_monomials (suc n) (suc d) (suc x ∷ m) e l =
    Contains-append_right (map (λ v. 0 ∷ v) (monomials n (suc d))) (map raised (monomials (suc n) d)) (suc x ∷ m) (Contains-map raised (monomials (suc n) d) (x ∷ m) (in_monomials (suc n) d (x ∷ m) e (omega arith)))

-- a raised monomial has one degree more
degree-raised : (v : List ℕ) → degree (raised v) ≤ degree v + 1
degree-raised [] = omega arith
degree-raised (x ∷ v) = omega arith

-- and as many exponents
length-raised : (v : List ℕ) → length (raised v) ≡ length v
length-raised [] = refl
length-raised (x ∷ v) = refl

-- the members without the first variable
without_first : (n d : ℕ) (m : List ℕ) → ((v : List ℕ) → Contains (monomials n (suc d)) v → (length v ≡ n) × (degree v ≤ suc d)) →
    Contains (map (λ v. 0 ∷ v) (monomials n (suc d))) m → (length m ≡ suc n) × (degree m ≤ suc d)
without_first n d m rest c =
    let (v, h, e) = Contains-unmap (λ v. 0 ∷ v) (monomials n (suc d)) [] m c in
    let known = rest v h in
    (omega (arith, ap length e, known.0), omega (arith, ap degree e, known.1))

-- the members with the first variable
with_first : (n d : ℕ) (m : List ℕ) → ((v : List ℕ) → Contains (monomials (suc n) d) v → (length v ≡ suc n) × (degree v ≤ d)) →
    Contains (map raised (monomials (suc n) d)) m → (length m ≡ suc n) × (degree m ≤ suc d)
with_first n d m rest c =
    let (v, h, e) = Contains-unmap raised (monomials (suc n) d) [] m c in
    let known = rest v h in
    (omega (arith, ap length e, length-raised v, known.0), omega (arith, ap degree e, degree-raised v, known.1))

-- each member of the list is a monomial of bounded degree
pub monomials_are : (n d : ℕ) (m : List ℕ) → Contains (monomials n d) m → (length m ≡ n) × (degree m ≤ d)
monomials_are zero d m (k, l, e) =
    let first : k ≡ 0 = omega arith in
    let same : [] ≡ m = subst (λ i. get_or ([] ∷ []) i m ≡ m) first e in
    (ap length (sym same), omega (arith, ap degree same))
monomials_are (suc n) zero m (k, l, e) =
    let first : k ≡ 0 = omega arith in
    let same : mono_one (suc n) ≡ m = subst (λ i. get_or (mono_one (suc n) ∷ []) i m ≡ m) first e in
    let z : ℕ = 0 in
    (ap length (sym same) ∙ length-replicate (suc n) z, omega (arith, ap degree same, degree-one (suc n)))
monomials_are (suc n) (suc d) m c =
    ⊎_elim (without_first n d m (monomials_are n (suc d))) (with_first n d m (monomials_are (suc n) d))
    (Contains-append_cases (map (λ v. 0 ∷ v) (monomials n (suc d))) (map raised (monomials (suc n) d)) m c)

-- ---- once
-- two lists without a common member, each with no member twice
AllPairs-append : {X : Type 0} (R : X → X → Type 0) (xs ys : List X) → AllPairs R xs → AllPairs R ys → ((x y : X) → Contains xs x → Contains ys y → R x y) → AllPairs R (xs ++ ys)
AllPairs-append R xs ys f g cross i j d l m = go (cases_lt i (length xs)) (cases_lt j (length xs))
  where
    long : length (xs ++ ys) ≡ length xs + length ys
    long = length-append xs ys

    go : (i < length xs) ⊎ (length xs ≤ i) → (j < length xs) ⊎ (length xs ≤ j) → R (get_or (xs ++ ys) i d) (get_or (xs ++ ys) j d)
    go (inl a) (inl b) = rw (get_or_append_left xs ys d i a, get_or_append_left xs ys d j b) (f i j d l b)
    go (inl a) (inr b) =
        rw (get_or_append_left xs ys d i a, get_or-append_right xs ys (length xs) j d refl b)
        (cross (get_or xs i d) (get_or ys (j - length xs) d) (Contains-get_or xs i d a) (Contains-get_or ys (j - length xs) d (omega (arith, long))))
    go (inr a) (inl b) = absurd (omega arith)
    go (inr a) (inr b) =
        rw (get_or-append_right xs ys (length xs) i d refl a, get_or-append_right xs ys (length xs) j d refl b)
        (g (i - length xs) (j - length xs) d (omega arith) (omega (arith, long)))

-- a map that tells members apart keeps that none stands twice
AllPairs-map : (f : List ℕ → List ℕ) (xs : List (List ℕ)) → ((x y : List ℕ) → f x ≡ f y → x ≡ y) → AllPairs (λ x y. x ≢ y) xs → AllPairs (λ x y. x ≢ y) (map f xs)
AllPairs-map f xs one h i j d l m e =
    let b : j < length xs = omega (arith, length-map xs f) in
    h i j [] l b (one (get_or xs i []) (get_or xs j []) (sym (get_or-map f xs i [] d (omega arith)) ∙ e ∙ get_or-map f xs j [] d b))

-- the same raised is the same
raised_same : (v w : List ℕ) → raised v ≡ raised w → v ≡ w
raised_same [] [] e = refl
raised_same [] (y ∷ w) e = absurd (cc)
raised_same (x ∷ v) [] e = absurd (cc)
raised_same (x ∷ v) (y ∷ w) e = cc

-- what is raised does not lack the first variable
raised_other : (v w : List ℕ) → 0 ∷ v ≢ raised w
raised_other v [] e = cc
raised_other v (y ∷ w) e = cc

-- no monomial stands twice in the list
pub monomials_once : (n d : ℕ) → AllPairs (λ x y. x ≢ y) (monomials n d)
monomials_once zero d = λ i j e l m. absurd (omega arith)
monomials_once (suc n) zero = λ i j e l m. absurd (omega arith)
monomials_once (suc n) (suc d) =
    AllPairs-append (λ x y. x ≢ y) (map (λ v. 0 ∷ v) (monomials n (suc d))) (map raised (monomials (suc n) d))
    (AllPairs-map (λ v. 0 ∷ v) (monomials n (suc d)) (λ x y e. cc) (monomials_once n (suc d)))
    (AllPairs-map raised (monomials (suc n) d) raised_same (monomials_once (suc n) d)) cross
  where
    cross : (x y : List ℕ) → Contains (map (λ v. 0 ∷ v) (monomials n (suc d))) x → Contains (map raised (monomials (suc n) d)) y → x ≢ y
    cross x y a b e =
        let (v, _, p) = Contains-unmap (λ v. 0 ∷ v) (monomials n (suc d)) [] x a in
        let (w, _, q) = Contains-unmap raised (monomials (suc n) d) [] y b in
        raised_other v w (p ∙ e ∙ sym q)
