-- What a step of reading that succeeded, or was refused, says of its parts.
use Rattle.std.proofs.Common.{◌≡◌, Bool, true, false, List, Option, Some, None, Result, Ok, Err, refl, ap, ◌⊎◌, inl, inr}
use Rattle.std.specs.Prelude.{option_and_then, ◌&&◌, if◌then◌else◌}
use Rattle.std.specs.Option.{option_map}
use Rattle.cert_grammar.specs.Lines.{Line}
use Rattle.cert_grammar.specs.Reading.{◌>>=◌}

-- ---- results
-- where both steps give a value, the first does
pub bind_ok : {A B : Type 0} (r : Result A (List Line)) (f : A → Result B (List Line)) (y : B) → r >>= f ≡ Ok y → (x : A) × (r ≡ Ok x) × (f x ≡ Ok y)
bind_ok (Ok x) f y e = (x, refl, e)
bind_ok (Err s) f y e = absurd (cc)

-- a refusal is that of the first step or of the second
pub bind_err : {A B : Type 0} (r : Result A (List Line)) (f : A → Result B (List Line)) (s : List Line) → r >>= f ≡ Err s → (r ≡ Err s) ⊎ ((x : A) × (r ≡ Ok x) × (f x ≡ Err s))
bind_err (Ok x) f s e = inr (x, refl, e)
bind_err (Err t) f s e = inl (let q : t ≡ s = cc in ap (λ (z : List Line). Err z) q)

-- one result has one value
pub ok_same : {A : Type 0} (r : Result A (List Line)) (y z : A) → r ≡ Ok y → r ≡ Ok z → y ≡ z
ok_same (Ok x) y z e f = cc
ok_same (Err s) y z e f = absurd (cc)

-- one result has one refusal
pub err_same : {A : Type 0} (r : Result A (List Line)) (s t : List Line) → r ≡ Err s → r ≡ Err t → s ≡ t
err_same (Ok x) s t e f = absurd (cc)
err_same (Err u) s t e f = cc

-- a refusal is no value
pub err_ok : {A : Type 0} (r : Result A (List Line)) (s : List Line) (y : A) → r ≡ Err s → r ≡ Ok y → ⊥
err_ok (Ok x) s y e f = cc
err_ok (Err u) s y e f = cc

-- ---- options
-- where both steps give a value, the first does
pub then_some : {A B : Type 0} (f : A → Option B) (o : Option A) (y : B) → option_and_then f o ≡ Some y → (x : A) × (o ≡ Some x) × (f x ≡ Some y)
then_some f (Some x) y e = (x, refl, e)
then_some f None y e = absurd (cc)

-- a value that is seen is the view of one
pub map_some : {A B : Type 0} (f : A → B) (o : Option A) (y : B) → option_map f o ≡ Some y → (x : A) × (o ≡ Some x) × (f x ≡ y)
map_some f (Some x) y e = (x, refl, cc)
map_some f None y e = absurd (cc)

-- ---- tests
-- a value under a test comes where the test passes
pub if_some : {A : Type 0} (b : Bool) (x y : A) → (if b then Some x else None) ≡ Some y → (b ≡ true) × (x ≡ y)
if_some true x y e = (refl, cc)
if_some false x y e = absurd (cc)

-- where both tests pass, each does
pub and_true : (a b : Bool) → (a && b) ≡ true → (a ≡ true) × (b ≡ true)
and_true true b e = (refl, e)
and_true false b e = absurd (cc)
