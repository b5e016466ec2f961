-- The test for the table of characteristics.
use Rattle.std.proofs.Common.{◌≡◌, ℕ, true, false, Bool, List, [], ◌∷◌, nat_eq, Option, Some, None, refl, sym, subst, ◌∙◌}
use Rattle.std.specs.Prelude.{◌==◌, IsSome, IfSome, IfNone, ◌↔◌}
use Rattle.std.specs.List.{list_any}
use Rattle.std.proofs.lemmas.Bool.{eqb-true}
use Rattle.std.proofs.lemmas.Cmp.{nat_eq_equiv}
use Rattle.std.proofs.lemmas.Map.Views.{list_any-from_Contains, Contains-from_any}
use Rattle.prime_field.specs.Prime.{table, InTable}

-- A number is among some by either way round of the test.
any_turned : (p : ℕ) (xs : List ℕ) → list_any (λ q. q == p) xs ≡ list_any (nat_eq p) xs
any_turned p [] = refl
any_turned p (x ∷ xs) = rw (nat_eq_equiv.symm x p, any_turned p xs) refl

-- A number of the table is tested to be one.
pub in_table : (p : ℕ) → InTable p → list_any (λ q. q == p) table ≡ true
in_table p h = any_turned p table ∙ list_any-from_Contains nat_eq_equiv p table h

-- A number that isn't of the table fails the test, whichever way it came out.
not_in-by : (p : ℕ) (b : Bool) → list_any (nat_eq p) table ≡ b → (InTable p → ⊥) → b ≡ false
not_in-by p true e h = absurd (h (Contains-from_any (λ x y. eqb-true x y) p table e))
not_in-by p false e h = refl

-- A number that isn't of the table fails the test.
pub not_in_table : (p : ℕ) → (InTable p → ⊥) → list_any (λ q. q == p) table ≡ false
not_in_table p h = any_turned p table ∙ not_in-by p (list_any (nat_eq p) table) refl h

-- None isn't something.
pub no_some : (X : Type 0) → IsSome {T = X} None → ⊥
no_some X e = absurd cc

-- A field that is there has a characteristic that passes the test,
pub offered_there : (X : Type 0) (r : Option X) (p : ℕ) → IsSome r ↔ InTable p → IfSome r (λ f. list_any (λ q. q == p) table ≡ true)
offered_there X (Some f) p h = in_table p (h.0 refl)
offered_there X None p h = tt

-- and it is of the table.
pub offered_itself : (r : Option ℕ) (p : ℕ) → IsSome r ↔ InTable p → IfSome r (λ f. f ≡ p) → IfSome r (λ f. InTable f)
offered_itself (Some f) p h e = subst InTable (sym e) (h.0 refl)
offered_itself None p h e = tt

-- Where no field is there, the number fails the test.
pub offered_not : (X : Type 0) (r : Option X) (p : ℕ) → IsSome r ↔ InTable p → IfNone r (list_any (λ q. q == p) table ≡ false)
offered_not X (Some f) p h = tt
offered_not X None p h = not_in_table p (λ t. no_some X (h.1 t))
