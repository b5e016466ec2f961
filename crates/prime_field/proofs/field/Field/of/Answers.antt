use Rattle.std.proofs.Common.{◌≡◌, ℕ, ◌<◌, refl, true, eqb, arith, length, slice_index_or}
use Rattle.prime_field.specs.Prime.{InTable, table}
use Rattle.prime_field.proofs.field.Field.of.Goals as goal

eq_of_test : (a b : ℕ) → eqb a b ≡ true → a ≡ b
eq_of_test a b h = grind arith

found : (p : ℕ) → (x : ℕ) × (x < length table) × ((d : ℕ) → eqb (slice_index_or table x d) p ≡ true) → InTable p
found p (x, l, f) = (x, l, eq_of_test _ _ (f p))

pub invariant_of-result : goal.invariant_of-result
invariant_of-result c = found c.args.p c.if-contains.ensures.cases

pub returns-then-contains-clause-some : goal.returns-then-contains-clause-some
returns-then-contains-clause-some c = (λ _. found c.args.p c.if-contains.ensures.cases, λ _. refl)
