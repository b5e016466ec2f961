-- Two monomials are the same where the order compares them as equal.
use Rattle.std.proofs.Common.{◌≡◌, ◌↔◌, ℕ, List, Bool, true, false, IsTrue, ◌==◌, sym, ◌∙◌}
use Rattle.std.specs.declared.cmp.Ordering.{Ordering}
use Rattle.std.specs.declared.cmp.Ordering.TheVariants.{Less, Equal, Greater}
use Rattle.std.specs.Ordering.{ordering_index}
use Rattle.local_order.specs.Order.{compare_ds}
use Rattle.local_order.proofs.Prefix.{same_of_compare, compare_same}

-- what the comparison answers tells whether they are the same
pub same_by_compare : (a b : List ℕ) → (o : Ordering) → o ≡ compare_ds a b → (t : Bool) → t ≡ (ordering_index o == 1) → IsTrue t ↔ (a ≡ b)
same_by_compare a b Equal e t f = ((λ z. same_of_compare a b e), (λ z. f))
same_by_compare a b Less e t f = ((λ z. absurd (let w : false ≡ true = sym f ∙ z in cc w)), (λ z. absurd (let w : Less ≡ Equal = e ∙ compare_same a b z in cc w)))
same_by_compare a b Greater e t f = ((λ z. absurd (let w : false ≡ true = sym f ∙ z in cc w)), (λ z. absurd (let w : Greater ≡ Equal = e ∙ compare_same a b z in cc w)))
