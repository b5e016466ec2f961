-- The first lead that divides, found by looking at one lead after another.
-- Where none of the leads before a place divides, the one at the place is the first.
use Rattle.std.proofs.Common.{◌≡◌, ℕ, ◌<◌, Some, None, ap, ◌∙◌, arith}
use Rattle.std.specs.Prelude.{option_and_then, option_map, is_some}
use Rattle.rank_algebra.specs.Ranks.{Ranks}
use Rattle.rank_algebra.specs.Division.{Basis, Hit, divides_at, hit_at, first_lead}
use Rattle.rank_algebra.proofs.Searches.{first_found, none_found}

module _ (R : Ranks) (B : Basis) (r : ℕ) where
  -- a lead that divides is the first where none before it does
  pub hit_found : (k q : ℕ) → k < B.size → ((j : ℕ) → j < k → R.quotient r (B.lead j) ≡ None) → R.quotient r (B.lead k) ≡ Some q →
      first_lead R B r ≡ Some (record { place = k; cofactor = q })
  unfolding first_lead
  hit_found k q l none e =
      ap (option_and_then (hit_at R B r)) (first_found (divides_at R B r) 0 B.size k (omega arith) (omega (arith, l)) (ap is_some e) (λ j z m. ap is_some (none j m)))
      ∙ ap (option_map (λ (x : ℕ). let h : Hit = record { place = k; cofactor = x } in h)) e

  -- and there is none where none divides
  pub hit_none : ((j : ℕ) → j < B.size → R.quotient r (B.lead j) ≡ None) → first_lead R B r ≡ None
  unfolding first_lead
  hit_none none = ap (option_and_then (hit_at R B r)) (none_found (divides_at R B r) 0 B.size (λ k z l. ap is_some (none k (omega (arith, l)))))
