-- The reduced basis by rank, as lists of terms. These definitions serve the proofs alone:
-- PlainReduced shows that plain division meets them, and ReducedBasis turns them into the reduced standard basis.
use Rattle.std.specs.Prelude.{ℕ, ◌<◌, ◌≡◌, ◌⊎◌, ◌↔◌, List, [], ◌∷◌, map, Some, ⊤}
use Rattle.rank_algebra.specs.Ranks.{Ranks}
use Rattle.entry_code.specs.declared.term.Term.{Term}
use Rattle.rank_algebra.specs.Vector.{Same}
use Rattle.rank_algebra.specs.Ideal.{InSpan, IsLeadOfSpan, Generators}
use Rattle.mora_law.specs.Lead.{lead}
use Rattle.mora_law.specs.Entries.{terms_of, lead_rank}
use Rattle.entry_code.specs.Terms.{vector_of_terms}

-- r is in the list
abbrev pub Mem : ℕ → List ℕ → Type 0
Mem r [] = ⊥
Mem r (x ∷ xs) = (r ≡ x) ⊎ Mem r xs

-- each rank is above those before it
abbrev pub Rising : List ℕ → Type 0
Rising [] = ⊤
Rising (x ∷ xs) = ((r : ℕ) → Mem r xs → x < r) × Rising xs

-- r is a lead, and no other lead divides it
pub record IsMinimal (R : Ranks) (G : Generators) (r : ℕ) : Type 0 where
  pub leads : IsLeadOfSpan R G r
  pub alone : (q s : ℕ) → R.times q s ≡ r → IsLeadOfSpan R G s → s ≡ r

-- a member of the reduced basis
pub record IsMember (R : Ranks) (G : Generators) (g : List Term) : Type 0 where
  pub canonical : terms_of R (vector_of_terms g) ≡ g
  pub inside : InSpan R G (vector_of_terms g)
  pub leads : lead R (vector_of_terms g) ≡ Some (lead_rank g)
  pub one : Same R.p (vector_of_terms g (lead_rank g)) 1
  pub tail : (r : ℕ) → (r ≡ lead_rank g → ⊥) → IsLeadOfSpan R G r → Same R.p (vector_of_terms g r) 0

-- each is a member
abbrev pub Members : Ranks → Generators → List (List Term) → Type 0
Members R G [] = ⊤
Members R G (g ∷ gs) = IsMember R G g × Members R G gs

-- the reduced basis
pub record IsReducedByRank (R : Ranks) (G : Generators) (gs : List (List Term)) : Type 0 where
  pub members : Members R G gs
  pub rising : Rising (map lead_rank gs)
  pub exactly : (r : ℕ) → Mem r (map lead_rank gs) ↔ IsMinimal R G r
