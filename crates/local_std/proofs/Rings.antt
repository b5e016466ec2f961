-- What answers a problem is in its ring: the members of its reduced basis, and the monomials of its staircase.
use Rattle.std.proofs.Common.{◌≡◌, ℕ, zero, suc, ◌<◌, List, [], ◌∷◌, length, map, refl, arith, get_or}
use Rattle.std.specs.Prelude.{All}
use Rattle.std.specs.List.{AllZip}
use Rattle.sparse_poly.specs.Poly.{Poly, Polynomial, HasResidues}
use Rattle.sparse_poly.specs.Ideal.{Problem, IsReducedMember, IsReducedBasis, IsStaircase}
use Rattle.sparse_poly.proofs.Sorted.{residues_of}
use Rattle.text_out.specs.Answers.{IsModulo}

-- the polynomials' lists of terms
abbrev pub terms_of : List Polynomial → List Poly
terms_of fs = map (λ f. f.terms) fs

-- polynomials that are members of the reduced basis, each with a lead, have residues
members_residues : (P : Problem) (fs : List Polynomial) (leads : List (List ℕ)) → AllZip (IsReducedMember P) (terms_of fs) leads → All (λ (f : Polynomial). HasResidues P.p f.terms) fs
members_residues P [] leads r k d l = absurd (omega arith)
members_residues P (f ∷ fs) [] r k d l = absurd r
members_residues P (f ∷ fs) (m ∷ leads) r zero d l = let x : IsReducedMember P f.terms m = r.0 in residues_of P.p P.n f.terms x.form
members_residues P (f ∷ fs) (m ∷ leads) r (suc k) d l = members_residues P fs leads r.1 k d (omega arith)

-- the members of a reduced basis in these variables are polynomials in the ring
pub basis_in_ring : (P : Problem) (fs : List Polynomial) → IsReducedBasis P (terms_of fs) → All (λ (f : Polynomial). f.n ≡ P.n) fs → All (IsModulo P.p P.n) fs
basis_in_ring P fs r n = λ k d l. (n k d l, members_residues P fs r.leads r.members k d l)

-- the monomials of a staircase are in the ring
pub staircase_in_ring : (P : Problem) (s : List (List ℕ)) → IsStaircase P s → All (λ m. length m ≡ P.n) s
staircase_in_ring P s h k d l = (h.only (get_or s k d) (k, l, default_free s k d l)).0
  where
    default_free : (s : List (List ℕ)) (k : ℕ) (d : List ℕ) → k < length s → get_or s k (get_or s k d) ≡ get_or s k d
    default_free [] k d l = absurd (omega arith)
    default_free (a ∷ s) zero d l = refl
    default_free (a ∷ s) (suc k) d l = default_free s k d (omega arith)
