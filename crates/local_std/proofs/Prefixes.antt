-- Lists that have the same members, place by place: where their first members are the same, and the next one is, one more are.
-- So polynomials and problems are compared member by member.
use Rattle.std.proofs.Common.{◌≡◌, ℕ, ◌+◌, List, [], ◌∷◌, ◌++◌, map, refl, sym, ◌∙◌, ap, take, Some, add-one}
use Rattle.std.specs.Prelude.{slice_get}
use Rattle.std.proofs.Math.Seq.{take-suc}
use Rattle.std.proofs.lemmas.Option.{slice_get_within, get_or_from_slice_get}
use Rattle.sparse_poly.specs.Poly.{Poly, Polynomial, in_variables}
use Rattle.sparse_poly.specs.Ideal.{Problem}

-- the first members, with the one at the next place
pub first_and_next : {A : Type 0} (xs : List A) (k : ℕ) (x : A) → slice_get xs k ≡ Some x → take (k + 1) xs ≡ take k xs ++ x ∷ []
first_and_next xs k x at =
    ap (λ j. take j xs) (add-one k)
    ∙ take-suc xs k x (slice_get_within xs k x at)
    ∙ ap (λ y. take k xs ++ y ∷ []) (get_or_from_slice_get xs k x x at)

-- where the first members are the same and the next one is, one more are
pub prefix_more : {A : Type 0} (xs ys : List A) (k : ℕ) (x y : A) → take k xs ≡ take k ys → slice_get xs k ≡ Some x → slice_get ys k ≡ Some y → x ≡ y → take (k + 1) xs ≡ take (k + 1) ys
prefix_more xs ys k x y first at_x at_y same =
    first_and_next xs k x at_x ∙ ap (λ l. l ++ x ∷ []) first ∙ ap (λ z. take k ys ++ z ∷ []) same ∙ sym (first_and_next ys k y at_y)

-- polynomials with one number of variables and the same terms are the same
pub poly_same : (f g : Polynomial) → f.n ≡ g.n → f.terms ≡ g.terms → f ≡ g
poly_same f g n terms = ap (λ k. in_variables k f.terms) n ∙ ap (in_variables g.n) terms

-- the terms of polynomials in n variables
pub terms_back : (n : ℕ) (fs : List Poly) → map (λ (f : Polynomial). f.terms) (map (in_variables n) fs) ≡ fs
terms_back n [] = refl
terms_back n (f ∷ fs) = ap (λ l. f ∷ l) (terms_back n fs)

-- problems with one prime, number of variables and degree, and the same generators, are the same
pub problem_same : (P Q : Problem) → P.p ≡ Q.p → P.n ≡ Q.n → P.d ≡ Q.d → map (in_variables P.n) P.gens ≡ map (in_variables Q.n) Q.gens → P ≡ Q
problem_same P Q p n d gens =
    ap (λ (x : ℕ). let R : Problem = record { p = x; n = P.n; d = P.d; gens = P.gens } in R) p
    ∙ ap (λ (x : ℕ). let R : Problem = record { p = Q.p; n = x; d = P.d; gens = P.gens } in R) n
    ∙ ap (λ (x : ℕ). let R : Problem = record { p = Q.p; n = Q.n; d = x; gens = P.gens } in R) d
    ∙ ap (λ (l : List Poly). let R : Problem = record { p = Q.p; n = Q.n; d = Q.d; gens = l } in R)
    (sym (terms_back P.n P.gens) ∙ ap (map (λ (f : Polynomial). f.terms)) gens ∙ terms_back Q.n Q.gens)
