-- The partial derivatives of a function, one after another: those by i variables and that by the next one are those by i + 1.
-- A polynomial without its terms above a degree is of that degree at most, and in the ring as it was.
use Rattle.std.proofs.Common.{◌≡◌, ℕ, ◌+◌, ◌++◌, List, [], ◌∷◌, map, refl, sym, ap, subst, ◌∙◌, arith, append_assoc}
use Rattle.std.proofs.lemmas.List.{map-append}
use Rattle.std.proofs.lemmas.List.FromFn.{map-range_with_len_more}
use Rattle.sparse_poly.specs.Poly.{Poly, Polynomial, in_variables, cut, IsCanonical}
use Rattle.sparse_poly.specs.Ideal.{IsGenerator}
use Rattle.sparse_poly.specs.Jacobian.{partial, jacobian_ideal}
use Rattle.sparse_poly.proofs.Cuts.{IsCanonical-cut, HasDegreeAtMost-cut}

-- what is cut of a polynomial of the ring is a generator
pub cut_is_generator : (p n d : ℕ) (f : Poly) (g : Polynomial) → IsCanonical p n f → g ≡ in_variables n (cut d f) → IsGenerator p n d g
cut_is_generator p n d f g canonical is = subst (IsGenerator p n d) (sym is) (record {
  variables = refl;
  canonical = IsCanonical-cut p n d f canonical;
  low = HasDegreeAtMost-cut d f;
})

-- behind those by i variables the one by the next makes those by one variable more
pub partials_more : (p n d : ℕ) (f : Poly) (old gens : List Polynomial) (i : ℕ) (g : Polynomial) → g ≡ in_variables n (cut d (partial p i f)) →
    gens ≡ old ++ map (in_variables n) (jacobian_ideal p i d f) → gens ++ g ∷ [] ≡ old ++ map (in_variables n) (jacobian_ideal p (i + 1) d f)
partials_more p n d f old gens i g is so_far =
    let so : ℕ → Poly = λ k. cut d (partial p k f) in
    let before : List Polynomial = map (in_variables n) (jacobian_ideal p i d f) in
    ap (λ (l : List Polynomial). l ++ g ∷ []) so_far
    ∙ append_assoc old before (g ∷ [])
    ∙ ap (λ (l : List Polynomial). old ++ l)
    (ap (λ (h : Polynomial). before ++ h ∷ []) is
    ∙ sym (map-append (in_variables n) (jacobian_ideal p i d f) (so i ∷ []))
    ∙ ap (map (in_variables n)) (sym (map-range_with_len_more so 0 i i (omega arith))))
