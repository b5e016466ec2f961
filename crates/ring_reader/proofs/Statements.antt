-- Statements by what the code knows of their parts, and what they leave behind.
use Rattle.std.proofs.Common.{◌≡◌, ℕ, suc, ◌≤◌, true, length, List, [], ◌∷◌, map, Ok, refl, sym, ap, subst, ◌∙◌, arith}
use Rattle.std.specs.Prelude.{All, codes}
use Rattle.std.proofs.lemmas.List.{length-map}
use Rattle.sparse_poly.specs.Poly.{Poly, Polynomial, in_variables}
use Rattle.script_grammar.specs.declared.refusal.What.TheVariants as whats
use Rattle.script_grammar.specs.Tokens.{Place, next}
use Rattle.script_grammar.specs.Words.{is_the_word}
use Rattle.script_grammar.specs.Trees.{again}
use Rattle.script_grammar.specs.Steps.{mark_at}
use Rattle.script_grammar.specs.Expressions.{Declarations}
use Rattle.script_grammar.specs.Statements.{new_name_at, argument_at, ideal_at}
use Rattle.script_grammar.specs.Meaning.{Values, variable_count}
use Rattle.expression_reader.specs.Generators.{in_ring_of}
use Rattle.sparse_poly.specs.Ideal.{IsGenerator}

-- an ideal by another one's name
pub again_reads : (known : Declarations) (t a b start c d : Place) (name other : List ℕ) → new_name_at known t ≡ Ok (name, a) → mark_at 61 whats.Equals a ≡ Ok b
    → is_the_word (codes "std") b.token ≡ true → start ≡ next b.rest → argument_at known.ideals start ≡ Ok (other, c) → mark_at 59 whats.Semicolon c ≡ Ok d
    → ideal_at known t ≡ Ok (again name other, d)
unfolding ideal_at
again_reads known t a b start c d name other named equals here starts argument closed =
    let argument' = subst (λ p. argument_at known.ideals p ≡ Ok (other, c)) starts argument in
    rw (named, equals, here, argument', closed) refl

-- polynomials of the ring are the same with their number of variables written anew
pub gens_same : (v : Values) (n : ℕ) (gens : List Polynomial) → n ≡ variable_count v → All (λ (f : Polynomial). f.n ≡ n) gens → in_ring_of v (map (λ f. f.terms) gens) ≡ gens
gens_same v n [] e all = refl
gens_same v n (f ∷ gens) e all =
    let first : f.n ≡ variable_count v = all 0 f (omega arith) ∙ e in
    let rest = gens_same v n gens e (λ k d within. all (suc k) d (omega (arith, within))) in
    rw rest (ap (λ k. in_variables k f.terms ∷ gens) (sym first))

-- Generators in n variables have n.
pub variables_of : (p n d : ℕ) (gens : List Polynomial) → All (IsGenerator p n d) gens → All (λ (f : Polynomial). f.n ≡ n) gens
variables_of p n d gens all = λ k x within. (all k x within).variables

-- The terms of polynomials of the ring are those that they were made of.
pub terms_of_ring : (v : Values) (gens : List Poly) → map (λ f. f.terms) (in_ring_of v gens) ≡ gens
terms_of_ring v [] = refl
terms_of_ring v (g ∷ gens) = ap (λ l. g ∷ l) (terms_of_ring v gens)

-- at most 64 polynomials have at most 64 lists of terms
pub generators_few : (gens : List Polynomial) → length gens ≤ 64 → length (map (λ (f : Polynomial). f.terms) gens) ≤ 64
generators_few gens few = omega (arith, length-map gens (λ (f : Polynomial). f.terms), few)
