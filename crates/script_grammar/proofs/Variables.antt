-- Lists of variables, by their first one or by their last.
-- The rule on variables looks at the letters behind each, and reading at those before it.
use Rattle.std.proofs.Common.{◌≡◌, ℕ, true, false, eqb, List, [], ◌∷◌, ◌++◌, refl, sym}
use Rattle.std.proofs.lemmas.Bool.{ne_eqb, eqb-false, or_parts, or_from}
use Rattle.script_grammar.specs.Tokens.{is_letter}
use Rattle.script_grammar.specs.Words.{is_same, has_letter}
use Rattle.script_grammar.specs.Valid.{AreVariables}

-- Two numbers that differ differ the other way round.
other_way : (a b : ℕ) → eqb a b ≡ false → eqb b a ≡ false
other_way a b h = ne_eqb b a (λ e. eqb-false a b h (sym e))

-- A letter that isn't among some, and isn't one more, isn't among them all.
has_none_before : (letters : List ℕ) (k l : ℕ) → has_letter letters k ≡ false → eqb l k ≡ false → has_letter (letters ++ l ∷ []) k ≡ false
has_none_before [] k l h e = or_from (eqb l k) false e refl
has_none_before (j ∷ letters) k l h e =
    let p = or_parts (eqb j k) (has_letter letters k) h in
    or_from (eqb j k) (has_letter (letters ++ l ∷ []) k) p.0 (has_none_before letters k l p.1 e)

-- Variables with one more letter that is free are variables.
pub variables_more : (ring letters : List ℕ) (l : ℕ) → AreVariables ring letters → is_letter l ≡ true → has_letter letters l ≡ false → is_same ring (l ∷ []) ≡ false → AreVariables ring (letters ++ l ∷ [])
variables_more ring [] l h is new free = (is, refl, free, tt)
variables_more ring (k ∷ letters) l h is new free =
    let p = or_parts (eqb k l) (has_letter letters l) new in
    (h.0, has_none_before letters k l h.1 (other_way k l p.0), h.2, variables_more ring letters l h.3 is p.1 free)

-- A letter that isn't among some is none of them.
has_none_in : (done : List ℕ) (k : ℕ) (more : List ℕ) (j : ℕ) → has_letter (done ++ k ∷ more) j ≡ false → eqb k j ≡ false
has_none_in [] k more j h = let p = or_parts (eqb k j) (has_letter more j) h in p.0
has_none_in (i ∷ done) k more j h = let p = or_parts (eqb i j) (has_letter (done ++ k ∷ more) j) h in has_none_in done k more j p.1

-- One of some variables is a letter, free of those before it and of the ring's name.
pub variables_parts : (ring done : List ℕ) (k : ℕ) (more : List ℕ) → AreVariables ring (done ++ k ∷ more) → (is_letter k ≡ true) × (has_letter done k ≡ false) × (is_same ring (k ∷ []) ≡ false)
variables_parts ring [] k more h = (h.0, refl, h.2)
variables_parts ring (j ∷ done) k more h =
    let p = variables_parts ring done k more h.3 in
    (p.0, or_from (eqb j k) (has_letter done k) (other_way k j (has_none_in done k more j h.1)) p.1, p.2)
