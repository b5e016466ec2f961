-- A valid ring that stands there is read.
-- The letters by induction on those that are left; then step by step along the statement.
use Rattle.std.proofs.Common.{◌≡◌, ℕ, zero, suc, ◌<◌, ◌≤◌, false, eqb, List, [], ◌∷◌, ◌++◌, length, Ok, refl, sym, ap, subst, ◌∙◌, append_assoc, arith}
use Rattle.std.proofs.lemmas.Bool.{ne_eqb}
use Rattle.std.proofs.lemmas.List.{append-nil, length-append}
use Rattle.std.specs.Prelude.{codes}
use Rattle.std.specs.List.{flat_map}
use Rattle.script_grammar.specs.Tokens.{Place, next, word, mark}
use Rattle.script_grammar.specs.Words.{is_the_mark}
use Rattle.script_grammar.specs.Trees.{Variables, alone, listed, variables_tokens, Ring, one}
use Rattle.script_grammar.specs.Statements.{variables_at, letters_at, letters_of, ring_at, listed_at}
use Rattle.script_grammar.specs.Valid.{Stand, AreVariables, ValidRing}
use Rattle.script_grammar.specs.Places.{Placed}
use Rattle.script_grammar.proofs.Steps.{Stand-split}
use Rattle.script_grammar.proofs.Places.{behind_mark, next_placed}
use Rattle.script_grammar.proofs.Variables.{variables_parts}
use Rattle.script_grammar.proofs.ReadRingIsValid.{more_letter, ring_tail}
use Rattle.script_grammar.proofs.StepsAreRead.{on_then, off_then, read_then, mark_then, word_then, ring_name_then, prime_then, variable_then}

-- Of at most 8 letters fewer than 8 stand before one of them.
few_before : (done : List ℕ) (k : ℕ) (more : List ℕ) → length (done ++ k ∷ more) ≤ 8 → eqb (length done) 8 ≡ false
few_before done k more h = ne_eqb (length done) 8 (λ e. absurd (omega (arith, length-append done (k ∷ more))))

-- Valid letters that stand in parentheses are read up to the ).
variables_again : (n : ℕ) (ring done : List ℕ) (t : Place) (letters : List ℕ) (u : Place) → Placed t → t.left < n → AreVariables ring (done ++ letters) → length (done ++ letters) ≤ 8
    → Stand t (flat_map more_letter letters ++ one (mark 41)) u → variables_at n ring done t ≡ Ok (done ++ letters, u)
unfolding variables_at
variables_again zero ring done t letters u placed room valid few p = absurd (omega arith)
variables_again (suc n) ring done t [] u placed room valid few p =
    off_then (is_the_mark 44 t.token) _ _ _ (ap (is_the_mark 44) p.0)
    (on_then (is_the_mark 41 t.token) _ _ _ (ap (is_the_mark 41) p.0) (ap (λ (x : Place). Ok (done, x)) p.1 ∙ ap (λ (l : List ℕ). Ok (l, u)) (sym (append-nil done))))
variables_again (suc n) ring done t (k ∷ letters) u placed room valid few p =
    let v = variables_parts ring done k letters valid in
    let regrouped : (done ++ k ∷ []) ++ letters ≡ done ++ k ∷ letters = append_assoc done (k ∷ []) letters in
    let less = behind_mark t 44 (one (word (k ∷ []))) (next (next t.rest).rest) placed p.0 (p.1.0, refl) in
    let on = variables_again n ring (done ++ k ∷ []) (next (next t.rest).rest) letters u less.1 (omega (arith, less.0))
    (subst (λ (l : List ℕ). AreVariables ring l) (sym regrouped) valid) (subst (λ (l : List ℕ). length l ≤ 8) (sym regrouped) few) p.1.1 in
    on_then (is_the_mark 44 t.token) _ _ _ (ap (is_the_mark 44) p.0)
    (variable_then ring done k (next t.rest) _ _ p.1.0 v.0 (few_before done k letters few) v.1 v.2 (on ∙ ap (λ (l : List ℕ). Ok (l, u)) regrouped))

-- Valid variables that stand there are read.
letters_again : (ring : List ℕ) (t : Place) (v : Variables) (u : Place) → AreVariables ring (letters_of v) → length (letters_of v) ≤ 8 → Stand t (variables_tokens v) u → letters_at ring t ≡ Ok (v, u)
unfolding letters_at
letters_again ring t (alone l) u valid few p =
    off_then (is_the_mark 40 t.token) _ _ _ (ap (is_the_mark 40) p.0)
    (variable_then ring [] l t _ _ p.0 valid.0 refl refl valid.2 (ap (λ (x : Place). Ok (alone l, x)) p.1))
letters_again ring t (listed l letters) u valid few p =
    let first = next (next t.rest).rest in
    let on = variables_again (suc first.left) ring (l ∷ []) first letters u (next_placed (next t.rest).rest) (omega arith) valid few p.1.1 in
    on_then (is_the_mark 40 t.token) _ _ _ (ap (is_the_mark 40) p.0)
    (read_then (listed_at ring (next t.rest)) _ (l ∷ letters, u) _ (variable_then ring [] l (next t.rest) _ _ p.1.0 valid.0 refl refl valid.2 on) refl)

-- The valid ring statement is read from behind its word on.
pub ring_again : (t : Place) (r : Ring) (u : Place) → ValidRing r → Stand t (ring_tail r) u → ring_at t ≡ Ok (r, u)
unfolding ring_at
ring_again t r u valid p =
    let q = Stand-split _ (variables_tokens r.variables) (mark 44 ∷ word (codes "ds") ∷ one (mark 59)) u p.1.1.1.1 in
    let letters = letters_again r.name _ r.variables q.0 valid.letters valid.count q.1 in
    ring_name_then r.name t _ _ p.0 valid.name.0 valid.name.1
    (mark_then _ _ _ _ _ p.1.0
    (prime_then r.prime _ _ _ p.1.1.0 valid.prime.0 valid.prime.1
    (mark_then _ _ _ _ _ p.1.1.1.0
    (read_then _ _ (r.variables, q.0) _ letters
    (mark_then _ _ _ _ _ q.2.0 (word_then _ _ _ _ _ q.2.1.0 (mark_then _ _ _ _ _ q.2.1.1.0 (ap (λ (x : Place). Ok (r, x)) q.2.1.1.1))))))))
