-- The ring that is read stands there, and is valid.
-- Its letters by induction on the turns of their loop; then step by step along the statement.
use Rattle.std.proofs.Common.{◌≡◌, ℕ, zero, suc, ◌≤◌, List, [], ◌∷◌, ◌++◌, length, Ok, refl, sym, ap, subst, ◌∙◌, inl, inr, append_assoc, arith}
use Rattle.std.proofs.lemmas.List.{append-nil, length-append}
use Rattle.std.proofs.lemmas.Bool.{eqb-false}
use Rattle.std.specs.Prelude.{codes}
use Rattle.std.specs.List.{flat_map}
use Rattle.script_grammar.specs.Tokens.{Token, Place, next, word, mark}
use Rattle.script_grammar.specs.Words.{is_the_mark}
use Rattle.script_grammar.specs.Trees.{Variables, alone, listed, variables_tokens, Ring, one}
use Rattle.script_grammar.specs.Statements.{variables_at, listed_at, listed_letters, letters_at, letters_of, ring_at}
use Rattle.script_grammar.specs.Valid.{Stand, AreVariables, ValidRing}
use Rattle.script_grammar.proofs.Steps.{ok_is, bind_ok, chosen, went_in, mark_is, Stand-then}
use Rattle.script_grammar.proofs.Variables.{variables_more}
use Rattle.script_grammar.proofs.StepsBehindRead.{mark_step, word_step, ring_name_step, prime_step, variable_step}

-- a comma and a letter
abbrev pub more_letter : ℕ → List Token
more_letter k = mark 44 ∷ one (word (k ∷ []))

pub record LettersAre (ring done : List ℕ) (t : Place) (x : List ℕ × Place) : Type 0 where
  pub letters : List ℕ
  pub is : x.0 ≡ done ++ letters
  pub stand : Stand t (flat_map more_letter letters ++ one (mark 41)) x.1
  pub valid : AreVariables ring x.0
  pub count : length x.0 ≤ 8

-- Letters behind a comma and a letter are letters with that one before.
letter_before : (ring done : List ℕ) (l : ℕ) (t : Place) (x : List ℕ × Place) → t.token ≡ mark 44 → (next t.rest).token ≡ word (l ∷ []) → LettersAre ring (done ++ l ∷ []) (next (next t.rest).rest) x → LettersAre ring done t x
letter_before ring done l t x comma here h =
    record { letters = l ∷ h.letters; is = h.is ∙ append_assoc done (l ∷ []) h.letters; stand = (comma, (here, h.stand)); valid = h.valid; count = h.count }

-- Letters that a loop reads in parentheses are variables, with those before, and at most 8.
variables_found : (n : ℕ) (ring done : List ℕ) (t : Place) (x : List ℕ × Place) → AreVariables ring done → length done ≤ 8 → variables_at n ring done t ≡ Ok x → LettersAre ring done t x
unfolding variables_at
variables_found zero ring done t x valid few e = absurd cc
variables_found (suc n) ring done t x valid few e =
    let branch = chosen (is_the_mark 44 t.token) _ _ _ e in
    elim branch [
      | inl yea ↦
          let a = variable_step ring done _ _ _ yea.1 in
          let room : length (done ++ a.0 ∷ []) ≤ 8 = omega (arith, length-append done (a.0 ∷ []), eqb-false (length done) 8 a.3) in
          let h = variables_found n ring (done ++ a.0 ∷ []) _ x (variables_more ring done a.0 valid a.2 a.4 a.5) room a.6 in
          letter_before ring done a.0 t x (mark_is 44 t.token yea.0) a.1 h
      | inr nay ↦
          let g = went_in (is_the_mark 41 t.token) _ _ _ nay.1 in
          subst (λ (y : List ℕ × Place). LettersAre ring done t y) (ok_is (done, next t.rest) x g.1)
          (record { letters = []; is = sym (append-nil done); stand = (mark_is 41 t.token g.0, refl); valid = valid; count = few })
    ]

pub record VariablesAre (ring : List ℕ) (t : Place) (x : Variables × Place) : Type 0 where
  pub stand : Stand t (variables_tokens x.0) x.1
  pub valid : AreVariables ring (letters_of x.0)
  pub count : length (letters_of x.0) ≤ 8

-- The variables that are read stand there, differ from each other and from the ring's name, and are at most 8.
pub letters_found : (ring : List ℕ) (t : Place) (x : Variables × Place) → letters_at ring t ≡ Ok x → VariablesAre ring t x
unfolding letters_at
letters_found ring t x e =
    let branch = chosen (is_the_mark 40 t.token) _ _ _ e in
    elim branch [
      | inl yea ↦
          let b = bind_ok (listed_at ring (next t.rest)) _ x yea.1 in
          let a = variable_step ring [] (next t.rest) _ b.0 b.1 in
          let h = variables_found _ ring (a.0 ∷ []) _ b.0 (a.2, refl, a.5, tt) (omega arith) a.6 in
          let made : Variables × Place = (listed_letters b.0.0, b.0.1) in
          let is : b.0.0 ≡ a.0 ∷ h.letters = h.is in
          subst (λ (y : Variables × Place). VariablesAre ring t y) (ok_is made x b.2)
          (subst (λ (letters : List ℕ). VariablesAre ring t (listed_letters letters, b.0.1)) (sym is)
          (record {
            stand = (mark_is 40 t.token yea.0, (a.1, h.stand));
            valid = subst (λ (letters : List ℕ). AreVariables ring letters) is h.valid;
            count = subst (λ (letters : List ℕ). length letters ≤ 8) is h.count;
          }))
      | inr nay ↦
          let a = variable_step ring [] _ _ _ nay.1 in
          let made : Variables × Place = (alone a.0, next t.rest) in
          subst (λ (y : Variables × Place). VariablesAre ring t y) (ok_is made x a.6) (record { stand = (a.1, refl); valid = (a.2, refl, a.5, tt); count = omega arith })
    ]

-- the tokens behind the word ring
abbrev pub ring_tail : Ring → List Token
ring_tail r = word r.name ∷ mark 61 ∷ word r.prime ∷ mark 44 ∷ (variables_tokens r.variables ++ (mark 44 ∷ word (codes "ds") ∷ one (mark 59)))

-- The ring statement that is read stands there and is valid.
pub ring_found : (t : Place) (x : Ring × Place) → ring_at t ≡ Ok x → Stand t (ring_tail x.0) x.1 × ValidRing x.0
unfolding ring_at
ring_found t x e =
    let name = ring_name_step _ _ _ e in
    let equals = mark_step _ _ _ _ _ name.4 in
    let prime = prime_step _ _ _ equals.1 in
    let comma = mark_step _ _ _ _ _ prime.4 in
    let letters = bind_ok _ _ _ comma.1 in
    let v = letters_found name.0 _ letters.0 letters.1 in
    let order = mark_step _ _ _ _ _ letters.2 in
    let last = word_step _ _ _ _ _ order.1 in
    let after = mark_step _ _ _ _ _ last.1 in
    let u = letters.0.1 in
    let behind : Stand u (mark 44 ∷ word (codes "ds") ∷ one (mark 59)) (next (next (next u.rest).rest).rest) = (order.0, (last.0, (after.0, refl))) in
    subst (λ (y : Ring × Place). Stand t (ring_tail y.0) y.1 × ValidRing y.0) (ok_is _ x after.1) (
      (name.1, (equals.0, (prime.1, (comma.0, Stand-then _ (variables_tokens letters.0.0) u (mark 44 ∷ word (codes "ds") ∷ one (mark 59)) _ v.stand behind)))),
      record { name = (name.2, name.3); prime = (prime.2, prime.3); count = v.count; letters = v.valid },
    )
