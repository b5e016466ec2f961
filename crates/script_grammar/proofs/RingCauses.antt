-- Each refusal in the ring statement has its cause.
-- Its name, its characteristic, its variables with their loop, and the marks between, each behind the tokens that were read.
use Rattle.std.proofs.Common.{◌≡◌, ℕ, suc, ◌≤◌, ◌<◌, true, false, not, ◌||◌, eqb, List, [], ◌∷◌, ◌++◌, length, Result, Ok, Err, refl, sym, ap, subst, ◌∙◌, ◌⊎◌, inl, inr, arith, append_assoc}
use Rattle.std.proofs.lemmas.Bool.{eqb-true, eqb-false, or_cases, not-true, not-false}
use Rattle.std.proofs.lemmas.List.{append-nil, length-append}
use Rattle.std.proofs.lemmas.Grind.{flat_map-append}
use Rattle.std.specs.Prelude.{codes}
use Rattle.std.specs.List.{list_any}
use Rattle.prime_field.specs.Decimal.{value_of}
use Rattle.prime_field.specs.Prime.{table, InTable}
use Rattle.script_grammar.specs.declared.refusal.Refusal.{Refusal}
use Rattle.script_grammar.specs.declared.refusal.ReadKind.TheVariants.{Expected, NotAPrime, TooManyVariables, NameClash}
use Rattle.script_grammar.specs.declared.refusal.What.TheVariants as whats
use Rattle.script_grammar.specs.Tokens.{Token, Place, next, word, mark}
use Rattle.script_grammar.specs.Words.{is_numeral, is_same, is_one_of, keywords, is_named, has_letter, is_the_mark, word_of}
use Rattle.script_grammar.specs.Trees.{Variables, variables_tokens, Ring, one}
use Rattle.script_grammar.specs.Steps.{◌>>=◌, mark_at, word_at, numeral_at}
use Rattle.script_grammar.specs.Expressions.{Declarations}
use Rattle.script_grammar.specs.Statements.{ring_name_at, prime_at, letter_of, variable_at, variables_at, letters_at, ring_at, letters_of, listed_at}
use Rattle.script_grammar.specs.Places.{Placed}
use Rattle.script_grammar.specs.Valid.{Stand, AreVariables}
use Rattle.script_grammar.specs.Spots.{the_ring_name, the_characteristic, a_variable, behind_variable, Behind, BeforeRing, InRing, letters_then, then_letters, Here, of_ring_name, of_characteristic, of_variables}
use Rattle.script_grammar.specs.Causes.{is_name, is_letter_token}
use Rattle.script_grammar.proofs.Places.{next_placed, behind_mark}
use Rattle.script_grammar.proofs.Steps.{ok_is, bind_err, chosen, err_is, never, mark_is}
use Rattle.script_grammar.proofs.Variables.{variables_more}
use Rattle.script_grammar.proofs.StepsBehindRead.{ring_name_step, prime_step, variable_step}
use Rattle.script_grammar.proofs.ReadRingIsValid.{letters_found}
use Rattle.script_grammar.proofs.StepsAreRead.{from_table}
use Rattle.script_grammar.proofs.TreeTokens.{AreTokens-variables}
use Rattle.script_grammar.proofs.RingByTokens.{letters_loop, more_letters, last_letter}
use Rattle.script_grammar.proofs.LoopEnds.{LoopEnds, loop_ends}
use Rattle.script_grammar.proofs.CauseSteps.{not_both, Leads, Leads-then, Caused, refused_here, number_is, numeral_refused, behind_on, mark_or, word_or}
use Rattle.script_grammar.proofs.RemarkCauses.{nothing}

-- what a ring statement declares, up to some of its variables
abbrev pub in_ring : List ℕ → ℕ → List ℕ → Declarations
in_ring name prime letters = record { ring = name; prime = prime; letters = letters; polys = []; ideals = [] }

abbrev IsRingName : List ℕ → Type 0
IsRingName name = (is_named name ≡ true) × (is_one_of keywords name ≡ false)

abbrev IsCharacteristic : List ℕ → Type 0
IsCharacteristic p = (is_numeral p ≡ true) × InTable (value_of p)

-- these tokens end with a ring statement up to the comma behind its characteristic
record Begun (name p : List ℕ) (c : List Token) : Type 0 where
  is_name : IsRingName name
  is_prime : IsCharacteristic p
  behind : Behind BeforeRing (word (codes "ring") ∷ word name ∷ mark 61 ∷ word p ∷ one (mark 44)) c

-- Such tokens with more behind them are in a ring statement, with variables that may be declared.
in_begun : (name p letters : List ℕ) (c done : List Token) → Begun name p c → length letters ≤ 8 → AreVariables name letters → InRing (in_ring name (value_of p) letters) done (c ++ done)
in_begun name p letters c done b few are = (p, record { name = b.is_name; prime = b.is_prime; count = few; letters = are }, behind_on _ c done b.behind)

-- the end of the ring statement
abbrev order_end : List ℕ → List ℕ → Variables → Place → Result (Ring × Place) Refusal
order_end name p v t = word_at (codes "ds") whats.Order t >>= λ end. mark_at 59 whats.Semicolon end >>= λ after. Ok (record { name = name; prime = p; variables = v }, after)

-- A comma behind letters that have commas between them gives letters with commas behind them.
commas : (first : ℕ) (letters : List ℕ) → (word (first ∷ []) ∷ then_letters letters) ++ one (mark 44) ≡ letters_then (first ∷ letters)
commas first [] = refl
commas first (k ∷ letters) = ap (λ (x : List Token). word (first ∷ []) ∷ mark 44 ∷ x) (commas k letters)

-- One more letter stands behind a comma.
letters-append : (letters : List ℕ) (l : ℕ) → then_letters (letters ++ l ∷ []) ≡ then_letters letters ++ (mark 44 ∷ one (word (l ∷ [])))
letters-append letters l = flat_map-append (λ k. mark 44 ∷ one (word (k ∷ []))) letters (l ∷ [])

module _ (s : Place) where
  -- The name of the ring is refused where it is none, or a keyword.
  ring_name_or : {B : Type 0} (c : List Token) (t : Place) (g : List ℕ × Place → Result B Refusal) (f : Refusal) → Leads s c t → Behind BeforeRing (one (word (codes "ring"))) c → (ring_name_at t >>= g) ≡ Err f
      → Caused s f ⊎ ((w : List ℕ) × IsRingName w × Leads s (c ++ one (word w)) (next t.rest) × (g (w, next t.rest) ≡ Err f))
  unfolding ring_name_at
  ring_name_or c t g f st here e = elim (bind_err (ring_name_at t) g f e) [
    | inl early ↦ elim (chosen (not (is_name t.token)) _ _ _ early) [
      | inl none ↦ inl (refused_here s nothing the_ring_name (Expected whats.Name) c t f st here (inl refl) (inr refl) (λ i. (i, not-true (is_name t.token) none.0)) none.1)
      | inr some ↦ elim (chosen (is_one_of keywords (word_of t.token)) _ _ _ some.1) [
        | inl keyword ↦ inl (refused_here s nothing the_ring_name NameClash c t f st here (inl refl) (inr refl) (λ i. (not-false (is_name t.token) some.0, keyword.0)) keyword.1)
        | inr free ↦ absurd (never _ f free.1)
      ]
    ]
    | inr late ↦
        let a = ring_name_step t (λ x. Ok x) late.0 (ap (λ (r : Result (List ℕ × Place) Refusal). r >>= λ x. Ok x) late.1) in
        inr (a.0, (a.2, a.3), Leads-then s c t (one (word a.0)) (next t.rest) st (a.1, refl) (tt, tt), ap g (ok_is (a.0, next t.rest) late.0 a.4) ∙ late.2)
  ]

  -- The characteristic is refused where it is no numeral, or not in the table.
  prime_or : {B : Type 0} (name : List ℕ) (c : List Token) (t : Place) (g : List ℕ × Place → Result B Refusal) (f : Refusal) → Leads s c t → IsRingName name → Behind BeforeRing (word (codes "ring") ∷ word name ∷ one (mark 61)) c
      → (prime_at t >>= g) ≡ Err f → Caused s f ⊎ ((p : List ℕ) × IsCharacteristic p × Leads s (c ++ one (word p)) (next t.rest) × (g (p, next t.rest) ≡ Err f))
  unfolding prime_at
  prime_or name c t g f st named here e =
      let known = in_ring name 0 [] in
      elim (bind_err (prime_at t) g f e) [
        | inl early ↦ elim (bind_err (numeral_at t) _ f early) [
          | inl none ↦ let r = numeral_refused t f none in inl (refused_here s known the_characteristic (Expected whats.Numeral) c t f st (named.0, named.1, here) (inl refl) (inr refl) (λ i. (i, r.0)) r.1)
          | inr some ↦
              let n = some.0 in
              let is = number_is t n some.1 in
              elim (chosen (list_any (λ q. eqb q (value_of n.0)) table) _ _ _ some.2) [
                | inl yea ↦ absurd (never _ f yea.1)
                | inr nay ↦ inl (refused_here s known the_characteristic NotAPrime c t f st (named.0, named.1, here) (inl refl) (inr refl)
                    (λ i. (is.0, λ (h : InTable (value_of (word_of t.token))). not_both (list_any (λ q. eqb q (value_of n.0)) table) nay.0 (from_table (value_of n.0) (subst (λ (w : List ℕ). InTable (value_of w)) (sym is.1) h)))) nay.1)
              ]
        ]
        | inr late ↦
            let a = prime_step t (λ x. Ok x) late.0 (ap (λ (r : Result (List ℕ × Place) Refusal). r >>= λ x. Ok x) late.1) in
            inr (a.0, (a.2, a.3), Leads-then s c t (one (word a.0)) (next t.rest) st (a.1, refl) (tt, tt), ap g (ok_is (a.0, next t.rest) late.0 a.4) ∙ late.2)
      ]

  -- A variable is refused where it is no letter, the ninth one, or taken.
  variable_caused : (name letters : List ℕ) (p : ℕ) (c : List Token) (t : Place) (f : Refusal) → Leads s c t → Here (in_ring name p letters) a_variable c → length letters ≤ 8 → variable_at name letters t ≡ Err f → Caused s f
  unfolding variable_at
  variable_caused name letters p c t f st here few e =
      let known = in_ring name p letters in
      elim (chosen (not (is_letter_token t.token)) _ _ _ e) [
        | inl none ↦ refused_here s known a_variable (Expected whats.Variable) c t f st here (inl refl) (inr refl) (λ i. (i, not-true (is_letter_token t.token) none.0)) none.1
        | inr some ↦
            let is = not-false (is_letter_token t.token) some.0 in
            elim (chosen (eqb (length letters) 8) _ _ _ some.1) [
              | inl ninth ↦ refused_here s known a_variable TooManyVariables c t f st here (inl refl) (inr refl) (λ i. (is, eqb-true (length letters) 8 ninth.0)) ninth.1
              | inr room ↦
                  let less : length letters < 8 = omega (arith, few, eqb-false (length letters) 8 room.0) in
                  elim (chosen (has_letter letters (letter_of (word_of t.token)) || is_same name (word_of t.token)) _ _ _ room.1) [
                    | inl taken ↦ refused_here s known a_variable NameClash c t f st here (inl refl) (inr refl) (λ i. (is, less, or_cases (has_letter letters (letter_of (word_of t.token))) (is_same name (word_of t.token)) taken.0)) taken.1
                    | inr free ↦ absurd (never _ f free.1)
                  ]
            ]
      ]

  -- ---- variables in parentheses
  -- letters that were read in parentheses, behind the comma that ends c
  record Lettered (name p : List ℕ) (c : List Token) (letters : List ℕ) (t : Place) : Type 0 where
    first : ℕ
    others : List ℕ
    is : letters ≡ first ∷ others
    leads : Leads s (c ++ (mark 40 ∷ word (first ∷ []) ∷ then_letters others)) t
    few : length letters ≤ 8
    are : AreVariables name letters

  -- Behind the comma that follows letters, one more variable must stand.
  comma_here : (name p letters : List ℕ) (c : List Token) (t : Place) (k : Lettered name p c letters t) → Begun name p c → Here (in_ring name (value_of p) letters) a_variable ((c ++ (mark 40 ∷ word (k.first ∷ []) ∷ then_letters k.others)) ++ one (mark 44))
  comma_here name p letters c t k b =
      let same : mark 40 ∷ ((word (k.first ∷ []) ∷ then_letters k.others) ++ one (mark 44)) ≡ mark 40 ∷ letters_then letters =
      ap (λ (x : List Token). mark 40 ∷ x) (commas k.first k.others ∙ ap letters_then (sym k.is)) in
      let all : c ++ (mark 40 ∷ ((word (k.first ∷ []) ∷ then_letters k.others) ++ one (mark 44))) ≡ (c ++ (mark 40 ∷ word (k.first ∷ []) ∷ then_letters k.others)) ++ one (mark 44) =
      sym (append_assoc c (mark 40 ∷ word (k.first ∷ []) ∷ then_letters k.others) (one (mark 44))) in
      inr (subst (λ (x : List Token). InRing (in_ring name (value_of p) letters) (mark 40 ∷ letters_then letters) x) (ap (λ (x : List Token). c ++ x) (sym same) ∙ all) (in_begun name p letters c (mark 40 ∷ letters_then letters) b k.few k.are))

  -- A variable that is read behind a comma is declared too, and less is left.
  letter_kept : (name p : List ℕ) (c : List Token) (letters : List ℕ) (t : Place) (l : ℕ) (u : Place) → Lettered name p c letters t → Placed t → is_the_mark 44 t.token ≡ true → variable_at name letters (next t.rest) ≡ Ok (l, u)
      → (u.left < t.left) × Placed u × Lettered name p c (letters ++ l ∷ []) u
  letter_kept name p c letters t l u k placed comma e =
      let a = variable_step name letters (next t.rest) (λ x. Ok x) (l, u) (ap (λ (r : Result (ℕ × Place) Refusal). r >>= λ x. Ok x) e) in
      let same : (a.0, next (next t.rest).rest) ≡ (l, u) = ok_is (a.0, next (next t.rest).rest) (l, u) a.6 in
      let here = mark_is 44 t.token comma in
      let on : Stand t (mark 44 ∷ one (word (a.0 ∷ []))) (next (next t.rest).rest) = (here, (a.1, refl)) in
      let less = behind_mark t 44 (one (word (a.0 ∷ []))) (next (next t.rest).rest) placed here (a.1, refl) in
      let read = c ++ (mark 40 ∷ word (k.first ∷ []) ∷ then_letters k.others) in
      let more : read ++ (mark 44 ∷ one (word (a.0 ∷ []))) ≡ c ++ (mark 40 ∷ word (k.first ∷ []) ∷ then_letters (k.others ++ a.0 ∷ [])) =
      append_assoc c (mark 40 ∷ word (k.first ∷ []) ∷ then_letters k.others) (mark 44 ∷ one (word (a.0 ∷ []))) ∙ ap (λ (x : List Token). c ++ (mark 40 ∷ word (k.first ∷ []) ∷ x)) (sym (letters-append k.others a.0)) in
      subst (λ (q : ℕ × Place). (q.1.left < t.left) × Placed q.1 × Lettered name p c (letters ++ q.0 ∷ []) q.1) same (
        less.0,
        less.1,
        record {
          first = k.first;
          others = k.others ++ a.0 ∷ [];
          is = ap (λ (x : List ℕ). x ++ a.0 ∷ []) k.is;
          leads = subst (λ (x : List Token). Leads s x (next (next t.rest).rest)) more (Leads-then s read t (mark 44 ∷ one (word (a.0 ∷ []))) (next (next t.rest).rest) k.leads on (tt, (tt, tt)));
          few = omega (arith, length-append letters (a.0 ∷ []), k.few, eqb-false (length letters) 8 a.3);
          are = variables_more name letters a.0 k.are a.2 a.4 a.5;
        },
      )

  -- Letters in parentheses are refused where one of them is, or where neither a comma nor the ) stands behind one.
  letters_caused : (name p : List ℕ) (c : List Token) (letters : List ℕ) (t : Place) (f : Refusal) → Begun name p c → Lettered name p c letters t → Placed t → variables_at (suc t.left) name letters t ≡ Err f → Caused s f
  letters_caused name p c letters t f b k placed e =
      let end : LoopEnds (List ℕ) ℕ (List ℕ) (λ y i. is_the_mark 44 i) (λ y t. variable_at name y (next t.rest)) last_letter (Lettered name p c) (Err f) =
      loop_ends (List ℕ) ℕ (List ℕ) (λ y i. is_the_mark 44 i) (λ y t. variable_at name y (next t.rest)) (λ y l. y ++ l ∷ []) last_letter (more_letters name) (letters_loop name) (Lettered name p c)
      (λ y t l u kept placed goes e. letter_kept name p c y t l u kept placed goes e) t.left letters t (Err f) (omega arith) placed k e in
      let q = end.place in
      let read = c ++ (mark 40 ∷ word (end.kept.first ∷ []) ∷ then_letters end.kept.others) in
      elim end.ended [
        | inl refused ↦
            variable_caused name end.so_far (value_of p) (read ++ one (mark 44)) (next q.rest) f (Leads-then s read q (one (mark 44)) (next q.rest) end.kept.leads (mark_is 44 q.token refused.0, refl) (tt, tt))
            (comma_here name p end.so_far c q end.kept b) end.kept.few (refused.2 ∙ ap (λ (z : Refusal). Err z) (sym (err_is {A = List ℕ × Place} f refused.1 refused.3)))
        | inr stopped ↦ elim (chosen (is_the_mark 41 q.token) _ _ _ stopped.1) [
          | inl closed ↦ absurd (never _ f closed.1)
          | inr none ↦ refused_here s (in_ring name (value_of p) end.so_far) behind_variable (Expected whats.Comma) read q f end.kept.leads
              (end.kept.first, end.kept.others, end.kept.is, in_begun name p end.so_far c (mark 40 ∷ word (end.kept.first ∷ []) ∷ then_letters end.kept.others) b end.kept.few end.kept.are) (inl refl) (inr refl) (λ i. (i, (stopped.0, none.0))) none.1
        ]
      ]

  -- The variables are refused where the first one is, or those behind it.
  variables_caused : (name p : List ℕ) (c : List Token) (t : Place) (f : Refusal) → Begun name p c → Leads s c t → Placed t → letters_at name t ≡ Err f → Caused s f
  unfolding letters_at
  variables_caused name p c t f b st placed e = elim (chosen (is_the_mark 40 t.token) _ _ _ e) [
    | inl opened ↦
        let d = c ++ one (mark 40) in
        let st-1 = Leads-then s c t (one (mark 40)) (next t.rest) st (mark_is 40 t.token opened.0, refl) (tt, tt) in
        elim (bind_err (listed_at name (next t.rest)) _ f opened.1) [
          | inr all ↦ absurd (never _ f all.2)
          | inl inside ↦ elim (bind_err (variable_at name [] (next t.rest)) _ f inside) [
            | inl early ↦ variable_caused name [] (value_of p) d (next t.rest) f st-1 (inr (in_begun name p [] c (one (mark 40)) b (omega arith) tt)) (omega arith) early
            | inr late ↦
                let a = variable_step name [] (next t.rest) (λ x. Ok x) late.0 (ap (λ (r : Result (ℕ × Place) Refusal). r >>= λ x. Ok x) late.1) in
                let u = next (next t.rest).rest in
                let same : late.0 ≡ (a.0, u) = sym (ok_is (a.0, u) late.0 a.6) in
                let to_u : Leads s (c ++ (mark 40 ∷ one (word (a.0 ∷ [])))) u = Leads-then s c t (mark 40 ∷ one (word (a.0 ∷ []))) u st (mark_is 40 t.token opened.0, (a.1, refl)) (tt, (tt, tt)) in
                let k : Lettered name p c (a.0 ∷ []) u = record { first = a.0; others = []; is = refl; leads = to_u; few = omega arith; are = (a.2, refl, a.5, tt) } in
                letters_caused name p c (a.0 ∷ []) u f b k (next_placed (next t.rest).rest) (sym (ap (λ (x : ℕ × Place). variables_at (suc x.1.left) name (x.0 ∷ []) x.1) same) ∙ late.2)
          ]
        ]
    | inr nay ↦ elim (bind_err (variable_at name [] t) _ f nay.1) [
      | inl early ↦ variable_caused name [] (value_of p) c t f st (inl (refl, (subst (λ (x : List Token). InRing (in_ring name (value_of p) []) [] x) (append-nil c) (in_begun name p [] c [] b (omega arith) tt)))) (omega arith) early
      | inr late ↦ absurd (never _ f late.2)
    ]
  ]

  -- Behind the variables, the comma, ds and ; must stand.
  order_caused : (name p : List ℕ) (v : Variables) (c : List Token) (t : Place) (f : Refusal) → Begun name p c → Leads s (c ++ variables_tokens v) t → length (letters_of v) ≤ 8 → AreVariables name (letters_of v)
      → (mark_at 44 whats.Comma t >>= order_end name p v) ≡ Err f → Caused s f
  order_caused name p v c t f b st few are e =
      let known = in_ring name (value_of p) (letters_of v) in
      let end = mark 44 ∷ word (codes "ds") ∷ one (mark 59) in
      let here = λ (done : List Token). subst (λ (x : List Token). InRing known (variables_tokens v ++ done) x) (sym (append_assoc c (variables_tokens v) done)) (in_begun name p (letters_of v) c (variables_tokens v ++ done) b few are) in
      let at_end = subst (λ (x : List Token). InRing known (variables_tokens v ++ []) x) (append-nil (c ++ variables_tokens v)) (here []) in
      elim (mark_or s known 44 whats.Comma _ t _ f st (of_variables v (mark 44) [] _ _ refl refl at_end) (λ no. (refl, no)) e) [
        | inl done ↦ done
        | inr a ↦ elim (word_or s known (codes "ds") whats.Order _ _ _ f a.0 (of_variables v (word (codes "ds")) (one (mark 44)) (one (mark 59)) _ refl refl (here (one (mark 44)))) (λ no. (refl, no)) a.1) [
          | inl done ↦ done
          | inr d ↦
              let joined = append_assoc (c ++ variables_tokens v) (one (mark 44)) (one (word (codes "ds"))) in
              let last = subst (λ (x : List Token). InRing known (variables_tokens v ++ (mark 44 ∷ one (word (codes "ds")))) x) (sym joined) (here (mark 44 ∷ one (word (codes "ds")))) in
              elim (mark_or s known 59 whats.Semicolon _ _ _ f d.0 (of_variables v (mark 59) (mark 44 ∷ one (word (codes "ds"))) [] _ refl refl last) (λ no. (refl, no)) d.1) [
                | inl done ↦ done
                | inr all ↦ absurd (never _ f all.1)
              ]
        ]
      ]

  -- Behind the comma, the variables are refused, or what is behind them.
  behind_comma : (name p : List ℕ) (d : List Token) (t : Place) (f : Refusal) → Begun name p d → Leads s d t → Placed t → (letters_at name t >>= λ v. mark_at 44 whats.Comma v.1 >>= order_end name p v.0) ≡ Err f → Caused s f
  behind_comma name p d t f b st placed e = elim (bind_err (letters_at name t) _ f e) [
    | inl early ↦ variables_caused name p d t f b st placed early
    | inr late ↦
        let v = late.0 in
        let is = letters_found name t v late.1 in
        order_caused name p v.0 d v.1 f b (Leads-then s d t (variables_tokens v.0) v.1 st is.stand (AreTokens-variables v.0)) is.count is.valid late.2
  ]

  -- The ring statement is refused where a part of it is.
  pub ring_caused : (c : List Token) (t : Place) (f : Refusal) → Behind BeforeRing (one (word (codes "ring"))) c → Leads s c t → ring_at t ≡ Err f → Caused s f
  unfolding ring_at
  ring_caused c t f here st e = elim (ring_name_or c t _ f st here e) [
    | inl done ↦ done
    | inr n ↦
        let name = n.0 in
        let b-1 = behind_on _ c (one (word name)) here in
        elim (mark_or s (in_ring name 0 []) 61 whats.Equals _ _ _ f n.2 (of_ring_name _ n.1 b-1) (λ no. (refl, no)) n.3) [
          | inl done ↦ done
          | inr a ↦
              let b-2 = behind_on _ _ (one (mark 61)) b-1 in
              elim (prime_or name _ _ _ f a.0 n.1 b-2 a.1) [
                | inl done ↦ done
                | inr q ↦
                    let b-3 = behind_on _ _ (one (word q.0)) b-2 in
                    elim (mark_or s (in_ring name 0 []) 44 whats.Comma _ _ _ f q.2 (of_characteristic q.0 _ n.1 q.1 b-3) (λ no. (refl, no)) q.3) [
                      | inl done ↦ done
                      | inr k ↦
                          let d = (((c ++ one (word name)) ++ one (mark 61)) ++ one (word q.0)) ++ one (mark 44) in
                          let begun : Begun name q.0 d = record { is_name = n.1; is_prime = q.1; behind = behind_on _ _ (one (mark 44)) b-3 } in
                          behind_comma name q.0 d _ f begun k.0 (next_placed _) k.1
                    ]
              ]
        ]
  ]
