-- An expression that is read stands there, and is valid.
-- Along the reading functions: each step that did not fail gives its tokens, and the tests on the way are what a valid tree needs.
use Rattle.std.proofs.Common.{◌≡◌, ℕ, zero, suc, ◌%◌, Bool, true, false, cond, not, ◌&&◌, ◌||◌, eqb, List, ◌∷◌, Result, Ok, Err, refl, sym, ap, subst, ◌∙◌, ◌⊎◌, inl, inr}
use Rattle.std.proofs.lemmas.Bool.{eqb-false, and_parts, not-false}
use Rattle.prime_field.specs.Decimal.{value_of}
use Rattle.script_grammar.specs.declared.refusal.Refusal.{Refusal}
use Rattle.script_grammar.specs.declared.refusal.What.TheVariants as whats
use Rattle.script_grammar.specs.declared.refusal.ReadKind.TheVariants.{Expected, UnknownName, ExponentTooLarge, ZeroDivisor}
use Rattle.script_grammar.specs.Tokens.{Place, next, mark, word}
use Rattle.script_grammar.specs.Words.{is_numeral, is_one_of, keywords, is_short, has_large, is_the_mark, is_word, word_of}
use Rattle.script_grammar.specs.Trees.{Operand, number, fraction, named, inside, operand_tokens, Power, plain, raised, power_tokens, Term, single, times, term_tokens, Sum, bare, positive, negative, plus, minus, sum_tokens, one}
use Rattle.script_grammar.specs.Steps.{◌>>=◌, mark_at, numeral_at, exponent_at}
use Rattle.script_grammar.specs.Expressions.{Declarations, below_at, fraction_at, word_operand_at, operand_at, takes_exponent, power_at, times_at, term_at, more_at, first_at, sum_at, inner_at, expression_at}
use Rattle.script_grammar.specs.Valid.{Stand, ValidOperand, ValidPower, ValidTerm, ValidSum}
use Rattle.script_grammar.proofs.Steps.{refusal, ok_is, bind_ok, chosen, went_on, went_in, mark_is, some_word_is, Stand-then}
use Rattle.script_grammar.proofs.ReadTokensStand.{mark_found, numeral_found, exponent_found}

abbrev pub OperandIs : Declarations → ℕ → Place → Operand × Place → Type 0
OperandIs known deep t o = Stand t (operand_tokens o.0) o.1 × ValidOperand known deep o.0

-- What is read below / is a numeral that isn't zero modulo the characteristic.
below_found : (known : Declarations) (t : Place) (digits : List ℕ) (o : Operand × Place) → below_at known digits t ≡ Ok o
    → (below : List ℕ) × (o.0 ≡ fraction digits below) × (t.token ≡ word below) × (is_numeral below ≡ true) × (value_of below % known.prime ≡ 0 → ⊥) × (next t.rest ≡ o.1)
unfolding below_at
below_found known t digits o e =
    let f : List ℕ × Place → Result (Operand × Place) Refusal = λ n. cond (eqb (value_of n.0 % known.prime) 0) (Err (refusal t ZeroDivisor)) (Ok (fraction digits n.0, n.1)) in
    let a = bind_ok (numeral_at t) f o e in
    let x : Operand × Place = (fraction digits a.0.0, a.0.1) in
    let g = went_on (eqb (value_of a.0.0 % known.prime) 0) (refusal t ZeroDivisor) (Ok x) o a.2 in
    let same = ok_is x o g.1 in
    let n = numeral_found t a.0 a.1 in
    (a.0.0, sym (ap (λ (p : Operand × Place). p.0) same), n.0, n.1, eqb-false _ _ g.0, n.2 ∙ ap (λ (p : Operand × Place). p.1) same)

-- What is read from a numeral on is that numeral, or a fraction with it above.
pub fraction_found : (known : Declarations) (deep : ℕ) (t : Place) (digits : List ℕ) (o : Operand × Place) → t.token ≡ word digits → is_numeral digits ≡ true → fraction_at known digits (next t.rest) ≡ Ok o → OperandIs known deep t o
unfolding fraction_at operand_tokens
fraction_found known deep t digits o here numeral e =
    let slash = next t.rest in
    let x : Operand × Place = (number digits, slash) in
    elim (chosen (is_the_mark 47 slash.token) (below_at known digits (next slash.rest)) (Ok x) (Ok o) e) [
      | inl yea ↦
          let b = below_found known (next slash.rest) digits o yea.1 in
          subst (λ (y : Operand). Stand t (operand_tokens y) o.1 × ValidOperand known deep y) (sym b.1)
          ((here, (mark_is 47 slash.token yea.0, (b.2, b.5))), (numeral, b.3, b.4))
      | inr nay ↦ subst (λ (y : Operand × Place). OperandIs known deep t y) (ok_is x o nay.1) ((here, refl), numeral)
    ]

-- A word that is no numeral and no keyword, and is a poly's name or a short monomial with small exponents, passes the test of an operand.
name_tests : (a b c d e : Bool) → a ≡ false → b ≡ false → (c ≡ true) ⊎ (d ≡ true) × (e ≡ false) → (not a && (not b && (c || (d && not e)))) ≡ true
name_tests a b c d e p q (inl r) = rw (p, q, r) refl
name_tests a b true d e p q (inr r) = rw (p, q) refl
name_tests a b false d e p q (inr r) = rw (p, q, r.0, r.1) refl

-- What is read from a word on stands there and is a valid operand.
word_found : (known : Declarations) (deep : ℕ) (t : Place) (w : List ℕ) (o : Operand × Place) → t.token ≡ word w → word_operand_at known w t ≡ Ok o → OperandIs known deep t o
unfolding word_operand_at operand_tokens
word_found known deep t w o here e =
    let x : Operand × Place = (named w, next t.rest) in
    let short : Result (Operand × Place) Refusal = cond (not (is_short known.letters w)) (Err (refusal t UnknownName)) (cond (has_large w) (Err (refusal t ExponentTooLarge)) (Ok x)) in
    let poly_or_short : Result (Operand × Place) Refusal = cond (is_one_of known.polys w) (Ok x) short in
    let no_keyword = went_on (is_one_of keywords w) (refusal t UnknownName) (cond (is_numeral w) (fraction_at known w (next t.rest)) poly_or_short) o e in
    elim (chosen (is_numeral w) (fraction_at known w (next t.rest)) poly_or_short (Ok o) no_keyword.1) [
      | inl yea ↦ fraction_found known deep t w o here yea.0 yea.1
      | inr nay ↦ elim (chosen (is_one_of known.polys w) (Ok x) short (Ok o) nay.1) [
        | inl yea ↦ subst (λ (y : Operand × Place). OperandIs known deep t y) (ok_is x o yea.1)
            ((here, refl), name_tests (is_numeral w) (is_one_of keywords w) (is_one_of known.polys w) (is_short known.letters w) (has_large w) nay.0 no_keyword.0 (inl yea.0))
        | inr strange ↦
            let h = went_on (not (is_short known.letters w)) (refusal t UnknownName) (cond (has_large w) (Err (refusal t ExponentTooLarge)) (Ok x)) o strange.1 in
            let k = went_on (has_large w) (refusal t ExponentTooLarge) (Ok x) o h.1 in
            subst (λ (y : Operand × Place). OperandIs known deep t y) (ok_is x o k.1)
            ((here, refl), name_tests (is_numeral w) (is_one_of keywords w) (is_one_of known.polys w) (is_short known.letters w) (has_large w) nay.0 no_keyword.0 (inr (not-false _ h.0, k.0)))
      ]
    ]

-- what reading in parentheses gives stands there
abbrev pub InnerIs : (Place → Result (Sum × Place) Refusal) → Declarations → ℕ → Type 0
InnerIs inner known deep = (t : Place) (s : Sum × Place) → t.token ≡ mark 40 → inner t ≡ Ok s → Stand t (operand_tokens (inside s.0)) s.1 × ValidOperand known deep (inside s.0)

-- What is read in parentheses is a valid operand, if what is inside is a valid sum.
paren_found : (inner : Place → Result (Sum × Place) Refusal) (known : Declarations) (deep : ℕ) (t : Place) (o : Operand × Place) → InnerIs inner known deep → t.token ≡ mark 40 → (inner t >>= λ s. Ok (inside s.0, s.1)) ≡ Ok o → OperandIs known deep t o
paren_found inner known deep t o law here e =
    let f : Sum × Place → Result (Operand × Place) Refusal = λ s. Ok (inside s.0, s.1) in
    let a = bind_ok (inner t) f o e in
    let x : Operand × Place = (inside a.0.0, a.0.1) in
    subst (λ (y : Operand × Place). OperandIs known deep t y) (ok_is x o a.2) (law t a.0 here a.1)

-- What is read as an operand stands there and is valid.
pub operand_found : (inner : Place → Result (Sum × Place) Refusal) (known : Declarations) (deep : ℕ) (t : Place) (o : Operand × Place) → InnerIs inner known deep → operand_at inner known t ≡ Ok o → OperandIs known deep t o
unfolding operand_at
operand_found inner known deep t o law e =
    let in_parentheses : Result (Operand × Place) Refusal = inner t >>= λ s. Ok (inside s.0, s.1) in
    elim (chosen (is_word t.token) (word_operand_at known (word_of t.token) t) (cond (is_the_mark 40 t.token) in_parentheses (Err (refusal t (Expected whats.Operand)))) (Ok o) e) [
      | inl yea ↦ word_found known deep t (word_of t.token) o (some_word_is t.token yea.0) yea.1
      | inr nay ↦
          let g = went_in (is_the_mark 40 t.token) (refusal t (Expected whats.Operand)) in_parentheses o nay.1 in
          paren_found inner known deep t o law (mark_is 40 t.token g.0) g.1
    ]

abbrev pub PowerIs : Declarations → ℕ → Place → Power × Place → Type 0
PowerIs known deep t x = Stand t (power_tokens x.0) x.1 × ValidPower known deep x.0

-- What is read as a power stands there and is valid.
pub power_found : (inner : Place → Result (Sum × Place) Refusal) (known : Declarations) (deep : ℕ) (t : Place) (x : Power × Place) → InnerIs inner known deep → power_at inner known t ≡ Ok x → PowerIs known deep t x
unfolding power_at power_tokens
power_found inner known deep t x law e =
    let raise : Operand × Place → List ℕ × Place → Result (Power × Place) Refusal = λ o n. Ok (raised o.0 n.0, n.1) in
    let f : Operand × Place → Result (Power × Place) Refusal = λ o. cond (takes_exponent known o.0 && is_the_mark 94 o.1.token) (exponent_at (next o.1.rest) >>= raise o) (Ok (plain o.0, o.1)) in
    let a = bind_ok (operand_at inner known t) f x e in
    let o = a.0 in
    let is = operand_found inner known deep t o law a.1 in
    let bare_power : Power × Place = (plain o.0, o.1) in
    elim (chosen (takes_exponent known o.0 && is_the_mark 94 o.1.token) (exponent_at (next o.1.rest) >>= raise o) (Ok bare_power) (Ok x) a.2) [
      | inl yea ↦
          let b = bind_ok (exponent_at (next o.1.rest)) (raise o) x yea.1 in
          let n = b.0 in
          let k = exponent_found (next o.1.rest) n b.1 in
          let tests = and_parts (takes_exponent known o.0) (is_the_mark 94 o.1.token) yea.0 in
          let made : Power × Place = (raised o.0 n.0, n.1) in
          subst (λ (y : Power × Place). PowerIs known deep t y) (ok_is made x b.2)
          (Stand-then t (operand_tokens o.0) o.1 (mark 94 ∷ one (word n.0)) n.1 is.0 (mark_is 94 o.1.token tests.1, (k.0, k.3)), (is.1, tests.0, k.1, k.2))
      | inr nay ↦ subst (λ (y : Power × Place). PowerIs known deep t y) (ok_is bare_power x nay.1) is
    ]

abbrev pub TermIs : Declarations → ℕ → Place → Term × Place → Type 0
TermIs known deep t x = Stand t (term_tokens x.0) x.1 × ValidTerm known deep x.0

-- What a loop over powers reads, behind a valid term, is a valid term with it.
times_found : (inner : Place → Result (Sum × Place) Refusal) (known : Declarations) (deep : ℕ) (start : Place) (n : ℕ) (y : Term) (t : Place) (x : Term × Place) → InnerIs inner known deep → TermIs known deep start (y, t) → times_at inner known n y t ≡ Ok x → TermIs known deep start x
unfolding times_at term_tokens
times_found inner known deep start zero y t x law so_far e = subst (λ (z : Term × Place). TermIs known deep start z) (ok_is (y, t) x e) so_far
times_found inner known deep start (suc n) y t x law so_far e =
    let f : Power × Place → Result (Term × Place) Refusal = λ z. times_at inner known n (times y z.0) z.1 in
    let same : Term × Place = (y, t) in
    elim (chosen (is_the_mark 42 t.token) (power_at inner known (next t.rest) >>= f) (Ok same) (Ok x) e) [
      | inl yea ↦
          let a = bind_ok (power_at inner known (next t.rest)) f x yea.1 in
          let p = power_found inner known deep (next t.rest) a.0 law a.1 in
          times_found inner known deep start n (times y a.0.0) a.0.1 x law (Stand-then start (term_tokens y) t (mark 42 ∷ power_tokens a.0.0) a.0.1 so_far.0 (mark_is 42 t.token yea.0, p.0), (so_far.1, p.1)) a.2
      | inr nay ↦ subst (λ (z : Term × Place). TermIs known deep start z) (ok_is same x nay.1) so_far
    ]

-- What is read as a term stands there and is valid.
pub term_found : (inner : Place → Result (Sum × Place) Refusal) (known : Declarations) (deep : ℕ) (t : Place) (x : Term × Place) → InnerIs inner known deep → term_at inner known t ≡ Ok x → TermIs known deep t x
unfolding term_at term_tokens
term_found inner known deep t x law e =
    let f : Power × Place → Result (Term × Place) Refusal = λ y. times_at inner known y.1.left (single y.0) y.1 in
    let a = bind_ok (power_at inner known t) f x e in
    times_found inner known deep t a.0.1.left (single a.0.0) a.0.1 x law (power_found inner known deep t a.0 law a.1) a.2

abbrev pub SumIs : Declarations → ℕ → Place → Sum × Place → Type 0
SumIs known deep t x = Stand t (sum_tokens x.0) x.1 × ValidSum known deep x.0

-- What is read as the first term of a sum, with its sign, stands there and is valid.
pub first_found : (inner : Place → Result (Sum × Place) Refusal) (known : Declarations) (deep : ℕ) (t : Place) (x : Sum × Place) → InnerIs inner known deep → first_at inner known t ≡ Ok x → SumIs known deep t x
unfolding first_at sum_tokens
first_found inner known deep t x law e =
    let up : Term × Place → Result (Sum × Place) Refusal = λ y. Ok (positive y.0, y.1) in
    let down : Term × Place → Result (Sum × Place) Refusal = λ y. Ok (negative y.0, y.1) in
    let plainly : Term × Place → Result (Sum × Place) Refusal = λ y. Ok (bare y.0, y.1) in
    elim (chosen (is_the_mark 43 t.token) (term_at inner known (next t.rest) >>= up) (cond (is_the_mark 45 t.token) (term_at inner known (next t.rest) >>= down) (term_at inner known t >>= plainly)) (Ok x) e) [
      | inl yea ↦
          let a = bind_ok (term_at inner known (next t.rest)) up x yea.1 in
          let p = term_found inner known deep (next t.rest) a.0 law a.1 in
          let made : Sum × Place = (positive a.0.0, a.0.1) in
          subst (λ (z : Sum × Place). SumIs known deep t z) (ok_is made x a.2) ((mark_is 43 t.token yea.0, p.0), p.1)
      | inr nay ↦ elim (chosen (is_the_mark 45 t.token) (term_at inner known (next t.rest) >>= down) (term_at inner known t >>= plainly) (Ok x) nay.1) [
        | inl yea ↦
            let a = bind_ok (term_at inner known (next t.rest)) down x yea.1 in
            let p = term_found inner known deep (next t.rest) a.0 law a.1 in
            let made : Sum × Place = (negative a.0.0, a.0.1) in
            subst (λ (z : Sum × Place). SumIs known deep t z) (ok_is made x a.2) ((mark_is 45 t.token yea.0, p.0), p.1)
        | inr neither ↦
            let a = bind_ok (term_at inner known t) plainly x neither.1 in
            let p = term_found inner known deep t a.0 law a.1 in
            let made : Sum × Place = (bare a.0.0, a.0.1) in
            subst (λ (z : Sum × Place). SumIs known deep t z) (ok_is made x a.2) p
      ]
    ]

-- What a loop over terms reads, behind a valid sum, is a valid sum with it.
more_found : (inner : Place → Result (Sum × Place) Refusal) (known : Declarations) (deep : ℕ) (start : Place) (n : ℕ) (y : Sum) (t : Place) (x : Sum × Place) → InnerIs inner known deep → SumIs known deep start (y, t) → more_at inner known n y t ≡ Ok x → SumIs known deep start x
unfolding more_at sum_tokens
more_found inner known deep start zero y t x law so_far e = subst (λ (z : Sum × Place). SumIs known deep start z) (ok_is (y, t) x e) so_far
more_found inner known deep start (suc n) y t x law so_far e =
    let up : Term × Place → Result (Sum × Place) Refusal = λ z. more_at inner known n (plus y z.0) z.1 in
    let down : Term × Place → Result (Sum × Place) Refusal = λ z. more_at inner known n (minus y z.0) z.1 in
    let same : Sum × Place = (y, t) in
    elim (chosen (is_the_mark 43 t.token) (term_at inner known (next t.rest) >>= up) (cond (is_the_mark 45 t.token) (term_at inner known (next t.rest) >>= down) (Ok same)) (Ok x) e) [
      | inl yea ↦
          let a = bind_ok (term_at inner known (next t.rest)) up x yea.1 in
          let p = term_found inner known deep (next t.rest) a.0 law a.1 in
          more_found inner known deep start n (plus y a.0.0) a.0.1 x law (Stand-then start (sum_tokens y) t (mark 43 ∷ term_tokens a.0.0) a.0.1 so_far.0 (mark_is 43 t.token yea.0, p.0), (so_far.1, p.1)) a.2
      | inr nay ↦ elim (chosen (is_the_mark 45 t.token) (term_at inner known (next t.rest) >>= down) (Ok same) (Ok x) nay.1) [
        | inl yea ↦
            let a = bind_ok (term_at inner known (next t.rest)) down x yea.1 in
            let p = term_found inner known deep (next t.rest) a.0 law a.1 in
            more_found inner known deep start n (minus y a.0.0) a.0.1 x law (Stand-then start (sum_tokens y) t (mark 45 ∷ term_tokens a.0.0) a.0.1 so_far.0 (mark_is 45 t.token yea.0, p.0), (so_far.1, p.1)) a.2
        | inr neither ↦ subst (λ (z : Sum × Place). SumIs known deep start z) (ok_is same x neither.1) so_far
      ]
    ]

-- What is read as a sum stands there and is valid.
pub sum_found : (inner : Place → Result (Sum × Place) Refusal) (known : Declarations) (deep : ℕ) (t : Place) (x : Sum × Place) → InnerIs inner known deep → sum_at inner known t ≡ Ok x → SumIs known deep t x
unfolding sum_at
sum_found inner known deep t x law e =
    let f : Sum × Place → Result (Sum × Place) Refusal = λ y. more_at inner known y.1.left y.0 y.1 in
    let a = bind_ok (first_at inner known t) f x e in
    more_found inner known deep t a.0.1.left a.0.0 a.0.1 x law (first_found inner known deep t a.0 law a.1) a.2

-- What is read in parentheses, of which so many more may be open, is valid with as many.
pub inner_found : (deep : ℕ) (known : Declarations) → InnerIs (inner_at deep known) known deep
unfolding inner_at operand_tokens
inner_found zero known t s here e = absurd cc
inner_found (suc deep) known t s here e =
    let close : Sum × Place → Result (Sum × Place) Refusal = λ x. mark_at 41 whats.Operator x.1 >>= λ after. Ok (x.0, after) in
    let a = bind_ok (sum_at (inner_at deep known) known (next t.rest)) close s e in
    let finish : Place → Result (Sum × Place) Refusal = λ after. Ok (a.0.0, after) in
    let b = bind_ok (mark_at 41 whats.Operator a.0.1) finish s a.2 in
    let m = mark_found 41 whats.Operator a.0.1 b.0 b.1 in
    let p = sum_found (inner_at deep known) known deep (next t.rest) a.0 (inner_found deep known) a.1 in
    let made : Sum × Place = (a.0.0, b.0) in
    subst (λ (z : Sum × Place). Stand t (operand_tokens (inside z.0)) z.1 × ValidOperand known (suc deep) (inside z.0)) (ok_is made s b.2)
    ((here, Stand-then (next t.rest) (sum_tokens a.0.0) a.0.1 (one (mark 41)) b.0 p.0 m), (deep, refl, p.1))

-- what is read stands there, and is valid
pub expression_found : (known : Declarations) (t : Place) (x : Sum × Place) → expression_at known t ≡ Ok x → Stand t (sum_tokens x.0) x.1 × ValidSum known 32 x.0
unfolding expression_at
expression_found known t x e = sum_found (inner_at 32 known) known 32 t x (inner_found 32 known) e
