-- Each refusal in an expression has its cause.
-- Along the reading functions, with the tokens from the beginning on; how many parentheses are open is counted by them.
use Rattle.std.proofs.Common.{◌≡◌, ℕ, zero, suc, ◌+◌, ◌<◌, ◌%◌, Bool, true, false, not, ◌&&◌, eqb, List, [], ◌∷◌, ◌++◌, Result, Ok, Err, refl, sym, ap, subst, ◌∙◌, inl, inr, arith}
use Rattle.std.proofs.lemmas.Bool.{and_parts, or_parts, eqb-true, not-true, not-false}
use Rattle.prime_field.specs.Decimal.{value_of}
use Rattle.script_grammar.specs.declared.refusal.Refusal.{Refusal}
use Rattle.script_grammar.specs.declared.refusal.ReadKind.TheVariants.{Expected, UnknownName, ExponentTooLarge, ZeroDivisor, TooDeep}
use Rattle.script_grammar.specs.declared.refusal.What.TheVariants as whats
use Rattle.script_grammar.specs.Tokens.{Token, Place, next, word, mark}
use Rattle.script_grammar.specs.Words.{is_numeral, is_one_of, keywords, is_short, has_large, is_the_mark, is_word, word_of}
use Rattle.script_grammar.specs.Trees.{operand_tokens, Power, power_tokens, Term, single, times, term_tokens, Sum, bare, positive, negative, plus, minus, one}
use Rattle.script_grammar.specs.Steps.{◌>>=◌, refused, mark_at, numeral_at, exponent_at}
use Rattle.script_grammar.specs.Expressions.{Declarations, below_at, fraction_at, word_operand_at, operand_at, takes_exponent, power_at, times_at, term_at, more_at, first_at, sum_at, inner_at, expression_at}
use Rattle.script_grammar.specs.Places.{Placed}
use Rattle.script_grammar.specs.Spots.{an_operand, the_divisor, an_exponent, behind_power, last_in_sum, marks, needs_operand, ends_power, SpotInSum}
use Rattle.script_grammar.proofs.Places.{next_placed, stand_placed, behind_mark}
use Rattle.script_grammar.proofs.Steps.{ok_is, bind_ok, bind_err, chosen, err_is, never, second_so, mark_is, some_word_is}
use Rattle.script_grammar.proofs.ReadExpressionsAreValid.{InnerIs, operand_found, power_found, term_found, inner_found}
use Rattle.script_grammar.proofs.ExpressionsByTokens.{joins, star_power, times_loop, joined, more_loop}
use Rattle.script_grammar.proofs.LoopEnds.{LoopEnds, loop_ends}
use Rattle.script_grammar.proofs.SumTokens.{last-append, last-one, marks-append, EndsPower, power_ends}
use Rattle.script_grammar.proofs.TreeTokens.{AreTokens-operand, AreTokens-power}
use Rattle.script_grammar.proofs.CauseSteps.{Leads, Leads-then, CausedInSum, refused_in_sum, number_is, numeral_refused, exponent_refused}

-- so many parentheses may still be opened behind these tokens
abbrev pub Room : ℕ → List Token → Type 0
Room deep tokens = (opened : ℕ) × (opened + deep ≡ 32) × (marks 40 tokens ≡ opened + marks 41 tokens)

-- an operand comes behind these tokens, or they end as a power does
abbrev pub OperandComes : ℕ → List Token → Type 0
OperandComes deep tokens = (needs_operand (last_in_sum tokens) ≡ true) × Room deep tokens

abbrev pub PowerEnds : ℕ → List Token → Type 0
PowerEnds deep tokens = (ends_power (last_in_sum tokens) ≡ true) × Room deep tokens

-- What ends as a power does, behind tokens with so much room, leaves as much.
power_behind : (deep : ℕ) (c tokens : List Token) → Room deep c → EndsPower tokens → PowerEnds deep (c ++ tokens)
power_behind deep c tokens room h = (
  ap ends_power (last-append (mark 40) c tokens) ∙ h.last (last_in_sum c),
  (room.0, room.1, omega (arith, room.2, h.closed, marks-append 40 c tokens, marks-append 41 c tokens)),
)

-- Behind + - and * an operand comes, and there is as much room.
mark_behind : (deep m : ℕ) (c : List Token) → Room deep c → needs_operand (mark m) ≡ true → (marks 40 (one (mark m)) ≡ 0) × (marks 41 (one (mark m)) ≡ 0) → OperandComes deep (c ++ one (mark m))
mark_behind deep m c room needs none = (
  ap needs_operand (last-one (mark 40) c (mark m)) ∙ needs,
  (room.0, room.1, omega (arith, room.2, none.0, none.1, marks-append 40 c (one (mark m)), marks-append 41 c (one (mark m)))),
)

-- Behind ( an operand comes, and there is room for one parenthesis less.
open_behind : (deep : ℕ) (c : List Token) → Room (suc deep) c → OperandComes deep (c ++ one (mark 40))
open_behind deep c room = (
  ap needs_operand (last-one (mark 40) c (mark 40)),
  (suc room.0, omega (arith, room.1), omega (arith, room.2, marks-append 40 c (one (mark 40)), marks-append 41 c (one (mark 40)))),
)

-- no sign stands here, where one might
abbrev NoSign : List Token → Place → Type 0
NoSign c t = is_the_mark 40 (last_in_sum c) ≡ true → (is_the_mark 43 t.token ≡ false) × (is_the_mark 45 t.token ≡ false)

-- Behind a mark that isn't ( no sign may stand.
no_sign_behind : (m : ℕ) (c : List Token) (t : Place) → is_the_mark 40 (mark m) ≡ false → NoSign (c ++ one (mark m)) t
no_sign_behind m c t other h = absurd (differ (is_the_mark 40 (mark m)) other (sym (ap (is_the_mark 40) (last-one (mark 40) c (mark m))) ∙ h))
  where
    differ : (b : Bool) → b ≡ false → b ≡ true → ⊥
    differ b p q = cc

-- a term, made into a sum
abbrev made_into : (Term → Sum) → Term × Place → Result (Sum × Place) Refusal
made_into made y = Ok (made y.0, y.1)

module _ (known : Declarations) (s : Place) where
  -- an operand that is refused in parentheses has its cause
  abbrev pub InnerCaused : (Place → Result (Sum × Place) Refusal) → ℕ → Type 0
  InnerCaused inner deep = (c : List Token) (t : Place) (f : Refusal) → Leads s c t → Placed t → OperandComes deep c → t.token ≡ mark 40 → inner t ≡ Err f → CausedInSum known s f

  -- A divisor is refused where it is no numeral, or zero.
  divisor_caused : (digits : List ℕ) (c : List Token) (t : Place) (f : Refusal) → Leads s c t → last_in_sum c ≡ mark 47 → below_at known digits t ≡ Err f → CausedInSum known s f
  unfolding below_at
  divisor_caused digits c t f st here e = elim (bind_err (numeral_at t) _ f e) [
    | inl early ↦ let r = numeral_refused t f early in refused_in_sum s known the_divisor (Expected whats.Numeral) c t f st here (inl refl) (inr refl) (λ i. (i, r.0)) r.1
    | inr late ↦
        let n = late.0 in
        let is = number_is t n late.1 in
        elim (chosen (eqb (value_of n.0 % known.prime) 0) _ _ _ late.2) [
          | inl yea ↦ refused_in_sum s known the_divisor ZeroDivisor c t f st here (inl refl) (inr refl) (λ i. (is.0, subst (λ (w : List ℕ). value_of w % known.prime ≡ 0) is.1 (eqb-true _ 0 yea.0))) yea.1
          | inr nay ↦ absurd (never _ f nay.1)
        ]
  ]

  -- Behind a numeral only a divisor is refused.
  fraction_caused : (digits : List ℕ) (c : List Token) (t : Place) (f : Refusal) → Leads s c t → fraction_at known digits t ≡ Err f → CausedInSum known s f
  unfolding fraction_at
  fraction_caused digits c t f st e = elim (chosen (is_the_mark 47 t.token) _ _ _ e) [
    | inl yea ↦ divisor_caused digits (c ++ one (mark 47)) (next t.rest) f (Leads-then s c t (one (mark 47)) (next t.rest) st (mark_is 47 t.token yea.0, refl) (tt, tt)) (last-one (mark 40) c (mark 47)) yea.1
    | inr nay ↦ absurd (never _ f nay.1)
  ]

  -- A word is refused as an operand where it names nothing, or its exponents are too large.
  word_caused : (deep : ℕ) (c : List Token) (t : Place) (f : Refusal) → Leads s c t → OperandComes deep c → is_word t.token ≡ true → word_operand_at known (word_of t.token) t ≡ Err f → CausedInSum known s f
  unfolding word_operand_at
  word_caused deep c t f st comes is e =
      let w = word_of t.token in
      let here = an_operand (is_the_mark 40 (last_in_sum c)) comes.1.0 in
      let spot : SpotInSum here c = (comes.0, refl, comes.1.2) in
      elim (chosen (is_one_of keywords w) _ _ _ e) [
        | inl yea ↦ refused_in_sum s known here UnknownName c t f st spot (inl refl) (inr refl) (λ i. (is, inl yea.0)) yea.1
        | inr nay ↦ elim (chosen (is_numeral w) _ _ _ nay.1) [
          | inl numeral ↦ fraction_caused w (c ++ one (word w)) (next t.rest) f (Leads-then s c t (one (word w)) (next t.rest) st (some_word_is t.token is, refl) (tt, tt)) numeral.1
          | inr other ↦ elim (chosen (is_one_of known.polys w) _ _ _ other.1) [
            | inl poly ↦ absurd (never _ f poly.1)
            | inr strange ↦ elim (chosen (not (is_short known.letters w)) _ _ _ strange.1) [
              | inl long ↦ refused_in_sum s known here UnknownName c t f st spot (inl refl) (inr refl) (λ i. (is, inr (other.0, strange.0, not-true (is_short known.letters w) long.0))) long.1
              | inr short ↦ elim (chosen (has_large w) _ _ _ short.1) [
                | inl large ↦ refused_in_sum s known here ExponentTooLarge c t f st spot (inl refl) (inr refl) (λ i. (is, (nay.0, other.0, strange.0, not-false (is_short known.letters w) short.0, large.0))) large.1
                | inr small ↦ absurd (never _ f small.1)
              ]
            ]
          ]
        ]
      ]

  -- An operand is refused as a word is, in its parentheses, or because it is none.
  operand_caused : (inner : Place → Result (Sum × Place) Refusal) (deep : ℕ) → InnerCaused inner deep → (c : List Token) (t : Place) (f : Refusal) → Leads s c t → Placed t → OperandComes deep c → NoSign c t
      → operand_at inner known t ≡ Err f → CausedInSum known s f
  unfolding operand_at
  operand_caused inner deep law c t f st placed comes clear e = elim (chosen (is_word t.token) _ _ _ e) [
    | inl yea ↦ word_caused deep c t f st comes yea.0 yea.1
    | inr nay ↦ elim (chosen (is_the_mark 40 t.token) _ _ _ nay.1) [
      | inl opened ↦ elim (bind_err (inner t) _ f opened.1) [ inl early ↦ law c t f st placed comes (mark_is 40 t.token opened.0) early | inr late ↦ absurd (never _ f late.2) ]
      | inr none ↦ refused_in_sum s known (an_operand (is_the_mark 40 (last_in_sum c)) comes.1.0) (Expected whats.Operand) c t f st (comes.0, refl, comes.1.2) (inl refl) (inr refl) (λ i. (i, (nay.0, none.0, clear))) none.1
    ]
  ]

  -- An exponent is refused where it is no numeral, or too large.
  exponent_caused : (c : List Token) (t : Place) (f : Refusal) → Leads s c t → last_in_sum c ≡ mark 94 → exponent_at t ≡ Err f → CausedInSum known s f
  exponent_caused c t f st here e = elim (exponent_refused t f e) [
    | inl none ↦ refused_in_sum s known an_exponent (Expected whats.Numeral) c t f st here (inl refl) (inr refl) (λ i. (i, none.0)) none.1
    | inr large ↦ refused_in_sum s known an_exponent ExponentTooLarge c t f st here (inl refl) (inr refl) (λ i. (large.0, large.1)) large.2
  ]

  -- A power is refused as its operand is, or its exponent.
  power_caused : (inner : Place → Result (Sum × Place) Refusal) (deep : ℕ) → InnerIs inner known deep → InnerCaused inner deep → (c : List Token) (t : Place) (f : Refusal) → Leads s c t → Placed t → OperandComes deep c → NoSign c t
      → power_at inner known t ≡ Err f → CausedInSum known s f
  unfolding power_at
  power_caused inner deep found law c t f st placed comes clear e = elim (bind_err (operand_at inner known t) _ f e) [
    | inl early ↦ operand_caused inner deep law c t f st placed comes clear early
    | inr late ↦
        let o = late.0 in
        elim (chosen (takes_exponent known o.0 && is_the_mark 94 o.1.token) _ _ _ late.2) [
          | inl yea ↦
              let caret = and_parts (takes_exponent known o.0) (is_the_mark 94 o.1.token) yea.0 in
              let is = operand_found inner known deep t o found late.1 in
              let d = c ++ operand_tokens o.0 in
              elim (bind_err (exponent_at (next o.1.rest)) _ f yea.1) [
                | inl exponent ↦ exponent_caused (d ++ one (mark 94)) (next o.1.rest) f
                    (Leads-then s d o.1 (one (mark 94)) (next o.1.rest) (Leads-then s c t (operand_tokens o.0) o.1 st is.0 (AreTokens-operand o.0)) (mark_is 94 o.1.token caret.1, refl) (tt, tt)) (last-one (mark 40) d (mark 94)) exponent
                | inr made ↦ absurd (never _ f made.2)
              ]
          | inr nay ↦ absurd (never _ f nay.1)
        ]
  ]

  -- ---- terms
  -- tokens from the start that end as a power does
  abbrev Ended : ℕ → Place → Type 0
  Ended deep t = (c : List Token) × Leads s c t × PowerEnds deep c

  -- A power that is read behind a mark ends as a power does, and less is left.
  power_kept : (inner : Place → Result (Sum × Place) Refusal) (deep m : ℕ) → InnerIs inner known deep → needs_operand (mark m) ≡ true → (marks 40 (one (mark m)) ≡ 0) × (marks 41 (one (mark m)) ≡ 0)
      → (t : Place) (p : Power) (u : Place) → Ended deep t → Placed t → t.token ≡ mark m → power_at inner known (next t.rest) ≡ Ok (p, u) → (u.left < t.left) × Placed u × Ended deep u
  power_kept inner deep m found needs none t p u so_far placed here e =
      let is = power_found inner known deep (next t.rest) (p, u) found e in
      let less = behind_mark t m (power_tokens p) u placed here is.0 in
      let c = so_far.0 ++ one (mark m) in
      let to_next = Leads-then s so_far.0 t (one (mark m)) (next t.rest) so_far.1 (here, refl) (tt, tt) in
      (less.0, less.1, (c ++ power_tokens p, Leads-then s c (next t.rest) (power_tokens p) u to_next is.0 (AreTokens-power p), power_behind deep c (power_tokens p) (mark_behind deep m so_far.0 so_far.2.1 needs none).1 (power_ends p)))

  abbrev EndOfTerm : (Place → Result (Sum × Place) Refusal) → ℕ → Result (Term × Place) Refusal → Type 0
  EndOfTerm inner deep r = LoopEnds Term Power Term (λ y i. is_the_mark 42 i) (star_power inner known) (λ y t. Ok (y, t)) (λ y t. Ended deep t) r

  -- The loop over powers ends where one is refused, or where no * stands.
  times_end : (inner : Place → Result (Sum × Place) Refusal) (deep : ℕ) → InnerIs inner known deep → (y : Term) (t : Place) (r : Result (Term × Place) Refusal) → Placed t → Ended deep t → times_at inner known t.left y t ≡ r → EndOfTerm inner deep r
  times_end inner deep found y t r placed so_far e =
      loop_ends Term Power Term (λ y i. is_the_mark 42 i) (star_power inner known) times (λ y t. Ok (y, t)) (times_at inner known) (times_loop inner known) (λ y t. Ended deep t)
      (λ y t p u kept placed star e. power_kept inner deep 42 found refl (refl, refl) t p u kept placed (mark_is 42 t.token star) e) t.left y t r (omega arith) placed so_far e

  -- What is read as a term stands there and ends as a power does, and no * is behind it.
  term_kept : (inner : Place → Result (Sum × Place) Refusal) (deep : ℕ) → InnerIs inner known deep → (c : List Token) (t : Place) (x : Term) (u : Place) → Leads s c t → Placed t → OperandComes deep c → term_at inner known t ≡ Ok (x, u)
      → Placed u × Ended deep u × (is_the_mark 42 u.token ≡ false)
  unfolding term_at
  term_kept inner deep found c t x u st placed comes e =
      let a = bind_ok (power_at inner known t) _ (x, u) e in
      let p = power_found inner known deep t a.0 found a.1 in
      let there = stand_placed t (power_tokens a.0.0) a.0.1 placed p.0 in
      let end = times_end inner deep found (single a.0.0) a.0.1 (Ok (x, u)) there.1 (c ++ power_tokens a.0.0, Leads-then s c t (power_tokens a.0.0) a.0.1 st p.0 (AreTokens-power a.0.0), power_behind deep c (power_tokens a.0.0) comes.1 (power_ends a.0.0)) a.2 in
      elim end.ended [
        | inl early ↦ absurd (never (x, u) early.1 early.3)
        | inr stopped ↦
            let same : end.place ≡ u = ap (λ (q : Term × Place). q.1) (ok_is (end.so_far, end.place) (x, u) stopped.1) in
            (subst Placed same end.placed, subst (Ended deep) same end.kept, subst (λ (q : Place). is_the_mark 42 q.token ≡ false) same stopped.0)
      ]

  -- A term is refused as one of its powers is.
  term_caused : (inner : Place → Result (Sum × Place) Refusal) (deep : ℕ) → InnerIs inner known deep → InnerCaused inner deep → (c : List Token) (t : Place) (f : Refusal) → Leads s c t → Placed t → OperandComes deep c → NoSign c t
      → term_at inner known t ≡ Err f → CausedInSum known s f
  unfolding term_at
  term_caused inner deep found law c t f st placed comes clear e = elim (bind_err (power_at inner known t) _ f e) [
    | inl early ↦ power_caused inner deep found law c t f st placed comes clear early
    | inr late ↦
        let a = late.0 in
        let p = power_found inner known deep t a found late.1 in
        let there = stand_placed t (power_tokens a.0) a.1 placed p.0 in
        let end = times_end inner deep found (single a.0) a.1 (Err f) there.1 (c ++ power_tokens a.0, Leads-then s c t (power_tokens a.0) a.1 st p.0 (AreTokens-power a.0), power_behind deep c (power_tokens a.0) comes.1 (power_ends a.0)) late.2 in
        elim end.ended [
          | inl refused ↦
              let q = end.place in
              let d = end.kept.0 ++ one (mark 42) in
              let same : refused.1 ≡ f = sym (err_is {A = Term × Place} f refused.1 refused.3) in
              power_caused inner deep found law d (next q.rest) f
              (Leads-then s end.kept.0 q (one (mark 42)) (next q.rest) end.kept.1 (mark_is 42 q.token refused.0, refl) (tt, tt)) (next_placed q.rest) (mark_behind deep 42 end.kept.0 end.kept.2.1 refl (refl, refl)) (no_sign_behind 42 end.kept.0 (next q.rest) refl)
              (refused.2 ∙ ap (λ (z : Refusal). Err z) same)
          | inr stopped ↦ absurd (never _ f stopped.1)
        ]
  ]

  -- ---- sums
  -- A term behind + or - is refused as a term is.
  signed_caused : (inner : Place → Result (Sum × Place) Refusal) (deep m : ℕ) → InnerIs inner known deep → InnerCaused inner deep → needs_operand (mark m) ≡ true → is_the_mark 40 (mark m) ≡ false
      → (marks 40 (one (mark m)) ≡ 0) × (marks 41 (one (mark m)) ≡ 0) → (c : List Token) (t : Place) (f : Refusal) (made : Term → Sum) → Leads s c t → Room deep c → t.token ≡ mark m
      → (term_at inner known (next t.rest) >>= made_into made) ≡ Err f → CausedInSum known s f
  signed_caused inner deep m found law needs no_paren none c t f made st room here e = elim (bind_err (term_at inner known (next t.rest)) _ f e) [
    | inl early ↦ term_caused inner deep found law (c ++ one (mark m)) (next t.rest) f (Leads-then s c t (one (mark m)) (next t.rest) st (here, refl) (tt, tt)) (next_placed t.rest) (mark_behind deep m c room needs none) (no_sign_behind m c (next t.rest) no_paren) early
    | inr late ↦ absurd (never _ f late.2)
  ]

  -- A term that is read behind + or - is kept as a term is.
  signed_kept : (inner : Place → Result (Sum × Place) Refusal) (deep m : ℕ) → InnerIs inner known deep → needs_operand (mark m) ≡ true → (marks 40 (one (mark m)) ≡ 0) × (marks 41 (one (mark m)) ≡ 0)
      → (c : List Token) (t : Place) (made : Term → Sum) (x : Sum) (u : Place) → Leads s c t → Room deep c → t.token ≡ mark m → (term_at inner known (next t.rest) >>= made_into made) ≡ Ok (x, u)
      → Placed u × Ended deep u × (is_the_mark 42 u.token ≡ false)
  signed_kept inner deep m found needs none c t made x u st room here e =
      let a = bind_ok (term_at inner known (next t.rest)) _ (x, u) e in
      let k = term_kept inner deep found (c ++ one (mark m)) (next t.rest) a.0.0 a.0.1 (Leads-then s c t (one (mark m)) (next t.rest) st (here, refl) (tt, tt)) (next_placed t.rest) (mark_behind deep m c room needs none) a.1 in
      let same : a.0.1 ≡ u = ap (λ (q : Sum × Place). q.1) (ok_is (made a.0.0, a.0.1) (x, u) a.2) in
      subst (λ (q : Place). Placed q × Ended deep q × (is_the_mark 42 q.token ≡ false)) same k

  -- The first term of a sum is refused as a term is, with its sign or without.
  first_caused : (inner : Place → Result (Sum × Place) Refusal) (deep : ℕ) → InnerIs inner known deep → InnerCaused inner deep → (c : List Token) (t : Place) (f : Refusal) → Leads s c t → Placed t → OperandComes deep c
      → first_at inner known t ≡ Err f → CausedInSum known s f
  unfolding first_at
  first_caused inner deep found law c t f st placed comes e = elim (chosen (is_the_mark 43 t.token) _ _ _ e) [
    | inl yea ↦ signed_caused inner deep 43 found law refl refl (refl, refl) c t f positive st comes.1 (mark_is 43 t.token yea.0) yea.1
    | inr nay ↦ elim (chosen (is_the_mark 45 t.token) _ _ _ nay.1) [
      | inl yea ↦ signed_caused inner deep 45 found law refl refl (refl, refl) c t f negative st comes.1 (mark_is 45 t.token yea.0) yea.1
      | inr none ↦ elim (bind_err (term_at inner known t) _ f none.1) [
        | inl early ↦ term_caused inner deep found law c t f st placed comes (λ h. (nay.0, none.0)) early
        | inr late ↦ absurd (never _ f late.2)
      ]
    ]
  ]

  -- What is read as the first term is kept as a term is.
  first_kept : (inner : Place → Result (Sum × Place) Refusal) (deep : ℕ) → InnerIs inner known deep → (c : List Token) (t : Place) (x : Sum) (u : Place) → Leads s c t → Placed t → OperandComes deep c → first_at inner known t ≡ Ok (x, u)
      → Placed u × Ended deep u × (is_the_mark 42 u.token ≡ false)
  unfolding first_at
  first_kept inner deep found c t x u st placed comes e = elim (chosen (is_the_mark 43 t.token) _ _ _ e) [
    | inl yea ↦ signed_kept inner deep 43 found refl (refl, refl) c t positive x u st comes.1 (mark_is 43 t.token yea.0) yea.1
    | inr nay ↦ elim (chosen (is_the_mark 45 t.token) _ _ _ nay.1) [
      | inl yea ↦ signed_kept inner deep 45 found refl (refl, refl) c t negative x u st comes.1 (mark_is 45 t.token yea.0) yea.1
      | inr none ↦
          let a = bind_ok (term_at inner known t) _ (x, u) none.1 in
          let k = term_kept inner deep found c t a.0.0 a.0.1 st placed comes a.1 in
          let same : a.0.1 ≡ u = ap (λ (q : Sum × Place). q.1) (ok_is (bare a.0.0, a.0.1) (x, u) a.2) in
          subst (λ (q : Place). Placed q × Ended deep q × (is_the_mark 42 q.token ≡ false)) same k
    ]
  ]

  -- where a sum may go on or end
  abbrev Summed : ℕ → Place → Type 0
  Summed deep t = Ended deep t × (is_the_mark 42 t.token ≡ false)

  abbrev EndOfSum : (Place → Result (Sum × Place) Refusal) → ℕ → Result (Sum × Place) Refusal → Type 0
  EndOfSum inner deep r = LoopEnds Sum Sum Sum (λ y i. joins i) (joined inner known) (λ y t. Ok (y, t)) (λ y t. Summed deep t) r

  -- A term that joins a sum is kept as a term is, and less is left.
  joined_kept : (inner : Place → Result (Sum × Place) Refusal) (deep : ℕ) → InnerIs inner known deep → (y : Sum) (t : Place) (x : Sum) (u : Place) → Summed deep t → Placed t → joins t.token ≡ true → joined inner known y t ≡ Ok (x, u)
      → (u.left < t.left) × Placed u × Summed deep u
  joined_kept inner deep found y t x u so_far placed goes e =
      let c = so_far.0.0 in
      elim (chosen (is_the_mark 43 t.token) _ _ _ e) [
        | inl yea ↦
            let here = mark_is 43 t.token yea.0 in
            let k = signed_kept inner deep 43 found refl (refl, refl) c t (plus y) x u so_far.0.1 so_far.0.2.1 here yea.1 in
            (less 43 (plus y) here yea.1, k.0, (k.1, k.2))
        | inr nay ↦
            let here = mark_is 45 t.token (second_so (is_the_mark 43 t.token) (is_the_mark 45 t.token) goes nay.0) in
            let k = signed_kept inner deep 45 found refl (refl, refl) c t (minus y) x u so_far.0.1 so_far.0.2.1 here nay.1 in
            (less 45 (minus y) here nay.1, k.0, (k.1, k.2))
      ]
    where
      less : (m : ℕ) (made : Term → Sum) → t.token ≡ mark m → (term_at inner known (next t.rest) >>= made_into made) ≡ Ok (x, u) → u.left < t.left
      less m made here was =
          let a = bind_ok (term_at inner known (next t.rest)) _ (x, u) was in
          let is = term_found inner known deep (next t.rest) a.0 found a.1 in
          let same : a.0.1 ≡ u = ap (λ (q : Sum × Place). q.1) (ok_is (made a.0.0, a.0.1) (x, u) a.2) in
          let r = behind_mark t m (term_tokens a.0.0) a.0.1 placed here is.0 in
          subst (λ (q : Place). q.left < t.left) same r.0

  -- The loop over terms ends where one is refused, or where neither + nor - stands.
  more_end : (inner : Place → Result (Sum × Place) Refusal) (deep : ℕ) → InnerIs inner known deep → (y : Sum) (t : Place) (r : Result (Sum × Place) Refusal) → Placed t → Summed deep t → more_at inner known t.left y t ≡ r → EndOfSum inner deep r
  more_end inner deep found y t r placed so_far e =
      loop_ends Sum Sum Sum (λ y i. joins i) (joined inner known) (λ y e. e) (λ y t. Ok (y, t)) (more_at inner known) (more_loop inner known) (λ y t. Summed deep t)
      (λ y t x u kept placed goes e. joined_kept inner deep found y t x u kept placed goes e) t.left y t r (omega arith) placed so_far e

  -- where a sum has ended: neither + nor - nor * stands there
  abbrev pub SumEnded : ℕ → Place → Type 0
  SumEnded deep t = Ended deep t × (is_the_mark 43 t.token ≡ false) × (is_the_mark 45 t.token ≡ false) × (is_the_mark 42 t.token ≡ false)

  -- What is read as a sum ends so.
  sum_kept : (inner : Place → Result (Sum × Place) Refusal) (deep : ℕ) → InnerIs inner known deep → (c : List Token) (t : Place) (x : Sum) (u : Place) → Leads s c t → Placed t → OperandComes deep c → sum_at inner known t ≡ Ok (x, u)
      → Placed u × SumEnded deep u
  unfolding sum_at
  sum_kept inner deep found c t x u st placed comes e =
      let a = bind_ok (first_at inner known t) _ (x, u) e in
      let k = first_kept inner deep found c t a.0.0 a.0.1 st placed comes a.1 in
      let end = more_end inner deep found a.0.0 a.0.1 (Ok (x, u)) k.0 (k.1, k.2) a.2 in
      elim end.ended [
        | inl early ↦ absurd (never (x, u) early.1 early.3)
        | inr stopped ↦
            let same : end.place ≡ u = ap (λ (q : Sum × Place). q.1) (ok_is (end.so_far, end.place) (x, u) stopped.1) in
            let neither = or_parts (is_the_mark 43 end.place.token) (is_the_mark 45 end.place.token) stopped.0 in
            subst (λ (q : Place). Placed q × SumEnded deep q) same (end.placed, (end.kept.0, neither.0, neither.1, end.kept.1))
      ]

  -- A sum is refused as one of its terms is.
  sum_caused : (inner : Place → Result (Sum × Place) Refusal) (deep : ℕ) → InnerIs inner known deep → InnerCaused inner deep → (c : List Token) (t : Place) (f : Refusal) → Leads s c t → Placed t → OperandComes deep c
      → sum_at inner known t ≡ Err f → CausedInSum known s f
  unfolding sum_at
  sum_caused inner deep found law c t f st placed comes e = elim (bind_err (first_at inner known t) _ f e) [
    | inl early ↦ first_caused inner deep found law c t f st placed comes early
    | inr late ↦
        let a = late.0 in
        let k = first_kept inner deep found c t a.0 a.1 st placed comes late.1 in
        let end = more_end inner deep found a.0 a.1 (Err f) k.0 (k.1, k.2) late.2 in
        elim end.ended [
          | inl refused ↦
              let q = end.place in
              let d = end.kept.0 in
              let was = refused.2 ∙ ap (λ (z : Refusal). Err z) (sym (err_is {A = Sum × Place} f refused.1 refused.3)) in
              elim (chosen (is_the_mark 43 q.token) _ _ _ was) [
                | inl yea ↦ signed_caused inner deep 43 found law refl refl (refl, refl) d.0 q f (plus end.so_far) d.1 d.2.1 (mark_is 43 q.token yea.0) yea.1
                | inr nay ↦ signed_caused inner deep 45 found law refl refl (refl, refl) d.0 q f (minus end.so_far) d.1 d.2.1 (mark_is 45 q.token (second_so (is_the_mark 43 q.token) (is_the_mark 45 q.token) refused.0 nay.0)) nay.1
              ]
          | inr stopped ↦ absurd (never _ f stopped.1)
        ]
  ]

  -- Where a sum in parentheses ends and no ) stands, an operator is wanted.
  close_caused : (deep : ℕ) (u : Place) (f : Refusal) → deep < 32 → SumEnded deep u → mark_at 41 whats.Operator u ≡ Err f → CausedInSum known s f
  unfolding mark_at
  close_caused deep u f less k e =
      let c = k.0.0 in
      let room = k.0.2.1 in
      elim (chosen (is_the_mark 41 u.token) _ _ _ e) [
        | inl yea ↦ absurd (never _ f yea.1)
        | inr nay ↦ refused_in_sum s known (behind_power (41 ∷ [])) (Expected whats.Operator) c u f k.0.1 (refl, k.0.2.0, omega (arith, less, room.1, room.2)) (inl refl) (inr refl) (λ i. (i, (k.1, k.2, k.3, rw (nay.0) refl))) nay.1
      ]

  -- In parentheses a sum is refused as it is, where one parenthesis too many is opened, or where it goes on with neither an operator nor the ).
  inner_caused : (deep : ℕ) → InnerCaused (inner_at deep known) deep
  unfolding inner_at
  inner_caused zero c t f st placed comes here e =
      refused_in_sum s known (an_operand (is_the_mark 40 (last_in_sum c)) comes.1.0) TooDeep c t f st (comes.0, refl, comes.1.2) (inl refl) (inr refl) (λ i. (here, omega (arith, comes.1.1))) e
  inner_caused (suc deep) c t f st placed comes here e =
      let d = c ++ one (mark 40) in
      let inside = Leads-then s c t (one (mark 40)) (next t.rest) st (here, refl) (tt, tt) in
      let opened = open_behind deep c comes.1 in
      elim (bind_err (sum_at (inner_at deep known) known (next t.rest)) _ f e) [
        | inl early ↦ sum_caused (inner_at deep known) deep (inner_found deep known) (inner_caused deep) d (next t.rest) f inside (next_placed t.rest) opened early
        | inr late ↦
            let a = late.0 in
            let k = sum_kept (inner_at deep known) deep (inner_found deep known) d (next t.rest) a.0 a.1 inside (next_placed t.rest) opened late.1 in
            elim (bind_err (mark_at 41 whats.Operator a.1) _ f late.2) [
              | inl last ↦ close_caused deep a.1 f (omega (arith, comes.1.1)) k.1 last
              | inr closed ↦ absurd (never _ f closed.2)
            ]
      ]

  -- Each refusal of an expression that begins at the start has its cause.
  pub expression_caused : (f : Refusal) → Placed s → expression_at known s ≡ Err f → CausedInSum known s f
  unfolding expression_at
  expression_caused f placed e = sum_caused (inner_at 32 known) 32 (inner_found 32 known) (inner_caused 32) [] s f (refl, tt) placed (refl, (0, refl, refl)) e

  -- Behind an expression that is read, neither + nor - nor * stands.
  pub expression_ended : (x : Sum) (u : Place) → Placed s → expression_at known s ≡ Ok (x, u) → (is_the_mark 43 u.token ≡ false) × (is_the_mark 45 u.token ≡ false) × (is_the_mark 42 u.token ≡ false)
  unfolding expression_at
  expression_ended x u placed e = let k = sum_kept (inner_at 32 known) 32 (inner_found 32 known) [] s x u (refl, tt) placed (refl, (0, refl, refl)) e in (k.1.1, k.1.2, k.1.3)
