-- Numerals, exponents and the operands of an expression: what is read, what is refused, and what the tokens before begin.
-- Each lemma goes along the tests of its reading function; 0 and 1 are what could stand where a token is refused.
use Rattle.std.proofs.Common.{◌≡◌, ℕ, ◌%◌, ◌<◌, ◌≤◌, Bool, true, false, cond, not, ◌&&◌, ◌||◌, eqb, List, [], ◌∷◌, Result, Ok, refl, sym, ap, subst, ◌∙◌, arith, nat_lt}
use Rattle.std.proofs.lemmas.Bool.{and_parts, ltb-false, eqb-false}
use Rattle.std.proofs.Math.Nat.{mod-eq_of_lt}
use Rattle.prime_field.specs.Decimal.{value_of}
use Rattle.script_grammar.specs.declared.refusal.Refusal.{Refusal}
use Rattle.script_grammar.specs.declared.refusal.ReadKind.{ReadKind}
use Rattle.script_grammar.specs.declared.refusal.What.TheVariants as whats
use Rattle.script_grammar.specs.declared.refusal.ReadKind.TheVariants.{Expected, UnknownName, ExponentTooLarge, ZeroDivisor}
use Rattle.script_grammar.specs.Tokens.{Token, Place, next, mark, word}
use Rattle.script_grammar.specs.Words.{is_numeral, is_one_of, keywords, is_short, has_large, is_the_mark, is_word, word_of}
use Rattle.script_grammar.specs.Trees.{Operand, number, fraction, named, inside, operand_tokens, Sum, one}
use Rattle.script_grammar.specs.Steps.{◌>>=◌, refused, kind_at, numeral_at, exponent_at}
use Rattle.script_grammar.specs.Expressions.{Declarations, below_at, fraction_at, word_operand_at, operand_at}
use Rattle.script_grammar.specs.Valid.{ValidOperand}
use Rattle.script_grammar.proofs.Steps.{mark_is, some_word_is}
use Rattle.script_grammar.proofs.CauseSteps.{not_both}
use Rattle.script_grammar.proofs.ByTokens.{Any, Local, local_done, local_refuse, local_where, local_same, local_next, local_cases, local_value, local_if}
use Rattle.script_grammar.proofs.ByTokensInTurn.{local_behind, cond_bind}

-- the numeral 0
abbrev pub nil : List ℕ
nil = 48 ∷ []

-- the numeral 1
abbrev pub unit : List ℕ
unit = 49 ∷ []

-- whether a token is a numeral
abbrev pub numeral_token : Token → Bool
numeral_token i = is_word i && is_numeral (word_of i)

abbrev pub SpellsNumeral : List ℕ → List Token → Type 0
SpellsNumeral w tokens = (one (word w) ≡ tokens) × (is_numeral w ≡ true)

abbrev pub SpellsExponent : List ℕ → List Token → Type 0
SpellsExponent w tokens = (one (word w) ≡ tokens) × (is_numeral w ≡ true) × (value_of w ≤ 1000)

-- A numeral is spelled by its token.
pub numeral_spelled : (i : Token) → numeral_token i ≡ true → SpellsNumeral (word_of i) (one i)
numeral_spelled i h = let p = and_parts (is_word i) (is_numeral (word_of i)) h in (ap one (sym (some_word_is i p.0)), p.1)

-- A numeral is read, or refused, by its token.
pub numeral_local : {P : ReadKind → List Token → Type 0} {n : ℕ} {W : Token → Type 0} → Local P (List ℕ) n W numeral_at SpellsNumeral
unfolding numeral_at
numeral_local =
    let some : (w : List ℕ) × (tokens : List Token) × SpellsNumeral w tokens = (unit, one (word unit), (refl, refl)) in
    local_if numeral_token (local_value word_of some (λ i w. numeral_spelled i w.1)) (local_refuse (Expected whats.Numeral) some)

-- a numeral, and what is read by it
pub numeral_then : {P : ReadKind → List Token → Type 0} {A : Type 0} {n : ℕ} {W : Token → Type 0} {N : A → List Token → Type 0} (S : Place → List ℕ × Place → Result (A × Place) Refusal)
    → (x : A) × (tokens : List Token) × N x tokens → Local P A n (λ i. W i × (numeral_token i ≡ true)) (λ t. S t (word_of t.token, next t.rest)) N → Local P A n W (λ t. numeral_at t >>= S t) N
unfolding numeral_at
numeral_then S some law =
    local_same (λ t placed. cond_bind (numeral_token t.token) (word_of t.token, next t.rest) (record { left = t.left; kind = kind_at t.token (Expected whats.Numeral) }) (S t))
    (local_if numeral_token law (local_refuse (Expected whats.Numeral) some))

-- An exponent is read, or refused, by its token.
pub exponent_local : {P : ReadKind → List Token → Type 0} {n : ℕ} {W : Token → Type 0} → Local P (List ℕ) n W exponent_at SpellsExponent
unfolding exponent_at
exponent_local =
    let some : (w : List ℕ) × (tokens : List Token) × SpellsExponent w tokens = (unit, one (word unit), (refl, refl, omega arith)) in
    numeral_then (λ t n. cond (nat_lt 1000 (value_of n.0)) (refused t ExponentTooLarge) (Ok n)) some
    (local_if (λ i. nat_lt 1000 (value_of (word_of i))) (local_refuse ExponentTooLarge some)
    (local_value word_of some (λ i w. let s = numeral_spelled i w.0.1 in (s.0, s.1, ltb-false 1000 (value_of (word_of i)) w.1))))

abbrev pub SpellsOperand : Declarations → ℕ → Operand → List Token → Type 0
SpellsOperand known deep o tokens = (operand_tokens o ≡ tokens) × ValidOperand known deep o

-- 1 isn't zero modulo a number above 1.
one_some : (prime : ℕ) → 1 < prime → value_of unit % prime ≡ 0 → ⊥
one_some prime more z = let same : 1 % prime ≡ 1 = mod-eq_of_lt more in absurd (omega (arith, same, z))

-- What stands below / is read, or refused, by its token.
below_local : {P : ReadKind → List Token → Type 0} {n : ℕ} {W : Token → Type 0} (known : Declarations) (deep : ℕ) (digits : List ℕ) → 1 < known.prime → is_numeral digits ≡ true
    → Local P Operand n W (below_at known digits) (λ o b. SpellsOperand known deep o (word digits ∷ mark 47 ∷ b))
unfolding below_at operand_tokens
below_local known deep digits prime numeral =
    let some : (o : Operand) × (tokens : List Token) × SpellsOperand known deep o (word digits ∷ mark 47 ∷ tokens) = (fraction digits unit, one (word unit), (refl, (numeral, refl, one_some known.prime prime))) in
    numeral_then (λ t n. cond (eqb (value_of n.0 % known.prime) 0) (refused t ZeroDivisor) (Ok (fraction digits n.0, n.1))) some
    (local_if (λ i. eqb (value_of (word_of i) % known.prime) 0) (local_refuse ZeroDivisor some)
    (local_value (λ i. fraction digits (word_of i)) some (λ i w.
    let s = numeral_spelled i w.0.1 in (ap (λ (x : List Token). word digits ∷ mark 47 ∷ x) s.0, (numeral, s.1, eqb-false (value_of (word_of i) % known.prime) 0 w.1)))))

-- What is behind a numeral is read, or refused, by its tokens.
fraction_local : {P : ReadKind → List Token → Type 0} {n : ℕ} {W : Token → Type 0} (known : Declarations) (deep : ℕ) (digits : List ℕ) → 1 < known.prime → is_numeral digits ≡ true
    → Local P Operand n W (fraction_at known digits) (λ o b. SpellsOperand known deep o (word digits ∷ b))
unfolding fraction_at operand_tokens
fraction_local known deep digits prime numeral = local_if (is_the_mark 47) (local_behind (mark 47) (λ i w. mark_is 47 i w.1) (below_local known deep digits prime numeral)) (local_done (number digits) (refl, numeral))

-- A word that passes the tests for a short monomial is an operand.
name_tests : (keyword numeral poly short large : Bool) → keyword ≡ false → numeral ≡ false → (poly ≡ true → ⊥) → not short ≡ false → large ≡ false
    → (not numeral && (not keyword && (poly || (short && not large)))) ≡ true
name_tests keyword numeral poly true large p q r s u = rw (p, q, u) (or_true poly)
  where
    or_true : (b : Bool) → (b || true) ≡ true
    or_true true = refl
    or_true false = refl
name_tests keyword numeral poly false large p q r s u = absurd cc

-- A poly's name is an operand.
poly_tests : (keyword numeral poly short large : Bool) → keyword ≡ false → numeral ≡ false → poly ≡ true → (not numeral && (not keyword && (poly || (short && not large)))) ≡ true
poly_tests keyword numeral poly short large p q r = rw (p, q, r) refl

-- A word as an operand is read, or refused, by its tokens.
word_operand_local : {P : ReadKind → List Token → Type 0} {n : ℕ} (known : Declarations) (deep : ℕ) (w : List ℕ) → 1 < known.prime
    → Local P Operand n (λ i. i ≡ word w) (word_operand_at known w) (SpellsOperand known deep)
unfolding word_operand_at operand_tokens
word_operand_local {P} {n} known deep w prime =
    let some : (o : Operand) × (tokens : List Token) × SpellsOperand known deep o tokens = (number nil, one (word nil), (refl, refl)) in
    local_if (λ _. is_one_of keywords w) (local_refuse UnknownName some)
    (local_if (λ _. is_numeral w) (local_next (fraction_at known w) some (λ i h. subst (λ (k : Token). Local P Operand n Any (fraction_at known w) (λ o b. SpellsOperand known deep o (k ∷ b))) (sym h.0.0) (fraction_local known deep w prime h.1)))
    (local_if (λ _. is_one_of known.polys w)
    (local_value (λ _. named w) some (λ i h. (ap one (sym h.0.0.0), poly_tests (is_one_of keywords w) (is_numeral w) (is_one_of known.polys w) (is_short known.letters w) (has_large w) h.0.0.1 h.0.1 h.1)))
    (local_if (λ _. not (is_short known.letters w)) (local_refuse UnknownName some)
    (local_if (λ _. has_large w) (local_refuse ExponentTooLarge some)
    (local_value (λ _. named w) some (λ i h.
    (ap one (sym h.0.0.0.0.0), name_tests (is_one_of keywords w) (is_numeral w) (is_one_of known.polys w) (is_short known.letters w) (has_large w) h.0.0.0.0.1 h.0.0.0.1 (not_both (is_one_of known.polys w) h.0.0.1) h.0.1 h.1)))))))

-- a sum in parentheses
abbrev pub InnerLocal : (ReadKind → List Token → Type 0) → (Place → Result (Sum × Place) Refusal) → Declarations → ℕ → Type 0
InnerLocal P inner known deep = (n : ℕ) → Local P Operand n (λ i. is_the_mark 40 i ≡ true) (λ t. inner t >>= λ s. Ok (inside s.0, s.1)) (SpellsOperand known deep)

-- An operand is read, or refused, by its tokens, and those before a refusal begin a valid one.
pub operand_local : {P : ReadKind → List Token → Type 0} {n : ℕ} {W : Token → Type 0} (inner : Place → Result (Sum × Place) Refusal) (known : Declarations) (deep : ℕ)
    → 1 < known.prime → InnerLocal P inner known deep → Local P Operand n W (operand_at inner known) (SpellsOperand known deep)
unfolding operand_at operand_tokens
operand_local {P} {n} inner known deep prime law =
    let some : (o : Operand) × (tokens : List Token) × SpellsOperand known deep o tokens = (number nil, one (word nil), (refl, refl)) in
    local_if is_word (local_cases (λ i t. word_operand_at known (word_of i) t) some (λ i w. local_where (λ j same. same ∙ some_word_is i w.1) (word_operand_local known deep (word_of i) prime)))
    (local_if (is_the_mark 40) (local_where (λ i w. w.1) (law n)) (local_refuse (Expected whats.Operand) some))
