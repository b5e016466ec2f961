-- An expression that stands there and is valid is read, where no token goes on with it.
-- By induction on the tree; a loop stands behind each part of what it reads, with as many turns left as bytes or more.
use Rattle.std.proofs.Common.{◌≡◌, ℕ, zero, suc, ◌%◌, ◌<◌, ◌≤◌, Bool, true, false, cond, not, ◌&&◌, ◌||◌, eqb, List, ◌∷◌, Result, Ok, Err, refl, sym, ap, subst, ◌∙◌, ◌⊎◌, inl, inr, arith}
use Rattle.std.proofs.lemmas.Bool.{ne_eqb, and_right, and_from}
use Rattle.prime_field.specs.Decimal.{value_of}
use Rattle.script_grammar.specs.declared.refusal.Refusal.{Refusal}
use Rattle.script_grammar.specs.declared.refusal.What.TheVariants as whats
use Rattle.script_grammar.specs.declared.refusal.ReadKind.TheVariants.{ZeroDivisor}
use Rattle.script_grammar.specs.Tokens.{Token, Place, next, mark, word}
use Rattle.script_grammar.specs.Words.{is_numeral, is_one_of, keywords, is_short, has_large, is_the_mark, is_word, word_of}
use Rattle.script_grammar.specs.Trees.{Operand, number, fraction, named, inside, operand_tokens, Power, plain, raised, power_tokens, Term, single, times, term_tokens, Sum, bare, positive, negative, plus, minus, sum_tokens, one}
use Rattle.script_grammar.specs.Steps.{◌>>=◌, mark_at, exponent_at}
use Rattle.script_grammar.specs.Expressions.{Declarations, below_at, fraction_at, word_operand_at, operand_at, takes_exponent, power_at, times_at, term_at, more_at, first_at, sum_at, inner_at, expression_at}
use Rattle.script_grammar.specs.Valid.{Stand, is_operand_word, ValidOperand, ValidPower, ValidTerm, ValidSum}
use Rattle.script_grammar.specs.Places.{Placed, EndsSum}
use Rattle.script_grammar.proofs.Steps.{refusal, Stand-split}
use Rattle.script_grammar.proofs.Places.{next_placed, stand_placed, behind_mark}
use Rattle.script_grammar.proofs.WordKinds.{numeral_no_keyword}
use Rattle.script_grammar.proofs.TokensAreRead.{not_mark, is_mark_so, mark_again, numeral_again, exponent_again}

-- A numeral that isn't zero modulo the characteristic is read below /.
below_again : (known : Declarations) (digits below : List ℕ) (t u : Place) → t.token ≡ word below → is_numeral below ≡ true → (value_of below % known.prime ≡ 0 → ⊥) → next t.rest ≡ u → below_at known digits t ≡ Ok (fraction digits below, u)
unfolding below_at
below_again known digits below t u here numeral some behind =
    let f : List ℕ × Place → Result (Operand × Place) Refusal = λ n. cond (eqb (value_of n.0 % known.prime) 0) (Err (refusal t ZeroDivisor)) (Ok (fraction digits n.0, n.1)) in
    ap (λ (r : Result (List ℕ × Place) Refusal). r >>= f) (numeral_again t below u here numeral behind)
    ∙ ap (λ (b : Bool). cond {A = Result (Operand × Place) Refusal} b (Err (refusal t ZeroDivisor)) (Ok (fraction digits below, u))) (ne_eqb (value_of below % known.prime) 0 some)

-- A word is read as a word, and not as what is in parentheses.
word_item : (inner : Place → Result (Sum × Place) Refusal) (known : Declarations) (t : Place) (w : List ℕ) → t.token ≡ word w → operand_at inner known t ≡ word_operand_at known w t
unfolding operand_at
word_item inner known t w here =
    let test : is_word t.token ≡ true = ap is_word here in
    rw test (ap (λ (i : Token). word_operand_at known (word_of i) t) here)

InnerAgain : (Place → Result (Sum × Place) Refusal) → Declarations → ℕ → Type 0
InnerAgain inner known deep = (t : Place) (s : Sum) (u : Place) → Placed t → Stand t (operand_tokens (inside s)) u → ValidOperand known deep (inside s) → inner t ≡ Ok (s, u)

-- the tests on a name, taken apart
name_parts : (a b c d e : Bool) → (not a && (not b && (c || (d && not e)))) ≡ true → (a ≡ false) × (b ≡ false) × ((c ≡ true) ⊎ (c ≡ false) × (d ≡ true) × (e ≡ false))
name_parts true b c d e h = absurd cc
name_parts false true c d e h = absurd cc
name_parts false false true d e h = (refl, refl, inl refl)
name_parts false false false true true h = absurd cc
name_parts false false false true false h = (refl, refl, inr (refl, refl, refl))
name_parts false false false false e h = absurd cc

-- A word that an operand may be is read as it.
name_again : (known : Declarations) (t : Place) (w : List ℕ) → is_operand_word known w ≡ true → word_operand_at known w t ≡ Ok (named w, next t.rest)
unfolding word_operand_at
name_again known t w h =
    let p = name_parts (is_numeral w) (is_one_of keywords w) (is_one_of known.polys w) (is_short known.letters w) (has_large w) h in
    elim p.2 [
      | inl declared ↦ rw (p.1, p.0, declared) refl
      | inr strange ↦ rw (p.1, p.0, strange.0, strange.1, strange.2) refl
    ]

-- A numeral without / behind it is read alone.
fraction_plain : (known : Declarations) (digits : List ℕ) (u : Place) → is_the_mark 47 u.token ≡ false → fraction_at known digits u ≡ Ok (number digits, u)
unfolding fraction_at
fraction_plain known digits u quiet = rw quiet refl

-- Behind a numeral with / what is below is read.
fraction_slash : (known : Declarations) (digits : List ℕ) (t : Place) → t.token ≡ mark 47 → fraction_at known digits t ≡ below_at known digits (next t.rest)
unfolding fraction_at
fraction_slash known digits t here = rw (is_mark_so 47 t here refl) refl

-- A numeral is read as one, since it is no keyword.
word_numeral : (known : Declarations) (t : Place) (w : List ℕ) → is_numeral w ≡ true → word_operand_at known w t ≡ fraction_at known w (next t.rest)
unfolding word_operand_at
word_numeral known t w h = rw (numeral_no_keyword w h, h) refl

-- An operand that begins with ( is read in parentheses.
paren_item : (inner : Place → Result (Sum × Place) Refusal) (known : Declarations) (t : Place) → t.token ≡ mark 40 → operand_at inner known t ≡ (inner t >>= λ s. Ok (inside s.0, s.1))
unfolding operand_at
paren_item inner known t here =
    let no_word : is_word t.token ≡ false = ap is_word here in
    let opens : is_the_mark 40 t.token ≡ true = ap (is_the_mark 40) here in
    rw (no_word, opens) refl

-- A valid operand that stands there is read.
operand_again : (inner : Place → Result (Sum × Place) Refusal) (known : Declarations) (deep : ℕ) (t : Place) (o : Operand) (u : Place) → InnerAgain inner known deep → Placed t
    → Stand t (operand_tokens o) u → ValidOperand known deep o → is_the_mark 47 u.token ≡ false → operand_at inner known t ≡ Ok (o, u)
unfolding operand_tokens InnerAgain
operand_again inner known deep t (number digits) u law short p valid quiet =
    word_item inner known t digits p.0 ∙ word_numeral known t digits valid ∙ ap (fraction_at known digits) p.1 ∙ fraction_plain known digits u quiet
operand_again inner known deep t (fraction digits below) u law short p valid quiet =
    word_item inner known t digits p.0 ∙ word_numeral known t digits valid.0 ∙ fraction_slash known digits (next t.rest) p.1.0
    ∙ below_again known digits below (next (next t.rest).rest) u p.1.1.0 valid.1 valid.2 p.1.1.1
operand_again inner known deep t (named w) u law short p valid quiet = word_item inner known t w p.0 ∙ name_again known t w valid ∙ ap (λ (x : Place). Ok (named w, x)) p.1
operand_again inner known deep t (inside s) u law short p valid quiet =
    let f : Sum × Place → Result (Operand × Place) Refusal = λ x. Ok (inside x.0, x.1) in
    paren_item inner known t p.0 ∙ ap (λ (r : Result (Sum × Place) Refusal). r >>= f) (law t s u short p valid)

-- a power with the exponent that is read
abbrev raise : Operand × Place → List ℕ × Place → Result (Power × Place) Refusal
raise o n = Ok (raised o.0 n.0, n.1)

-- what is read behind an operand: its exponent, or nothing
abbrev powered : Declarations → Operand × Place → Result (Power × Place) Refusal
powered known o = cond (takes_exponent known o.0 && is_the_mark 94 o.1.token) (exponent_at (next o.1.rest) >>= raise o) (Ok (plain o.0, o.1))

-- A power is read from its operand on.
power_from : (inner : Place → Result (Sum × Place) Refusal) (known : Declarations) (t : Place) (o : Operand × Place) → operand_at inner known t ≡ Ok o → power_at inner known t ≡ powered known o
unfolding power_at
power_from inner known t o e = ap (λ (r : Result (Operand × Place) Refusal). r >>= powered known) e

-- Whether an exponent is read is told by the operand and the ^ behind it.
powered_is : (known : Declarations) (o : Operand × Place) (b : Bool) → (takes_exponent known o.0 && is_the_mark 94 o.1.token) ≡ b → powered known o ≡ cond b (exponent_at (next o.1.rest) >>= raise o) (Ok (plain o.0, o.1))
powered_is known o b e = ap (λ (c : Bool). cond {A = Result (Power × Place) Refusal} c (exponent_at (next o.1.rest) >>= raise o) (Ok (plain o.0, o.1))) e

-- A valid power that stands there is read, if no ^ goes on with it.
power_again : (inner : Place → Result (Sum × Place) Refusal) (known : Declarations) (deep : ℕ) (t : Place) (x : Power) (u : Place) → InnerAgain inner known deep → Placed t
    → Stand t (power_tokens x) u → ValidPower known deep x → is_the_mark 47 u.token ≡ false → is_the_mark 94 u.token ≡ false → power_at inner known t ≡ Ok (x, u)
unfolding power_tokens
power_again inner known deep t (plain o) u law short p valid quiet calm =
    power_from inner known t (o, u) (operand_again inner known deep t o u law short p valid quiet) ∙ powered_is known (o, u) false (and_right (takes_exponent known o) (is_the_mark 94 u.token) calm)
power_again inner known deep t (raised o digits) u law short p valid quiet calm =
    let q = Stand-split t (operand_tokens o) (mark 94 ∷ one (word digits)) u p in
    let m = q.0 in
    let up = q.2 in
    power_from inner known t (o, m) (operand_again inner known deep t o m law short q.1 valid.0 (not_mark 47 94 m up.0 refl))
    ∙ powered_is known (o, m) true (and_from (takes_exponent known o) (is_the_mark 94 m.token) valid.1 (is_mark_so 94 m up.0 refl))
    ∙ ap (λ (r : Result (List ℕ × Place) Refusal). r >>= raise (o, m)) (exponent_again (next m.rest) digits u up.1.0 valid.2 valid.3 up.1.1)

-- the loop over powers stands at m with this tree
abbrev TermAt : (Place → Result (Sum × Place) Refusal) → Declarations → Place → Term → Place → Type 0
TermAt inner known t x m = (n : ℕ) × (m.left ≤ n) × (term_at inner known t ≡ times_at inner known n x m)

-- A loop over powers takes one more power behind a *.
times_on : (inner : Place → Result (Sum × Place) Refusal) (known : Declarations) (whole : Result (Term × Place) Refusal) (n : ℕ) (y : Term) (z : Power) (k m : Place)
    → k.token ≡ mark 42 → k.left ≤ n → m.left < k.left → whole ≡ times_at inner known n y k → power_at inner known (next k.rest) ≡ Ok (z, m) → (l : ℕ) × (m.left ≤ l) × (whole ≡ times_at inner known l (times y z) m)
unfolding times_at
times_on inner known whole zero y z k m here room shorter so_far reads = absurd (omega arith)
times_on inner known whole (suc n) y z k m here room shorter so_far reads =
    let f : Power × Place → Result (Term × Place) Refusal = λ x. times_at inner known n (times y x.0) x.1 in
    let one_more : times_at inner known (suc n) y k ≡ times_at inner known n (times y z) m = rw (is_mark_so 42 k here refl) (ap (λ (r : Result (Power × Place) Refusal). r >>= f) reads) in
    (n, omega arith, so_far ∙ one_more)

-- A power that is read begins a term.
term_begins : (inner : Place → Result (Sum × Place) Refusal) (known : Declarations) (t : Place) (z : Power) (m : Place) → power_at inner known t ≡ Ok (z, m) → TermAt inner known t (single z) m
unfolding term_at
term_begins inner known t z m e =
    let f : Power × Place → Result (Term × Place) Refusal = λ x. times_at inner known x.1.left (single x.0) x.1 in
    (m.left, omega arith, ap (λ (r : Result (Power × Place) Refusal). r >>= f) e)

-- A valid term that stands there is read up to its end and beyond, as a loop goes.
term_goes : (inner : Place → Result (Sum × Place) Refusal) (known : Declarations) (deep : ℕ) (t : Place) (x : Term) (m : Place) → InnerAgain inner known deep → Placed t
    → Stand t (term_tokens x) m → ValidTerm known deep x → is_the_mark 47 m.token ≡ false → is_the_mark 94 m.token ≡ false → TermAt inner known t x m
unfolding term_tokens
term_goes inner known deep t (single z) m law placed p valid quiet calm = term_begins inner known t z m (power_again inner known deep t z m law placed p valid quiet calm)
term_goes inner known deep t (times y z) m law placed p valid quiet calm =
    let q = Stand-split t (term_tokens y) (mark 42 ∷ power_tokens z) m p in
    let k = q.0 in
    let star = q.2 in
    let kept = stand_placed t (term_tokens y) k placed q.1 in
    let less = behind_mark k 42 (power_tokens z) m kept.1 star.0 star.1 in
    let before = term_goes inner known deep t y k law placed q.1 valid.0 (not_mark 47 42 k star.0 refl) (not_mark 94 42 k star.0 refl) in
    times_on inner known (term_at inner known t) before.0 y z k m star.0 before.1 less.0 before.2 (power_again inner known deep (next k.rest) z m law (next_placed k.rest) star.1 valid.1 quiet calm)

-- A loop over powers ends where no * stands.
times_end : (inner : Place → Result (Sum × Place) Refusal) (known : Declarations) (n : ℕ) (x : Term) (u : Place) → is_the_mark 42 u.token ≡ false → times_at inner known n x u ≡ Ok (x, u)
unfolding times_at
times_end inner known zero x u h = refl
times_end inner known (suc n) x u h = rw h refl

-- A valid term that stands there is read, if neither ^ nor * goes on with it.
term_again : (inner : Place → Result (Sum × Place) Refusal) (known : Declarations) (deep : ℕ) (t : Place) (x : Term) (u : Place) → InnerAgain inner known deep → Placed t
    → Stand t (term_tokens x) u → ValidTerm known deep x → is_the_mark 47 u.token ≡ false → is_the_mark 94 u.token ≡ false → is_the_mark 42 u.token ≡ false → term_at inner known t ≡ Ok (x, u)
term_again inner known deep t x u law placed p valid quiet calm dark =
    let g = term_goes inner known deep t x u law placed p valid quiet calm in
    g.2 ∙ times_end inner known g.0 x u dark

-- no operand begins with a sign
operand_head : (t : Place) (o : Operand) (u : Place) (m : ℕ) → eqb 40 m ≡ false → Stand t (operand_tokens o) u → is_the_mark m t.token ≡ false
unfolding operand_tokens
operand_head t (number digits) u m h p = ap (is_the_mark m) p.0
operand_head t (fraction digits below) u m h p = ap (is_the_mark m) p.0
operand_head t (named w) u m h p = ap (is_the_mark m) p.0
operand_head t (inside s) u m h p = ap (is_the_mark m) p.0 ∙ h

-- A power begins with no mark but (.
power_head : (t : Place) (x : Power) (u : Place) (m : ℕ) → eqb 40 m ≡ false → Stand t (power_tokens x) u → is_the_mark m t.token ≡ false
unfolding power_tokens
power_head t (plain o) u m h p = operand_head t o u m h p
power_head t (raised o digits) u m h p = let q = Stand-split t (operand_tokens o) (mark 94 ∷ one (word digits)) u p in operand_head t o q.0 m h q.1

-- A term begins with no mark but (.
term_head : (t : Place) (x : Term) (u : Place) (m : ℕ) → eqb 40 m ≡ false → Stand t (term_tokens x) u → is_the_mark m t.token ≡ false
unfolding term_tokens
term_head t (single z) u m h p = power_head t z u m h p
term_head t (times y z) u m h p = let q = Stand-split t (term_tokens y) (mark 42 ∷ power_tokens z) u p in term_head t y q.0 m h q.1

abbrev SumAt : (Place → Result (Sum × Place) Refusal) → Declarations → Place → Sum → Place → Type 0
SumAt inner known t x m = (n : ℕ) × (m.left ≤ n) × (sum_at inner known t ≡ more_at inner known n x m)

-- A first term that is read begins a sum.
sum_begins : (inner : Place → Result (Sum × Place) Refusal) (known : Declarations) (t : Place) (x : Sum) (m : Place) → first_at inner known t ≡ Ok (x, m) → SumAt inner known t x m
unfolding sum_at
sum_begins inner known t x m e =
    let f : Sum × Place → Result (Sum × Place) Refusal = λ y. more_at inner known y.1.left y.0 y.1 in
    (m.left, omega arith, ap (λ (r : Result (Sum × Place) Refusal). r >>= f) e)

-- A term without a sign is read as the first one.
first_bare : (inner : Place → Result (Sum × Place) Refusal) (known : Declarations) (t : Place) (y : Term) (m : Place) → is_the_mark 43 t.token ≡ false → is_the_mark 45 t.token ≡ false → term_at inner known t ≡ Ok (y, m) → first_at inner known t ≡ Ok (bare y, m)
unfolding first_at
first_bare inner known t y m p q e =
    let f : Term × Place → Result (Sum × Place) Refusal = λ x. Ok (bare x.0, x.1) in
    rw (p, q) (ap (λ (r : Result (Term × Place) Refusal). r >>= f) e)

-- A term behind + is read as the first one.
first_up : (inner : Place → Result (Sum × Place) Refusal) (known : Declarations) (t : Place) (y : Term) (m : Place) → is_the_mark 43 t.token ≡ true → term_at inner known (next t.rest) ≡ Ok (y, m) → first_at inner known t ≡ Ok (positive y, m)
unfolding first_at
first_up inner known t y m p e =
    let f : Term × Place → Result (Sum × Place) Refusal = λ x. Ok (positive x.0, x.1) in
    rw p (ap (λ (r : Result (Term × Place) Refusal). r >>= f) e)

-- A term behind - is read as the first one.
first_down : (inner : Place → Result (Sum × Place) Refusal) (known : Declarations) (t : Place) (y : Term) (m : Place) → is_the_mark 43 t.token ≡ false → is_the_mark 45 t.token ≡ true → term_at inner known (next t.rest) ≡ Ok (y, m) → first_at inner known t ≡ Ok (negative y, m)
unfolding first_at
first_down inner known t y m q p e =
    let f : Term × Place → Result (Sum × Place) Refusal = λ x. Ok (negative x.0, x.1) in
    rw (q, p) (ap (λ (r : Result (Term × Place) Refusal). r >>= f) e)

-- A loop over terms takes one more term behind a +.
plus_on : (inner : Place → Result (Sum × Place) Refusal) (known : Declarations) (whole : Result (Sum × Place) Refusal) (n : ℕ) (y : Sum) (z : Term) (k m : Place)
    → k.token ≡ mark 43 → k.left ≤ n → m.left < k.left → whole ≡ more_at inner known n y k → term_at inner known (next k.rest) ≡ Ok (z, m) → (l : ℕ) × (m.left ≤ l) × (whole ≡ more_at inner known l (plus y z) m)
unfolding more_at
plus_on inner known whole zero y z k m here room shorter so_far reads = absurd (omega arith)
plus_on inner known whole (suc n) y z k m here room shorter so_far reads =
    let f : Term × Place → Result (Sum × Place) Refusal = λ x. more_at inner known n (plus y x.0) x.1 in
    let one_more : more_at inner known (suc n) y k ≡ more_at inner known n (plus y z) m = rw (is_mark_so 43 k here refl) (ap (λ (r : Result (Term × Place) Refusal). r >>= f) reads) in
    (n, omega arith, so_far ∙ one_more)

-- A loop over terms takes one more term behind a -.
minus_on : (inner : Place → Result (Sum × Place) Refusal) (known : Declarations) (whole : Result (Sum × Place) Refusal) (n : ℕ) (y : Sum) (z : Term) (k m : Place)
    → k.token ≡ mark 45 → k.left ≤ n → m.left < k.left → whole ≡ more_at inner known n y k → term_at inner known (next k.rest) ≡ Ok (z, m) → (l : ℕ) × (m.left ≤ l) × (whole ≡ more_at inner known l (minus y z) m)
unfolding more_at
minus_on inner known whole zero y z k m here room shorter so_far reads = absurd (omega arith)
minus_on inner known whole (suc n) y z k m here room shorter so_far reads =
    let f : Term × Place → Result (Sum × Place) Refusal = λ x. more_at inner known n (minus y x.0) x.1 in
    let one_more : more_at inner known (suc n) y k ≡ more_at inner known n (minus y z) m = rw (not_mark 43 45 k here refl, is_mark_so 45 k here refl) (ap (λ (r : Result (Term × Place) Refusal). r >>= f) reads) in
    (n, omega arith, so_far ∙ one_more)

-- A valid sum that stands there is read up to its end and beyond, as a loop goes.
sum_goes : (inner : Place → Result (Sum × Place) Refusal) (known : Declarations) (deep : ℕ) (t : Place) (x : Sum) (m : Place) → InnerAgain inner known deep → Placed t
    → Stand t (sum_tokens x) m → ValidSum known deep x → is_the_mark 47 m.token ≡ false → is_the_mark 94 m.token ≡ false → is_the_mark 42 m.token ≡ false → SumAt inner known t x m
unfolding sum_tokens
sum_goes inner known deep t (bare y) m law placed p valid quiet calm dark =
    sum_begins inner known t (bare y) m (first_bare inner known t y m (term_head t y m 43 refl p) (term_head t y m 45 refl p) (term_again inner known deep t y m law placed p valid quiet calm dark))
sum_goes inner known deep t (positive y) m law placed p valid quiet calm dark =
    sum_begins inner known t (positive y) m (first_up inner known t y m (is_mark_so 43 t p.0 refl) (term_again inner known deep (next t.rest) y m law (next_placed t.rest) p.1 valid quiet calm dark))
sum_goes inner known deep t (negative y) m law placed p valid quiet calm dark =
    sum_begins inner known t (negative y) m (first_down inner known t y m (not_mark 43 45 t p.0 refl) (is_mark_so 45 t p.0 refl) (term_again inner known deep (next t.rest) y m law (next_placed t.rest) p.1 valid quiet calm dark))
sum_goes inner known deep t (plus y z) m law placed p valid quiet calm dark =
    let q = Stand-split t (sum_tokens y) (mark 43 ∷ term_tokens z) m p in
    let k = q.0 in
    let sign = q.2 in
    let kept = stand_placed t (sum_tokens y) k placed q.1 in
    let less = behind_mark k 43 (term_tokens z) m kept.1 sign.0 sign.1 in
    let before = sum_goes inner known deep t y k law placed q.1 valid.0 (not_mark 47 43 k sign.0 refl) (not_mark 94 43 k sign.0 refl) (not_mark 42 43 k sign.0 refl) in
    plus_on inner known (sum_at inner known t) before.0 y z k m sign.0 before.1 less.0 before.2 (term_again inner known deep (next k.rest) z m law (next_placed k.rest) sign.1 valid.1 quiet calm dark)
sum_goes inner known deep t (minus y z) m law placed p valid quiet calm dark =
    let q = Stand-split t (sum_tokens y) (mark 45 ∷ term_tokens z) m p in
    let k = q.0 in
    let sign = q.2 in
    let kept = stand_placed t (sum_tokens y) k placed q.1 in
    let less = behind_mark k 45 (term_tokens z) m kept.1 sign.0 sign.1 in
    let before = sum_goes inner known deep t y k law placed q.1 valid.0 (not_mark 47 45 k sign.0 refl) (not_mark 94 45 k sign.0 refl) (not_mark 42 45 k sign.0 refl) in
    minus_on inner known (sum_at inner known t) before.0 y z k m sign.0 before.1 less.0 before.2 (term_again inner known deep (next k.rest) z m law (next_placed k.rest) sign.1 valid.1 quiet calm dark)

-- A loop over terms ends where neither + nor - stands.
more_end : (inner : Place → Result (Sum × Place) Refusal) (known : Declarations) (n : ℕ) (x : Sum) (u : Place) → is_the_mark 43 u.token ≡ false → is_the_mark 45 u.token ≡ false → more_at inner known n x u ≡ Ok (x, u)
unfolding more_at
more_end inner known zero x u h k = refl
more_end inner known (suc n) x u h k = rw (h, k) refl

-- A valid sum that stands there is read, if nothing goes on with it.
sum_again : (inner : Place → Result (Sum × Place) Refusal) (known : Declarations) (deep : ℕ) (t : Place) (x : Sum) (u : Place) → InnerAgain inner known deep → Placed t
    → Stand t (sum_tokens x) u → ValidSum known deep x → EndsSum u → sum_at inner known t ≡ Ok (x, u)
sum_again inner known deep t x u law placed p valid ends =
    let g = sum_goes inner known deep t x u law placed p valid ends.slash ends.caret ends.star in
    g.2 ∙ more_end inner known g.0 x u ends.up ends.down

-- a ) ends a sum
paren_ends : (t : Place) → t.token ≡ mark 41 → EndsSum t
paren_ends t h = record { slash = not_mark 47 41 t h refl; caret = not_mark 94 41 t h refl; star = not_mark 42 41 t h refl; up = not_mark 43 41 t h refl; down = not_mark 45 41 t h refl }

-- Successors that are the same are of the same.
suc_same : (a b : ℕ) → suc a ≡ suc b → a ≡ b
suc_same a b e = omega arith

-- A valid sum in parentheses that stands there is read, with as many open as it may have.
inner_again : (deep : ℕ) (known : Declarations) → InnerAgain (inner_at deep known) known deep
unfolding inner_at InnerAgain operand_tokens
inner_again zero known t s u placed p valid = absurd (omega (arith, valid.1))
inner_again (suc deep) known t s u placed p valid =
    let close : Sum × Place → Result (Sum × Place) Refusal = λ x. mark_at 41 whats.Operator x.1 >>= λ after. Ok (x.0, after) in
    let q = Stand-split (next t.rest) (sum_tokens s) (one (mark 41)) u p.1 in
    let m = q.0 in
    let same = suc_same deep valid.0 valid.1 in
    let inside_valid : ValidSum known deep s = subst (λ (d : ℕ). ValidSum known d s) (sym same) valid.2 in
    let reads = sum_again (inner_at deep known) known deep (next t.rest) s m (inner_again deep known) (next_placed t.rest) q.1 inside_valid (paren_ends m q.2.0) in
    let finish : Place → Result (Sum × Place) Refusal = λ after. Ok (s, after) in
    ap (λ (r : Result (Sum × Place) Refusal). r >>= close) reads ∙ ap (λ (r : Result Place Refusal). r >>= finish) (mark_again 41 whats.Operator m u q.2.0 q.2.1 refl)

-- what stands there and is valid is read, where nothing goes on with it
pub expression_again : (known : Declarations) (t : Place) (x : Sum) (u : Place) → Placed t → Stand t (sum_tokens x) u → ValidSum known 32 x → EndsSum u → expression_at known t ≡ Ok (x, u)
unfolding expression_at
expression_again known t x u placed p valid ends = sum_again (inner_at 32 known) known 32 t x u (inner_again 32 known) placed p valid ends
