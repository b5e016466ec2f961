-- One step of reading, and what is left to read behind it.
-- Each step is a test on the token that stands next; what is read behind it begins at the place of the next one.
use Rattle.std.proofs.Common.{◌≡◌, ℕ, ◌+◌, ◌≤◌, Bool, true, false, cond, not, ◌&&◌, ◌||◌, eqb, List, [], ◌∷◌, length, Result, Ok, Err, refl, sym, ap, subst, ◌∙◌, nat_le}
use Rattle.std.proofs.lemmas.Bool.{leb-false, and_parts, or_parts, eqb-true, not-false}
use Rattle.std.proofs.lemmas.Map.Views.{Contains-from_any}
use Rattle.std.specs.List.{list_any}
use Rattle.prime_field.specs.Decimal.{value_of}
use Rattle.prime_field.specs.Prime.{table, InTable}
use Rattle.script_grammar.specs.declared.refusal.Refusal.{Refusal}
use Rattle.script_grammar.specs.declared.refusal.What.{What}
use Rattle.script_grammar.specs.declared.refusal.ReadKind.TheVariants.{Expected, NotAPrime}
use Rattle.script_grammar.specs.Tokens.{Place, next, mark, word, text, is_letter}
use Rattle.script_grammar.specs.Words.{is_numeral, is_named, is_same, is_one_of, keywords, has_letter, is_the_mark, is_the_word, is_the_text, is_word, word_of}
use Rattle.script_grammar.specs.Steps.{◌>>=◌, mark_at, word_at, numeral_at, exponent_at}
use Rattle.script_grammar.specs.Expressions.{Declarations}
use Rattle.script_grammar.specs.Statements.{ring_name_at, prime_at, variable_at, letter_of, is_letter_word, new_name_at, name_among, clashes}
use Rattle.script_grammar.specs.Valid.{IsNew, IsOneOf}
use Rattle.script_grammar.proofs.Steps.{refusal, bind_ok, mark_is, word_is, text_is, some_word_is}
use Rattle.script_grammar.proofs.WordKinds.{letter_word}
use Rattle.script_grammar.proofs.ReadTokensStand.{numeral_found, exponent_found}

-- a test that must come out true
pub taken : {A B : Type 0} (b : Bool) (d : Refusal) (r : Result A Refusal) (f : A → Result B Refusal) (y : B) → (cond b r (Err d) >>= f) ≡ Ok y → (b ≡ true) × ((r >>= f) ≡ Ok y)
taken true d r f y e = (refl, e)
taken false d r f y e = absurd cc

-- a test that must come out false
pub passed : {A B : Type 0} (b : Bool) (d : Refusal) (r : Result A Refusal) (f : A → Result B Refusal) (y : B) → (cond b (Err d) r >>= f) ≡ Ok y → (b ≡ false) × ((r >>= f) ≡ Ok y)
passed true d r f y e = absurd cc
passed false d r f y e = (refl, e)

-- What reads on behind a mark that must stand has found the mark.
pub mark_step : {B : Type 0} (m : ℕ) (what : What) (t : Place) (f : Place → Result B Refusal) (y : B) → (mark_at m what t >>= f) ≡ Ok y → (t.token ≡ mark m) × (f (next t.rest) ≡ Ok y)
unfolding mark_at
mark_step m what t f y e =
    let g = taken (is_the_mark m t.token) _ (Ok (next t.rest)) f y e in
    (mark_is m t.token g.0, g.1)

-- What reads on behind a word that must stand has found the word.
pub word_step : {B : Type 0} (w : List ℕ) (what : What) (t : Place) (f : Place → Result B Refusal) (y : B) → (word_at w what t >>= f) ≡ Ok y → (t.token ≡ word w) × (f (next t.rest) ≡ Ok y)
unfolding word_at
word_step w what t f y e =
    let g = taken (is_the_word w t.token) _ (Ok (next t.rest)) f y e in
    (word_is w t.token g.0, g.1)

-- a place that is named otherwise
moved : {B : Type 0} (t : Place) (f : List ℕ × Place → Result B Refusal) (n : List ℕ × Place) (y : B) → next t.rest ≡ n.1 → f n ≡ Ok y → f (n.0, next t.rest) ≡ Ok y
moved t f n y e h = subst (λ (u : Place). f (n.0, u) ≡ Ok y) (sym e) h

-- What reads on behind a numeral has found one.
pub numeral_step : {B : Type 0} (t : Place) (f : List ℕ × Place → Result B Refusal) (y : B) → (numeral_at t >>= f) ≡ Ok y → (w : List ℕ) × (t.token ≡ word w) × (is_numeral w ≡ true) × (f (w, next t.rest) ≡ Ok y)
numeral_step t f y e =
    let a = bind_ok (numeral_at t) f y e in
    let n = numeral_found t a.0 a.1 in
    (a.0.0, n.0, n.1, moved t f a.0 y n.2 a.2)

-- What reads on behind an exponent has found a numeral of at most 1,000.
pub exponent_step : {B : Type 0} (t : Place) (f : List ℕ × Place → Result B Refusal) (y : B) → (exponent_at t >>= f) ≡ Ok y
    → (w : List ℕ) × (t.token ≡ word w) × (is_numeral w ≡ true) × (value_of w ≤ 1000) × (f (w, next t.rest) ≡ Ok y)
exponent_step t f y e =
    let a = bind_ok (exponent_at t) f y e in
    let n = exponent_found t a.0 a.1 in
    (a.0.0, n.0, n.1, n.2, moved t f a.0 y n.3 a.2)

-- What reads on behind the ring's name has found a name that is no keyword.
pub ring_name_step : {B : Type 0} (t : Place) (f : List ℕ × Place → Result B Refusal) (y : B) → (ring_name_at t >>= f) ≡ Ok y
    → (w : List ℕ) × (t.token ≡ word w) × (is_named w ≡ true) × (is_one_of keywords w ≡ false) × (f (w, next t.rest) ≡ Ok y)
unfolding ring_name_at
ring_name_step t f y e =
    let w = word_of t.token in
    let a = passed (not (is_word t.token && is_named w)) _ _ f y e in
    let b = passed (is_one_of keywords w) _ _ f y a.1 in
    let p = and_parts (is_word t.token) (is_named w) (not-false _ a.0) in
    (w, some_word_is t.token p.0, p.1, b.0, b.1)

-- A number that is tested to be one of the table is in the table.
in_table : (n : ℕ) → list_any (λ q. eqb q n) table ≡ true → InTable n
in_table n h = Contains-from_any {eq = λ k q. eqb q k} (λ x y e. sym (eqb-true y x e)) n table h

-- What reads on behind the characteristic has found a numeral of the table.
pub prime_step : {B : Type 0} (t : Place) (f : List ℕ × Place → Result B Refusal) (y : B) → (prime_at t >>= f) ≡ Ok y
    → (w : List ℕ) × (t.token ≡ word w) × (is_numeral w ≡ true) × InTable (value_of w) × (f (w, next t.rest) ≡ Ok y)
unfolding prime_at
prime_step t f y e =
    let a = bind_ok _ f y e in
    let n = numeral_step _ _ _ a.1 in
    let x : List ℕ × Place = (n.0, next t.rest) in
    let back : (cond {A = Result (List ℕ × Place) Refusal} (list_any (λ q. eqb q (value_of n.0)) table) (Ok x) (Err (refusal t NotAPrime)) >>= f) ≡ Ok y = ap (λ (r : Result (List ℕ × Place) Refusal). r >>= f) n.3 ∙ a.2 in
    let g = taken (list_any (λ q. eqb q (value_of n.0)) table) _ (Ok x) f y back in
    (n.0, n.1, n.2, in_table (value_of n.0) g.0, g.1)

-- What reads on behind a variable has found a letter that is free, behind fewer than 8.
pub variable_step : {B : Type 0} (ring letters : List ℕ) (t : Place) (f : ℕ × Place → Result B Refusal) (y : B) → (variable_at ring letters t >>= f) ≡ Ok y
    → (l : ℕ) × (t.token ≡ word (l ∷ [])) × (is_letter l ≡ true) × (eqb (length letters) 8 ≡ false) × (has_letter letters l ≡ false) × (is_same ring (l ∷ []) ≡ false) × (f (l, next t.rest) ≡ Ok y)
unfolding variable_at
variable_step ring letters t f y e =
    let w = word_of t.token in
    let l = letter_of w in
    let a = passed (not (is_word t.token && is_letter_word w)) _ _ f y e in
    let b = passed (eqb (length letters) 8) _ _ f y a.1 in
    let c = passed (has_letter letters l || is_same ring w) _ _ f y b.1 in
    let p = and_parts (is_word t.token) (is_letter_word w) (not-false _ a.0) in
    let one = letter_word w p.1 in
    let free = or_parts (has_letter letters l) (is_same ring w) c.0 in
    (l, some_word_is t.token p.0 ∙ ap (λ (v : List ℕ). word v) one.0, one.1, b.0, free.0, sym (ap (is_same ring) one.0) ∙ free.1, c.1)

-- What reads on behind a name that is declared has found one that is new.
pub new_name_step : {B : Type 0} (known : Declarations) (t : Place) (f : List ℕ × Place → Result B Refusal) (y : B) → (new_name_at known t >>= f) ≡ Ok y
    → (w : List ℕ) × (t.token ≡ word w) × IsNew known w × (f (w, next t.rest) ≡ Ok y)
unfolding new_name_at
new_name_step known t f y e =
    let w = word_of t.token in
    let n = length known.polys + length known.ideals in
    let a = passed (not (is_word t.token && is_named w)) _ _ f y e in
    let b = passed (clashes known w) _ _ f y a.1 in
    let c = passed (nat_le 64 n) _ _ f y b.1 in
    let p = and_parts (is_word t.token) (is_named w) (not-false _ a.0) in
    (w, some_word_is t.token p.0, record { named = p.1; free = b.0; room = leb-false 64 n c.0 }, c.1)

-- What reads on behind the name of something declared has found one of those names.
pub name_among_step : {B : Type 0} (names : List (List ℕ)) (t : Place) (f : List ℕ × Place → Result B Refusal) (y : B) → (name_among names t >>= f) ≡ Ok y
    → (w : List ℕ) × (t.token ≡ word w) × IsOneOf names w × (f (w, next t.rest) ≡ Ok y)
unfolding name_among
name_among_step names t f y e =
    let w = word_of t.token in
    let a = passed (not (is_word t.token && is_named w)) _ _ f y e in
    let b = taken (is_one_of names w) _ _ f y a.1 in
    let p = and_parts (is_word t.token) (is_named w) (not-false _ a.0) in
    (w, some_word_is t.token p.0, (p.1, b.0), b.1)

-- the string "sing.lib"
pub text_step : {B : Type 0} (w : List ℕ) (what : What) (t : Place) (f : Place → Result B Refusal) (y : B) → (cond (is_the_text w t.token) (Ok (next t.rest)) (Err (refusal t (Expected what))) >>= f) ≡ Ok y
    → (t.token ≡ text w) × (f (next t.rest) ≡ Ok y)
text_step w what t f y e =
    let g = taken (is_the_text w t.token) _ (Ok (next t.rest)) f y e in
    (text_is w t.token g.0, g.1)
