-- A single token that stands there is read.
-- The test of each reading function of one token comes out as the token says.
use Rattle.std.proofs.Common.{◌≡◌, ℕ, ◌≤◌, Bool, true, false, cond, ◌&&◌, eqb, List, Result, Ok, Err, ap, ◌∙◌, nat_lt}
use Rattle.std.proofs.lemmas.Bool.{le-ltb}
use Rattle.prime_field.specs.Decimal.{value_of}
use Rattle.script_grammar.specs.declared.refusal.Refusal.{Refusal}
use Rattle.script_grammar.specs.declared.refusal.What.TheVariants as whats
use Rattle.script_grammar.specs.declared.refusal.What.{What}
use Rattle.script_grammar.specs.declared.refusal.ReadKind.TheVariants.{Expected, ExponentTooLarge}
use Rattle.script_grammar.specs.Tokens.{Token, Place, next, mark, word}
use Rattle.script_grammar.specs.Words.{is_numeral, is_the_mark, is_the_word, is_word, word_of}
use Rattle.script_grammar.specs.Steps.{◌>>=◌, kind_at, mark_at, word_at, numeral_at, exponent_at}
use Rattle.script_grammar.proofs.Steps.{refusal, same_refl}

-- One mark isn't another.
pub not_mark : (m n : ℕ) (t : Place) → t.token ≡ mark n → eqb n m ≡ false → is_the_mark m t.token ≡ false
not_mark m n t here e = ap (is_the_mark m) here ∙ e

-- A mark passes its own test.
pub is_mark_so : (m : ℕ) (t : Place) → t.token ≡ mark m → eqb m m ≡ true → is_the_mark m t.token ≡ true
is_mark_so m t here e = ap (is_the_mark m) here ∙ e

-- A mark that stands there is read.
pub mark_again : (m : ℕ) (what : What) (t u : Place) → t.token ≡ mark m → next t.rest ≡ u → eqb m m ≡ true → mark_at m what t ≡ Ok u
unfolding mark_at
mark_again m what t u here behind same = rw (is_mark_so m t here same) (ap (λ (x : Place). Ok x) behind)

-- A word that stands there is read.
pub word_again : (w : List ℕ) (what : What) (t u : Place) → t.token ≡ word w → next t.rest ≡ u → word_at w what t ≡ Ok u
unfolding word_at
word_again w what t u here behind =
    let test : is_the_word w t.token ≡ true = ap (is_the_word w) here ∙ same_refl w in
    rw test (ap (λ (x : Place). Ok x) behind)

-- A numeral that stands there is read.
pub numeral_again : (t : Place) (w : List ℕ) (u : Place) → t.token ≡ word w → is_numeral w ≡ true → next t.rest ≡ u → numeral_at t ≡ Ok (w, u)
unfolding numeral_at
numeral_again t w u here numeral behind =
    ap (λ (i : Token). cond {A = Result (List ℕ × Place) Refusal} (is_word i && is_numeral (word_of i)) (Ok (word_of i, next t.rest)) (Err (record { left = t.left; kind = kind_at i (Expected whats.Numeral) }))) here
    ∙ ap (λ (b : Bool). cond {A = Result (List ℕ × Place) Refusal} b (Ok (w, next t.rest)) (Err (record { left = t.left; kind = kind_at (word w) (Expected whats.Numeral) }))) numeral
    ∙ ap (λ (x : Place). Ok (w, x)) behind

-- A numeral of at most 1,000 that stands there is read as an exponent.
pub exponent_again : (t : Place) (w : List ℕ) (u : Place) → t.token ≡ word w → is_numeral w ≡ true → value_of w ≤ 1000 → next t.rest ≡ u → exponent_at t ≡ Ok (w, u)
unfolding exponent_at
exponent_again t w u here numeral low behind =
    let f : List ℕ × Place → Result (List ℕ × Place) Refusal = λ n. cond (nat_lt 1000 (value_of n.0)) (Err (refusal t ExponentTooLarge)) (Ok n) in
    let whole : (numeral_at t >>= f) ≡ f (w, u) = ap (λ (r : Result (List ℕ × Place) Refusal). r >>= f) (numeral_again t w u here numeral behind) in
    let test : nat_lt 1000 (value_of w) ≡ false = le-ltb 1000 (value_of w) low in
    whole ∙ ap (λ (b : Bool). cond {A = Result (List ℕ × Place) Refusal} b (Err (refusal t ExponentTooLarge)) (Ok (w, u))) test
