-- A single token that is read stands there.
-- Each reading function of one token is a test and the next place; what the test says is read off.
use Rattle.std.proofs.Common.{◌≡◌, ℕ, ◌≤◌, true, cond, ◌&&◌, List, Ok, Err, refl, subst, nat_lt}
use Rattle.std.proofs.lemmas.Bool.{ltb-false, and_parts}
use Rattle.prime_field.specs.Decimal.{value_of}
use Rattle.script_grammar.specs.declared.refusal.What.TheVariants as whats
use Rattle.script_grammar.specs.declared.refusal.What.{What}
use Rattle.script_grammar.specs.declared.refusal.ReadKind.TheVariants.{Expected, ExponentTooLarge}
use Rattle.script_grammar.specs.Tokens.{Place, next, mark, word}
use Rattle.script_grammar.specs.Words.{is_numeral, is_the_mark, is_the_word, is_word, word_of}
use Rattle.script_grammar.specs.Steps.{mark_at, word_at, numeral_at, exponent_at}
use Rattle.script_grammar.proofs.Steps.{refusal, ok_is, bind_ok, went_on, went_in, mark_is, word_is, some_word_is}

-- A mark that is read stands there.
pub mark_found : (m : ℕ) (what : What) (t u : Place) → mark_at m what t ≡ Ok u → (t.token ≡ mark m) × (next t.rest ≡ u)
unfolding mark_at
mark_found m what t u e =
    let g = went_in (is_the_mark m t.token) (refusal t (Expected what)) (Ok (next t.rest)) u e in
    (mark_is m t.token g.0, ok_is (next t.rest) u g.1)

-- A word that is read stands there.
pub word_found : (w : List ℕ) (what : What) (t u : Place) → word_at w what t ≡ Ok u → (t.token ≡ word w) × (next t.rest ≡ u)
unfolding word_at
word_found w what t u e =
    let g = went_in (is_the_word w t.token) (refusal t (Expected what)) (Ok (next t.rest)) u e in
    (word_is w t.token g.0, ok_is (next t.rest) u g.1)

-- A numeral that is read stands there.
pub numeral_found : (t : Place) (n : List ℕ × Place) → numeral_at t ≡ Ok n → (t.token ≡ word n.0) × (is_numeral n.0 ≡ true) × (next t.rest ≡ n.1)
unfolding numeral_at
numeral_found t n e =
    let x : List ℕ × Place = (word_of t.token, next t.rest) in
    let g = went_in (is_word t.token && is_numeral (word_of t.token)) (refusal t (Expected whats.Numeral)) (Ok x) n e in
    let p = and_parts (is_word t.token) (is_numeral (word_of t.token)) g.0 in
    subst (λ (y : List ℕ × Place). (t.token ≡ word y.0) × (is_numeral y.0 ≡ true) × (next t.rest ≡ y.1)) (ok_is x n g.1) (some_word_is t.token p.0, p.1, refl)

-- An exponent that is read stands there and is at most 1,000.
pub exponent_found : (t : Place) (n : List ℕ × Place) → exponent_at t ≡ Ok n → (t.token ≡ word n.0) × (is_numeral n.0 ≡ true) × (value_of n.0 ≤ 1000) × (next t.rest ≡ n.1)
unfolding exponent_at
exponent_found t n e =
    let a = bind_ok (numeral_at t) (λ (x : List ℕ × Place). cond (nat_lt 1000 (value_of x.0)) (Err (refusal t ExponentTooLarge)) (Ok x)) n e in
    let g = went_on (nat_lt 1000 (value_of a.0.0)) (refusal t ExponentTooLarge) (Ok a.0) n a.2 in
    let same = ok_is a.0 n g.1 in
    let f = numeral_found t a.0 a.1 in
    let low : value_of a.0.0 ≤ 1000 = ltb-false 1000 (value_of a.0.0) g.0 in
    subst (λ (x : List ℕ × Place). (t.token ≡ word x.0) × (is_numeral x.0 ≡ true) × (value_of x.0 ≤ 1000) × (next t.rest ≡ x.1)) same (f.0, f.1, low, f.2)
