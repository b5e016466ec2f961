-- One step of reading that finds its token, and what is read behind it.
-- The test of each reading function of one token comes out as the token says; what is read behind begins at the next place.
use Rattle.std.proofs.Common.{◌≡◌, ℕ, ◌+◌, ◌≤◌, Bool, true, false, cond, eqb, List, [], ◌∷◌, length, Result, Ok, Err, refl, ap, ◌∙◌, nat_le}
use Rattle.std.proofs.lemmas.Bool.{eq-eqb, lt-leb}
use Rattle.std.proofs.Common.{get_or}
use Rattle.std.proofs.lemmas.List.Folds.{list_any_at}
use Rattle.std.specs.List.{list_any}
use Rattle.prime_field.specs.Decimal.{value_of}
use Rattle.prime_field.specs.Prime.{table, InTable}
use Rattle.script_grammar.specs.declared.refusal.Refusal.{Refusal}
use Rattle.script_grammar.specs.declared.refusal.What.{What}
use Rattle.script_grammar.specs.declared.refusal.ReadKind.TheVariants.{Expected, NotAPrime}
use Rattle.script_grammar.specs.Tokens.{Place, next, mark, word, text, is_letter}
use Rattle.script_grammar.specs.Words.{is_numeral, is_named, is_same, is_one_of, keywords, has_letter, is_the_text}
use Rattle.script_grammar.specs.Steps.{◌>>=◌, mark_at, word_at, numeral_at, exponent_at}
use Rattle.script_grammar.specs.Expressions.{Declarations}
use Rattle.script_grammar.specs.Statements.{ring_name_at, prime_at, variable_at, new_name_at, name_among, argument_at}
use Rattle.script_grammar.specs.Valid.{IsNew, IsOneOf}
use Rattle.script_grammar.proofs.Steps.{refusal, same_refl}
use Rattle.script_grammar.proofs.TokensAreRead.{mark_again, word_again, numeral_again, exponent_again}

-- A test that holds goes the first way.
pub on_then : {A : Type 0} (b : Bool) (x y z : A) → b ≡ true → x ≡ z → cond b x y ≡ z
on_then true x y z h e = e
on_then false x y z h e = absurd cc

-- A test that fails goes the second way.
pub off_then : {A : Type 0} (b : Bool) (x y z : A) → b ≡ false → y ≡ z → cond b x y ≡ z
off_then true x y z h e = absurd cc
off_then false x y z h e = e

-- what was read, and what is read behind it
pub read_then : {A B : Type 0} (r : Result A Refusal) (f : A → Result B Refusal) (x : A) (y : Result B Refusal) → r ≡ Ok x → f x ≡ y → (r >>= f) ≡ y
read_then (Ok w) f x y h e = let same : w ≡ x = cc in ap f same ∙ e
read_then (Err d) f x y h e = absurd cc

-- the same, where reading goes on in two steps
pub both_then : {A B C : Type 0} (r : Result A Refusal) (f : A → Result B Refusal) (g : B → Result C Refusal) (x : B) (y : Result C Refusal) → (r >>= f) ≡ Ok x → g x ≡ y → (r >>= λ a. f a >>= g) ≡ y
both_then (Ok w) f g x y h e = read_then (f w) g x y h e
both_then (Err d) f g x y h e = absurd cc

-- Where a mark stands, reading goes on behind it.
pub mark_then : {B : Type 0} (m : ℕ) (what : What) (t : Place) (f : Place → Result B Refusal) (y : Result B Refusal) → t.token ≡ mark m → f (next t.rest) ≡ y → (mark_at m what t >>= f) ≡ y
mark_then m what t f y here e = read_then (mark_at m what t) f (next t.rest) y (mark_again m what t (next t.rest) here refl (eq-eqb m m refl)) e

-- Where a word stands, reading goes on behind it.
pub word_then : {B : Type 0} (w : List ℕ) (what : What) (t : Place) (f : Place → Result B Refusal) (y : Result B Refusal) → t.token ≡ word w → f (next t.rest) ≡ y → (word_at w what t >>= f) ≡ y
word_then w what t f y here e = read_then (word_at w what t) f (next t.rest) y (word_again w what t (next t.rest) here refl) e

-- the string "sing.lib"
pub text_then : {B : Type 0} (w : List ℕ) (what : What) (t : Place) (f : Place → Result B Refusal) (y : Result B Refusal) → t.token ≡ text w → f (next t.rest) ≡ y → (cond (is_the_text w t.token) (Ok (next t.rest)) (Err (refusal t (Expected what))) >>= f) ≡ y
text_then w what t f y here e =
    read_then _ f (next t.rest) y (on_then (is_the_text w t.token) (Ok (next t.rest)) (Err (refusal t (Expected what))) (Ok (next t.rest)) (ap (is_the_text w) here ∙ same_refl w) refl) e

-- Where a numeral of at most 1,000 stands, it is read as an exponent, and reading goes on behind it.
pub exponent_then : {B : Type 0} (w : List ℕ) (t : Place) (f : List ℕ × Place → Result B Refusal) (y : Result B Refusal) → t.token ≡ word w → is_numeral w ≡ true → value_of w ≤ 1000 → f (w, next t.rest) ≡ y → (exponent_at t >>= f) ≡ y
exponent_then w t f y here numeral low e = read_then (exponent_at t) f (w, next t.rest) y (exponent_again t w (next t.rest) here numeral low refl) e

-- A name that is no keyword is read as the ring's.
ring_name_again : (w : List ℕ) (t : Place) → t.token ≡ word w → is_named w ≡ true → is_one_of keywords w ≡ false → ring_name_at t ≡ Ok (w, next t.rest)
unfolding ring_name_at
ring_name_again w t here named free = rw (here, named, free) refl

-- Where such a name stands, reading goes on behind it.
pub ring_name_then : {B : Type 0} (w : List ℕ) (t : Place) (f : List ℕ × Place → Result B Refusal) (y : Result B Refusal) → t.token ≡ word w → is_named w ≡ true → is_one_of keywords w ≡ false → f (w, next t.rest) ≡ y → (ring_name_at t >>= f) ≡ y
ring_name_then w t f y here named free e = read_then (ring_name_at t) f (w, next t.rest) y (ring_name_again w t here named free) e

-- A number of the table is tested to be one.
pub from_table : (n : ℕ) → InTable n → list_any (λ q. eqb q n) table ≡ true
from_table n h = list_any_at (λ q. eqb q n) table h.0 n h.1 (eq-eqb (get_or table h.0 n) n h.2)

-- A numeral of the table is read as the characteristic.
prime_again : (w : List ℕ) (t : Place) → t.token ≡ word w → is_numeral w ≡ true → InTable (value_of w) → prime_at t ≡ Ok (w, next t.rest)
unfolding prime_at
prime_again w t here numeral prime =
    let x : List ℕ × Place = (w, next t.rest) in
    read_then (numeral_at t) _ x (Ok x) (numeral_again t w (next t.rest) here numeral refl) (on_then (list_any (λ q. eqb q (value_of w)) table) (Ok x) (Err (refusal t NotAPrime)) (Ok x) (from_table (value_of w) prime) refl)

-- Where such a numeral stands, reading goes on behind it.
pub prime_then : {B : Type 0} (w : List ℕ) (t : Place) (f : List ℕ × Place → Result B Refusal) (y : Result B Refusal) → t.token ≡ word w → is_numeral w ≡ true → InTable (value_of w) → f (w, next t.rest) ≡ y → (prime_at t >>= f) ≡ y
prime_then w t f y here numeral prime e = read_then (prime_at t) f (w, next t.rest) y (prime_again w t here numeral prime) e

-- A free letter behind fewer than 8 is read as a variable.
variable_again : (ring letters : List ℕ) (l : ℕ) (t : Place) → t.token ≡ word (l ∷ []) → is_letter l ≡ true → eqb (length letters) 8 ≡ false → has_letter letters l ≡ false → is_same ring (l ∷ []) ≡ false → variable_at ring letters t ≡ Ok (l, next t.rest)
unfolding variable_at
variable_again ring letters l t here letter few new free = rw (here, letter, few, new, free) refl

-- Where such a letter stands, reading goes on behind it.
pub variable_then : {B : Type 0} (ring letters : List ℕ) (l : ℕ) (t : Place) (f : ℕ × Place → Result B Refusal) (y : Result B Refusal)
    → t.token ≡ word (l ∷ []) → is_letter l ≡ true → eqb (length letters) 8 ≡ false → has_letter letters l ≡ false → is_same ring (l ∷ []) ≡ false → f (l, next t.rest) ≡ y → (variable_at ring letters t >>= f) ≡ y
variable_then ring letters l t f y here letter few new free e = read_then (variable_at ring letters t) f (l, next t.rest) y (variable_again ring letters l t here letter few new free) e

-- A new name is read where one is declared.
new_name_again : (known : Declarations) (w : List ℕ) (t : Place) → t.token ≡ word w → IsNew known w → new_name_at known t ≡ Ok (w, next t.rest)
unfolding new_name_at
new_name_again known w t here n =
    let named = n.named in
    let free = n.free in
    let room : nat_le 64 (length known.polys + length known.ideals) ≡ false = lt-leb 64 (length known.polys + length known.ideals) n.room in
    rw (here, named, free, room) refl

-- Where a new name stands, reading goes on behind it.
pub new_name_then : {B : Type 0} (known : Declarations) (w : List ℕ) (t : Place) (f : List ℕ × Place → Result B Refusal) (y : Result B Refusal) → t.token ≡ word w → IsNew known w → f (w, next t.rest) ≡ y → (new_name_at known t >>= f) ≡ y
new_name_then known w t f y here n e = read_then (new_name_at known t) f (w, next t.rest) y (new_name_again known w t here n) e

-- One of the declared names is read where one must be named.
name_among_again : (names : List (List ℕ)) (w : List ℕ) (t : Place) → t.token ≡ word w → IsOneOf names w → name_among names t ≡ Ok (w, next t.rest)
unfolding name_among
name_among_again names w t here n =
    let named = n.0 in
    let known = n.1 in
    rw (here, named, known) refl

-- Where such a name stands, reading goes on behind it.
pub name_among_then : {B : Type 0} (names : List (List ℕ)) (w : List ℕ) (t : Place) (f : List ℕ × Place → Result B Refusal) (y : Result B Refusal) → t.token ≡ word w → IsOneOf names w → f (w, next t.rest) ≡ y → (name_among names t >>= f) ≡ y
name_among_then names w t f y here n e = read_then (name_among names t) f (w, next t.rest) y (name_among_again names w t here n) e

-- a name in parentheses
pub argument_then : {B : Type 0} (names : List (List ℕ)) (w : List ℕ) (t : Place) (f : List ℕ × Place → Result B Refusal) (y : Result B Refusal)
    → t.token ≡ mark 40 → (next t.rest).token ≡ word w → (next (next t.rest).rest).token ≡ mark 41 → IsOneOf names w → f (w, next (next (next t.rest).rest).rest) ≡ y → (argument_at names t >>= f) ≡ y
unfolding argument_at
argument_then names w t f y opened here closed n e =
    read_then _ f (w, next (next (next t.rest).rest).rest) y (mark_then _ _ _ _ _ opened (name_among_then _ w _ _ _ here n (mark_then _ _ _ _ _ closed refl))) e
