-- Remarks and the ring: what is read, what is refused, and what the tokens before begin.
-- Each lemma goes along its reading function; the loops over remarks and letters are loops of LoopsByTokens.
use Rattle.std.proofs.Common.{◌≡◌, ℕ, zero, suc, ◌<◌, Bool, true, false, cond, not, ◌&&◌, ◌||◌, eqb, List, [], ◌∷◌, ◌++◌, length, Ok, refl, sym, ap, subst, ◌∙◌, arith, nat_lt, append_assoc}
use Rattle.std.specs.Prelude.{codes}
use Rattle.std.specs.List.{list_any, list_all, flat_map}
use Rattle.std.proofs.lemmas.Bool.{and_parts, and_from, eqb-true, ltb-true, not-false}
use Rattle.std.proofs.lemmas.List.{append-nil}
use Rattle.std.proofs.lemmas.Grind.{flat_map-append}
use Rattle.prime_field.specs.Decimal.{value_of}
use Rattle.prime_field.specs.Prime.{table}
use Rattle.script_grammar.specs.declared.refusal.What.TheVariants as whats
use Rattle.script_grammar.specs.declared.refusal.ReadKind.TheVariants.{Expected, NotAPrime, TooManyVariables, NameClash}
use Rattle.script_grammar.specs.Tokens.{is_letter, Token, next, mark, word, text, bad, end, cut}
use Rattle.script_grammar.specs.Words.{is_numeral, is_same, is_one_of, keywords, is_named, has_letter, is_the_mark, is_the_word, is_the_text, is_word, word_of}
use Rattle.script_grammar.specs.Trees.{Remark, option, library, remark_tokens, Variables, alone, listed, variables_tokens, Ring, ring_tokens, one}
use Rattle.script_grammar.specs.Steps.{◌>>=◌, refused, wanted}
use Rattle.script_grammar.specs.Statements.{begins_remark, remark_at, remarks_at, ring_name_at, prime_at, letter_of, is_letter_word, variable_at, variables_at, listed_at, listed_letters, letters_at, ring_at, letters_of}
use Rattle.script_grammar.specs.Formed.{FormedRing}
use Rattle.script_grammar.specs.First.{IsLate}
use Rattle.script_grammar.specs.Places.{is_last}
use Rattle.script_grammar.proofs.Steps.{mark_is, word_is, text_is, some_word_is, second_so}
use Rattle.script_grammar.proofs.WordKinds.{letter_word}
use Rattle.script_grammar.proofs.ByTokens.{Reader, Local, local_done, local_refuse, local_to, local_value, local_if}
use Rattle.script_grammar.proofs.ByTokensInTurn.{local_then, local_mark, local_word, local_map, local_behind, local_token}
use Rattle.script_grammar.proofs.LoopsByTokens.{NotEmpty, IsLoop, local_loop}
use Rattle.script_grammar.proofs.OperandsByTokens.{numeral_spelled, numeral_then}
use Rattle.script_grammar.proofs.ExpressionsByTokens.{no_mark}

-- ---- remarks
abbrev pub SpellsRemark : Remark → List Token → Type 0
SpellsRemark r tokens = remark_tokens r ≡ tokens

-- A remark is read, or refused, by its tokens.
pub remark_local : {n : ℕ} → Local IsLate Remark n (λ i. begins_remark i ≡ true) remark_at SpellsRemark
unfolding remark_at
remark_local =
    local_if (is_the_word (codes "option"))
    (local_behind (word (codes "option")) (λ i w. word_is (codes "option") i w.1)
    (local_mark 40 whats.Open (local_word (codes "redSB") whats.RedSb (local_mark 41 whats.Close (local_mark 59 whats.Semicolon (local_done option refl))))))
    (local_behind (word (codes "LIB")) (λ i w. word_is (codes "LIB") i (second_so (is_the_word (codes "option") i) (is_the_word (codes "LIB") i) w.0 w.1))
    (local_token (is_the_text (codes "sing.lib")) (text (codes "sing.lib")) whats.Library (text_is (codes "sing.lib")) (local_mark 59 whats.Semicolon (local_done library refl))))

-- behind remarks
abbrev GoesRemarks : List Remark → List Remark → List Token → Type 0
GoesRemarks y x tokens = flat_map remark_tokens x ≡ flat_map remark_tokens y ++ tokens

abbrev pub SpellsRemarks : List Remark → List Token → Type 0
SpellsRemarks x tokens = flat_map remark_tokens x ≡ tokens

-- The end begins no remark.
pub no_remark : (i : Token) → is_last i ≡ true → begins_remark i ≡ false
no_remark end h = refl
no_remark cut h = refl
no_remark bad h = refl
no_remark (word w) h = absurd cc
no_remark (text w) h = refl
no_remark (mark k) h = refl

-- Remarks are read by a loop.
pub remarks_loop : IsLoop (List Remark) Remark (List Remark) (λ y i. begins_remark i) (λ y. remark_at) (λ y r. y ++ r ∷ []) (λ y t. Ok (y, t)) remarks_at
unfolding remarks_at
remarks_loop = record { step = λ n y t. refl; base = λ y t h. refl; over = λ y i h. no_remark i h }

-- A remark has tokens.
pub remark_some : (r : Remark) → NotEmpty (remark_tokens r)
remark_some option = tt
remark_some library = tt

-- The tokens of one more remark come last.
pub remark_last : (y : List Remark) (r : Remark) → flat_map remark_tokens (y ++ r ∷ []) ≡ flat_map remark_tokens y ++ remark_tokens r
remark_last y r = flat_map-append remark_tokens y (r ∷ []) ∙ ap (λ (z : List Token). flat_map remark_tokens y ++ z) (append-nil (remark_tokens r))

-- Remarks are read, or refused, by their tokens.
pub remarks_local : {n : ℕ} {W : Token → Type 0} → Local IsLate (List Remark) n W (λ t. remarks_at t.left [] t) SpellsRemarks
remarks_local =
    local_loop _ (List Remark) Remark (List Remark) (λ y i. begins_remark i) (λ y. remark_at) (λ y r. y ++ r ∷ []) (λ y t. Ok (y, t)) remarks_at (λ y. Unit {0}) (λ y. SpellsRemark) GoesRemarks remarks_loop
    (record {
      items = λ n y good. remark_local;
      takes = λ y r tokens g. subst NotEmpty g (remark_some r);
      keeps = λ y r tokens good g. tt;
      stops = λ n y good. local_done y (sym (append-nil (flat_map remark_tokens y)));
      more = λ y r a x b g l.
          l ∙ ap (λ (z : List Token). z ++ b) (remark_last y r) ∙ append_assoc (flat_map remark_tokens y) (remark_tokens r) b ∙ ap (λ (z : List Token). flat_map remark_tokens y ++ (z ++ b)) g;
    }) [] tt

-- ---- the ring
abbrev pub a_name : List ℕ
a_name = 97 ∷ []

abbrev pub SpellsName : List ℕ → List Token → Type 0
SpellsName w tokens = (one (word w) ≡ tokens) × (is_named w ≡ true)

-- A name is spelled by its token.
pub name_spelled : (i : Token) → not (is_word i && is_named (word_of i)) ≡ false → SpellsName (word_of i) (one i)
name_spelled i h = let p = and_parts (is_word i) (is_named (word_of i)) (not-false (is_word i && is_named (word_of i)) h) in (ap one (sym (some_word_is i p.0)), p.1)

-- The ring's name is read, or refused, by its token.
ring_name_local : {n : ℕ} {W : Token → Type 0} → Local IsLate (List ℕ) n W ring_name_at SpellsName
unfolding ring_name_at
ring_name_local =
    let some : (w : List ℕ) × (tokens : List Token) × SpellsName w tokens = (a_name, one (word a_name), (refl, refl)) in
    local_if (λ i. not (is_word i && is_named (word_of i))) (local_refuse (Expected whats.Name) some)
    (local_if (λ i. is_one_of keywords (word_of i)) (local_refuse NameClash some) (local_value word_of some (λ i w. name_spelled i w.0.1)))

-- A number that is q above 1, or one that is above 1, is above 1.
pub first_or : (b c : Bool) (q p : ℕ) → eqb q p ≡ b → 1 < q → (c ≡ true → 1 < p) → (b || c) ≡ true → 1 < p
first_or true c q p e more on h = let same : q ≡ p = eqb-true q p e in omega arith
first_or false c q p e more on h = on h

-- A number among some that are above 1 is above 1.
pub any_more : (qs : List ℕ) (p : ℕ) → list_all (λ q. nat_lt 1 q) qs ≡ true → list_any (λ q. eqb q p) qs ≡ true → 1 < p
any_more [] p more h = absurd cc
any_more (q ∷ qs) p more h =
    let m = and_parts (nat_lt 1 q) (list_all (λ q. nat_lt 1 q) qs) more in
    first_or (eqb q p) (list_any (λ q. eqb q p) qs) q p refl (ltb-true 1 q m.0) (any_more qs p m.1) h

abbrev SpellsPrime : List ℕ → List Token → Type 0
SpellsPrime p tokens = (one (word p) ≡ tokens) × (is_numeral p ≡ true) × (1 < value_of p)

-- the numeral 2
two : List ℕ
two = 50 ∷ []

-- The characteristic is read, or refused, by its token, and is above 1.
prime_local : {n : ℕ} {W : Token → Type 0} → Local IsLate (List ℕ) n W prime_at SpellsPrime
unfolding prime_at two
prime_local =
    let some : (p : List ℕ) × (tokens : List Token) × SpellsPrime p tokens = (two, one (word two), (refl, refl, omega arith)) in
    numeral_then (λ t p. cond (list_any (λ q. eqb q (value_of p.0)) table) (Ok p) (refused t NotAPrime)) some
    (local_if (λ i. list_any (λ q. eqb q (value_of (word_of i))) table)
    (local_value word_of some (λ i w. let s = numeral_spelled i w.0.1 in (s.0, s.1, any_more table (value_of (word_of i)) refl w.1)))
    (local_refuse NotAPrime some))

abbrev SpellsLetter : ℕ → List Token → Type 0
SpellsLetter l tokens = (one (word (l ∷ [])) ≡ tokens) × (is_letter l ≡ true)

-- A letter is spelled by its token.
letter_spelled : (i : Token) → not (is_word i && is_letter_word (word_of i)) ≡ false → SpellsLetter (letter_of (word_of i)) (one i)
letter_spelled i h =
    let p = and_parts (is_word i) (is_letter_word (word_of i)) (not-false (is_word i && is_letter_word (word_of i)) h) in
    let l = letter_word (word_of i) p.1 in
    (ap (λ (w : List ℕ). one (word w)) (sym l.0) ∙ ap one (sym (some_word_is i p.0)), l.1)

-- A variable is read, or refused, by its token.
variable_local : {n : ℕ} {W : Token → Type 0} (ring letters : List ℕ) → Local IsLate ℕ n W (variable_at ring letters) SpellsLetter
unfolding variable_at
variable_local ring letters =
    let some : (l : ℕ) × (tokens : List Token) × SpellsLetter l tokens = (97, one (word a_name), (refl, refl)) in
    local_if (λ i. not (is_word i && is_letter_word (word_of i))) (local_refuse (Expected whats.Variable) some)
    (local_if (λ i. eqb (length letters) 8) (local_refuse TooManyVariables some)
    (local_if (λ i. has_letter letters (letter_of (word_of i)) || is_same ring (word_of i)) (local_refuse NameClash some)
    (local_value (λ i. letter_of (word_of i)) some (λ i w. letter_spelled i w.0.0.1))))

-- a comma and a letter
abbrev pub comma_letter : ℕ → List Token
comma_letter k = mark 44 ∷ one (word (k ∷ []))

abbrev CommaLetter : ℕ → List Token → Type 0
CommaLetter l tokens = (comma_letter l ≡ tokens) × (is_letter l ≡ true)

-- behind letters, up to the )
abbrev GoesLetters : List ℕ → List ℕ → List Token → Type 0
GoesLetters y x tokens = (made : List ℕ) × (x ≡ y ++ made) × (flat_map comma_letter made ++ one (mark 41) ≡ tokens) × (list_all is_letter made ≡ true)

-- the loop over letters, with a turn at least
abbrev pub more_letters : List ℕ → ℕ → List ℕ → Reader (List ℕ)
more_letters ring n y t = variables_at (suc n) ring y t

-- the ) behind the letters
abbrev pub last_letter : List ℕ → Reader (List ℕ)
last_letter y t = cond (is_the_mark 41 t.token) (Ok (y, next t.rest)) (wanted t whats.Comma)

-- Letters behind commas are read by a loop.
pub letters_loop : (ring : List ℕ) → IsLoop (List ℕ) ℕ (List ℕ) (λ y i. is_the_mark 44 i) (λ y t. variable_at ring y (next t.rest)) (λ y l. y ++ l ∷ []) last_letter (more_letters ring)
unfolding variables_at
letters_loop ring = record {
  step = λ n y t. refl;
  base = λ y t h. ap (λ (b : Bool). cond b (variable_at ring y (next t.rest) >>= λ l. variables_at zero ring (y ++ l.0 ∷ []) l.1) (last_letter y t)) h;
  over = λ y i h. no_mark 44 i h;
}

-- The loop over letters reads, or refuses, by the tokens.
variables_local : {n : ℕ} {W : Token → Type 0} (ring : List ℕ) (y : List ℕ) → Local IsLate (List ℕ) n W (λ t. more_letters ring t.left y t) (GoesLetters y)
variables_local ring y =
    local_loop _ (List ℕ) ℕ (List ℕ) (λ y i. is_the_mark 44 i) (λ y t. variable_at ring y (next t.rest)) (λ y l. y ++ l ∷ []) last_letter (more_letters ring) (λ y. Unit {0}) (λ y. CommaLetter) GoesLetters (letters_loop ring)
    (record {
      items = λ n y good. local_behind (mark 44) (λ i w. mark_is 44 i w) (local_to (λ l a s. (ap (λ (z : List Token). mark 44 ∷ z) s.0, s.1)) (variable_local ring y));
      takes = λ y l tokens g. subst NotEmpty g.0 tt;
      keeps = λ y l tokens good g. tt;
      stops = λ n y good. local_if (is_the_mark 41) (local_behind (mark 41) (λ i w. mark_is 41 i w.1) (local_done y ([], sym (append-nil y), refl, refl))) (local_refuse (Expected whats.Comma) (y, one (mark 41), ([], sym (append-nil y), refl, refl)));
      more = λ y l a x b g s. (
        l ∷ s.0,
        s.1 ∙ append_assoc y (l ∷ []) s.0,
        ap (λ (z : List Token). z ++ (flat_map comma_letter s.0 ++ one (mark 41))) g.0 ∙ ap (λ (z : List Token). a ++ z) s.2,
        and_from (is_letter l) (list_all is_letter s.0) g.1 s.3,
      );
    }) y tt

abbrev SpellsVariables : Variables → List Token → Type 0
SpellsVariables v tokens = (variables_tokens v ≡ tokens) × (list_all is_letter (letters_of v) ≡ true)

-- letters up to the ), of which there are some
abbrev SpellsListed : List ℕ → List Token → Type 0
SpellsListed all tokens =
    (first : ℕ) × (others : List ℕ) × (all ≡ first ∷ others) × (word (first ∷ []) ∷ (flat_map comma_letter others ++ one (mark 41)) ≡ tokens) × (is_letter first ≡ true) × (list_all is_letter others ≡ true)

-- Letters in parentheses are read, or refused, by their tokens.
listed_local : {n : ℕ} {W : Token → Type 0} (ring : List ℕ) → Local IsLate (List ℕ) n W (listed_at ring) SpellsListed
listed_local ring =
    local_then _ (variable_local ring []) (λ first a l.
    local_to (λ all b s. (first, s.0, s.1, ap (λ (z : List Token). word (first ∷ []) ∷ z) s.2 ∙ ap (λ (z : List Token). z ++ b) l.0, l.1, s.3)) (variables_local ring (first ∷ [])))

-- The variables are read, or refused, by their tokens.
letters_local : {n : ℕ} {W : Token → Type 0} (ring : List ℕ) → Local IsLate Variables n W (letters_at ring) SpellsVariables
unfolding letters_at
letters_local ring =
    local_if (is_the_mark 40)
    (local_behind (mark 40) (λ i w. mark_is 40 i w.1) (local_map listed_letters (listed_local ring) (λ all a l.
    subst (λ (letters : List ℕ). SpellsVariables (listed_letters letters) (mark 40 ∷ a)) (sym l.2) (ap (λ (z : List Token). mark 40 ∷ z) l.3, and_from (is_letter l.0) (list_all is_letter l.1) l.4 l.5))))
    (local_map alone (variable_local ring []) (λ l a s. (s.0, and_from (is_letter l) true s.1 refl)))

abbrev pub SpellsRing : Ring → List Token → Type 0
SpellsRing r tokens = (ring_tokens r ≡ word (codes "ring") ∷ tokens) × FormedRing r × (1 < value_of r.prime)

-- The ring statement is read, or refused, by its tokens.
pub ring_local : {n : ℕ} {W : Token → Type 0} → Local IsLate Ring n W ring_at SpellsRing
unfolding ring_at
ring_local =
    local_then _ ring_name_local (λ name a l. local_mark 61 whats.Equals
    (local_then _ prime_local (λ prime b m. local_mark 44 whats.Comma
    (local_then _ (letters_local name) (λ v c s. local_mark 44 whats.Comma (local_word (codes "ds") whats.Order (local_mark 59 whats.Semicolon
    (local_done (record { name = name; prime = prime; variables = v })
    (rw (← l.0, ← m.0, ← s.0) refl, record { name = l.1; prime = m.1; letters = s.1 }, m.2)))))))))
