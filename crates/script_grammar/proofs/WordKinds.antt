-- Kinds of words: which exclude each other, and what the word of a letter or of a command is.
-- A word is none of some words where these have not what it has; so numerals and the names of ideals are no keywords.
use Rattle.std.proofs.Common.{◌≡◌, ℕ, Bool, true, false, not, ◌||◌, eqb, List, [], ◌∷◌, ◌++◌, length, Some, refl, sym, ap, ◌∙◌, inl, inr, arith}
use Rattle.std.proofs.lemmas.Bool.{and_parts, and_from, or_cases, or_parts, not-true, eqb-true}
use Rattle.std.specs.List.{list_all}
use Rattle.script_grammar.specs.declared.script.Word.{Word}
use Rattle.script_grammar.specs.declared.script.Word.TheVariants.{Std, Vdim, Kbase, HighCorner, Milnor, Tjurina}
use Rattle.script_grammar.specs.Tokens.{Token, word, text, mark, bad, end, cut, is_letter}
use Rattle.script_grammar.specs.Words.{is_named, is_same, is_one_of, keywords, is_numeral, is_short}
use Rattle.script_grammar.specs.Trees.{Statement, remark, poly, again, ideal, command, command_std, command_word}
use Rattle.script_grammar.specs.Expressions.{Declarations}
use Rattle.script_grammar.specs.Script.{after, command_among, command_of}
use Rattle.script_grammar.specs.Statements.{letter_of, is_letter_word}
use Rattle.script_grammar.specs.Valid.{IsNew, ValidStatement}
use Rattle.script_grammar.proofs.Steps.{chosen, same_is}

-- A word that passes a test differs from one that fails it.
differs : (test : List ℕ → Bool) (v w : List ℕ) (c : Bool) → is_same v w ≡ c → not (test v) ≡ true → test w ≡ true → c ≡ false
differs test v w false e h k = refl
differs test v w true e h k =
    let same : test w ≡ test v = ap test (sym (same_is v w e)) in
    sym (ap not (sym k ∙ same) ∙ h)

-- where the words fail a test and w passes it, w is none of them
pub none_of : (test : List ℕ → Bool) (words : List (List ℕ)) (w : List ℕ) → list_all (λ v. not (test v)) words ≡ true → test w ≡ true → is_one_of words w ≡ false
none_of test [] w h k = refl
none_of test (v ∷ words) w h k =
    let p = and_parts (not (test v)) (list_all (λ v. not (test v)) words) h in
    rw (differs test v w (is_same v w) refl p.0 k) (none_of test words w p.1 k)

-- A numeral is no keyword.
pub numeral_no_keyword : (w : List ℕ) → is_numeral w ≡ true → is_one_of keywords w ≡ false
numeral_no_keyword w h = none_of is_numeral keywords w refl h

-- ---- names of ideals are no keywords
abbrev pub NoKeywords : List (List ℕ) → Type 0
NoKeywords words = list_all (λ v. not (is_one_of keywords v)) words ≡ true

-- One of some words that are no keywords is none.
pub among_no_keyword : (words : List (List ℕ)) (w : List ℕ) → NoKeywords words → is_one_of words w ≡ true → is_one_of keywords w ≡ false
among_no_keyword [] w h k = absurd cc
among_no_keyword (v ∷ words) w h k =
    let p = and_parts (not (is_one_of keywords v)) (list_all (λ x. not (is_one_of keywords x)) words) h in
    let branch = or_cases (is_same v w) (is_one_of words w) k in
    elim branch [
      | inl here ↦ sym (ap (is_one_of keywords) (same_is v w here)) ∙ not-true (is_one_of keywords v) p.0
      | inr behind ↦ among_no_keyword words w p.1 behind
    ]

-- Words that are no keywords, with one more that is none, are none.
no_keyword_more : (words : List (List ℕ)) (w : List ℕ) → NoKeywords words → is_one_of keywords w ≡ false → NoKeywords (words ++ w ∷ [])
no_keyword_more [] w h k = and_from (not (is_one_of keywords w)) true (ap not k) refl
no_keyword_more (v ∷ words) w h k =
    let p = and_parts (not (is_one_of keywords v)) (list_all (λ x. not (is_one_of keywords x)) words) h in
    and_from (not (is_one_of keywords v)) (list_all (λ x. not (is_one_of keywords x)) (words ++ w ∷ [])) p.0 (no_keyword_more words w p.1 k)

-- A new name is no keyword.
new_no_keyword : (known : Declarations) (w : List ℕ) → IsNew known w → is_one_of keywords w ≡ false
new_no_keyword known w n = let p = or_parts (is_one_of keywords w) (is_same known.ring w || (is_one_of known.polys w || (is_one_of known.ideals w || is_short known.letters w))) n.free in p.0

-- Behind a valid statement the names of ideals are no keywords, if they were none before.
pub no_keywords_after : (known : Declarations) (count : ℕ) (s : Statement) → NoKeywords known.ideals → ValidStatement known count s → NoKeywords (after known s).ideals
no_keywords_after known count (remark r) h valid = h
no_keywords_after known count (poly name sum) h valid = h
no_keywords_after known count (again name other) h valid = no_keyword_more known.ideals name h (new_no_keyword known name valid.0)
no_keywords_after known count (ideal name ms) h valid = no_keyword_more known.ideals name h (new_no_keyword known name valid.0)
no_keywords_after known count (command w name) h valid = h
no_keywords_after known count (command_std w name) h valid = h

-- ---- letters and commands
pub letter_word : (w : List ℕ) → is_letter_word w ≡ true → (w ≡ letter_of w ∷ []) × (is_letter (letter_of w) ≡ true)
letter_word [] h = absurd cc
letter_word (b ∷ []) h = (refl, h)
letter_word (b ∷ c ∷ w) h =
    let p = and_parts (eqb (length (b ∷ c ∷ w)) 1) (is_named (b ∷ c ∷ w)) h in
    absurd (omega (arith, eqb-true (length (b ∷ c ∷ w)) 1 p.0))

-- The word that begins a command is the word of that command.
command_among_is : (words : List Word) (w : List ℕ) (c : Word) → command_among words w ≡ Some c → w ≡ command_word c
command_among_is [] w c e = absurd cc
command_among_is (d ∷ words) w c e =
    let branch = chosen (is_same (command_word d) w) _ _ _ e in
    elim branch [
      | inl yea ↦ let same : d ≡ c = some_is d c yea.1 in sym (same_is (command_word d) w yea.0) ∙ ap command_word same
      | inr nay ↦ command_among_is words w c nay.1
    ]
  where
    some_is : (a b : Word) → Some a ≡ Some b → a ≡ b
    some_is a b k = cc

-- The token that begins a command is the word of that command.
pub command_of_is : (token : Token) (c : Word) → command_of token ≡ Some c → token ≡ word (command_word c)
command_of_is (word w) c e = ap (λ (v : List ℕ). word v) (command_among_is (Std ∷ Vdim ∷ Kbase ∷ HighCorner ∷ Milnor ∷ Tjurina ∷ []) w c e)
command_of_is (text w) c e = absurd cc
command_of_is (mark m) c e = absurd cc
command_of_is bad c e = absurd cc
command_of_is end c e = absurd cc
command_of_is cut c e = absurd cc
