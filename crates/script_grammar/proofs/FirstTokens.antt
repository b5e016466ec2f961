-- With which tokens parts of a script begin.
-- An expression begins with a mark, or with a word that is no keyword; so none of the keywords that are looked for before is met.
use Rattle.std.proofs.Common.{◌≡◌, ℕ, Bool, true, false, not, ◌&&◌, ◌||◌, List, ◌∷◌, refl, sym, ap, ◌∙◌}
use Rattle.std.proofs.lemmas.Bool.{both_ways}
use Rattle.std.specs.Prelude.{codes}
use Rattle.script_grammar.specs.Tokens.{Token, Place, word, mark}
use Rattle.script_grammar.specs.Words.{is_one_of, keywords, is_numeral, is_the_word, is_word, word_of, is_short, has_large}
use Rattle.script_grammar.specs.Trees.{Operand, number, fraction, named, inside, operand_tokens, Power, plain, raised, power_tokens, Term, single, times, term_tokens, Sum, bare, positive, negative, plus, minus, sum_tokens, Member, generator, jacobian, member_tokens, Members, only, more, members_tokens, one}
use Rattle.script_grammar.specs.Expressions.{Declarations}
use Rattle.script_grammar.specs.Valid.{Stand, ValidOperand, ValidPower, ValidTerm, ValidSum, ValidMember, ValidMembers}
use Rattle.script_grammar.proofs.Steps.{word_is, Stand-split}
use Rattle.script_grammar.proofs.WordKinds.{numeral_no_keyword}

-- whether a token is a keyword
abbrev pub is_keyword : Token → Bool
is_keyword token = is_word token && is_one_of keywords (word_of token)

-- what is no keyword is not this one
pub not_this : (k : List ℕ) (token : Token) → is_one_of keywords k ≡ true → is_keyword token ≡ false → is_the_word k token ≡ false
not_this k token known free = not_this-at (is_the_word k token) refl
  where
    not_this-at : (c : Bool) → is_the_word k token ≡ c → c ≡ false
    not_this-at false e = refl
    not_this-at true e = absurd (both_ways (is_one_of keywords k) (sym (ap is_keyword (word_is k token e)) ∙ free) known)

-- Of three tests that all come out so, the second failed.
no_keyword : (a b c : Bool) → (not a && (not b && c)) ≡ true → b ≡ false
no_keyword true b c h = absurd cc
no_keyword false true c h = absurd cc
no_keyword false false c h = refl

-- A valid operand begins with no keyword.
operand_first : (known : Declarations) (deep : ℕ) (t : Place) (o : Operand) (u : Place) → Stand t (operand_tokens o) u → ValidOperand known deep o → is_keyword t.token ≡ false
unfolding operand_tokens
operand_first known deep t (number digits) u p valid = ap is_keyword p.0 ∙ numeral_no_keyword digits valid
operand_first known deep t (fraction digits below) u p valid = ap is_keyword p.0 ∙ numeral_no_keyword digits valid.0
operand_first known deep t (named w) u p valid = ap is_keyword p.0 ∙ no_keyword (is_numeral w) (is_one_of keywords w) (is_one_of known.polys w || (is_short known.letters w && not (has_large w))) valid
operand_first known deep t (inside s) u p valid = ap is_keyword p.0

-- A valid power begins with no keyword.
power_first : (known : Declarations) (deep : ℕ) (t : Place) (x : Power) (u : Place) → Stand t (power_tokens x) u → ValidPower known deep x → is_keyword t.token ≡ false
unfolding power_tokens
power_first known deep t (plain o) u p valid = operand_first known deep t o u p valid
power_first known deep t (raised o digits) u p valid = let q = Stand-split t (operand_tokens o) (mark 94 ∷ one (word digits)) u p in operand_first known deep t o q.0 q.1 valid.0

-- A valid term begins with no keyword.
term_first : (known : Declarations) (deep : ℕ) (t : Place) (x : Term) (u : Place) → Stand t (term_tokens x) u → ValidTerm known deep x → is_keyword t.token ≡ false
unfolding term_tokens
term_first known deep t (single z) u p valid = power_first known deep t z u p valid
term_first known deep t (times y z) u p valid = let q = Stand-split t (term_tokens y) (mark 42 ∷ power_tokens z) u p in term_first known deep t y q.0 q.1 valid.0

-- A valid expression begins with no keyword.
pub sum_first : (known : Declarations) (deep : ℕ) (t : Place) (x : Sum) (u : Place) → Stand t (sum_tokens x) u → ValidSum known deep x → is_keyword t.token ≡ false
unfolding sum_tokens
sum_first known deep t (bare y) u p valid = term_first known deep t y u p valid
sum_first known deep t (positive y) u p valid = ap is_keyword p.0
sum_first known deep t (negative y) u p valid = ap is_keyword p.0
sum_first known deep t (plus y z) u p valid = let q = Stand-split t (sum_tokens y) (mark 43 ∷ term_tokens z) u p in sum_first known deep t y q.0 q.1 valid.0
sum_first known deep t (minus y z) u p valid = let q = Stand-split t (sum_tokens y) (mark 45 ∷ term_tokens z) u p in sum_first known deep t y q.0 q.1 valid.0

-- no ideal with members begins with std
member_no_std : (known : Declarations) (t : Place) (m : Member) (u : Place) → Stand t (member_tokens m) u → ValidMember known m → is_the_word (codes "std") t.token ≡ false
member_no_std known t (generator s) u p valid = not_this (codes "std") t.token refl (sum_first known 32 t s u p valid)
member_no_std known t (jacobian name) u p valid = ap (is_the_word (codes "std")) p.0

-- The members of an ideal don't begin with the word std.
pub members_no_std : (known : Declarations) (t : Place) (ms : Members) (u : Place) → Stand t (members_tokens ms) u → ValidMembers known ms → is_the_word (codes "std") t.token ≡ false
members_no_std known t (only m) u p valid = member_no_std known t m u p valid
members_no_std known t (more ms m) u p valid = let q = Stand-split t (members_tokens ms) (mark 44 ∷ member_tokens m) u p in members_no_std known t ms q.0 q.1 valid.0
