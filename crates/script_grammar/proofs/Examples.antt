-- Worked scripts: reading computes, so each of these holds as it stands.
use Rattle.std.proofs.Common.{◌≡◌, ℕ, List, ◌∷◌, ◌++◌, Some, None, Result, refl}
use Rattle.std.specs.Prelude.{codes}
use Rattle.std.specs.List.{repeat, flat_map}
use Rattle.script_grammar.specs.declared.refusal.ReadKind.TheVariants.{BadByte, EndOfInput, MissingNoether, TooManyCommands, Expected, NotAPrime, TooManyVariables, NameClash, TooManyNames, UnknownName, ExponentTooLarge, ZeroDivisor, TooDeep, NoetherDegree, TooManyMonomials, TooManyGenerators}
use Rattle.script_grammar.specs.declared.refusal.What.TheVariants as whats
use Rattle.script_grammar.specs.declared.refusal.Refusal.{Refusal}
use Rattle.script_grammar.specs.Tokens.{skip, word_len, text_len, front, next}
use Rattle.script_grammar.specs.Trees.{Tree}
use Rattle.script_grammar.specs.Steps.{mark_at, word_at, numeral_at, exponent_at}
use Rattle.script_grammar.specs.Expressions.{below_at, fraction_at, word_operand_at, operand_at, takes_exponent, power_at, times_at, term_at, more_at, first_at, sum_at, inner_at, expression_at}
use Rattle.script_grammar.specs.Statements.{remark_at, remarks_at, ring_name_at, prime_at, variable_at, variables_at, letters_at, ring_at, factor_at, factors_at, noether_at, new_name_at, name_among, argument_at, poly_at, member_at, members_at, ideal_at, command_at}
use Rattle.script_grammar.specs.Script.{statement_at, statements_at, tree_at, script_of}
use Rattle.script_grammar.specs.Outcome.{outcome}

-- all that reading computes by
reads : List ℕ → Result Tree Refusal
unfolding skip word_len text_len front next mark_at word_at numeral_at exponent_at below_at fraction_at word_operand_at operand_at takes_exponent power_at times_at term_at more_at first_at sum_at inner_at expression_at remark_at remarks_at ring_name_at prime_at variable_at variables_at letters_at ring_at factor_at factors_at noether_at new_name_at name_among argument_at poly_at member_at members_at ideal_at command_at statement_at statements_at tree_at script_of
reads bytes = script_of bytes

-- Blanks, comments and remarks stand between the tokens of a script that is read.
pub blanks_and_comments : outcome (codes "option(redSB); LIB \"sing.lib\"; // hi\nring x2=007 , x , ds ;/**/noether=x*x^2*x3;\nideal i=x;std(i);") ≡ None
unfolding reads
blanks_and_comments = refl

-- Over Z/2 the numeral 2 below / is zero.
pub zero_divisor_of_characteristic_two : outcome (codes "ring r=2,(x,y),ds;\nnoether=x^5;\npoly f=1/2;\n") ≡ Some ((3, 10), ZeroDivisor)
unfolding reads
zero_divisor_of_characteristic_two = refl

-- 32002 isn't in the table of characteristics.
pub characteristic_that_is_no_prime : outcome (codes "ring r=32002,(x,y),ds;\n") ≡ Some ((1, 8), NotAPrime)
unfolding reads
characteristic_that_is_no_prime = refl

-- A letter that is a variable already can't be one again.
pub variable_twice : outcome (codes "ring r=5,(x,x)") ≡ Some ((1, 13), NameClash)
unfolding reads
variable_twice = refl

-- The ninth letter of a ring is one too many.
pub ninth_variable : outcome (codes "ring r=5,(a,b,c,d,e,f,g,h,i)") ≡ Some ((1, 27), TooManyVariables)
unfolding reads
ninth_variable = refl

-- An ideal where the noether statement must stand is refused as early.
pub ideal_before_noether : outcome (codes "ring r=32003,(x,y),ds;\nideal i=x;") ≡ Some ((2, 1), MissingNoether)
unfolding reads
ideal_before_noether = refl

-- The degree 400 is refused at the monomial's only word.
pub noether_degree_above_255 : outcome (codes "ring r=32003,(x,y),ds;\nnoether=x200y200;") ≡ Some ((2, 9), NoetherDegree)
unfolding reads
noether_degree_above_255 = refl

-- 4,186 monomials in two variables have degree at most 90.
pub too_many_monomials : outcome (codes "ring r=32003,(x,y),ds;\nnoether=x^90;") ≡ Some ((2, 9), TooManyMonomials 4186)
unfolding reads
too_many_monomials = refl

-- Over x and y no polynomial is called xy.
pub name_like_a_monomial : outcome (codes "ring r=32003,(x,y),ds;\nnoether=x^5;\npoly xy=x;") ≡ Some ((3, 6), NameClash)
unfolding reads
name_like_a_monomial = refl

-- Behind 2x the mark ^ is no operator.
pub exponent_behind_two_factors : outcome (codes "ring r=32003,(x,y),ds;\nnoether=x^5;\npoly f=2x^3;") ≡ Some ((3, 10), Expected whats.Operator)
unfolding reads
exponent_behind_two_factors = refl

-- A word with a letter that is no variable is unknown, even if an exponent in it is too large.
pub unknown_letter_before_a_large_exponent : outcome (codes "ring r=32003,(x,y),ds;\nnoether=x^5;\npoly f=x1001w;") ≡ Some ((3, 8), UnknownName)
unfolding reads
unknown_letter_before_a_large_exponent = refl

-- The exponent 1,001 in a short monomial is too large, at the word.
pub large_exponent : outcome (codes "ring r=32003,(x,y),ds;\nnoether=x^5;\npoly f=5x1001;") ≡ Some ((3, 8), ExponentTooLarge)
unfolding reads
large_exponent = refl

-- The name of a polynomial is unknown where an ideal must be named.
pub command_on_ideals_of_a_polynomial : outcome (codes "ring r=32003,(x,y),ds;\nnoether=x^5;\npoly f=x;vdim(f);") ≡ Some ((3, 15), UnknownName)
unfolding reads
command_on_ideals_of_a_polynomial = refl

-- 32 parentheses may be open at once.
pub parentheses_32 : outcome (codes "ring r=32003,(x,y),ds;\nnoether=x^5;\npoly f=" ++ (repeat 32 (codes "(") ++ (codes "x" ++ (repeat 32 (codes ")") ++ codes ";milnor(f);")))) ≡ None
unfolding reads
parentheses_32 = refl

-- The 33rd parenthesis that is open at once is refused at itself.
pub parenthesis_33 : outcome (codes "ring r=32003,(x,y),ds;\nnoether=x^5;\npoly f=" ++ (repeat 33 (codes "(") ++ codes "x")) ≡ Some ((3, 40), TooDeep)
unfolding reads
parenthesis_33 = refl

-- The 65th generator is refused at its first token.
pub generator_65 : outcome (codes "ring r=32003,(x,y),ds;\nnoether=x^5;\npoly f=x;ideal i=" ++ (repeat 64 (codes "x,") ++ codes "x")) ≡ Some ((3, 146), TooManyGenerators)
unfolding reads
generator_65 = refl

-- The derivatives that bring an ideal above 64 generators are refused at the word jacob.
pub derivatives_above_64 : outcome (codes "ring r=32003,(x,y),ds;\nnoether=x^5;\npoly f=x;ideal i=" ++ (repeat 63 (codes "x,") ++ codes "jacob(f);std(i);")) ≡ Some ((3, 144), TooManyGenerators)
unfolding reads
derivatives_above_64 = refl

-- 64 commands are read.
pub commands_64 : outcome (codes "ring r=32003,(x,y),ds;\nnoether=x^5;\nideal i=x;" ++ repeat 64 (codes "std(i);")) ≡ None
unfolding reads
commands_64 = refl

-- The 65th command is refused at its word.
pub command_65 : outcome (codes "ring r=32003,(x,y),ds;\nnoether=x^5;\nideal i=x;" ++ repeat 65 (codes "std(i);")) ≡ Some ((3, 459), TooManyCommands)
unfolding reads
command_65 = refl

-- The byte _ is in no token.
pub byte_of_no_token : outcome (codes "ring r=32003,(x,y),ds;\nnoether=x^5;\npoly f=_;") ≡ Some ((3, 8), BadByte)
unfolding reads
byte_of_no_token = refl

-- A string without its end is refused at the end of the input.
pub string_that_is_not_closed : outcome (codes "ring r=32003,(x,y),ds;\nnoether=x^5;\npoly f=\"a") ≡ Some ((3, 10), EndOfInput)
unfolding reads
string_that_is_not_closed = refl

-- Behind 1 the bytes // begin a comment, so the input ends where an operator must stand.
pub comment_in_place_of_a_numeral : outcome (codes "ring r=32003,(x,y),ds;\nnoether=x^5;\npoly f=1//2;") ≡ Some ((3, 13), EndOfInput)
unfolding reads
comment_in_place_of_a_numeral = refl

-- Behind a remark another statement than the ring is refused.
pub no_ring : outcome (codes "option(redSB); poly f=x;") ≡ Some ((1, 16), Expected whats.Ring)
unfolding reads
no_ring = refl

-- A numeral where the noether statement must stand is refused.
pub no_noether : outcome (codes "ring r=5,x,ds;\n7") ≡ Some ((2, 1), Expected whats.Noether)
unfolding reads
no_noether = refl

-- A second ring begins no later statement.
pub no_statement : outcome (codes "ring r=32003,(x,y),ds;\nnoether=x^5;\nring") ≡ Some ((3, 1), Expected whats.Statement)
unfolding reads
no_statement = refl

-- A numeral is no name of a polynomial.
pub no_name : outcome (codes "ring r=32003,(x,y),ds;\nnoether=x^5;\npoly 7=x;") ≡ Some ((3, 6), Expected whats.Name)
unfolding reads
no_name = refl

-- Behind a name that is declared only = may stand.
pub no_equals : outcome (codes "ring r=32003,(x,y),ds;\nnoether=x^5;\npoly f,x;") ≡ Some ((3, 7), Expected whats.Equals)
unfolding reads
no_equals = refl

-- Behind the word of a command only ( may stand.
pub no_open : outcome (codes "ring r=32003,(x,y),ds;\nnoether=x^5;\nideal i=x;std i;") ≡ Some ((3, 15), Expected whats.Open)
unfolding reads
no_open = refl

-- Behind the name in a command only ) may stand.
pub no_close : outcome (codes "ring r=32003,(x,y),ds;\nnoether=x^5;\nideal i=x;std(i;") ≡ Some ((3, 16), Expected whats.Close)
unfolding reads
no_close = refl

-- Behind the ) of a command only ; may stand.
pub no_semicolon : outcome (codes "ring r=32003,(x,y),ds;\nnoether=x^5;\nideal i=x;std(i),") ≡ Some ((3, 17), Expected whats.Semicolon)
unfolding reads
no_semicolon = refl

-- Behind the characteristic only a comma may stand.
pub no_comma : outcome (codes "ring r=5;") ≡ Some ((1, 9), Expected whats.Comma)
unfolding reads
no_comma = refl

-- A name is no characteristic.
pub no_numeral : outcome (codes "ring r=p") ≡ Some ((1, 8), Expected whats.Numeral)
unfolding reads
no_numeral = refl

-- A numeral is no variable.
pub no_variable : outcome (codes "ring r=5,7") ≡ Some ((1, 10), Expected whats.Variable)
unfolding reads
no_variable = refl

-- Ds is no order.
pub no_order : outcome (codes "ring r=5,x,Ds;") ≡ Some ((1, 12), Expected whats.Order)
unfolding reads
no_order = refl

-- In option only the word redSB may stand, in its spelling.
pub no_redsb : outcome (codes "option(redsb);") ≡ Some ((1, 8), Expected whats.RedSb)
unfolding reads
no_redsb = refl

-- LIB takes no other string than "sing.lib".
pub no_library : outcome (codes "LIB \"sing\";") ≡ Some ((1, 5), Expected whats.Library)
unfolding reads
no_library = refl

-- A coefficient begins no factor of the noether monomial.
pub no_monomial : outcome (codes "ring r=5,x,ds;\nnoether=2x;") ≡ Some ((2, 9), Expected whats.Monomial)
unfolding reads
no_monomial = refl

-- A polynomial has an operand at least.
pub no_operand : outcome (codes "ring r=32003,(x,y),ds;\nnoether=x^5;\npoly f=;") ≡ Some ((3, 8), Expected whats.Operand)
unfolding reads
no_operand = refl

-- A numeral is no argument of a command.
pub no_argument : outcome (codes "ring r=32003,(x,y),ds;\nnoether=x^5;\nideal i=x;std(2);") ≡ Some ((3, 15), Expected whats.Argument)
unfolding reads
no_argument = refl

-- The 65th name that is declared is one too many, at the name.
pub name_65 : outcome (codes "ring r=32003,(x,y),ds;\nnoether=x^5;\n" ++ (flat_map (λ a. flat_map (λ b. codes "poly p" ++ (a ∷ b ∷ codes "=0;")) (codes "01234567")) (codes "01234567") ++ codes "poly q=0;")) ≡ Some ((3, 710), TooManyNames)
unfolding reads
name_65 = refl

-- A name that is taken is refused for that, also where it is the 65th.
pub name_65_that_is_taken : outcome (codes "ring r=32003,(x,y),ds;\nnoether=x^5;\n" ++ (flat_map (λ a. flat_map (λ b. codes "poly p" ++ (a ∷ b ∷ codes "=0;")) (codes "01234567")) (codes "01234567") ++ codes "poly p00=0;")) ≡ Some ((3, 710), NameClash)
unfolding reads
name_65_that_is_taken = refl
