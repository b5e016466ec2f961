use Rattle.script_grammar.proofs.Examples.{blanks_and_comments, zero_divisor_of_characteristic_two, characteristic_that_is_no_prime, variable_twice, ninth_variable, ideal_before_noether, noether_degree_above_255, too_many_monomials, name_like_a_monomial, exponent_behind_two_factors, unknown_letter_before_a_large_exponent, large_exponent, command_on_ideals_of_a_polynomial, parentheses_32, parenthesis_33, generator_65, derivatives_above_64, commands_64, command_65, byte_of_no_token, string_that_is_not_closed, comment_in_place_of_a_numeral, no_ring, no_noether, no_statement, no_name, no_equals, no_open, no_close, no_semicolon, no_comma, no_numeral, no_variable, no_order, no_redsb, no_library, no_monomial, no_operand, no_argument, name_65, name_65_that_is_taken}
use Rattle.script_grammar.proofs.laws.examples.Goals as goal

pub returns-clause-blanks_and_comments : goal.returns-clause-blanks_and_comments
returns-clause-blanks_and_comments c = blanks_and_comments

pub returns-clause-zero_divisor_of_characteristic_two : goal.returns-clause-zero_divisor_of_characteristic_two
returns-clause-zero_divisor_of_characteristic_two c = zero_divisor_of_characteristic_two

pub returns-clause-characteristic_that_is_no_prime : goal.returns-clause-characteristic_that_is_no_prime
returns-clause-characteristic_that_is_no_prime c = characteristic_that_is_no_prime

pub returns-clause-variable_twice : goal.returns-clause-variable_twice
returns-clause-variable_twice c = variable_twice

pub returns-clause-ninth_variable : goal.returns-clause-ninth_variable
returns-clause-ninth_variable c = ninth_variable

pub returns-clause-ideal_before_noether : goal.returns-clause-ideal_before_noether
returns-clause-ideal_before_noether c = ideal_before_noether

pub returns-clause-noether_degree_above_255 : goal.returns-clause-noether_degree_above_255
returns-clause-noether_degree_above_255 c = noether_degree_above_255

pub returns-clause-too_many_monomials : goal.returns-clause-too_many_monomials
returns-clause-too_many_monomials c = too_many_monomials

pub returns-clause-name_like_a_monomial : goal.returns-clause-name_like_a_monomial
returns-clause-name_like_a_monomial c = name_like_a_monomial

pub returns-clause-exponent_behind_two_factors : goal.returns-clause-exponent_behind_two_factors
returns-clause-exponent_behind_two_factors c = exponent_behind_two_factors

pub returns-clause-unknown_letter_before_a_large_exponent : goal.returns-clause-unknown_letter_before_a_large_exponent
returns-clause-unknown_letter_before_a_large_exponent c = unknown_letter_before_a_large_exponent

pub returns-clause-large_exponent : goal.returns-clause-large_exponent
returns-clause-large_exponent c = large_exponent

pub returns-clause-command_on_ideals_of_a_polynomial : goal.returns-clause-command_on_ideals_of_a_polynomial
returns-clause-command_on_ideals_of_a_polynomial c = command_on_ideals_of_a_polynomial

pub returns-clause-parentheses_32 : goal.returns-clause-parentheses_32
returns-clause-parentheses_32 c = parentheses_32

pub returns-clause-parenthesis_33 : goal.returns-clause-parenthesis_33
returns-clause-parenthesis_33 c = parenthesis_33

pub returns-clause-generator_65 : goal.returns-clause-generator_65
returns-clause-generator_65 c = generator_65

pub returns-clause-derivatives_above_64 : goal.returns-clause-derivatives_above_64
returns-clause-derivatives_above_64 c = derivatives_above_64

pub returns-clause-commands_64 : goal.returns-clause-commands_64
returns-clause-commands_64 c = commands_64

pub returns-clause-command_65 : goal.returns-clause-command_65
returns-clause-command_65 c = command_65

pub returns-clause-byte_of_no_token : goal.returns-clause-byte_of_no_token
returns-clause-byte_of_no_token c = byte_of_no_token

pub returns-clause-string_that_is_not_closed : goal.returns-clause-string_that_is_not_closed
returns-clause-string_that_is_not_closed c = string_that_is_not_closed

pub returns-clause-comment_in_place_of_a_numeral : goal.returns-clause-comment_in_place_of_a_numeral
returns-clause-comment_in_place_of_a_numeral c = comment_in_place_of_a_numeral

pub returns-clause-no_ring : goal.returns-clause-no_ring
returns-clause-no_ring c = no_ring

pub returns-clause-no_noether : goal.returns-clause-no_noether
returns-clause-no_noether c = no_noether

pub returns-clause-no_statement : goal.returns-clause-no_statement
returns-clause-no_statement c = no_statement

pub returns-clause-no_name : goal.returns-clause-no_name
returns-clause-no_name c = no_name

pub returns-clause-no_equals : goal.returns-clause-no_equals
returns-clause-no_equals c = no_equals

pub returns-clause-no_open : goal.returns-clause-no_open
returns-clause-no_open c = no_open

pub returns-clause-no_close : goal.returns-clause-no_close
returns-clause-no_close c = no_close

pub returns-clause-no_semicolon : goal.returns-clause-no_semicolon
returns-clause-no_semicolon c = no_semicolon

pub returns-clause-no_comma : goal.returns-clause-no_comma
returns-clause-no_comma c = no_comma

pub returns-clause-no_numeral : goal.returns-clause-no_numeral
returns-clause-no_numeral c = no_numeral

pub returns-clause-no_variable : goal.returns-clause-no_variable
returns-clause-no_variable c = no_variable

pub returns-clause-no_order : goal.returns-clause-no_order
returns-clause-no_order c = no_order

pub returns-clause-no_redsb : goal.returns-clause-no_redsb
returns-clause-no_redsb c = no_redsb

pub returns-clause-no_library : goal.returns-clause-no_library
returns-clause-no_library c = no_library

pub returns-clause-no_monomial : goal.returns-clause-no_monomial
returns-clause-no_monomial c = no_monomial

pub returns-clause-no_operand : goal.returns-clause-no_operand
returns-clause-no_operand c = no_operand

pub returns-clause-no_argument : goal.returns-clause-no_argument
returns-clause-no_argument c = no_argument

pub returns-clause-name_65 : goal.returns-clause-name_65
returns-clause-name_65 c = name_65

pub returns-clause-name_65_that_is_taken : goal.returns-clause-name_65_that_is_taken
returns-clause-name_65_that_is_taken c = name_65_that_is_taken
