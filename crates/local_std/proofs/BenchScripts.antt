-- Each script of the bench is in the grammar.
-- It is put together of tokens that don't depend on its number and of four numerals; its tree is valid, since the exponents and the
-- noether degree are small.
use Rattle.std.proofs.Common.{rules, ◌≡◌, inl, ℕ, ◌<◌, ◌≤◌, ◌^◌, List, [], ◌∷◌, ◌++◌, length, true, false, codes, decimal, refl, sym, subst, arith, ◌∙◌, append_assoc}
use Rattle.std.proofs.lemmas.Bool.{and_parts, and_from, or_right}
use Rattle.std.proofs.lemmas.Fmt.{decimal_nonempty, digits_decimal, digits_value-decimal}
use Rattle.std.proofs.lemmas.Str.Parse.{IsNumeralModel, numerals_by_fold}
use Rattle.prime_field.specs.Decimal.{value_of, value_from}
use Rattle.prime_field.specs.Prime.{InTable}
use Rattle.local_order.specs.Count.{monomial_count}
use Rattle.local_order.specs.Limits.{max_exponent}
use Rattle.local_order.proofs.Count.{count_in_degree}
use Rattle.script_grammar.specs.Limits.{max_depth}
use Rattle.script_grammar.specs.declared.script.Word.TheVariants.{Milnor, HighCorner}
use Rattle.script_grammar.specs.Tokens.{Token, word, mark, is_letter, is_digit, is_word_byte}
use Rattle.script_grammar.specs.Words.{is_numeral}
use Rattle.script_grammar.specs.Trees.{named, plain, raised, single, times, bare, plus, listed, raised_letter, factor, jacobian, only, option, poly, ideal, command, command_std, Tree, tree_tokens, operand_tokens, power_tokens, term_tokens, sum_tokens}
use Rattle.script_grammar.specs.Expressions.{Declarations, takes_exponent}
use Rattle.script_grammar.specs.Spelling.{blank, all_word, begins_word}
use Rattle.script_grammar.specs.Ends.{SpellsEnd, SpellsAll}
use Rattle.script_grammar.specs.Valid.{is_operand_word, ValidTerm, ValidSum, ValidRing, ValidNoether, ValidStatements, IsValid, IsScript}
use Rattle.script_grammar.proofs.SpelledScripts.{spelled_tree}
use Rattle.local_std.specs.Bench.{max_bench, bench_a, bench_b, bench_c, bench_degree, bench_script}
use Rattle.local_std.proofs.Pieces.{Piece, bytes_of, tokens_of, are_pieces, pieces_spelled, word_spelled}

-- ---- the script, in pieces
-- a word, a word behind a blank, a mark
abbrev name : List ℕ → Piece
name w = record { blanks = []; token = word w }

-- a word behind a blank or the end of a line
abbrev behind : ℕ → List ℕ → Piece
behind b w = record { blanks = b ∷ []; token = word w }

-- a mark with nothing in front
abbrev sign : ℕ → Piece
sign m = record { blanks = []; token = mark m }

-- up to the noether degree
abbrev ring_pieces : List Piece
ring_pieces =
    name (codes "ring") ∷ behind 32 (codes "r") ∷ sign 61 ∷ name (codes "32003") ∷ sign 44 ∷ sign 40 ∷ name (codes "x") ∷ sign 44 ∷ name (codes "y") ∷ sign 44 ∷ name (codes "z") ∷ sign 41 ∷ sign 44 ∷ name (codes "ds") ∷ sign 59 ∷ behind 10 (codes "option") ∷ sign 40 ∷ name (codes "redSB") ∷ sign 41 ∷ sign 59 ∷ behind 10 (codes "noether") ∷ sign 61 ∷ name (codes "z") ∷ sign 94 ∷ []

-- up to the first exponent
abbrev function_pieces : List Piece
function_pieces =
    sign 59 ∷ behind 10 (codes "poly") ∷ behind 32 (codes "f") ∷ sign 61 ∷ name (codes "x") ∷ sign 94 ∷ []

-- up to the second
abbrev second_pieces : List Piece
second_pieces =
    sign 43 ∷ name (codes "y") ∷ sign 94 ∷ []

-- up to the third
abbrev third_pieces : List Piece
third_pieces =
    sign 43 ∷ name (codes "z") ∷ sign 94 ∷ []

-- and to the end
abbrev command_pieces : List Piece
command_pieces =
    sign 43 ∷ name (codes "x") ∷ sign 42 ∷ name (codes "y") ∷ sign 42 ∷ name (codes "z") ∷ sign 59 ∷ behind 10 (codes "ideal") ∷ behind 32 (codes "j") ∷ sign 61 ∷ name (codes "jacob") ∷ sign 40 ∷ name (codes "f") ∷ sign 41 ∷ sign 59 ∷ behind 10 (codes "milnor") ∷ sign 40 ∷ name (codes "f") ∷ sign 41 ∷ sign 59 ∷ behind 10 (codes "highcorner") ∷ sign 40 ∷ name (codes "std") ∷ sign 40 ∷ name (codes "j") ∷ sign 41 ∷ sign 41 ∷ sign 59 ∷ []

-- the tree with these numerals
abbrev bench_tree : (degree a b c : List ℕ) → Tree
bench_tree degree a b c = record {
  before = [];
  ring = record { name = codes "r"; prime = codes "32003"; variables = listed 120 (121 ∷ 122 ∷ []) };
  between = option ∷ [];
  noether = factor (raised_letter (codes "z") degree);
  statements =
      poly (codes "f") (plus (plus (plus (bare (single (raised (named (codes "x")) a))) (single (raised (named (codes "y")) b))) (single (raised (named (codes "z")) c)))
      (times (times (single (plain (named (codes "x")))) (plain (named (codes "y")))) (plain (named (codes "z")))))
      ∷ ideal (codes "j") (only (jacobian (codes "f")))
      ∷ command Milnor (codes "f")
      ∷ command_std HighCorner (codes "j")
      ∷ [];
}

-- a numeral, as a word and in the grammar
record IsNumber (digits : List ℕ) : Type 0 where
  numeral : is_numeral digits ≡ true
  some : 1 ≤ length digits
  all : all_word digits ≡ true

-- digits are letters or digits
digits_all : (w : List ℕ) → is_numeral w ≡ true → all_word w ≡ true
digits_all [] h = refl
digits_all (b ∷ w) h = let p = and_parts (is_digit b) (is_numeral w) h in and_from (is_word_byte b) (all_word w) (or_right (is_letter b) (is_digit b) p.0) (digits_all w p.1)

-- what is written of a number is a numeral of its value
numerals : IsNumeralModel (λ ds. is_numeral ds ≡ true) value_of
numerals = numerals_by_fold _ (search rules) value_from (search rules)

-- a number below 2^64 is spelled by a numeral
number_is : (n : ℕ) → n < 2 ^ 64 → IsNumber (decimal n)
number_is n small =
    let numeral = digits_decimal numerals n small in
    record { numeral = numeral; some = decimal_nonempty n small; all = digits_all (decimal n) numeral }

-- and the numeral has its value
value_is : (n : ℕ) → n < 2 ^ 64 → value_of (decimal n) ≡ n
value_is n small = digits_value-decimal numerals n small

-- pieces with a number behind them are spelled, in front of what doesn't go on with it
numbered : (qs : List Piece) (w rest : List ℕ) (tokens : List Token) → are_pieces qs (w ++ rest) ≡ true → IsNumber w → begins_word rest ≡ false → SpellsAll rest tokens →
    SpellsAll (bytes_of qs (w ++ rest)) (tokens_of qs (word w ∷ tokens))
numbered qs w rest tokens h n none s = pieces_spelled qs (w ++ rest) (word w ∷ tokens) h (word_spelled w rest tokens n.some n.all none s)

-- its tokens are spelled
tree_spelled : (degree a b c : List ℕ) → IsNumber degree → IsNumber a → IsNumber b → IsNumber c →
    SpellsAll (bytes_of ring_pieces (degree ++ bytes_of function_pieces (a ++ bytes_of second_pieces (b ++ bytes_of third_pieces (c ++ bytes_of command_pieces (10 ∷ []))))))
    (tree_tokens (bench_tree degree a b c))
unfolding operand_tokens power_tokens term_tokens sum_tokens
tree_spelled degree a b c hd ha hb hc =
    let after_c = bytes_of command_pieces (10 ∷ []) in
    let tokens_c = tokens_of command_pieces [] in
    let after_b = bytes_of third_pieces (c ++ after_c) in
    let tokens_b = tokens_of third_pieces (word c ∷ tokens_c) in
    let after_a = bytes_of second_pieces (b ++ after_b) in
    let tokens_a = tokens_of second_pieces (word b ∷ tokens_b) in
    let after_degree = bytes_of function_pieces (a ++ after_a) in
    let tokens_degree = tokens_of function_pieces (word a ∷ tokens_a) in
    let commands : SpellsAll after_c tokens_c = pieces_spelled command_pieces (10 ∷ []) [] refl end in
    let third : SpellsAll after_b tokens_b = numbered third_pieces c after_c tokens_c refl hc refl commands in
    let second : SpellsAll after_a tokens_a = numbered second_pieces b after_b tokens_b refl hb refl third in
    let function : SpellsAll after_degree tokens_degree = numbered function_pieces a after_a tokens_a refl ha refl second in
    numbered ring_pieces degree after_degree tokens_degree refl hd refl function
  where
    end : SpellsEnd (10 ∷ [])
    end = (blank 10 ∷ [], [], (refl, tt), refl, inl refl)

-- ---- the tree is valid
-- what is known behind the ring, behind the polynomial and behind the ideal
abbrev ring_known : Declarations
ring_known = record { ring = codes "r"; prime = 32003; letters = 120 ∷ 121 ∷ 122 ∷ []; polys = []; ideals = [] }

-- a letter with a small exponent is valid
power_valid : (l : ℕ) (digits : List ℕ) → is_operand_word ring_known (l ∷ []) ≡ true → is_numeral digits ≡ true → value_of digits ≤ max_exponent → ValidTerm ring_known max_depth (single (raised (named (l ∷ [])) digits))
unfolding takes_exponent
power_valid l digits known numeral low = (known, refl, numeral, low)

module _ (degree a b c : List ℕ) (hd : IsNumber degree) (ha : IsNumber a) (hb : IsNumber b) (hc : IsNumber c) (some : 1 ≤ value_of degree) (few : value_of degree ≤ 22) (low_a : value_of a ≤ 22) (low_b : value_of b ≤ 22) (low_c : value_of c ≤ 22) where
  -- the ring is valid
  ring_valid : ValidRing (bench_tree degree a b c).ring
  ring_valid = record {
    name = (refl, refl);
    prime = (refl, in_table);
    count = omega arith;
    letters = (refl, refl, refl, (refl, refl, refl, (refl, refl, refl, tt)));
  }
    where
      in_table : InTable 32003
      in_table = (7, omega arith, refl)

  -- so is the noether monomial, as its degree is small
  noether_valid : ValidNoether (120 ∷ 121 ∷ 122 ∷ []) (factor (raised_letter (codes "z") degree))
  noether_valid = record {
    factors = (refl, refl, refl, hd.numeral, omega (arith, few));
    degree = (some, omega (arith, few));
    count = omega (arith, count_in_degree 3 (value_of degree) 22 few, most);
  }
    where
      most : monomial_count 3 22 ≡ 2300
      most = refl

  -- so is the function, as its exponents are small
  sum_valid : ValidSum ring_known max_depth (plus (plus (plus (bare (single (raised (named (codes "x")) a))) (single (raised (named (codes "y")) b))) (single (raised (named (codes "z")) c)))
      (times (times (single (plain (named (codes "x")))) (plain (named (codes "y")))) (plain (named (codes "z")))))
  sum_valid =
      let x = power_valid 120 a refl ha.numeral (omega (arith, low_a)) in
      let y = power_valid 121 b refl hb.numeral (omega (arith, low_b)) in
      let z = power_valid 122 c refl hc.numeral (omega (arith, low_c)) in
      let xyz : ValidTerm ring_known max_depth (times (times (single (plain (named (codes "x")))) (plain (named (codes "y")))) (plain (named (codes "z")))) = ((refl, refl), refl) in
      (((x, y), z), xyz)

  -- so are the statements, each of which names what was declared before
  statements_valid : ValidStatements ring_known 0 (bench_tree degree a b c).statements
  statements_valid = (
    (record { named = refl; free = refl; room = omega arith }, sum_valid),
    (
      (record { named = refl; free = refl; room = omega arith }, (refl, refl), omega arith),
      ((omega arith, (refl, refl)), ((omega arith, refl, (refl, refl)), omega arith)),
    ),
  )

  -- so the tree is that of a script
  tree_valid : IsValid (bench_tree degree a b c)
  tree_valid = record { ring = ring_valid; noether = noether_valid; statements = statements_valid }

-- ---- the numbers
-- each exponent is small, and so is the noether degree
pub small_numbers : (k : ℕ) → k ≤ max_bench → (1 ≤ bench_degree k) × (bench_degree k ≤ 22) × (bench_a k ≤ 22) × (bench_b k ≤ 22) × (bench_c k ≤ 22)
small_numbers k low = (omega arith, omega (arith, low), omega arith, omega arith, omega (arith, low))

-- the bytes of the script, piece by piece
in_pieces : (a b c d e f g h i : List ℕ) → a ++ b ++ c ++ d ++ e ++ f ++ g ++ h ++ i ≡ a ++ (b ++ (c ++ (d ++ (e ++ (f ++ (g ++ (h ++ i)))))))
in_pieces a b c d e f g h i =
    append_assoc (a ++ b ++ c ++ d ++ e ++ f ++ g) h i
    ∙ append_assoc (a ++ b ++ c ++ d ++ e ++ f) g (h ++ i)
    ∙ append_assoc (a ++ b ++ c ++ d ++ e) f (g ++ (h ++ i))
    ∙ append_assoc (a ++ b ++ c ++ d) e (f ++ (g ++ (h ++ i)))
    ∙ append_assoc (a ++ b ++ c) d (e ++ (f ++ (g ++ (h ++ i))))
    ∙ append_assoc (a ++ b) c (d ++ (e ++ (f ++ (g ++ (h ++ i)))))
    ∙ append_assoc a b (c ++ (d ++ (e ++ (f ++ (g ++ (h ++ i))))))

-- the tree of the script
abbrev pub bench_tree_of : ℕ → Tree
bench_tree_of k = bench_tree (decimal (bench_degree k)) (decimal (bench_a k)) (decimal (bench_b k)) (decimal (bench_c k))

-- each script of the bench is in the grammar
pub bench_is_script : (k : ℕ) → k ≤ max_bench → IsScript (bench_script k) (bench_tree_of k)
bench_is_script k low =
    let s = small_numbers k low in
    let small : (n : ℕ) → n ≤ 22 → IsNumber (decimal n) = λ n l. number_is n (omega (arith, l)) in
    let value : (n : ℕ) → n ≤ 22 → value_of (decimal n) ≡ n = λ n l. value_is n (omega (arith, l)) in
    let hd = small (bench_degree k) s.1 in
    let ha = small (bench_a k) s.2 in
    let hb = small (bench_b k) s.3 in
    let hc = small (bench_c k) s.4 in
    let pieces = in_pieces (codes "ring r=32003,(x,y,z),ds;\noption(redSB);\nnoether=z^") (decimal (bench_degree k)) (codes ";\npoly f=x^") (decimal (bench_a k)) (codes "+y^") (decimal (bench_b k)) (codes "+z^") (decimal (bench_c k))
    (codes "+x*y*z;\nideal j=jacob(f);\nmilnor(f);\nhighcorner(std(j));\n") in
    let spelled = tree_spelled (decimal (bench_degree k)) (decimal (bench_a k)) (decimal (bench_b k)) (decimal (bench_c k)) hd ha hb hc in (
      spelled_tree (bench_script k) (bench_tree_of k) (subst (λ bytes. SpellsAll bytes (tree_tokens (bench_tree_of k))) (sym pieces) spelled),
      tree_valid (decimal (bench_degree k)) (decimal (bench_a k)) (decimal (bench_b k)) (decimal (bench_c k)) hd ha hb hc
          (omega (arith, value (bench_degree k) s.1, s.0)) (omega (arith, value (bench_degree k) s.1, s.1)) (omega (arith, value (bench_a k) s.2, s.2)) (omega (arith, value (bench_b k) s.3, s.3)) (omega (arith, value (bench_c k) s.4, s.4)),
    )
