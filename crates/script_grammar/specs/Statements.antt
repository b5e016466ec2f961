-- The statements, read from left to right.
use Rattle.std.specs.Prelude.{ℕ, zero, suc, ◌+◌, Bool, true, false, not, ◌&&◌, ◌||◌, List, [], ◌∷◌, ◌++◌, length, Result, Ok, nat_lt, nat_le, ◌==◌, if◌then◌else◌, codes}
use Rattle.local_order.specs.Limits.{max_degree, max_generators, max_monomials}
use Rattle.script_grammar.specs.Limits.{max_names}
use Rattle.std.specs.List.{list_any}
use Rattle.prime_field.specs.Decimal.{value_of}
use Rattle.prime_field.specs.Prime.{table}
use Rattle.local_order.specs.Count.{monomial_count}
use Rattle.script_grammar.specs.declared.refusal.What.TheVariants as whats
use Rattle.script_grammar.specs.declared.refusal.ReadKind.{ReadKind}
use Rattle.script_grammar.specs.declared.refusal.ReadKind.TheVariants.{NotAPrime, TooManyVariables, NameClash, TooManyNames, UnknownName, ExponentTooLarge, NoetherDegree, TooManyMonomials, TooManyGenerators}
use Rattle.script_grammar.specs.declared.refusal.Refusal.{Refusal}
use Rattle.script_grammar.specs.declared.script.Word.{Word}
use Rattle.script_grammar.specs.declared.script.Word.TheVariants.{Std, Vdim, Kbase, HighCorner, Milnor, Tjurina}
use Rattle.script_grammar.specs.Tokens.{Token, Place, next}
use Rattle.script_grammar.specs.Words.{is_numeral, is_same, is_one_of, keywords, is_named, is_short, has_letter, has_large, word_degree, is_the_mark, is_the_word, is_the_text, is_word, word_of}
use Rattle.script_grammar.specs.Trees.{Remark, option, library, Variables, alone, listed, Ring, Factor, short_word, raised_letter, Monomial, factor, product, Member, generator, jacobian, Members, only, more, Statement, poly, again, ideal, command, command_std}
use Rattle.script_grammar.specs.Steps.{◌>>=◌, refused, wanted, mark_at, word_at, numeral_at, exponent_at}
use Rattle.script_grammar.specs.Expressions.{Declarations, expression_at}

-- ---- remarks

abbrev pub begins_remark : Token → Bool
begins_remark token = is_the_word (codes "option") token || is_the_word (codes "LIB") token

-- the string "sing.lib"
abbrev pub library_at : Place → Result Place Refusal
library_at t = if is_the_text (codes "sing.lib") t.token then Ok (next t.rest) else wanted t whats.Library

unfoldable pub remark_at : Place → Result (Remark × Place) Refusal
remark_at t =
    if is_the_word (codes "option") t.token then (do
      opened ← mark_at 40 whats.Open (next t.rest)
      inside ← word_at (codes "redSB") whats.RedSb opened
      closed ← mark_at 41 whats.Close inside
      after ← mark_at 59 whats.Semicolon closed
      Ok (option, after))
    else (do
      named ← library_at (next t.rest)
      after ← mark_at 59 whats.Semicolon named
      Ok (library, after))

-- remarks, as long as there are some; n is no less than the bytes that are left
unfoldable pub remarks_at : ℕ → List Remark → Place → Result (List Remark × Place) Refusal
remarks_at zero done t = Ok (done, t)
remarks_at (suc n) done t =
    if begins_remark t.token then (remark_at t >>= λ r. remarks_at n (done ++ r.0 ∷ []) r.1)
    else Ok (done, t)

-- ---- the ring

-- The ring's name. No variable and no other name is declared yet.
unfoldable pub ring_name_at : Place → Result (List ℕ × Place) Refusal
ring_name_at t =
    if not (is_word t.token && is_named (word_of t.token)) then wanted t whats.Name
    else (if is_one_of keywords (word_of t.token) then refused t NameClash
    else Ok (word_of t.token, next t.rest))

unfoldable pub prime_at : Place → Result (List ℕ × Place) Refusal
prime_at t = do
  p ← numeral_at t
  if list_any (λ q. q == value_of p.0) table then Ok p else refused t NotAPrime

abbrev pub letter_of : List ℕ → ℕ
letter_of [] = 0
letter_of (b ∷ w) = b

abbrev pub is_letter_word : List ℕ → Bool
is_letter_word w = length w == 1 && is_named w

-- one more variable letter
unfoldable pub variable_at : List ℕ → List ℕ → Place → Result (ℕ × Place) Refusal
variable_at ring letters t =
    if not (is_word t.token && is_letter_word (word_of t.token)) then wanted t whats.Variable
    else (if length letters == 8 then refused t TooManyVariables
    else (if has_letter letters (letter_of (word_of t.token)) || is_same ring (word_of t.token) then refused t NameClash
    else Ok (letter_of (word_of t.token), next t.rest)))

-- more letters up to the ), each behind a comma
unfoldable pub variables_at : ℕ → List ℕ → List ℕ → Place → Result (List ℕ × Place) Refusal
variables_at zero ring letters t = wanted t whats.Comma
variables_at (suc n) ring letters t =
    if is_the_mark 44 t.token then (variable_at ring letters (next t.rest) >>= λ l. variables_at n ring (letters ++ l.0 ∷ []) l.1)
    else (if is_the_mark 41 t.token then Ok (letters, next t.rest)
    else wanted t whats.Comma)

abbrev pub tail_of : List ℕ → List ℕ
tail_of [] = []
tail_of (b ∷ w) = w

-- letters in parentheses, from behind the ( on
abbrev pub listed_at : List ℕ → Place → Result (List ℕ × Place) Refusal
listed_at ring t = do
  first ← variable_at ring [] t
  variables_at (suc first.1.left) ring (first.0 ∷ []) first.1

-- letters as they are listed
abbrev pub listed_letters : List ℕ → Variables
listed_letters letters = listed (letter_of letters) (tail_of letters)

unfoldable pub letters_at : List ℕ → Place → Result (Variables × Place) Refusal
letters_at ring t =
    if is_the_mark 40 t.token then (listed_at ring (next t.rest) >>= λ all. Ok (listed_letters all.0, all.1))
    else (variable_at ring [] t >>= λ l. Ok (alone l.0, l.1))

-- from behind the word ring on
unfoldable pub ring_at : Place → Result (Ring × Place) Refusal
ring_at t = do
  name ← ring_name_at t
  equals ← mark_at 61 whats.Equals name.1
  prime ← prime_at equals
  comma ← mark_at 44 whats.Comma prime.1
  variables ← letters_at name.0 comma
  order ← mark_at 44 whats.Comma variables.1
  end ← word_at (codes "ds") whats.Order order
  after ← mark_at 59 whats.Semicolon end
  Ok (record { name = name.0; prime = prime.0; variables = variables.0 }, after)

abbrev pub letters_of : Variables → List ℕ
letters_of (alone l) = l ∷ []
letters_of (listed l letters) = l ∷ letters

-- ---- the noether monomial

unfoldable pub factor_at : List ℕ → Place → Result (Factor × Place) Refusal
factor_at letters t =
    let w = word_of t.token in
    if not (is_word t.token && is_named w) then wanted t whats.Monomial
    else (if not (is_short letters w) then refused t UnknownName
    else (if has_large w then refused t ExponentTooLarge
    else (let after = next t.rest in
    if length w == 1 && is_the_mark 94 after.token then (exponent_at (next after.rest) >>= λ n. Ok (raised_letter w n.0, n.1))
    else Ok (short_word w, after))))

unfoldable pub factors_at : ℕ → List ℕ → Monomial → Place → Result (Monomial × Place) Refusal
factors_at zero letters m t = Ok (m, t)
factors_at (suc n) letters m t =
    if is_the_mark 42 t.token then (factor_at letters (next t.rest) >>= λ f. factors_at n letters (product m f.0) f.1)
    else Ok (m, t)

-- a monomial from its first factor on
abbrev pub monomial_at : List ℕ → Place → Result (Monomial × Place) Refusal
monomial_at letters t = do
  first ← factor_at letters t
  factors_at first.1.left letters (factor first.0) first.1

abbrev pub factor_degree : Factor → ℕ
factor_degree (short_word w) = word_degree w
factor_degree (raised_letter w digits) = value_of digits

abbrev pub degree_of : Monomial → ℕ
degree_of (factor f) = factor_degree f
degree_of (product m f) = degree_of m + factor_degree f

-- From behind the word noether on. The degree is tested before what stands behind the monomial.
unfoldable pub noether_at : List ℕ → Place → Result (Monomial × Place) Refusal
noether_at letters t = do
  start ← mark_at 61 whats.Equals t
  m ← monomial_at letters start
  let d = degree_of m.0
  let n = monomial_count (length letters) d
  if d == 0 || nat_lt max_degree d then refused start NoetherDegree
      else (if nat_lt max_monomials n then refused start (TooManyMonomials n)
      else (mark_at 59 whats.Operator m.1 >>= λ after. Ok (m.0, after)))

-- ---- names

abbrev pub clashes : Declarations → List ℕ → Bool
clashes known w = is_one_of keywords w || (is_same known.ring w || (is_one_of known.polys w || (is_one_of known.ideals w || is_short known.letters w)))

-- a name that is declared
unfoldable pub new_name_at : Declarations → Place → Result (List ℕ × Place) Refusal
new_name_at known t =
    if not (is_word t.token && is_named (word_of t.token)) then wanted t whats.Name
    else (if clashes known (word_of t.token) then refused t NameClash
    else (if nat_le max_names (length known.polys + length known.ideals) then refused t TooManyNames
    else Ok (word_of t.token, next t.rest)))

-- the name of a poly or an ideal that is declared
unfoldable pub name_among : List (List ℕ) → Place → Result (List ℕ × Place) Refusal
name_among names t =
    if not (is_word t.token && is_named (word_of t.token)) then wanted t whats.Argument
    else (if is_one_of names (word_of t.token) then Ok (word_of t.token, next t.rest)
    else refused t UnknownName)

-- ( name )
unfoldable pub argument_at : List (List ℕ) → Place → Result (List ℕ × Place) Refusal
argument_at names t = do
  opened ← mark_at 40 whats.Open t
  name ← name_among names opened
  closed ← mark_at 41 whats.Close name.1
  Ok (name.0, closed)

-- ---- polys and ideals, from behind the word on

unfoldable pub poly_at : Declarations → Place → Result (Statement × Place) Refusal
poly_at known t = do
  name ← new_name_at known t
  equals ← mark_at 61 whats.Equals name.1
  sum ← expression_at known equals
  after ← mark_at 59 whats.Operator sum.1
  Ok (poly name.0 sum.0, after)

-- Why a word is refused where an ideal has no room for a member: for what it is itself refused for, or for that.
abbrev pub no_room_kind : Declarations → List ℕ → ReadKind
no_room_kind known w =
    if is_numeral w then TooManyGenerators
    else (if is_one_of keywords w then UnknownName
    else (if is_one_of known.polys w then TooManyGenerators
    else (if not (is_short known.letters w) then UnknownName
    else (if has_large w then ExponentTooLarge
    else TooManyGenerators))))

-- The member that brings the ideal above 64 generators is refused at its first token, unless that token itself is.
abbrev pub no_room : {A : Type 0} → Declarations → Place → Result A Refusal
no_room known t =
    if is_word t.token then refused t (no_room_kind known (word_of t.token))
    else (if is_the_mark 40 t.token || (is_the_mark 43 t.token || is_the_mark 45 t.token) then refused t TooManyGenerators
    else wanted t whats.Operand)

-- a member behind count generators; what ends it is left
unfoldable pub member_at : Declarations → ℕ → Place → Result (Member × Place) Refusal
member_at known count t =
    if is_the_word (codes "jacob") t.token then (do
      opened ← mark_at 40 whats.Open (next t.rest)
      name ← name_among known.polys opened
      if nat_lt max_generators (count + length known.letters) then refused t TooManyGenerators
          else (mark_at 41 whats.Close name.1 >>= λ closed. Ok (jacobian name.0, closed)))
    else (if count == max_generators then no_room known t
    else (expression_at known t >>= λ s. Ok (generator s.0, s.1)))

abbrev pub generators : Declarations → Member → ℕ
generators known (generator s) = 1
generators known (jacobian name) = length known.letters

abbrev pub count_of : Declarations → Members → ℕ
count_of known (only m) = generators known m
count_of known (more ms m) = count_of known ms + generators known m

-- more members up to the ;, each behind a comma
unfoldable pub members_at : ℕ → Declarations → Members → Place → Result (Members × Place) Refusal
members_at zero known ms t = wanted t whats.Operator
members_at (suc n) known ms t =
    if is_the_mark 44 t.token then (member_at known (count_of known ms) (next t.rest) >>= λ m. members_at n known (more ms m.0) m.1)
    else (if is_the_mark 59 t.token then Ok (ms, next t.rest)
    else wanted t whats.Operator)

-- members from the first one on
abbrev pub members_from : Declarations → Place → Result (Members × Place) Refusal
members_from known t = do
  first ← member_at known 0 t
  members_at (suc first.1.left) known (only first.0) first.1

unfoldable pub ideal_at : Declarations → Place → Result (Statement × Place) Refusal
ideal_at known t = do
  name ← new_name_at known t
  start ← mark_at 61 whats.Equals name.1
  if is_the_word (codes "std") start.token then (do
    other ← argument_at known.ideals (next start.rest)
    after ← mark_at 59 whats.Semicolon other.1
    Ok (again name.0 other.0, after))
      else (do
        members ← members_from known start
        Ok (ideal name.0 members.0, members.1))

-- ---- commands, from behind the word on

abbrev pub is_on_poly : Word → Bool
is_on_poly Milnor = true
is_on_poly Tjurina = true
is_on_poly Std = false
is_on_poly Vdim = false
is_on_poly Kbase = false
is_on_poly HighCorner = false

unfoldable pub command_at : Declarations → Word → Place → Result (Statement × Place) Refusal
command_at known w t =
    if is_on_poly w then (do
      name ← argument_at known.polys t
      after ← mark_at 59 whats.Semicolon name.1
      Ok (command w name.0, after))
    else (do
      opened ← mark_at 40 whats.Open t
      if is_the_word (codes "std") opened.token then (do
        name ← argument_at known.ideals (next opened.rest)
        closed ← mark_at 41 whats.Close name.1
        after ← mark_at 59 whats.Semicolon closed
        Ok (command_std w name.0, after))
          else (do
            name ← name_among known.ideals opened
            closed ← mark_at 41 whats.Close name.1
            after ← mark_at 59 whats.Semicolon closed
            Ok (command w name.0, after)))
