-- Valid polynomials and ideals that stand there are read.
-- A member by its kind, members by induction on the list, with more turns left than bytes, and then step by step along each statement.
use Rattle.std.proofs.Common.{◌≡◌, ℕ, zero, suc, ◌+◌, ◌<◌, ◌≤◌, eqb, List, ◌∷◌, ◌++◌, length, Result, Ok, refl, ap, ◌∙◌, nat_lt, arith}
use Rattle.std.proofs.lemmas.Bool.{ne_eqb, le-ltb}
use Rattle.std.specs.Prelude.{codes}
use Rattle.script_grammar.specs.declared.refusal.Refusal.{Refusal}
use Rattle.script_grammar.specs.Tokens.{Token, Place, next, word, mark}
use Rattle.script_grammar.specs.Words.{is_the_mark, is_the_word}
use Rattle.script_grammar.specs.Trees.{Sum, sum_tokens, Member, generator, jacobian, member_tokens, Members, only, more, members_tokens, poly, again, ideal, one}
use Rattle.script_grammar.specs.Steps.{◌>>=◌}
use Rattle.script_grammar.specs.Expressions.{Declarations, expression_at}
use Rattle.script_grammar.specs.Statements.{poly_at, member_at, generators, count_of, members_at, ideal_at, members_from}
use Rattle.script_grammar.specs.Valid.{Stand, IsNew, IsOneOf, ValidSum, ValidMember, ValidMembers}
use Rattle.script_grammar.specs.Places.{Placed, EndsSum}
use Rattle.script_grammar.proofs.Steps.{Stand-split}
use Rattle.script_grammar.proofs.Places.{next_placed, stand_placed, behind_mark}
use Rattle.script_grammar.proofs.FirstTokens.{not_this, sum_first, members_no_std}
use Rattle.script_grammar.proofs.TokensAreRead.{not_mark}
use Rattle.script_grammar.proofs.ValidExpressionsAreRead.{expression_again}
use Rattle.script_grammar.proofs.StepsAreRead.{on_then, off_then, read_then, both_then, mark_then, new_name_then, name_among_then, argument_then}

-- No expression goes on at a ;.
semicolon_ends : (t : Place) → t.token ≡ mark 59 → EndsSum t
semicolon_ends t h = record { slash = not_mark 47 59 t h refl; caret = not_mark 94 59 t h refl; star = not_mark 42 59 t h refl; up = not_mark 43 59 t h refl; down = not_mark 45 59 t h refl }

-- No expression goes on at a comma.
comma_ends : (t : Place) → t.token ≡ mark 44 → EndsSum t
comma_ends t h = record { slash = not_mark 47 44 t h refl; caret = not_mark 94 44 t h refl; star = not_mark 42 44 t h refl; up = not_mark 43 44 t h refl; down = not_mark 45 44 t h refl }

-- A valid member that stands there, and has room, is read.
member_again : (known : Declarations) (count : ℕ) (t : Place) (m : Member) (u : Place) → Placed t → Stand t (member_tokens m) u → ValidMember known m → count + generators known m ≤ 64 → EndsSum u → member_at known count t ≡ Ok (m, u)
unfolding member_at
member_again known count t (generator s) u placed p valid fits ends =
    off_then (is_the_word (codes "jacob") t.token) _ _ _ (not_this (codes "jacob") t.token refl (sum_first known 32 t s u p valid))
    (off_then (eqb count 64) _ _ _ (ne_eqb count 64 (λ e. absurd (omega (arith, fits, e))))
    (read_then (expression_at known t) _ (s, u) _ (expression_again known t s u placed p valid ends) refl))
member_again known count t (jacobian name) u placed p valid fits ends =
    on_then (is_the_word (codes "jacob") t.token) _ _ _ (ap (is_the_word (codes "jacob")) p.0)
    (mark_then _ _ _ _ _ p.1.0
    (name_among_then _ name _ _ _ p.1.1.0 valid
    (off_then (nat_lt 64 (count + length known.letters)) _ _ _ (le-ltb 64 (count + length known.letters) fits)
    (mark_then _ _ _ _ _ p.1.1.1.0 (ap (λ (x : Place). Ok (jacobian name, x)) p.1.1.1.1)))))

-- the loop over members stands at u with these members
abbrev MembersAt : Declarations → Place → Members → Place → Type 0
MembersAt known t ms u = (n : ℕ) × (u.left < n) × (members_from known t ≡ members_at n known ms u)

-- A loop over members takes one more member behind a comma.
members_on : (known : Declarations) (whole : Result (Members × Place) Refusal) (n : ℕ) (ms : Members) (m : Member) (k u : Place)
    → k.token ≡ mark 44 → k.left < n → u.left < k.left → whole ≡ members_at n known ms k → member_at known (count_of known ms) (next k.rest) ≡ Ok (m, u) → (l : ℕ) × (u.left < l) × (whole ≡ members_at l known (more ms m) u)
unfolding members_at
members_on known whole zero ms m k u here room less so_far reads = absurd (omega arith)
members_on known whole (suc n) ms m k u here room less so_far reads =
    let one_more : members_at (suc n) known ms k ≡ members_at n known (more ms m) u = on_then (is_the_mark 44 k.token) _ _ _ (ap (is_the_mark 44) here) (read_then _ _ (m, u) _ reads refl) in
    (n, omega arith, so_far ∙ one_more)

-- Valid members that stand there are read up to their end and beyond, as a loop goes.
members_goes : (known : Declarations) (t : Place) (ms : Members) (u : Place) → Placed t → Stand t (members_tokens ms) u → ValidMembers known ms → count_of known ms ≤ 64 → EndsSum u → MembersAt known t ms u
members_goes known t (only m) u placed p valid fits ends =
    (suc u.left, omega arith, read_then (member_at known 0 t) _ (m, u) _ (member_again known 0 t m u placed p valid (omega (arith, fits)) ends) refl)
members_goes known t (more ms m) u placed p valid fits ends =
    let q = Stand-split t (members_tokens ms) (mark 44 ∷ member_tokens m) u p in
    let k = q.0 in
    let comma = q.2 in
    let kept = stand_placed t (members_tokens ms) k placed q.1 in
    let less = behind_mark k 44 (member_tokens m) u kept.1 comma.0 comma.1 in
    let before = members_goes known t ms k placed q.1 valid.0 (omega (arith, fits)) (comma_ends k comma.0) in
    members_on known (members_from known t) before.0 ms m k u comma.0 before.1 less.0 before.2 (member_again known (count_of known ms) (next k.rest) m u (next_placed k.rest) comma.1 valid.1 fits ends)

-- A loop over members ends at the ;.
members_end : (known : Declarations) (n : ℕ) (ms : Members) (k u : Place) → k.token ≡ mark 59 → next k.rest ≡ u → k.left < n → members_at n known ms k ≡ Ok (ms, u)
unfolding members_at
members_end known zero ms k u here behind room = absurd (omega arith)
members_end known (suc n) ms k u here behind room =
    off_then (is_the_mark 44 k.token) _ _ _ (ap (is_the_mark 44) here)
    (on_then (is_the_mark 59 k.token) _ _ _ (ap (is_the_mark 59) here) (ap (λ (x : Place). Ok (ms, x)) behind))

-- the tokens behind the word poly
abbrev pub poly_tail : List ℕ → Sum → List Token
poly_tail name s = word name ∷ mark 61 ∷ (sum_tokens s ++ one (mark 59))

-- The valid statement of a polynomial is read from behind its word on.
pub poly_again : (known : Declarations) (t : Place) (name : List ℕ) (s : Sum) (u : Place) → Stand t (poly_tail name s) u → IsNew known name → ValidSum known 32 s → poly_at known t ≡ Ok (poly name s, u)
unfolding poly_at
poly_again known t name s u p new valid =
    let equals = next t.rest in
    let start = next equals.rest in
    let q = Stand-split start (sum_tokens s) (one (mark 59)) u p.1.1 in
    new_name_then known name t _ _ p.0 new
    (mark_then _ _ _ _ _ p.1.0
    (read_then (expression_at known start) _ (s, q.0) _ (expression_again known start s q.0 (next_placed equals.rest) q.1 valid (semicolon_ends q.0 q.2.0))
    (mark_then _ _ _ _ _ q.2.0 (ap (λ (x : Place). Ok (poly name s, x)) q.2.1))))

-- the tokens behind the word ideal, where the ideal is another one
abbrev pub again_tail : List ℕ → List ℕ → List Token
again_tail name other = word name ∷ mark 61 ∷ word (codes "std") ∷ mark 40 ∷ word other ∷ mark 41 ∷ one (mark 59)

-- A second name for an ideal is read from behind the word ideal on.
pub ideal_named_again : (known : Declarations) (t : Place) (name other : List ℕ) (u : Place) → Stand t (again_tail name other) u → IsNew known name → IsOneOf known.ideals other → ideal_at known t ≡ Ok (again name other, u)
unfolding ideal_at
ideal_named_again known t name other u p new valid =
    let start = next (next t.rest).rest in
    new_name_then known name t _ _ p.0 new
    (mark_then _ _ _ _ _ p.1.0
    (on_then (is_the_word (codes "std") start.token) _ _ _ (ap (is_the_word (codes "std")) p.1.1.0)
    (argument_then known.ideals other _ _ _ p.1.1.1.0 p.1.1.1.1.0 p.1.1.1.1.1.0 valid
    (mark_then _ _ _ _ _ p.1.1.1.1.1.1.0 (ap (λ (x : Place). Ok (again name other, x)) p.1.1.1.1.1.1.1)))))

-- the tokens behind the word ideal, where the ideal has members
abbrev pub ideal_tail : List ℕ → Members → List Token
ideal_tail name ms = word name ∷ mark 61 ∷ (members_tokens ms ++ one (mark 59))

-- The valid statement of an ideal by its members is read from behind its word on.
pub ideal_again : (known : Declarations) (t : Place) (name : List ℕ) (ms : Members) (u : Place) → Stand t (ideal_tail name ms) u → IsNew known name → ValidMembers known ms → count_of known ms ≤ 64 → ideal_at known t ≡ Ok (ideal name ms, u)
unfolding ideal_at
ideal_again known t name ms u p new valid fits =
    let equals = next t.rest in
    let start = next equals.rest in
    let q = Stand-split start (members_tokens ms) (one (mark 59)) u p.1.1 in
    let k = q.0 in
    let g = members_goes known start ms k (next_placed equals.rest) q.1 valid fits (semicolon_ends k q.2.0) in
    let whole : members_from known start ≡ Ok (ms, u) = g.2 ∙ members_end known g.0 ms k u q.2.0 q.2.1 g.1 in
    new_name_then known name t _ _ p.0 new
    (mark_then _ _ _ _ _ p.1.0
    (off_then (is_the_word (codes "std") start.token) _ _ _ (members_no_std known start ms k q.1 valid)
    (read_then (members_from known start) _ (ms, u) _ whole refl)))
