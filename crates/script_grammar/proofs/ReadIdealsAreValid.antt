-- The polynomials and ideals that are read stand there, and are valid.
-- A member by its kind, members by induction on the turns of their loop, and then step by step along each statement.
use Rattle.std.proofs.Common.{◌≡◌, ℕ, zero, suc, ◌+◌, ◌≤◌, Bool, true, false, cond, not, ◌||◌, eqb, List, ◌∷◌, ◌++◌, length, Result, Ok, Err, refl, ap, subst, ◌∙◌, inl, inr, nat_lt, arith}
use Rattle.std.proofs.lemmas.Bool.{eqb-false, ltb-false}
use Rattle.std.specs.Prelude.{codes}
use Rattle.script_grammar.specs.declared.refusal.Refusal.{Refusal}
use Rattle.script_grammar.specs.Tokens.{Place, next, word, mark}
use Rattle.script_grammar.specs.Words.{is_numeral, is_one_of, keywords, is_short, has_large, is_the_mark, is_the_word, is_word, word_of}
use Rattle.script_grammar.specs.Trees.{sum_tokens, Member, member_tokens, Members, only, more, members_tokens, Statement, statement_tokens, one}
use Rattle.script_grammar.specs.Steps.{◌>>=◌}
use Rattle.script_grammar.specs.Expressions.{Declarations}
use Rattle.script_grammar.specs.Statements.{argument_at, poly_at, no_room, member_at, generators, count_of, members_at, ideal_at}
use Rattle.script_grammar.specs.Valid.{Stand, IsOneOf, ValidMember, ValidMembers, ValidStatement}
use Rattle.script_grammar.proofs.Steps.{ok_is, bind_ok, chosen, went_on, went_in, mark_is, word_is, Stand-then}
use Rattle.script_grammar.proofs.ReadExpressionsAreValid.{expression_found}
use Rattle.script_grammar.proofs.StepsBehindRead.{mark_step, new_name_step, name_among_step}

-- a name in parentheses
pub argument_step : {B : Type 0} (names : List (List ℕ)) (t : Place) (f : List ℕ × Place → Result B Refusal) (y : B) → (argument_at names t >>= f) ≡ Ok y
    → (w : List ℕ) × (t.token ≡ mark 40) × ((next t.rest).token ≡ word w) × ((next (next t.rest).rest).token ≡ mark 41) × IsOneOf names w × (f (w, next (next (next t.rest).rest).rest) ≡ Ok y)
unfolding argument_at
argument_step names t f y e =
    let a = bind_ok _ f y e in
    let opened = mark_step _ _ _ _ _ a.1 in
    let name = name_among_step _ _ _ _ opened.1 in
    let closed = mark_step _ _ _ _ _ name.3 in
    (name.0, opened.0, name.1, closed.0, name.2, ap f (ok_is _ a.0 closed.1) ∙ a.2)

abbrev pub Never : (A : Type 0) → Result A Refusal → Type 0
Never A r = (x : A) → r ≡ Ok x → ⊥

-- A refusal is nothing that is read.
never_refused : (A : Type 0) (d : Refusal) → Never A (Err d)
never_refused A d x e = cc

-- Where both branches of a test read nothing, the test reads nothing.
never_cond : (A : Type 0) (b : Bool) (r s : Result A Refusal) → Never A r → Never A s → Never A (cond b r s)
never_cond A true r s p q = p
never_cond A false r s p q = q

-- where there is no room for a member, none is read
pub no_room_never : (A : Type 0) (known : Declarations) (t : Place) → Never A (no_room {A = A} known t)
no_room_never A known t =
    never_cond A (is_word t.token) _ _ (never_refused A _)
    (never_cond A (is_the_mark 40 t.token || (is_the_mark 43 t.token || is_the_mark 45 t.token)) _ _ (never_refused A _) (never_refused A _))

pub record MemberIs (known : Declarations) (count : ℕ) (t : Place) (x : Member × Place) : Type 0 where
  pub stand : Stand t (member_tokens x.0) x.1
  pub valid : ValidMember known x.0
  pub fits : count + generators known x.0 ≤ 64

-- A member that is read stands there, is valid, and has room behind the generators before it.
pub member_found : (known : Declarations) (count : ℕ) (t : Place) (x : Member × Place) → count ≤ 64 → member_at known count t ≡ Ok x → MemberIs known count t x
unfolding member_at
member_found known count t x room e =
    let branch = chosen (is_the_word (codes "jacob") t.token) _ _ _ e in
    elim branch [
      | inl yea ↦
          let opened = mark_step _ _ _ _ _ yea.1 in
          let name = name_among_step _ _ _ _ opened.1 in
          let g = went_on (nat_lt 64 (count + length known.letters)) _ _ x name.3 in
          let closed = mark_step _ _ _ _ _ g.1 in
          subst (λ (y : Member × Place). MemberIs known count t y) (ok_is _ x closed.1)
          (record { stand = (word_is (codes "jacob") t.token yea.0, (opened.0, (name.1, (closed.0, refl)))); valid = name.2; fits = ltb-false 64 _ g.0 })
      | inr nay ↦
          let full = chosen (eqb count 64) _ _ _ nay.1 in
          elim full [
            | inl yea ↦ absurd (no_room_never _ known t x yea.1)
            | inr some ↦
                let a = bind_ok _ _ _ some.1 in
                let s = expression_found known t a.0 a.1 in
                subst (λ (y : Member × Place). MemberIs known count t y) (ok_is _ x a.2)
                (record { stand = s.0; valid = s.1; fits = omega (arith, eqb-false count 64 some.0) })
          ]
    ]

pub record MembersAre (known : Declarations) (t : Place) (ms : Members) (u : Place) : Type 0 where
  pub stand : Stand t (members_tokens ms) u
  pub valid : ValidMembers known ms
  pub fits : count_of known ms ≤ 64

pub record MembersRead (known : Declarations) (t : Place) (x : Members × Place) : Type 0 where
  pub stand : Stand t (members_tokens x.0 ++ one (mark 59)) x.1
  pub valid : ValidMembers known x.0
  pub fits : count_of known x.0 ≤ 64

-- Members that a loop reads are valid with those before, and at most 64 generators.
pub members_found : (n : ℕ) (known : Declarations) (start : Place) (ms : Members) (t : Place) (x : Members × Place) → MembersAre known start ms t → members_at n known ms t ≡ Ok x → MembersRead known start x
unfolding members_at
members_found zero known start ms t x so_far e = absurd cc
members_found (suc n) known start ms t x so_far e =
    let branch = chosen (is_the_mark 44 t.token) _ _ _ e in
    elim branch [
      | inl yea ↦
          let a = bind_ok _ _ _ yea.1 in
          let m = member_found known (count_of known ms) (next t.rest) a.0 so_far.fits a.1 in
          members_found n known start (more ms a.0.0) a.0.1 x
          (record {
            stand = Stand-then start (members_tokens ms) t (mark 44 ∷ member_tokens a.0.0) a.0.1 so_far.stand (mark_is 44 t.token yea.0, m.stand);
            valid = (so_far.valid, m.valid);
            fits = m.fits;
          }) a.2
      | inr nay ↦
          let g = went_in (is_the_mark 59 t.token) _ _ _ nay.1 in
          subst (λ (y : Members × Place). MembersRead known start y) (ok_is (ms, next t.rest) x g.1)
          (record { stand = Stand-then start (members_tokens ms) t (one (mark 59)) (next t.rest) so_far.stand (mark_is 59 t.token g.0, refl); valid = so_far.valid; fits = so_far.fits })
    ]

abbrev pub StatementIs : Declarations → ℕ → Place → Statement × Place → Type 0
StatementIs known count t x = Stand t (statement_tokens x.0) x.1 × ValidStatement known count x.0

-- The statement of a polynomial that is read stands there and is valid.
pub poly_found : (known : Declarations) (count : ℕ) (t : Place) (x : Statement × Place) → t.token ≡ word (codes "poly") → poly_at known (next t.rest) ≡ Ok x → StatementIs known count t x
unfolding poly_at
poly_found known count t x here e =
    let name = new_name_step known _ _ _ e in
    let equals = mark_step _ _ _ _ _ name.3 in
    let sum = bind_ok _ _ _ equals.1 in
    let s = expression_found known _ sum.0 sum.1 in
    let after = mark_step _ _ _ _ _ sum.2 in
    subst (λ (y : Statement × Place). StatementIs known count t y) (ok_is _ x after.1)
    ((here, (name.1, (equals.0, Stand-then _ (sum_tokens sum.0.0) sum.0.1 (one (mark 59)) _ s.0 (after.0, refl)))), (name.2, s.1))

-- The statement of an ideal that is read stands there and is valid.
pub ideal_found : (known : Declarations) (count : ℕ) (t : Place) (x : Statement × Place) → t.token ≡ word (codes "ideal") → ideal_at known (next t.rest) ≡ Ok x → StatementIs known count t x
unfolding ideal_at
ideal_found known count t x here e =
    let name = new_name_step known _ _ _ e in
    let equals = mark_step _ _ _ _ _ name.3 in
    let start = next (next (next t.rest).rest).rest in
    let branch = chosen (is_the_word (codes "std") start.token) _ _ _ equals.1 in
    elim branch [
      | inl yea ↦
          let a = argument_step known.ideals _ _ _ yea.1 in
          let after = mark_step _ _ _ _ _ a.5 in
          subst (λ (y : Statement × Place). StatementIs known count t y) (ok_is _ x after.1)
          ((here, (name.1, (equals.0, (word_is (codes "std") start.token yea.0, (a.1, (a.2, (a.3, (after.0, refl)))))))), (name.2, a.4))
      | inr nay ↦
          let all = bind_ok _ _ _ nay.1 in
          let first = bind_ok (member_at known 0 start) _ all.0 all.1 in
          let m = member_found known 0 start first.0 (omega arith) first.1 in
          let ms = members_found _ known start (only first.0.0) first.0.1 all.0 (record { stand = m.stand; valid = m.valid; fits = omega (arith, m.fits) }) first.2 in
          subst (λ (y : Statement × Place). StatementIs known count t y) (ok_is _ x all.2)
          ((here, (name.1, (equals.0, ms.stand))), (name.2, ms.valid, ms.fits))
    ]
