-- An expression in a script: what is refused in it has its cause in the script.
-- What stands before begins a valid expression; where one is in it, one is so in the script.
use Rattle.std.proofs.Common.{◌≡◌, suc, ◌<◌, List, ◌++◌, Err, refl, subst, inl, arith}
use Rattle.script_grammar.specs.declared.refusal.Refusal.{Refusal}
use Rattle.script_grammar.specs.Tokens.{Token, Place}
use Rattle.script_grammar.specs.Trees.{Sum}
use Rattle.script_grammar.specs.Expressions.{Declarations, expression_at}
use Rattle.script_grammar.specs.Places.{Placed}
use Rattle.script_grammar.specs.First.{IsLate}
use Rattle.script_grammar.specs.Spots.{Spot, the_ring, the_noether, a_statement, just, the_ring_name, the_characteristic, a_variable, behind_variable, a_factor, behind_monomial, a_new_name, a_name_of, an_operand, the_divisor, an_exponent, behind_power, behind_jacobian, no_room, BeforeSum, BeginsSum, SpotInSum, Here}
use Rattle.script_grammar.specs.Causes.{HasCauseInSum}
use Rattle.script_grammar.proofs.ByTokens.{Any, Local}
use Rattle.script_grammar.proofs.ExpressionsByTokens.{SpellsSum, expression_local}
use Rattle.script_grammar.proofs.TreeTokens.{AreTokens, AreTokens-front, AreTokens-sum}
use Rattle.script_grammar.proofs.CauseSteps.{Leads, Leads-then, Caused, cause_of}
use Rattle.script_grammar.proofs.SumCauses.{expression_caused}

-- Where one is behind tokens that begin an expression, one is so in a script.
here_in_sum : (known : Declarations) (spot : Spot) (c tokens : List Token) → BeforeSum known c → BeginsSum known tokens → SpotInSum spot tokens → Here known spot (c ++ tokens)
here_in_sum known (an_operand sign deep) c tokens may begins h = (tokens, h, begins, (c, may, refl))
here_in_sum known the_divisor c tokens may begins h = (tokens, h, begins, (c, may, refl))
here_in_sum known an_exponent c tokens may begins h = inl (tokens, h, begins, (c, may, refl))
here_in_sum known (behind_power ends) c tokens may begins h = inl (tokens, h, begins, (c, may, refl))
here_in_sum known the_ring c tokens may begins h = absurd h
here_in_sum known the_noether c tokens may begins h = absurd h
here_in_sum known (a_statement count) c tokens may begins h = absurd h
here_in_sum known (just i) c tokens may begins h = absurd h
here_in_sum known the_ring_name c tokens may begins h = absurd h
here_in_sum known the_characteristic c tokens may begins h = absurd h
here_in_sum known a_variable c tokens may begins h = absurd h
here_in_sum known behind_variable c tokens may begins h = absurd h
here_in_sum known a_factor c tokens may begins h = absurd h
here_in_sum known behind_monomial c tokens may begins h = absurd h
here_in_sum known a_new_name c tokens may begins h = absurd h
here_in_sum known (a_name_of names) c tokens may begins h = absurd h
here_in_sum known behind_jacobian c tokens may begins h = absurd h
here_in_sum known no_room c tokens may begins h = absurd h

-- Each refusal in an expression of a script has its cause.
pub sum_in_script : (s : Place) (known : Declarations) (c : List Token) (t : Place) (f : Refusal) → 1 < known.prime → Leads s c t → Placed t → BeforeSum known c → expression_at known t ≡ Err f → Caused s f
sum_in_script s known c t f prime st placed may e =
    let law : Local IsLate Sum (suc t.left) Any (expression_at known) (SpellsSum known 32) = expression_local known prime in
    let r = law.refuses t f (omega arith) placed tt e in
    let why = expression_caused known t f placed e in
    let b = r.begun in
    let tokens : AreTokens r.before = AreTokens-front r.before b.1 (subst AreTokens b.2.0 (AreTokens-sum b.0)) in
    let begins : BeginsSum known r.before = (b.0, b.1, b.2.0, b.2.1) in
    let cause = cause_of (λ kind before p. HasCauseInSum kind known before p) t f r.before why.before r.place why.place r.kind why.kind placed (r.to_place, tokens) why.stand r.is why.is why.cause in
    record {
      before = c ++ r.before;
      place = r.place;
      kind = r.kind;
      stand = Leads-then s c t r.before r.place st r.to_place tokens;
      is = r.is;
      cause = (known, inl (cause.0, here_in_sum known cause.0 c r.before may begins cause.1, cause.2));
    }
