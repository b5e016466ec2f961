use Rattle.std.proofs.Common.{◌≡◌, ◌∙◌, [], ◌∷◌, sym}
use Rattle.board_tests.proofs.Sitting.{three}
use Rattle.board_tests.proofs.curve.are_terms.Goals as goal

pub returns : goal.returns
returns c = λ yes.
    three c.args.terms.now.list c.get-first.result c.get-second.result c.get-third.result (sym c.len.ensures ∙ c.if-len-ne3.false) c.get-first.ensures c.get-second.ensures c.get-third.ensures
    ∙ (λ i. c.is_term.ensures c.if-not-is_term.false i ∷ c.is_term-2.ensures c.if-not-is_term-2.false i ∷ c.is_term-3.ensures yes i ∷ [])
