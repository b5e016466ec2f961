use Rattle.std.proofs.Common.{sym, ap, ◌∙◌, List, ℕ, Ok}
use Rattle.script_tokens.specs.PlaceView.{place_of}
use Rattle.expression_reader.proofs.Handed.{gives_failed}
use Rattle.ring_reader.proofs.Variables.{letters_listed, fails_same}
use Rattle.ring_reader.proofs.ring.letters.Goals as goal

pub returns-in_err-letters-clause-gives : goal.returns-in_err-letters-clause-gives
returns-in_err-letters-clause-gives c =
    gives_failed _ _ _ _ c.from_residual.ensures.1
    (fails_same _ _ _ (letters_listed c.args.ring.now (place_of c.args.here) (place_of c.behind.result) (sym c.is_mark.ensures.which ∙ c.if-is_mark.true) c.behind.ensures.next) c.in_err-letters.ensures.gives)

pub returns-then-is_mark-clause-gives : goal.returns-then-is_mark-clause-gives
returns-then-is_mark-clause-gives c =
    letters_listed c.args.ring.now (place_of c.args.here) (place_of c.behind.result) (sym c.is_mark.ensures.which ∙ c.if-is_mark.true) c.behind.ensures.next ∙ c.in_ok-letters.ensures.gives
    ∙ ap (λ (l : List ℕ). Ok (l, place_of c.in_ok-letters.after)) (sym (c.letters_of_bytes.ensures ∙ c.deref.ensures.value))
