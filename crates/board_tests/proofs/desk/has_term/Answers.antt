use Rattle.std.proofs.Common.{◌≡◌, ◌∙◌, [], ◌∷◌, ap, sym}
use Rattle.entry_code.specs.declared.term.Term.{Term}
use Rattle.board_tests.proofs.Sitting.{single}
use Rattle.board_tests.proofs.desk.has_term.Goals as goal

pub returns : goal.returns
returns c = λ yes. single c.args.entry.now.terms.list c.get-term.result (sym c.len.ensures ∙ c.if-len-ne1.false) c.get-term.ensures ∙ ap (λ (t : Term). t ∷ []) (c.is_term.ensures yes)
