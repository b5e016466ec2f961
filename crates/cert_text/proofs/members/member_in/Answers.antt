use Rattle.std.proofs.Common.{◌≡◌, Option, Some, sym, ◌∙◌, ap, subst}
use Rattle.std.specs.Prelude.{IfOk}
use Rattle.std.specs.Option.{option_map}
use Rattle.sparse_poly.specs.Poly.{Polynomial}
use Rattle.cert_grammar.specs.Lines.{words_of}
use Rattle.cert_grammar.specs.Words.{nonzero_of_word}
use Rattle.cert_text.proofs.LineReads.{alone_told}
use Rattle.cert_text.proofs.members.member_in.Goals as goal

pub returns : goal.returns
returns c =
    subst (λ (z : Option Polynomial). IfOk c.nonzero_in_word.result (λ o. o ≡ z))
    (sym (alone_told (nonzero_of_word c.args.ring.now) (words_of c.args.line.now) (Some c.in-Some.word.now) (sym c.alone_in.ensures ∙ ap (option_map (λ s. s.now)) c.in-Some.is)))
    c.nonzero_in_word.ensures
