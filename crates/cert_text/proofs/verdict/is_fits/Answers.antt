use Rattle.std.proofs.Common.{sym, ◌∙◌, ap, codes}
use Rattle.std.specs.Prelude.{eqb}
use lib.Pointwise.{pointwise}
use Rattle.std.specs.Option.{option_map}
use Rattle.cert_grammar.specs.Lines.{words_of}
use Rattle.cert_text.proofs.WordReads.{pointwise_same}
use Rattle.cert_text.proofs.StairReads.{one_given, is_word}
use Rattle.cert_text.proofs.verdict.is_fits.Goals as goal

pub returns : goal.returns
returns c =
    sym (one_given (codes "fits") (words_of c.args.line.now)
    ∙ ap (is_word (codes "fits")) (sym c.alone_in.ensures ∙ ap (option_map (λ s. s.now)) c.in-Some.is)
    ∙ (sym (pointwise_same c.in-Some.word.now (codes "fits")) ∙ ap (pointwise eqb c.in-Some.word.now) (sym c.as_slice.ensures) ∙ sym c.eq.ensures))
