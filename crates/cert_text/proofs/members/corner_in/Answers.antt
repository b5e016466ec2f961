use Rattle.std.proofs.Common.{Some, None, false, sym, ◌∙◌, ap, codes}
use Rattle.std.specs.Prelude.{eqb}
use lib.Pointwise.{pointwise}
use Rattle.std.specs.Option.{option_map}
use Rattle.cert_grammar.specs.Lines.{words_of}
use Rattle.cert_text.proofs.LineReads.{corner_told, corner_by}
use Rattle.cert_text.proofs.WordReads.{pointwise_same}
use Rattle.cert_text.proofs.members.corner_in.Goals as goal

pub returns-in-Some : goal.returns-in-Some
returns-in-Some c =
    sym (corner_told c.args.ring.now (words_of c.args.line.now) (Some c.in_ok-word.word.now) (sym c.word_behind.ensures ∙ ap (option_map (λ s. s.now)) c.in_ok-word.was)
    ∙ corner_by c.args.ring.now c.in_ok-word.word.now false (Some c.in-Some.m) (sym (pointwise_same c.in_ok-word.word.now (codes "none")) ∙ (ap (pointwise eqb c.in_ok-word.word.now) (sym c.as_slice.ensures) ∙ (sym c.eq.ensures ∙ c.if-eq.false))) (sym c.mono_in_word.ensures ∙ c.in-Some.is))

pub returns-in-None : goal.returns-in-None
returns-in-None c =
    sym (corner_told c.args.ring.now (words_of c.args.line.now) (Some c.in_ok-word.word.now) (sym c.word_behind.ensures ∙ ap (option_map (λ s. s.now)) c.in_ok-word.was)
    ∙ corner_by c.args.ring.now c.in_ok-word.word.now false None (sym (pointwise_same c.in_ok-word.word.now (codes "none")) ∙ (ap (pointwise eqb c.in_ok-word.word.now) (sym c.as_slice.ensures) ∙ (sym c.eq.ensures ∙ c.if-eq.false))) (sym c.mono_in_word.ensures ∙ c.in-None.is))
