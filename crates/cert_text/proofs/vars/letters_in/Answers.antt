use Rattle.std.proofs.Common.{sym, ◌∙◌, ap, take, arith}
use Rattle.std.specs.Prelude.{option_and_then}
use Rattle.std.proofs.lemmas.List.{take_all}
use Rattle.cert_grammar.specs.Reading.{if_letters}
use Rattle.cert_text.proofs.LetterReads.{letters_new, bytes_end, bytes_empty}
use Rattle.cert_text.proofs.vars.letters_in.Goals as goal

pub returns-in_default : goal.returns-in_default
returns-in_default c =
    letters_new c.new.result (take c.loop-i.i c.loop-i.bytes) c.new.ensures.some c.new.ensures.none
    ∙ ap (option_and_then if_letters) (bytes_end (take c.loop-i.i c.loop-i.bytes) c.loop-i.left _ (sym c.in_default.ensures) c.loop-i.invariant.so_far)

pub returns-then-is_ended : goal.returns-then-is_ended
returns-then-is_ended c =
    letters_new c.new-then-is_ended.result c.loop-i.bytes c.new-then-is_ended.ensures.some c.new-then-is_ended.ensures.none
    ∙ ap if_letters (sym (take_all c.loop-i.i c.loop-i.bytes (omega (arith, c.loop-i.invariant.full, c.loop-i-test.false))))
    ∙ ap (option_and_then if_letters) (bytes_empty (take c.loop-i.i c.loop-i.bytes) c.loop-i.left _ (sym c.is_ended.ensures ∙ c.if-is_ended.true) c.loop-i.invariant.so_far)
