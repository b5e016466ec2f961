use Rattle.std.proofs.Common.{◌++◌, sym, ap, ◌∙◌}
use Rattle.local_std.proofs.Readings.{some_in, unnamed, unjoined}
use Rattle.local_std.proofs.words.option_value.Goals as goal

pub returns-in-None-clause-none : goal.returns-in-None-clause-none
returns-in-None-clause-none c = λ form value behind v h. unnamed c.args.word.now c.args.name.now c.in-None.ensures.cases form value _ behind h

pub returns-in-None-strip_prefix-clause-none : goal.returns-in-None-strip_prefix-clause-none
returns-in-None-strip_prefix-clause-none c = λ form value behind v h.
    let found = c.in-Some.ensures.cases in
    unjoined c.args.word.now c.args.name.now c.in-Some.tail.now (found.1.1 ∙ ap (λ l. c.args.name.now ++ l) (sym found.2)) (some_in _ c.if-is_empty.ensures)
    c.in-None-strip_prefix.ensures.cases form value _ behind h
