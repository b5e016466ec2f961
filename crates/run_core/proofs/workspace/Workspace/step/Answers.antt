use Rattle.std.proofs.Common.{◌≡◌, ◌∷◌, [], length, sym, ◌∙◌, ap, ap₂, subst, arith, length-append}
use Rattle.entry_code.specs.declared.reading.Reading.{Reading}
use Rattle.run_core.specs.declared.workspace.Workspace.{Workspace}
use Rattle.run_core.specs.Plain.{Plain, plain_corner}
use Rattle.run_core.specs.Work.{IsRunning, HasRunTo}
use Rattle.run_core.proofs.Working.{own_corner, lower_corner, known_small, reads_are, stepped, goes_on}
use Rattle.run_core.proofs.workspace.Workspace.step.Goals as goal

pub overflow_cast-known : goal.overflow_cast-known
overflow_cast-known c = omega (arith, known_small c.args.board.now c.args.self.now c.requires.running, c.len-known.ensures, ap length c.entries.ensures)

pub corner-corner-requires-clause-own : goal.corner-corner-requires-clause-own
corner-corner-requires-clause-own c = own_corner c.args.board.now c.args.self.now c.requires.running c.corner.result c.corner.ensures.least

pub step-requires-clause-corners : goal.step-requires-clause-corners
step-requires-clause-corners c = λ k d l. omega (arith, c.corner-corner.ensures.value, lower_corner c.args.board.now c.args.self.now c.requires.running k d l)

pub returns-clause-one_more : goal.returns-clause-one_more
returns-clause-one_more c =
    let b : Plain = c.args.board.now in
    let r = c.requires.running in
    let d : Reading = record { known = c.len-known.result; corner = c.corner-corner.result } in
    let is : d ≡ record { known = length b.entries; corner = plain_corner b } = ap₂ (λ k x. record { known = k; corner = x }) (c.len-known.ensures ∙ ap length c.entries.ensures) c.corner-corner.ensures.value in
    let reads = reads_are b c.args.self.now r d is c.step.new.self c.step.result c.step.ensures.value c.step.ensures.end (c.step.ensures.run b.problem b.entries r.holds.knows r.run) in
    omega (arith, ap length reads, length-append c.args.self.now.mora.reads (d ∷ []))

pub returns-clause-reduced : goal.returns-clause-reduced
returns-clause-reduced c = λ reduced.
    let b : Plain = c.args.board.now in
    let r = c.requires.running in
    let w : Workspace = c.args.self.now in
    let d : Reading = record { known = c.len-known.result; corner = c.corner-corner.result } in
    let is : d ≡ record { known = length b.entries; corner = plain_corner b } = ap₂ (λ k x. record { known = k; corner = x }) (c.len-known.ensures ∙ ap length c.entries.ensures) c.corner-corner.ensures.value in
    subst (λ (x : Plain). IsRunning x (record w { mora = c.step.new.self })) (sym c.corner-corner.ensures.board)
    (goes_on b w r d is c.step.new.self c.step.result c.step.ensures.value c.step.ensures.end (c.step.ensures.run b.problem b.entries r.holds.knows r.run) reduced c.step.ensures.still_open)

pub returns-clause-run : goal.returns-clause-run
returns-clause-run c =
    let b : Plain = c.args.board.now in
    let r = c.requires.running in
    let w : Workspace = c.args.self.now in
    let d : Reading = record { known = c.len-known.result; corner = c.corner-corner.result } in
    let is : d ≡ record { known = length b.entries; corner = plain_corner b } = ap₂ (λ k x. record { known = k; corner = x }) (c.len-known.ensures ∙ ap length c.entries.ensures) c.corner-corner.ensures.value in
    subst (λ (x : Plain). HasRunTo x (record w { mora = c.step.new.self }) c.step.result) (sym c.corner-corner.ensures.board)
    (stepped b w r d is c.step.new.self c.step.result c.step.ensures.value c.step.ensures.end (c.step.ensures.run b.problem b.entries r.holds.knows r.run))
