use Rattle.std.proofs.Common.{◌≡◌, ◌<◌, Bool, Ok, sym, ap, ◌∙◌, subst}
use Rattle.std.proofs.lemmas.Result.{IfOk-weaker}
use Rattle.mora_law.specs.Legal.{Legal}
use Rattle.run_core.specs.Idle.{SettlesAll}
use Rattle.run_core.specs.Plain.{Plain}
use Rattle.run_core.specs.Work.{IsReady}
use Rattle.run_core.proofs.Turns.{TurnsOn, to_do, IsOver, fewer_to_do, opens_ready, over, counts_one}
use Rattle.run_core.proofs.plain_run.run_plain.Goals as goal

pub turn-requires-clause-ready : goal.turn-requires-clause-ready
turn-requires-clause-ready c = subst (λ (b : Plain). IsReady b c.in_ok-worker.worker) (sym c.open-board.ensures) (opens_ready c.args.problem.now c.in_ok-worker.worker c.n-problem.ensures.problem c.in_ok-worker.ensures.holds)

pub loop-more-smaller : goal.loop-more-smaller
loop-more-smaller c =
    let t = c.turn-in-loop-more in
    let more : Bool = c.in_ok-more-2.more in
    let e = fewer_to_do c.args.problem.now c.loop-more.board t.new.board t.new.self more (c.in_ok-more-2.ensures.problem ∙ c.loop-more.invariant.problem) c.in_ok-more-2.ensures.ready
    (λ yes. t.ensures.more (c.in_ok-more-2.was ∙ ap Ok yes)) (λ no. ap (λ (b : Plain). b.ticket) (t.ensures.none (c.in_ok-more-2.was ∙ ap Ok no)).1) in
    subst (λ more. to_do c.args.problem.now t.new.board c.in_ok-more-2.more < to_do c.args.problem.now c.loop-more.board more) (sym c.loop-more-test.true) e

pub returns-clause-legal : goal.returns-clause-legal
returns-clause-legal c =
    let done : IsOver c.args.problem.now c.loop-more.board c.loop-more.worker = over c.args.problem.now c.loop-more.board c.loop-more.worker (subst (TurnsOn c.args.problem.now c.loop-more.board c.loop-more.worker) c.loop-more-test.false c.loop-more.invariant) in
    IfOk-weaker c.leave.result (λ f. f.entries ≡ c.loop-more.board.entries) (λ f. Legal c.args.problem.now f.entries) (λ f e. subst (Legal c.args.problem.now) (sym e) done.legal) c.leave.ensures.entries

pub returns-clause-settled : goal.returns-clause-settled
returns-clause-settled c =
    let done : IsOver c.args.problem.now c.loop-more.board c.loop-more.worker = over c.args.problem.now c.loop-more.board c.loop-more.worker (subst (TurnsOn c.args.problem.now c.loop-more.board c.loop-more.worker) c.loop-more-test.false c.loop-more.invariant) in
    IfOk-weaker c.leave.result (λ f. f.entries ≡ c.loop-more.board.entries) (λ f. SettlesAll c.args.problem.now f.entries) (λ f e. subst (SettlesAll c.args.problem.now) (sym e) done.settled) c.leave.ensures.entries

pub returns-clause-count : goal.returns-clause-count
returns-clause-count c =
    let done : IsOver c.args.problem.now c.loop-more.board c.loop-more.worker = over c.args.problem.now c.loop-more.board c.loop-more.worker (subst (TurnsOn c.args.problem.now c.loop-more.board c.loop-more.worker) c.loop-more-test.false c.loop-more.invariant) in
    counts_one c.args.problem.now c.loop-more.board c.loop-more.worker done c.leave.result c.leave.ensures.entries c.leave.ensures.count
