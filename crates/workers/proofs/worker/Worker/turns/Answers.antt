use Rattle.std.proofs.Common.{◌≤◌, true, true≢false, sym, ◌∙◌, subst, arith}
use Rattle.reducer_list.specs.View.{Setting, top}
use Rattle.reducer_list.specs.Calls.{tickets_of}
use Rattle.workers.specs.Working.{Working}
use Rattle.workers.specs.Rounds.{HasTakenTurns, all_tickets}
use Rattle.workers.proofs.worker.Worker.turns.Goals as goal

pub returns-in-Idle : goal.returns-in-Idle
returns-in-Idle g c =
    let i = c.loop.invariant in
    let w : Working = c.turn.new.self in
    let e = c.in-Idle.ensures in
    subst (λ (x : Working). HasTakenTurns c.args.board.now c.args.self.now (record x { rests = true })) (sym c.self-in-loop.view_is) (record {
      ready = record { board = e.ready.board; one = e.ready.one; shut = e.ready.shut };
      numbers = e.numbers ∙ i.1;
      more = omega (arith, e.turn.claims, i.3);
      idle = λ _. (e.turn.idle, e.turn.last);
      busy = λ z. absurd (true≢false z);
    })

pub loop-preserved : goal.loop-preserved
loop-preserved g c =
    let i = c.loop.invariant in
    let w : Working = c.turn.new.self in
    let e = c.in-Worked.ensures in
    let few : w.seat.view.seat.claims ≤ all_tickets c.args.board.now.setting = subst (λ (p : Setting). w.seat.view.seat.claims ≤ tickets_of p (top p)) e.ready.board.1 e.turn.few in (
      e.ready,
      e.numbers ∙ i.1,
      e.rests ∙ i.2,
      omega (arith, e.turn.claims, i.3),
      (λ _. (omega (arith, e.turn.claims, i.3), few)),
    )
