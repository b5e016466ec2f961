use Rattle.std.proofs.Common.{◌≡◌, ap, arith, sym, ◌∙◌, Some}
use Rattle.run_core.specs.State.{count_of}
use Rattle.reducer_list.specs.View.{Setting}
use Rattle.workers.proofs.Stepping.{few_reads}
use Rattle.workers.proofs.runner.Runner.run.Goals as goal

pub loop-end-smaller : goal.loop-end-smaller
loop-end-smaller c =
    let s = c.step-end-in-loop-end in
    let t = s.ensures.stepped in
    let few = few_reads s.new.self.seat.view s.new.self.space.mora t.hand s.new.self.space t.placed.equipped.known in
    let same : count_of s.new.self.seat.view.setting.problem ≡ count_of c.args.board.now.setting.problem = ap (λ (q : Setting). count_of q.problem) t.placed.board.1 in
    let reduced = c.loop-end.invariant.0.ended ∙ ap Some (c.has_reduced.ensures.yes c.loop-end-test.true) in
    let more = s.ensures.more (λ z. absurd (cc (sym reduced ∙ z))) in
    omega (arith, few, same, more)
