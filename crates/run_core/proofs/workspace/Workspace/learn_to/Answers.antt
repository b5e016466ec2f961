use Rattle.std.proofs.Common.{◌≡◌, take, subst, arith}
use Rattle.run_core.specs.Work.{Holds}
use Rattle.run_core.proofs.Replays.{learnt_next}
use Rattle.run_core.proofs.workspace.Workspace.learn_to.Goals as goal

pub loop-k-preserved : goal.loop-k-preserved
loop-k-preserved c = learnt_next c.args.problem.now c.args.entries.now c.args.self.now c.loop-k.k c.loop-k.self c.learn_at.new.self c.loop-k.invariant c.learn_at.ensures.holds c.learn_at.ensures.run c.learn_at.ensures.mora

pub returns-clause-holds : goal.returns-clause-holds
returns-clause-holds c =
    let z : c.loop-k.k ≡ c.args.number = omega (arith, c.loop-k-test.false, c.loop-k.auto.k-end, c.requires.known, c.known-k.ensures) in
    subst (λ n. Holds c.args.problem.now (take n c.args.entries.now) c.loop-k.self) z c.loop-k.invariant.holds
