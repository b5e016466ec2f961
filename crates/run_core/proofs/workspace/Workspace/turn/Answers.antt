use Rattle.std.proofs.Common.{◌<◌, length, sym, subst}
use Rattle.sparse_poly.specs.Ideal.{IsProblem}
use Rattle.mora_law.specs.Tickets.{total}
use Rattle.run_core.specs.Plain.{Plain, plain_claimed}
use Rattle.run_core.specs.Work.{HasClaimed}
use Rattle.run_core.proofs.Turns.{entries_few, claims_one}
use Rattle.run_core.proofs.workspace.Workspace.turn.Goals as goal

pub claim-requires-clause-few : goal.claim-requires-clause-few
claim-requires-clause-few c = entries_few c.args.board.now c.args.self.now (subst IsProblem c.requires.problem c.n-problem.ensures.problem) c.requires.ready

pub work-requires-clause-claimed : goal.work-requires-clause-claimed
work-requires-clause-claimed c =
    let b : Plain = c.args.board.now in
    let some = c.in-Some.ensures.some in
    let less = subst (λ k. k < total (length b.problem.gens) (length b.entries)) some.0 some.1 in
    subst (λ (x : Plain). HasClaimed x c.args.self.now c.in-Some.ticket) (sym some.2)
    (subst (λ k. HasClaimed (plain_claimed b) c.args.self.now k) (sym some.0) (claims_one b c.args.self.now c.requires.ready c.requires.count less))
