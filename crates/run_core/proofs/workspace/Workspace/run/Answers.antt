use Rattle.std.proofs.Common.{◌≡◌, ◌∙◌, length, ap, arith}
use Rattle.mora_law.proofs.Ring.{ranks_count, count_is}
use Rattle.run_core.specs.State.{count_of}
use Rattle.run_core.specs.Plain.{Plain}
use Rattle.run_core.proofs.Working.{few_reads}
use Rattle.run_core.proofs.workspace.Workspace.run.Goals as goal

pub loop-end-smaller : goal.loop-end-smaller
loop-end-smaller c =
    let s = c.step-end-in-loop-end in
    let few = few_reads s.new.board s.new.self s.result s.ensures.run in
    let same : count_of s.new.board.problem ≡ count_of c.args.board.now.problem = ap (λ (b : Plain). count_of b.problem) (s.ensures.board) ∙ ap (λ (b : Plain). count_of b.problem) c.loop-end.invariant.same in
    omega (arith, few, s.ensures.one_more, same)

pub overflow_add-self : goal.overflow_add-self
overflow_add-self c =
    let few = few_reads c.loop-end.board c.loop-end.self c.loop-end.end c.loop-end.invariant.run in
    let same : count_of c.loop-end.board.problem ≡ count_of c.args.board.now.problem = ap (λ (b : Plain). count_of b.problem) c.loop-end.invariant.same in
    let P = c.args.board.now.problem in
    omega (arith, few, same, c.requires.small, c.loop-end.invariant.count, c.len.ensures, ap length c.readings.ensures, c.requires.running.problem.monomials, ranks_count P, count_is P)

pub returns-clause-few : goal.returns-clause-few
returns-clause-few c =
    let few = few_reads c.loop-end.board c.loop-end.self c.loop-end.end c.loop-end.invariant.run in
    let same : count_of c.loop-end.board.problem ≡ count_of c.args.board.now.problem = ap (λ (b : Plain). count_of b.problem) c.loop-end.invariant.same in
    omega (arith, few, same)
