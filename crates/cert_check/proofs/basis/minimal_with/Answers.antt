use Rattle.std.proofs.Common.{sym, ◌∙◌, arith}
use Rattle.mora_law.specs.Ring.{ranks_of_problem}
use Rattle.mora_law.specs.Entries.{basis_of}
use Rattle.cert_check.proofs.Minimal.{minimal_there, minimal_nowhere}
use Rattle.cert_check.proofs.basis.minimal_with.Goals as goal

pub returns-then-is_minimal : goal.returns-then-is_minimal
returns-then-is_minimal c = minimal_there (ranks_of_problem c.args.problem.now) (basis_of c.args.entries.now) c.args.r c.loop-k.k (omega (arith, c.loop-k-test.true, c.len-k-end.ensures)) (sym c.lead_of.ensures.value ∙ c.if-lead_of-r.true) (sym c.if-is_minimal.true ∙ c.is_minimal.ensures) c.loop-k.invariant

pub returns : goal.returns
returns c = minimal_nowhere (ranks_of_problem c.args.problem.now) (basis_of c.args.entries.now) c.args.r c.loop-k.k (omega (arith, c.loop-k-test.false, c.len-k-end.ensures)) c.loop-k.invariant
