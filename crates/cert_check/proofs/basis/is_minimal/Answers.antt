use Rattle.std.proofs.Common.{◌≡◌, false, sym, ◌∙◌, arith, below_more}
use Rattle.mora_law.specs.Ring.{ranks_of_problem}
use Rattle.mora_law.specs.Entries.{basis_of}
use Rattle.mora_law.specs.Basis.{divides_other}
use Rattle.cert_check.proofs.Minimal.{not_minimal, all_others}
use Rattle.cert_check.proofs.basis.is_minimal.Goals as goal

pub returns-then-divides_other : goal.returns-then-divides_other
returns-then-divides_other c = not_minimal (ranks_of_problem c.args.problem.now) (basis_of c.args.entries.now) c.args.k c.loop-j.j (omega (arith, c.loop-j-test.true, c.len-j-end.ensures)) (sym c.divides_other.ensures ∙ c.if-divides_other.true) c.loop-j.invariant

pub loop-j-preserved : goal.loop-j-preserved
loop-j-preserved c = below_more (λ i. divides_other (ranks_of_problem c.args.problem.now) (basis_of c.args.entries.now) c.args.k i ≡ false) c.loop-j.j c.loop-j.invariant (sym c.divides_other.ensures ∙ c.if-divides_other.false)

pub returns : goal.returns
returns c = all_others (ranks_of_problem c.args.problem.now) (basis_of c.args.entries.now) c.args.k c.loop-j.j (omega (arith, c.loop-j-test.false, c.len-j-end.ensures)) c.loop-j.invariant
