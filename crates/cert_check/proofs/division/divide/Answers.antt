use Rattle.mora_law.specs.Ring.{ranks_of_problem}
use Rattle.mora_law.specs.Entries.{basis_of}
use Rattle.cert_check.specs.Sparse.{at}
use Rattle.cert_check.proofs.Starts.{positive}
use Rattle.cert_check.proofs.Stepping.{cut_clean}
use Rattle.cert_check.proofs.Dividing.{none_divided, one_divided, all_divided}
use Rattle.cert_check.proofs.division.divide.Goals as goal

pub loop-r-init : goal.loop-r-init
loop-r-init c = (
  none_divided (ranks_of_problem c.args.problem.now) (basis_of c.args.entries.now) c.args.corner (at c.args.h.now.terms) (at c.cut.new.self.terms) c.cut.ensures,
  cut_clean c.args.problem.now c.args.corner (at c.args.h.now.terms) (at c.cut.new.self.terms) (positive c.args.problem.now c.requires.problem) c.cut.ensures c.requires.clean,
)

pub remove-requires-clause-clean : goal.remove-requires-clause-clean
remove-requires-clause-clean c = c.loop-r.invariant.1

pub loop-r-preserved : goal.loop-r-preserved
loop-r-preserved c = (
  one_divided (ranks_of_problem c.args.problem.now) (basis_of c.args.entries.now) c.args.corner c.loop-r.r (at c.loop-r.h.terms) (at c.remove.new.h.terms) _ c.loop-r-test.true c.in_ok-remove.ensures.value c.in_ok-remove.ensures.rest c.loop-r.invariant.0,
  c.in_ok-remove.ensures.clean,
)

pub returns-clause-value : goal.returns-clause-value
returns-clause-value c = all_divided (ranks_of_problem c.args.problem.now) (basis_of c.args.entries.now) c.args.corner c.loop-r.r (at c.loop-r.h.terms) _ c.loop-r-test.false c.loop-r.invariant.0

pub returns-clause-clean : goal.returns-clause-clean
returns-clause-clean c = c.loop-r.invariant.1
