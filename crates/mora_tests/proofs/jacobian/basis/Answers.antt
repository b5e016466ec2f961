use Rattle.std.proofs.Common.{sym, subst}
use Rattle.sparse_poly.specs.Ideal.{Problem}
use Rattle.mora_law.specs.Legal.{Legal}
use Rattle.mora_law.specs.Settled.{AllSettled}
use Rattle.mora_law.specs.Examples.{curve_problem}
use Rattle.mora_law.proofs.CurveExample.{curve_legal, curve_settled}
use Rattle.mora_tests.proofs.jacobian.basis.Goals as goal

pub reduced-requires-clause-legal : goal.reduced-requires-clause-legal
reduced-requires-clause-legal g c = λ κs lives.
    subst (λ (P : Problem). Legal P c.in_ok-entries.entries) (sym c.in_ok-problem.ensures) (subst (Legal curve_problem) (sym c.in_ok-entries.ensures) curve_legal)

pub reduced-requires-clause-settled : goal.reduced-requires-clause-settled
reduced-requires-clause-settled g c = λ κs lives.
    subst (λ (P : Problem). AllSettled P c.in_ok-entries.entries) (sym c.in_ok-problem.ensures) (subst (AllSettled curve_problem) (sym c.in_ok-entries.ensures) curve_settled)
