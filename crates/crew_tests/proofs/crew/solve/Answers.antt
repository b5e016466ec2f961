use Rattle.std.proofs.Common.{◌≡◌, ◌∙◌, ap, subst}
use Rattle.sparse_poly.specs.Ideal.{Problem}
use Rattle.mora_law.specs.Legal.{Legal}
use Rattle.run_core.specs.Idle.{SettlesAll}
use Rattle.reducer_list.specs.View.{Board, Setting}
use Rattle.crew_tests.proofs.crew.solve.Goals as goal

-- a board that has stayed as it was is of the problem for which it was opened
problem_of : (b opened : Board) (s : Setting) → b ≡ opened → opened.setting ≡ s → b.setting.problem ≡ s.problem
problem_of b opened s stays is = ap (λ (x : Board). x.setting.problem) stays ∙ ap (λ (x : Setting). x.problem) is

pub returns-clause-legal : goal.returns-clause-legal
returns-clause-legal g c =
    subst (λ (P : Problem). Legal P c.in_ok-finished.finished.entries) (problem_of _ _ _ c.run_rounds.ensures.board c.in_ok-crew.ensures.setting) c.in_ok-finished.ensures.legal

pub returns-clause-settled : goal.returns-clause-settled
returns-clause-settled g c =
    subst (λ (P : Problem). SettlesAll P c.in_ok-finished.finished.entries) (problem_of _ _ _ c.run_rounds.ensures.board c.in_ok-crew.ensures.setting) c.in_ok-finished.ensures.settled
