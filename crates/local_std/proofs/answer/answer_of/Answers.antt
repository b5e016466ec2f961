use Rattle.std.proofs.Common.{◌≡◌, ◌∙◌, ap, subst, inl, List}
use Rattle.entry_code.specs.Entry.{Entry}
use Rattle.sparse_poly.specs.Ideal.{Problem}
use Rattle.mora_law.specs.Legal.{Legal}
use Rattle.mora_law.specs.Settled.{AllSettled}
use Rattle.run_core.specs.Idle.{SettlesAll}
use Rattle.reducer_list.specs.View.{Board, Setting}
use Rattle.local_std.proofs.answer.answer_of.Goals as goal

-- a board that has stayed as it was is of the problem for which it was opened
problem_of : (b opened : Board) (s : Setting) → b ≡ opened → opened.setting ≡ s → b.setting.problem ≡ s.problem
problem_of b opened s stays is = ap (λ (x : Board). x.setting.problem) stays ∙ ap (λ (x : Setting). x.problem) is

-- what a crew at such a board leaves is of this problem
legal_for : (P Q : Problem) (es : List Entry) → P ≡ Q → Legal P es → Legal Q es
legal_for P Q es same legal = subst (λ (R : Problem). Legal R es) same legal

settled_for : (P Q : Problem) (es : List Entry) → P ≡ Q → SettlesAll P es → AllSettled Q es
settled_for P Q es same settled = λ item t l. inl (subst (λ (R : Problem). SettlesAll R es) same settled item t l)

pub answer_by-requires-clause-legal : goal.answer_by-requires-clause-legal
answer_by-requires-clause-legal g c = λ κs lives. legal_for _ _ c.in_ok-finished.finished.entries (problem_of _ _ _ c.run_rounds.ensures.board c.in_ok-crew.ensures.setting) c.in_ok-finished.ensures.legal

pub answer_by-requires-clause-settled : goal.answer_by-requires-clause-settled
answer_by-requires-clause-settled g c = λ κs lives. settled_for _ _ c.in_ok-finished.finished.entries (problem_of _ _ _ c.run_rounds.ensures.board c.in_ok-crew.ensures.setting) c.in_ok-finished.ensures.settled

pub returns-clause-legal : goal.returns-clause-legal
returns-clause-legal g c = legal_for _ _ c.in_ok-finished.finished.entries (problem_of _ _ _ c.run_rounds.ensures.board c.in_ok-crew.ensures.setting) c.in_ok-finished.ensures.legal

pub returns-clause-settled : goal.returns-clause-settled
returns-clause-settled g c = settled_for _ _ c.in_ok-finished.finished.entries (problem_of _ _ _ c.run_rounds.ensures.board c.in_ok-crew.ensures.setting) c.in_ok-finished.ensures.settled
