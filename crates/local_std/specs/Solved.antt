-- Problems that were solved.
use Rattle.std.specs.Prelude.{◌≡◌, ℕ, List, Some, slice_get}
use Rattle.sparse_poly.specs.Ideal.{Problem, IsProblem}
use Rattle.mora_law.specs.Legal.{Legal}
use Rattle.mora_law.specs.Settled.{AllSettled}
use Rattle.text_out.specs.Answers.{IsInRing}
use Rattle.cert_grammar.specs.declared.certified.Certified.{Certified}
use Rattle.cert_write.specs.Claim.{claim}
use Rattle.local_std.specs.declared.question.Question.{Question}
use Rattle.local_std.specs.declared.question.Question.TheVariants.{Given, Made}
use Rattle.local_std.specs.declared.solved.Solved.{Solved}
use Rattle.local_std.specs.Answer.{IsAnswerOf}

-- the problem of a question
abbrev pub problem_asked : Question → Problem
problem_asked (Given problem) = problem.now
problem_asked (Made problem) = problem

-- the entries are legal for the problem and settle every ticket, and the answer is that of the problem, in its ring
pub record IsSolved (s : Solved) : Type 0 where
  pub problem : IsProblem (problem_asked s.question)
  pub legal : Legal (problem_asked s.question) s.entries
  pub settled : AllSettled (problem_asked s.question) s.entries
  pub value : IsAnswerOf (problem_asked s.question) s.answer
  pub ring : IsInRing (problem_asked s.question).p (problem_asked s.question).n s.answer

-- the problem was solved, and stands at this place
abbrev pub IsPlaceOf : Problem → List Solved → ℕ → Type 0
IsPlaceOf P solved place = (one : Solved) × (slice_get solved place ≡ Some one) × (problem_asked one.question ≡ P)

-- what is claimed of a problem that was solved, in these letters
abbrev pub claim_of : List ℕ → Solved → Certified
claim_of letters one = claim letters (problem_asked one.question) one.entries one.answer
