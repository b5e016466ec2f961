use Rattle.local_std.proofs.Existence.{has_answer}
use Rattle.local_std.proofs.laws.every_problem_has_an_answer.Goals as goal

pub returns : goal.returns
returns c = λ P problem. let x = has_answer P problem in (x.answer, x.value)
