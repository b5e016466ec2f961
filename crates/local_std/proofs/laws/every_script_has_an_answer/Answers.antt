use Rattle.local_std.proofs.Progress.{some_answer}
use Rattle.local_std.proofs.laws.every_script_has_an_answer.Goals as goal

pub returns : goal.returns
returns c = λ s coherent. some_answer s coherent
