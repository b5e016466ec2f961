use Rattle.local_std.proofs.Lines.{one_count}
use Rattle.local_std.proofs.laws.one_count.Goals as goal

pub returns : goal.returns
returns c = λ words count other a b. one_count words count other a b
