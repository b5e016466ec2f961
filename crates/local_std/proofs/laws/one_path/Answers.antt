use Rattle.local_std.proofs.Lines.{one_path}
use Rattle.local_std.proofs.laws.one_path.Goals as goal

pub returns : goal.returns
returns c = λ words path other a b. one_path words path other a b
