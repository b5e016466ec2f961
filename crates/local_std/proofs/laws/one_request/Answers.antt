use Rattle.local_std.proofs.Lines.{one_request}
use Rattle.local_std.proofs.laws.one_request.Goals as goal

pub returns : goal.returns
returns c = λ words request other a b. one_request words request other a b
