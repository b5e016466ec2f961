use Rattle.local_std.proofs.OneText.{one_text}
use Rattle.local_std.proofs.laws.one_text.Goals as goal

pub returns : goal.returns
returns c = λ s text other a b. one_text s text other a b
