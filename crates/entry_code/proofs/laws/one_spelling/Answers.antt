use Rattle.entry_code.proofs.Spellings as spellings
use Rattle.entry_code.proofs.laws.one_spelling.Goals as goal

pub returns : goal.returns
returns c = spellings.one_spelling
