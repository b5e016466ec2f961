use Rattle.std.proofs.Common.{le_trans}
use Rattle.mora_law.proofs.Problems.{past_corner}
use Rattle.run_core.proofs.laws.cut_terms_are_members.Goals as goal

pub returns : goal.returns
returns c s m ok long low rank = past_corner s.problem ok.problem s.entries ok.legal m long low (le_trans ok.covers rank)
