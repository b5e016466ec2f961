use Rattle.mora_law.proofs.Problems.{monic, member_is, past_corner}
use Rattle.mora_law.proofs.EntryPolynomials.{legal_by_rank}
use Rattle.mora_law.proofs.laws.members.Goals as goal

pub returns-clause-monic : goal.returns-clause-monic
returns-clause-monic c P entries h legal = monic P h entries legal

pub returns-clause-by_rank : goal.returns-clause-by_rank
returns-clause-by_rank c P entries h legal = legal_by_rank P h entries legal

pub returns-clause-entries : goal.returns-clause-entries
returns-clause-entries c P entries e h legal = member_is P h entries legal e

pub returns-clause-corner : goal.returns-clause-corner
returns-clause-corner c P entries m h legal = past_corner P h entries legal m
