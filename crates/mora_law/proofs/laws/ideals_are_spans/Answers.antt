use Rattle.mora_law.proofs.Spans.{ideal_by_rank, lead_by_rank}
use Rattle.mora_law.proofs.Polynomials.{vector_back, canonical_of_terms}
use Rattle.mora_law.proofs.laws.ideals_are_spans.Goals as goal

pub returns-clause-members : goal.returns-clause-members
returns-clause-members c P f h = ideal_by_rank P h f

pub returns-clause-leads : goal.returns-clause-leads
returns-clause-leads c P m h = lead_by_rank P h m

pub returns-clause-vectors : goal.returns-clause-vectors
returns-clause-vectors c P v h = (canonical_of_terms P h v, vector_back P h v)
