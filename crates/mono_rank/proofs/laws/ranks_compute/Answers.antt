use Rattle.std.proofs.Common.{IsTrue}
use Rattle.mono_rank.proofs.Numbers.{numbering_has_laws, ranks_have_laws}
use Rattle.mono_rank.proofs.laws.ranks_compute.Goals as goal

pub returns-clause-any_order : goal.returns-clause-any_order
returns-clause-any_order c n d p inv above = numbering_has_laws n d p inv (λ a b. IsTrue (above a b))

pub returns-clause-ds : goal.returns-clause-ds
returns-clause-ds c = ranks_have_laws
