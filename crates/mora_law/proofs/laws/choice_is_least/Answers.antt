use Rattle.mora_law.proofs.Least.{none_chosen, none_each, least_chosen, chosen_least}
use Rattle.mora_law.proofs.laws.choice_is_least.Goals as goal

pub returns-clause-some : goal.returns-clause-some
returns-clause-some c R r gs x = (chosen_least R r gs x, λ h. least_chosen R r gs h.0 x h.1)

pub returns-clause-none : goal.returns-clause-none
returns-clause-none c R r gs = (none_each R r gs, none_chosen R r gs)
