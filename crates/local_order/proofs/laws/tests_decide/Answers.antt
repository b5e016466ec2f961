use Rattle.std.proofs.Common.{◌≡◌, true, subst}
use Rattle.local_order.specs.Mono.{same}
use Rattle.local_order.proofs.Order.{same-true, same_self, above-true, above-intro}
use Rattle.local_order.proofs.Division.{divides_iff, coprime_iff}
use Rattle.local_order.proofs.laws.tests_decide.Goals as goal

pub returns-clause-same : goal.returns-clause-same
returns-clause-same c a b = (same-true a b, λ e. subst (λ m. same a m ≡ true) e (same_self a))

pub returns-clause-above : goal.returns-clause-above
returns-clause-above c a b = (above-true a b, above-intro a b)

pub returns-clause-divides : goal.returns-clause-divides
returns-clause-divides c = divides_iff

pub returns-clause-coprime : goal.returns-clause-coprime
returns-clause-coprime c = coprime_iff
