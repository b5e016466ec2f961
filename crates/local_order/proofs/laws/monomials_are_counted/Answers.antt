use Rattle.local_order.proofs.Listing.{length-monomials, in_monomials, monomials_are, monomials_once}
use Rattle.local_order.proofs.laws.monomials_are_counted.Goals as goal

pub returns-clause-members : goal.returns-clause-members
returns-clause-members c n d m = (monomials_are n d m, λ h. in_monomials n d m h.0 h.1)

pub returns-clause-once : goal.returns-clause-once
returns-clause-once c = monomials_once

pub returns-clause-number : goal.returns-clause-number
returns-clause-number c = length-monomials
