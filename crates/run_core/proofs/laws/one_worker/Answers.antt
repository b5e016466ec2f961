use Rattle.std.proofs.Common.{◌<◌, ◌≤◌, length, subst, sym}
use Rattle.mora_law.proofs.Items.{tickets_is}
use Rattle.run_core.proofs.Plain.{plain_opens, plain_claims, plain_reads, plain_publishes, plain_settles}
use Rattle.run_core.proofs.laws.one_worker.Goals as goal

pub returns-clause-opens : goal.returns-clause-opens
returns-clause-opens c = plain_opens

pub returns-clause-claims : goal.returns-clause-claims
returns-clause-claims c b shut less = plain_claims b shut (subst (λ n. b.ticket < n) (sym (tickets_is b.problem (length b.entries))) less)

pub returns-clause-reads : goal.returns-clause-reads
returns-clause-reads c = plain_reads

pub returns-clause-publishes : goal.returns-clause-publishes
returns-clause-publishes c = plain_publishes

pub returns-clause-settles : goal.returns-clause-settles
returns-clause-settles c b ok shut done = plain_settles b ok shut (subst (λ n. n ≤ b.ticket) (sym (tickets_is b.problem (length b.entries))) done)
