use Rattle.std.proofs.Common.{◌<◌, All, sym, ◌∙◌, subst}
use Rattle.local_order.specs.Shape.{count}
use Rattle.cert_check.proofs.LeadRanks.{leads_small}
use Rattle.cert_check.proofs.verdict.stair_of.Goals as goal

pub of-requires : goal.of-requires
of-requires c = subst (All (λ l. l < count c.args.table.now)) (sym (c.deref.ensures.value ∙ c.in_ok-leads.ensures)) (leads_small c.args.problem.now c.args.table.now c.requires.table c.args.entries.now c.requires.stored)
