use Rattle.std.proofs.Common.{sym, arith}
use Rattle.cert_check.proofs.LeadRanks.{ranks_more}
use Rattle.cert_check.proofs.verdict.lead_ranks.Goals as goal

pub loop-k-preserved : goal.loop-k-preserved
loop-k-preserved c = ranks_more c.args.entries.now c.loop-k.k c.lead_of.result c.loop-k.ranks.items c.push.new.self.items (omega (arith, c.loop-k-test.true, c.len-k-end.ensures)) (sym c.lead_of.ensures.value) c.loop-k.invariant c.in_ok-push.ensures.items
