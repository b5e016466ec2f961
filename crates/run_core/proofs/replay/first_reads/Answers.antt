use Rattle.run_core.proofs.Copies.{one_more}
use Rattle.run_core.proofs.replay.first_reads.Goals as goal

pub loop-i-preserved : goal.loop-i-preserved
loop-i-preserved c = one_more c.loop-i.reads.list c.push.new.self.list c.args.from.now.list c.loop-i.i c.get.result c.loop-i.invariant c.in_ok-push.ensures.ok c.get.ensures
