use Rattle.cert_check.proofs.Members.{before_is}
use Rattle.cert_check.proofs.block.is_before.Goals as goal

pub returns-else-w-eq0 : goal.returns-else-w-eq0
returns-else-w-eq0 c = before_is c.args.problem.now c.requires.problem.some _ c.requires.table c.args.w c.mono.result c.in-Some.m c.args.m.now c.is_same.result c.if-w-eq0.false c.mono.ensures c.in-Some.is c.is_same.ensures
