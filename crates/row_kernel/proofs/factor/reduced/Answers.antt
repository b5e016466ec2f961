use Rattle.row_kernel.proofs.Vectors.{lesser_full, lesser_at}
use Rattle.row_kernel.proofs.factor.reduced.Goals as goal

pub returns-clause-full : goal.returns-clause-full
returns-clause-full c = lesser_full c.args.p c.args.lanes c.requires.full

pub returns-clause-value : goal.returns-clause-value
returns-clause-value c j l = lesser_at c.args.p c.args.lanes j c.requires.prime c.requires.full l (c.requires.small j l)
