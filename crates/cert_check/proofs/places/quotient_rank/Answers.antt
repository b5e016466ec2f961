use Rattle.std.proofs.Common.{◌∙◌}
use Rattle.cert_check.proofs.Tables.{small, quotient_told}
use Rattle.cert_check.proofs.places.quotient_rank.Goals as goal

pub quotient_rank-requires-clause-whole : goal.quotient_rank-requires-clause-whole
quotient_rank-requires-clause-whole c = small c.args.problem.now _ _ c.requires.table c.requires.r

pub quotient_rank-requires-clause-part : goal.quotient_rank-requires-clause-part
quotient_rank-requires-clause-part c = small c.args.problem.now _ _ c.requires.table c.requires.a

pub returns : goal.returns
returns c = c.quotient_rank.ensures.value ∙ quotient_told c.args.problem.now _ c.requires.table c.args.r c.args.a
