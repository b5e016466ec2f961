use Rattle.std.proofs.Common.{◌∙◌, arith}
use Rattle.cert_check.proofs.Tables.{small, all_ranks, cofactor_told}
use Rattle.cert_check.proofs.places.cofactor_rank.Goals as goal

pub cofactor_rank-requires-clause-first : goal.cofactor_rank-requires-clause-first
cofactor_rank-requires-clause-first c = small c.args.problem.now _ _ c.requires.table c.requires.a

pub cofactor_rank-requires-clause-second : goal.cofactor_rank-requires-clause-second
cofactor_rank-requires-clause-second c = small c.args.problem.now _ _ c.requires.table c.requires.b

pub returns-clause-value : goal.returns-clause-value
returns-clause-value c = c.cofactor_rank.ensures.value ∙ cofactor_told c.args.problem.now _ c.requires.table c.args.a c.args.b

pub returns-clause-small : goal.returns-clause-small
returns-clause-small c = omega (arith, c.cofactor_rank.ensures.low, all_ranks c.args.problem.now _ c.requires.table)
