use Rattle.cert_check.proofs.Tables.{small, mono_of}
use Rattle.cert_check.proofs.Members.{term_is}
use Rattle.cert_check.proofs.basis.is_term.Goals as goal

pub mono-requires : goal.mono-requires
mono-requires c = small c.args.problem.now _ _ c.requires.table c.requires.rank

pub returns : goal.returns
returns c = term_is c.args.problem.now c.args.t.now c.args.u c.mono.result c.is_same.result (mono_of c.args.problem.now c.requires.problem.some _ c.requires.table c.mono.result c.args.u.rank c.mono.ensures) c.if-t-u.false c.is_same.ensures
