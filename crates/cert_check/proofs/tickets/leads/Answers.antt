use Rattle.std.proofs.Common.{sym, ◌∙◌, ap, arith}
use Rattle.mora_law.specs.Ring.{numbering_of}
use Rattle.cert_check.proofs.Tables.{small, mono_of}
use Rattle.cert_check.proofs.Leaves.{leads_more}
use Rattle.cert_check.proofs.tickets.leads.Goals as goal

pub mono-requires : goal.mono-requires
mono-requires c = small c.args.problem.now _ _ c.requires.table c.lead_of.ensures.small

pub loop-k-preserved : goal.loop-k-preserved
loop-k-preserved c =
    leads_more c.args.problem.now c.args.entries.now c.loop-k.k c.mono.result c.loop-k.monos.items c.push.new.self.items (omega (arith, c.loop-k-test.true, c.len-k-end.ensures))
    (ap (numbering_of c.args.problem.now).mono (sym c.lead_of.ensures.value) ∙ mono_of c.args.problem.now c.requires.problem.some _ c.requires.table c.mono.result c.lead_of.result c.mono.ensures)
    c.loop-k.invariant c.in_ok-push.ensures.items
