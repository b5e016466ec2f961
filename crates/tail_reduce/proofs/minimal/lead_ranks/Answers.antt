use Rattle.std.proofs.Common.{◌<◌, All, sym, subst}
use Rattle.local_order.specs.Shape.{count}
use Rattle.sparse_poly.specs.Shape.{shape_of}
use Rattle.tail_reduce.proofs.Legals.{legal_terms, leads_small}
use Rattle.tail_reduce.proofs.minimal.lead_ranks.Goals as goal

pub leads-requires : goal.leads-requires
leads-requires c k l = ((legal_terms c.args.problem.now c.field-field.ensures.problem c.args.entries.now c.requires).each k l).some

pub returns-clause-small : goal.returns-clause-small
returns-clause-small c =
    subst (All (λ l. l < count (shape_of c.args.problem.now))) (sym c.in_ok-leads.ensures)
    (leads_small c.args.problem.now c.field-field.ensures.problem c.args.entries.now c.requires)
