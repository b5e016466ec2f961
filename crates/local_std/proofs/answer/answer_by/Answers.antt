use Rattle.std.proofs.Common.{◌≡◌, map, ◌∙◌, ap, subst}
use Rattle.mono_rank.specs.Rank.{mono_of_rank}
use Rattle.sparse_poly.specs.Ideal.{IsProblem}
use Rattle.staircase.specs.Stair.{IsStairOf}
use Rattle.local_std.proofs.Rings.{basis_in_ring, staircase_in_ring}
use Rattle.local_std.proofs.Settled.{Showing, missing, fits, staircase}
use Rattle.local_std.proofs.answer.answer_by.Goals as goal

pub returns-in-Some-clause-value : goal.returns-in-Some-clause-value
returns-in-Some-clause-value g c =
    let P = c.args.problem.now in
    let showing : Showing P c.args.entries.now c.in_ok-table.table c.in_ok-leads.leads.items c.in_ok-stair.stair = record {
      table_is = c.in_ok-table.ensures;
      leads_are = c.in_ok-leads.ensures.value;
      shape = c.in_ok-stair.ensures.shape;
      stair = subst (λ l. IsStairOf c.in_ok-table.table l c.in_ok-stair.stair.ranks) c.deref.ensures.value c.in_ok-stair.ensures.ranks;
    } in
    missing P c.field-field.ensures.problem c.args.entries.now c.requires.legal c.requires.settled c.in_ok-table.table c.in_ok-leads.leads.items c.in_ok-stair.stair showing
    c.in-Some.rank c.mono.result c.in-Some.ensures c.mono.ensures

pub returns-clause-value : goal.returns-clause-value
returns-clause-value g c =
    let P = c.args.problem.now in
    let problem : IsProblem P = c.field-field.ensures.problem in
    let entries = c.args.entries.now in
    let legal = c.requires.legal in
    let settled = c.requires.settled in
    let table = c.in_ok-table.table in
    let leads = c.in_ok-leads.leads.items in
    let s = c.in_ok-stair.stair in
    let showing : Showing P entries table leads s = record {
      table_is = c.in_ok-table.ensures;
      leads_are = c.in_ok-leads.ensures.value;
      shape = c.in_ok-stair.ensures.shape;
      stair = subst (λ l. IsStairOf table l s.ranks) c.deref.ensures.value c.in_ok-stair.ensures.ranks;
    } in
    let monos : c.from_vec.result ≡ map (mono_of_rank table) s.ranks =
    c.from_vec.ensures ∙ c.in_ok-monomials-in-None.ensures ∙ ap (map (mono_of_rank table)) (c.as_slice.ensures ∙ c.list.ensures) in
    (fits P problem entries legal settled table leads s showing c.in-None.ensures, c.in_ok-reduced-in-None.ensures.basis, staircase P problem entries legal settled table leads s showing c.from_vec.result monos)

pub returns-clause-ring : goal.returns-clause-ring
returns-clause-ring g c =
    let answer = returns-clause-value g c in
    (basis_in_ring c.args.problem.now c.in_ok-reduced-in-None.field-0 answer.1 c.in_ok-reduced-in-None.ensures.variables, staircase_in_ring c.args.problem.now c.from_vec.result answer.2)
