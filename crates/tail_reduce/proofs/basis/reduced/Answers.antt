use Rattle.std.proofs.Common.{◌≡◌, ◌<◌, List, length, map, All, sym, ◌∙◌, ap, subst, arith}
use Rattle.std.proofs.lemmas.Result.{IfOk-weaker}
use Rattle.local_order.specs.Count.{monomial_count}
use Rattle.local_order.specs.Shape.{Shape, count}
use Rattle.sparse_poly.specs.Shape.{shape_of}
use Rattle.mora_law.specs.Ring.{ranks_of_problem}
use Rattle.mora_law.proofs.Ring.{ranks_are, problem_is_admissible}
use Rattle.mora_law.specs.Entries.{basis_of}
use Rattle.mora_law.specs.Basis.{basis}
use Rattle.tail_reduce.specs.Divisors.{AreFirsts, minimal_places}
use Rattle.tail_reduce.specs.Members.{member_of}
use Rattle.sparse_poly.specs.Poly.{Polynomial}
use Rattle.sparse_poly.specs.Ideal.{IsReducedBasis}
use Rattle.mora_law.proofs.Problems.{basis_is_reduced}
use Rattle.tail_reduce.proofs.Searching.{places_small}
use Rattle.tail_reduce.proofs.Ranked.{ranks_n}
use Rattle.tail_reduce.proofs.Legals.{legal_terms, leads_low, leads_few, leads_are}
use Rattle.tail_reduce.proofs.Bases.{members_are, members_in}
use Rattle.tail_reduce.proofs.basis.reduced.Goals as goal

pub leads-requires : goal.leads-requires
leads-requires g c = λ k l. ((legal_terms c.args.problem.now c.field-field.ensures.problem c.args.entries.now c.requires.legal).each k l).some

pub first_divisors-requires-clause-leads : goal.first_divisors-requires-clause-leads
first_divisors-requires-clause-leads g c =
    leads_low c.args.problem.now c.args.entries.now c.args.table.now c.deref.result.now c.field-field.ensures.problem c.requires.legal c.requires.table (c.deref.ensures.value ∙ c.in_ok-leads.ensures)

pub first_divisors-requires-clause-few : goal.first_divisors-requires-clause-few
first_divisors-requires-clause-few g c =
    omega (arith, ap length (c.deref.ensures.value ∙ c.in_ok-leads.ensures), leads_few c.args.problem.now c.field-field.ensures.problem c.args.entries.now c.requires.legal)

pub corner_from-corner-requires : goal.corner_from-corner-requires
corner_from-corner-requires g c =
    let P = c.args.problem.now in
    let leads = leads_are P c.args.entries.now c.args.table.now c.deref.result.now c.requires.table (c.deref.ensures.value ∙ c.in_ok-leads.ensures) in
    let firsts = c.in_ok-firsts.ensures P (basis_of c.args.entries.now) leads in
    c.count.ensures.value ∙ sym firsts.all ∙ sym (ap length c.deref-2.ensures.value)

pub places-requires-clause-leads : goal.places-requires-clause-leads
places-requires-clause-leads g c =
    leads_low c.args.problem.now c.args.entries.now c.args.table.now c.deref-3.result.now c.field-field.ensures.problem c.requires.legal c.requires.table (c.deref-3.ensures.value ∙ c.in_ok-leads.ensures)

pub places-requires-clause-few : goal.places-requires-clause-few
places-requires-clause-few g c =
    omega (arith, ap length (c.deref-3.ensures.value ∙ c.in_ok-leads.ensures), leads_few c.args.problem.now c.field-field.ensures.problem c.args.entries.now c.requires.legal)

pub members-requires-clause-entries : goal.members-requires-clause-entries
members-requires-clause-entries g c = λ κs lives. legal_terms c.args.problem.now c.field-field.ensures.problem c.args.entries.now c.requires.legal

pub members-requires-clause-firsts : goal.members-requires-clause-firsts
members-requires-clause-firsts g c = λ κs lives.
    let P = c.args.problem.now in
    let B = basis_of c.args.entries.now in
    let leads = leads_are P c.args.entries.now c.args.table.now c.deref.result.now c.requires.table (c.deref.ensures.value ∙ c.in_ok-leads.ensures) in
    subst (AreFirsts (ranks_of_problem P) B (count (shape_of P))) (sym c.deref-4.ensures.value)
    (subst (λ (t : Shape). AreFirsts (ranks_of_problem P) B (count t) c.in_ok-firsts.firsts.items) c.requires.table (c.in_ok-firsts.ensures P B leads))

pub members-requires-clause-corner : goal.members-requires-clause-corner
members-requires-clause-corner g c = λ κs lives.
    let P = c.args.problem.now in
    let B = basis_of c.args.entries.now in
    let leads = leads_are P c.args.entries.now c.args.table.now c.deref.result.now c.requires.table (c.deref.ensures.value ∙ c.in_ok-leads.ensures) in
    let count : (ranks_of_problem P).n ≡ c.count.result = ranks_n P ∙ sym (ap (λ (t : Shape). monomial_count t.variables t.degree) c.requires.table) ∙ sym c.count.ensures.value in
    c.corner_from-corner.ensures (ranks_of_problem P) B (ranks_are P (problem_is_admissible P c.field-field.ensures.problem)) count
    (subst (λ k. AreFirsts (ranks_of_problem P) B k c.deref-2.result.now) (sym c.count.ensures.value)
    (subst (AreFirsts (ranks_of_problem P) B (monomial_count c.args.table.now.variables c.args.table.now.degree)) (sym c.deref-2.ensures.value) (c.in_ok-firsts.ensures P B leads)))

pub members-requires-clause-places : goal.members-requires-clause-places
members-requires-clause-places g c = λ κs lives.
    let P = c.args.problem.now in
    let B = basis_of c.args.entries.now in
    let leads = leads_are P c.args.entries.now c.args.table.now c.deref-3.result.now c.requires.table (c.deref-3.ensures.value ∙ c.in_ok-leads.ensures) in
    subst (All (λ k. k < length c.args.entries.now)) (sym (c.in_ok-places.ensures P B leads)) (places_small (ranks_of_problem P) B (count c.args.table.now))

pub returns-clause-plain : goal.returns-clause-plain
returns-clause-plain g c =
    let P = c.args.problem.now in
    let entries = c.args.entries.now in
    let B = basis_of entries in
    let leads = leads_are P entries c.args.table.now c.deref-3.result.now c.requires.table (c.deref-3.ensures.value ∙ c.in_ok-leads.ensures) in
    let is = c.in_ok-places.ensures P B leads ∙ ap (λ (t : Shape). minimal_places (ranks_of_problem P) B (count t)) c.requires.table in
    IfOk-weaker c.members.result (λ (l : List Polynomial). l ≡ map (member_of P entries) c.in_ok-places.places.items) (λ l. map (λ f. f.terms) l ≡ basis P entries)
    (λ l e. ap (map (λ (f : Polynomial). f.terms)) (e ∙ ap (map (member_of P entries)) is) ∙ members_are P entries)
    c.members.ensures

pub returns-clause-basis : goal.returns-clause-basis
returns-clause-basis g c =
    let P = c.args.problem.now in
    let entries = c.args.entries.now in
    let B = basis_of entries in
    let leads = leads_are P entries c.args.table.now c.deref-3.result.now c.requires.table (c.deref-3.ensures.value ∙ c.in_ok-leads.ensures) in
    let is = c.in_ok-places.ensures P B leads ∙ ap (λ (t : Shape). minimal_places (ranks_of_problem P) B (count t)) c.requires.table in
    IfOk-weaker c.members.result (λ (l : List Polynomial). l ≡ map (member_of P entries) c.in_ok-places.places.items) (λ l. IsReducedBasis P (map (λ f. f.terms) l))
    (λ l e. subst (IsReducedBasis P) (sym (ap (map (λ (f : Polynomial). f.terms)) (e ∙ ap (map (member_of P entries)) is) ∙ members_are P entries))
    (basis_is_reduced P (problem_is_admissible P c.field-field.ensures.problem) entries c.requires.legal c.requires.settled))
    c.members.ensures

pub returns-clause-variables : goal.returns-clause-variables
returns-clause-variables g c =
    let P = c.args.problem.now in
    let entries = c.args.entries.now in
    IfOk-weaker c.members.result (λ (l : List Polynomial). l ≡ map (member_of P entries) c.in_ok-places.places.items) (All (λ f. f.n ≡ P.n))
    (λ l e. subst (All (λ (f : Polynomial). f.n ≡ P.n)) (sym e) (members_in P entries c.in_ok-places.places.items))
    c.members.ensures
