use Rattle.std.proofs.Common.{◌≡◌, ℕ, ◌≤◌, length, get_or, ap, ap₂, sym, ◌∙◌, subst, arith}
use Rattle.std.proofs.lemmas.List.{get_or_default}
use Rattle.prime_field.specs.Prime.{InTable}
use Rattle.local_order.specs.Shape.{Shape, count}
use Rattle.mono_rank.specs.Laws.{numbering, rank_cofactor}
use Rattle.ecart.specs.Choice.{no_summary, summary_at}
use Rattle.sparse_poly.proofs.Sorted.{residues_of}
use Rattle.rank_algebra.specs.Rows.{IsRow, vector_of_row}
use Rattle.rank_algebra.specs.Vector.{Agree}
use Rattle.mora_law.specs.Ring.{ranks_of_problem, generators_of}
use Rattle.mora_law.specs.Start.{start_of}
use Rattle.mora_form.specs.Begin.{basis_in}
use Rattle.mora_form.proofs.Begins.{generator_is, generator_row, pair_row, pair_is, got_row, zeros}
use Rattle.mora_form.proofs.begin.begin.Goals as goal

pub set_poly-requires-clause-variables : goal.set_poly-requires-clause-variables
set_poly-requires-clause-variables c =
    let w = generator_is c.args.problem.now c.args.table.now.variables c.in-Generator.g c.gens.result.now c.get.result.now c.gens.ensures.problem (ap (λ (T : Shape). T.variables) c.requires.shape) c.gens.ensures.value c.get.ensures in
    w.in_ring

pub sub_multiple_of-requires-clause-other : goal.sub_multiple_of-requires-clause-other
sub_multiple_of-requires-clause-other c =
    let w = got_row c.args.known.now.rows.list c.in-Pair.i c.get-in-Pair.result.now c.get-in-Pair.ensures.value in
    let N = count c.args.table.now in
    subst (λ p. IsRow p N c.get-in-Pair.result.now) (sym c.field-field.ensures.value) (subst (IsRow c.args.problem.now.p N) (sym w.1) (c.requires.known_rows c.in-Pair.i w.0))

pub sub_multiple_of-requires-in-Pair-clause-other : goal.sub_multiple_of-requires-in-Pair-clause-other
sub_multiple_of-requires-in-Pair-clause-other c =
    let w = got_row c.args.known.now.rows.list c.in-Pair.j c.get-in-Pair-2.result.now c.get-in-Pair-2.ensures.value in
    let N = count c.args.table.now in
    subst (λ p. IsRow p N c.get-in-Pair-2.result.now) (sym c.field-field.ensures.value) (subst (IsRow c.args.problem.now.p N) (sym w.1) (c.requires.known_rows c.in-Pair.j w.0))

pub returns-in-Generator-clause-row : goal.returns-in-Generator-clause-row
returns-in-Generator-clause-row c =
    let w = generator_is c.args.problem.now c.args.table.now.variables c.in-Generator.g c.gens.result.now c.get.result.now c.gens.ensures.problem (ap (λ (T : Shape). T.variables) c.requires.shape) c.gens.ensures.value c.get.ensures in
    (c.set_poly.ensures c.args.problem.now.p w.positive (residues_of _ _ _ w.canonical)).row

pub returns-in-Generator-clause-start : goal.returns-in-Generator-clause-start
returns-in-Generator-clause-start c =
    let P = c.args.problem.now in
    let n = c.args.table.now.variables in
    let w = generator_is P n c.in-Generator.g c.gens.result.now c.get.result.now c.gens.ensures.problem (ap (λ (T : Shape). T.variables) c.requires.shape) c.gens.ensures.value c.get.ensures in
    subst (λ i. Agree (ranks_of_problem P) (count c.args.table.now) (vector_of_row c.set_poly.new.self)
    (start_of (ranks_of_problem P) (generators_of P) (basis_in c.args.known.now.rows.list c.args.known.now.summaries.items) i)) (sym c.in-Generator.is)
    (generator_row P c.args.table.now c.in-Generator.g c.get.result.now.terms c.set_poly.new.self (omega (arith, c.gens.ensures.problem.some, (ap (λ (T : Shape). T.variables) c.requires.shape))) c.requires.shape w.is
    (c.set_poly.ensures P.p w.positive (residues_of _ _ _ w.canonical)))

pub returns-in-Pair-clause-start : goal.returns-in-Pair-clause-start
returns-in-Pair-clause-start c =
    let P = c.args.problem.now in
    let p = c.field-field.result.now in
    let n = c.args.table.now.variables in
    let rows = c.args.known.now.rows.list in
    let summaries = c.args.known.now.summaries.items in
    let same : P.p ≡ p = sym c.field-field.ensures.value in
    let i = got_row rows c.in-Pair.i c.get-in-Pair.result.now c.get-in-Pair.ensures.value in
    let j = got_row rows c.in-Pair.j c.get-in-Pair-2.result.now c.get-in-Pair-2.ensures.value in
    let first : c.index.result.now ≡ summary_at summaries c.in-Pair.i =
    c.index.ensures ∙ get_or_default summaries c.in-Pair.i c.index.result.now no_summary (omega (arith, i.0, c.requires.known.beside)) in
    let second : c.index-in-Pair.result.now ≡ summary_at summaries c.in-Pair.j =
    c.index-in-Pair.ensures ∙ get_or_default summaries c.in-Pair.j c.index-in-Pair.result.now no_summary (omega (arith, j.0, c.requires.known.beside)) in
    let some : 1 ≤ n = omega (arith, c.field-field.ensures.problem.some, (ap (λ (T : Shape). T.variables) c.requires.shape)) in
    let table : InTable p = subst InTable same c.field-field.ensures.problem.prime in
    let none : (k : ℕ) → get_or c.clear.new.self k 0 ≡ 0 = λ k. ap (λ r. get_or r k 0) c.clear.ensures ∙ zeros (length c.args.row.now) k in
    subst (λ x. Agree (ranks_of_problem P) (count c.args.table.now) (vector_of_row c.sub_multiple_of-in-Pair.new.self) (start_of (ranks_of_problem P) (generators_of P) (basis_in rows summaries) x)) (sym c.in-Pair.is)
    (pair_is P p c.args.table.now same c.requires.shape rows summaries c.in-Pair.i c.in-Pair.j c.cofactor_rank.result c.cofactor_rank-in-Pair.result c.get-in-Pair.result.now c.get-in-Pair-2.result.now
    c.sub_multiple_of-in-Pair.new.self i.1 j.1
    (ap₂ (λ x y. rank_cofactor (numbering c.args.table.now) x.lead y.lead) (sym first) (sym second) ∙ sym c.cofactor_rank.ensures.value)
    (ap₂ (λ x y. rank_cofactor (numbering c.args.table.now) x.lead y.lead) (sym second) (sym first) ∙ sym c.cofactor_rank-in-Pair.ensures.value)
    (pair_row p c.args.table.now table some c.neg.result c.cofactor_rank.result c.cofactor_rank-in-Pair.result c.get-in-Pair.result.now c.get-in-Pair-2.result.now c.clear.new.self c.sub_multiple_of.new.self
    c.sub_multiple_of-in-Pair.new.self c.neg.ensures.value c.cofactor_rank.ensures.low c.cofactor_rank-in-Pair.ensures.low none c.sub_multiple_of.ensures c.sub_multiple_of-in-Pair.ensures))
