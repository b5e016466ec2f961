use Rattle.std.proofs.Common.{◌≡◌, ◌+◌, ◌-◌, ◌%◌, get_or, set, sym, ◌∙◌, ap, subst, arith}
use Rattle.std.proofs.lemmas.Option.{get_or_from_slice_get}
use Rattle.entry_code.specs.Entry.{Entry, entry_of, no_entry, entry_at}
use Rattle.rank_algebra.specs.Rows.{IsRow, vector_of_row}
use Rattle.rank_algebra.specs.Vector.{monomial, add, less, Agree}
use Rattle.rank_algebra.specs.Division.{remainder, corner_of}
use Rattle.mora_law.specs.Ring.{ranks_of_problem}
use Rattle.mora_law.proofs.Ring.{ranks_p, ranks_are, problem_is_admissible}
use Rattle.rank_algebra.proofs.Corner.{corner_is}
use Rattle.mora_law.specs.Entries.{lead_rank, basis_of}
use Rattle.entry_code.specs.Terms.{vector_of_terms, HasRisingRanks}
use Rattle.local_order.specs.Shape.{count}
use Rattle.sparse_poly.specs.Shape.{shape_of}
use Rattle.trunc_row.specs.Rows.{IsRowOfTerms}
use Rattle.trunc_row.proofs.Residues.{row_small, row_set}
use Rattle.tail_reduce.proofs.Ranked.{ranks_n}
use Rattle.tail_reduce.proofs.Terms.{written_row, written_is, terms_at, lead_small, lead_read}
use Rattle.tail_reduce.proofs.Leads.{taken_out, put_in}
use Rattle.tail_reduce.proofs.members.tidy.Goals as goal

pub get-lead-requires : goal.get-lead-requires
get-lead-requires c = (terms_at c.args.problem.now c.args.entries.now c.args.place c.get.result.now c.requires.entries c.requires.place c.get.ensures).some

pub write_terms-requires : goal.write_terms-requires
write_terms-requires c =
    let P = c.args.problem.now in
    let t = terms_at P c.args.entries.now c.args.place c.get.result.now c.requires.entries c.requires.place c.get.ensures in
    subst (λ n. HasRisingRanks n c.get.result.now.terms.list) (sym c.requires.row.full) t.ranks

pub bounds-row-lead : goal.bounds-row-lead
bounds-row-lead c =
    omega (arith, lead_small c.args.problem.now c.args.entries.now c.args.place c.get.result.now c.get-lead.result c.requires.entries c.requires.place c.get.ensures c.get-lead.ensures, c.write_terms.ensures.full, c.requires.row.full)

pub bounds-row-lead-2 : goal.bounds-row-lead-2
bounds-row-lead-2 c =
    omega (arith, lead_small c.args.problem.now c.args.entries.now c.args.place c.get.result.now c.get-lead.result c.requires.entries c.requires.place c.get.ensures c.get-lead.ensures, c.write_terms.ensures.full, c.requires.row.full)

pub bounds-row-lead-3 : goal.bounds-row-lead-3
bounds-row-lead-3 c =
    omega (arith, lead_small c.args.problem.now c.args.entries.now c.args.place c.get.result.now c.get-lead.result c.requires.entries c.requires.place c.get.ensures c.get-lead.ensures, c.divide.ensures.row.full)

pub bounds-row-lead-4 : goal.bounds-row-lead-4
bounds-row-lead-4 c =
    omega (arith, lead_small c.args.problem.now c.args.entries.now c.args.place c.get.result.now c.get-lead.result c.requires.entries c.requires.place c.get.ensures c.get-lead.ensures, c.divide.ensures.row.full)

pub sub-requires-clause-a_residue : goal.sub-requires-clause-a_residue
sub-requires-clause-a_residue c =
    let P = c.args.problem.now in
    let low = lead_small P c.args.entries.now c.args.place c.get.result.now c.get-lead.result c.requires.entries c.requires.place c.get.ensures c.get-lead.ensures in
    let own : IsRow P.p (count (shape_of P)) c.write_terms.new.row =
    written_row P c.get.result.now.terms.list c.write_terms.new.row (problem_is_admissible P c.requires.problem)
    (terms_at P c.args.entries.now c.args.place c.get.result.now c.requires.entries c.requires.place c.get.ensures)
    (subst (λ n. IsRowOfTerms n c.get.result.now.terms.list c.write_terms.new.row) c.requires.row.full c.write_terms.ensures) in
    omega (arith, row_small P.p (count (shape_of P)) c.write_terms.new.row c.get-lead.result.rank own low, c.field-field.ensures.value)

pub divide-requires-clause-row : goal.divide-requires-clause-row
divide-requires-clause-row c =
    let P = c.args.problem.now in
    let own : IsRow P.p (count (shape_of P)) c.write_terms.new.row =
    written_row P c.get.result.now.terms.list c.write_terms.new.row (problem_is_admissible P c.requires.problem)
    (terms_at P c.args.entries.now c.args.place c.get.result.now c.requires.entries c.requires.place c.get.ensures)
    (subst (λ n. IsRowOfTerms n c.get.result.now.terms.list c.write_terms.new.row) c.requires.row.full c.write_terms.ensures) in
    row_set P.p (count (shape_of P)) c.write_terms.new.row c.get-lead.result.rank c.sub.result own (omega (arith, c.sub.ensures.residue, c.field-field.ensures.value))

pub divide-requires-clause-corner : goal.divide-requires-clause-corner
divide-requires-clause-corner c =
    let P = c.args.problem.now in
    omega (arith, c.requires.corner, (corner_is (ranks_of_problem P) (ranks_are P (problem_is_admissible P c.requires.problem)) (basis_of c.args.entries.now)).within, ranks_n P)

pub returns-clause-row : goal.returns-clause-row
returns-clause-row c =
    let P = c.args.problem.now in
    row_set P.p (count (shape_of P)) c.divide.new.row c.get-lead.result.rank c.add.result c.divide.ensures.row (omega (arith, c.add.ensures.residue, c.field-field.ensures.value))

pub returns-clause-value : goal.returns-clause-value
returns-clause-value c =
    let P = c.args.problem.now in
    let R = ranks_of_problem P in
    let B = basis_of c.args.entries.now in
    let ts = c.get.result.now.terms.list in
    let written_as = c.write_terms.new.row in
    let l = c.get-lead.result.rank in
    let p : c.field-field.result.now ≡ R.p = c.field-field.ensures.value ∙ sym (ranks_p P) in
    let at : entry_at c.args.entries.now c.args.place ≡ entry_of c.get.result.now = get_or_from_slice_get c.args.entries.now c.args.place (entry_of c.get.result.now) no_entry c.get.ensures in
    let small = lead_small P c.args.entries.now c.args.place c.get.result.now c.get-lead.result c.requires.entries c.requires.place c.get.ensures c.get-lead.ensures in
    let lead : B.lead c.args.place ≡ l = ap (λ (e : Entry). lead_rank e.terms) at ∙ lead_read ts c.get-lead.result c.get-lead.ensures in
    let written : Agree R R.n (vector_of_row written_as) (vector_of_terms ts) = written_is P ts written_as (subst (λ n. IsRowOfTerms n ts written_as) c.requires.row.full c.write_terms.ensures) in
    let out : Agree R R.n (vector_of_row (set written_as l c.sub.result)) (less R 1 (monomial l) (vector_of_terms ts)) =
    taken_out R (vector_of_terms ts) written_as l c.sub.result (omega (arith, small, c.write_terms.ensures.full, c.requires.row.full)) (c.sub.ensures.value ∙ ap (λ q. (get_or written_as l 0 + (q - 1)) % q) p) written in
    let divided = c.divide.ensures.value (less R 1 (monomial l) (vector_of_terms ts)) out in
    let back : Agree R R.n (vector_of_row (set c.divide.new.row l c.add.result)) (add (monomial l) (remainder R B c.args.corner (less R 1 (monomial l) (vector_of_terms ts)))) =
    put_in R (remainder R B c.args.corner (less R 1 (monomial l) (vector_of_terms ts))) c.divide.new.row l c.add.result (omega (arith, small, c.divide.ensures.row.full))
    (c.add.ensures.value ∙ ap (λ q. (get_or c.divide.new.row l 0 + 1) % q) p) divided in
    let new = vector_of_row (set c.divide.new.row l c.add.result) in
    let by_corner = subst (λ w. Agree R R.n new (add (monomial l) (remainder R B w (less R 1 (monomial l) (vector_of_terms ts))))) c.requires.corner back in
    let by_lead = subst (λ k. Agree R R.n new (add (monomial k) (remainder R B (corner_of R B) (less R 1 (monomial k) (vector_of_terms ts))))) (sym lead) by_corner in
    subst (λ (e : Entry). Agree R R.n new (add (monomial (B.lead c.args.place)) (remainder R B (corner_of R B) (less R 1 (monomial (B.lead c.args.place)) (vector_of_terms e.terms))))) (sym at) by_lead
