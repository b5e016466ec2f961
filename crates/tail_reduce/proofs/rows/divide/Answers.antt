use Rattle.std.proofs.Common.{◌≡◌, ◌+◌, ◌<◌, get_or, All, Some, None, option_map, sym, ◌∙◌, ap, subst, arith}
use Rattle.std.proofs.lemmas.Option.{get_or_from_slice_get}
use Rattle.local_order.specs.Shape.{Shape, count}
use Rattle.sparse_poly.specs.Shape.{shape_of}
use Rattle.entry_code.specs.Entry.{Entry, entry_of, no_entry, entry_at}
use Rattle.entry_code.specs.Terms.{vector_of_terms, HasRisingRanks}
use Rattle.rank_algebra.specs.Rows.{IsRow, vector_of_row}
use Rattle.rank_algebra.specs.Vector.{shift, less, Agree}
use Rattle.rank_algebra.specs.Division.{first_lead}
use Rattle.mora_law.specs.Ring.{ranks_of_problem}
use Rattle.mora_law.proofs.Ring.{problem_is_admissible}
use Rattle.mora_law.specs.Entries.{basis_of}
use Rattle.trunc_row.proofs.Residues.{row_small}
use Rattle.trunc_row.proofs.Cuts.{cut_residues}
use Rattle.tail_reduce.specs.Divisors.{hit_of}
use Rattle.tail_reduce.proofs.Ranked.{ranks_n}
use Rattle.tail_reduce.proofs.Firsts.{stored_known}
use Rattle.tail_reduce.proofs.Terms.{terms_at}
use Rattle.tail_reduce.proofs.Dividing.{DividedTo, divided_start, divided_zero, divided_none, divided_by, terms_taken, divided_all}
use Rattle.tail_reduce.proofs.rows.divide.Goals as goal
use Rattle.tail_reduce.proofs.rows.divide.Goals.{then-c-ne0+in-Some, then-c-ne0+in_default, else-c-ne0}

pub loop-rank-init : goal.loop-rank-init
loop-rank-init c = (c.requires.row, divided_start (ranks_of_problem c.args.problem.now) (basis_of c.args.entries.now) c.args.row.now)

pub bounds-row-rank : goal.bounds-row-rank
bounds-row-rank c = omega (arith, c.loop-rank-test.true, c.requires.corner, c.loop-rank.invariant.0.full)

pub get-entry-requires : goal.get-entry-requires
get-entry-requires c =
    let P = c.args.problem.now in
    let low : c.loop-rank.rank < count (shape_of P) = omega (arith, c.loop-rank-test.true, c.requires.corner) in
    (stored_known P (basis_of c.args.entries.now) c.args.firsts.now c.loop-rank.rank c.in-Some.divisor (problem_is_admissible P c.requires.problem) low c.requires.firsts c.in-Some.is).0

pub sub_terms-requires-clause-own : goal.sub_terms-requires-clause-own
sub_terms-requires-clause-own c =
    subst (λ q. IsRow q (count c.args.table.now) c.loop-rank.row) (sym c.field-field.ensures.value)
    (subst (λ (T : Shape). IsRow c.args.problem.now.p (count T) c.loop-rank.row) (sym c.requires.table) c.loop-rank.invariant.0)

pub sub_terms-requires-clause-ranks : goal.sub_terms-requires-clause-ranks
sub_terms-requires-clause-ranks c =
    let P = c.args.problem.now in
    let low : c.loop-rank.rank < count (shape_of P) = omega (arith, c.loop-rank-test.true, c.requires.corner) in
    let known = stored_known P (basis_of c.args.entries.now) c.args.firsts.now c.loop-rank.rank c.in-Some.divisor (problem_is_admissible P c.requires.problem) low c.requires.firsts c.in-Some.is in
    let terms = terms_at P c.args.entries.now c.in-Some.divisor.place c.get-entry.result.now c.requires.entries known.0 c.get-entry.ensures in
    subst (λ (T : Shape). HasRisingRanks (count T) c.get-entry.result.now.terms.list) (sym c.requires.table) terms.ranks

pub sub_terms-requires-clause-coefs : goal.sub_terms-requires-clause-coefs
sub_terms-requires-clause-coefs c =
    let P = c.args.problem.now in
    let low : c.loop-rank.rank < count (shape_of P) = omega (arith, c.loop-rank-test.true, c.requires.corner) in
    let known = stored_known P (basis_of c.args.entries.now) c.args.firsts.now c.loop-rank.rank c.in-Some.divisor (problem_is_admissible P c.requires.problem) low c.requires.firsts c.in-Some.is in
    let terms = terms_at P c.args.entries.now c.in-Some.divisor.place c.get-entry.result.now c.requires.entries known.0 c.get-entry.ensures in
    subst (λ q. All (λ t. t.coef < q) c.get-entry.result.now.terms.list) (sym c.field-field.ensures.value) terms.residues

pub sub_terms-requires-clause-residue : goal.sub_terms-requires-clause-residue
sub_terms-requires-clause-residue c =
    let P = c.args.problem.now in
    omega (arith, row_small P.p (count (shape_of P)) c.loop-rank.row c.loop-rank.rank c.loop-rank.invariant.0 (omega (arith, c.loop-rank-test.true, c.requires.corner)), c.field-field.ensures.value)

pub sub_terms-requires-clause-shift : goal.sub_terms-requires-clause-shift
sub_terms-requires-clause-shift c =
    let P = c.args.problem.now in
    let low : c.loop-rank.rank < count (shape_of P) = omega (arith, c.loop-rank-test.true, c.requires.corner) in
    let known = stored_known P (basis_of c.args.entries.now) c.args.firsts.now c.loop-rank.rank c.in-Some.divisor (problem_is_admissible P c.requires.problem) low c.requires.firsts c.in-Some.is in
    omega (arith, known.1, ap (λ (T : Shape). count T) c.requires.table)

pub loop-rank-preserved : goal.loop-rank-preserved
loop-rank-preserved c =
    let P = c.args.problem.now in
    let R = ranks_of_problem P in
    let entries = c.args.entries.now in
    let B = basis_of entries in
    let r = c.loop-rank.rank in
    let old = c.args.row.now in
    let middle = c.loop-rank.row in
    let low : r < count (shape_of P) = omega (arith, c.loop-rank-test.true, c.requires.corner) in
    let ranked : r < R.n = omega (arith, low, ranks_n P) in
    let own = c.loop-rank.invariant.0 in
    elim c.if-c-ne0.branch [
      | then-c-ne0+in-Some w ↦
          let d = w.in-Some.divisor in
          let new = w.sub_terms.new.row in
          let known = stored_known P B c.args.firsts.now r d (problem_is_admissible P c.requires.problem) low c.requires.firsts w.in-Some.is in
          let terms = terms_at P entries d.place w.get-entry.result.now c.requires.entries known.0 w.get-entry.ensures in
          let first : first_lead R B r ≡ Some (hit_of d) = sym (c.requires.firsts.each r low) ∙ ap (option_map hit_of) w.in-Some.is in
          let at : entry_at entries d.place ≡ entry_of w.get-entry.result.now = get_or_from_slice_get entries d.place (entry_of w.get-entry.result.now) no_entry w.get-entry.ensures in
          let row : IsRow P.p (count (shape_of P)) new =
          subst (λ q. IsRow q (count (shape_of P)) new) c.field-field.ensures.value (subst (λ (T : Shape). IsRow c.field-field.result.now (count T) new) c.requires.table w.sub_terms.ensures.row) in
          let taken = terms_taken P c.field-field.result.now c.args.table.now c.field-field.ensures.value c.requires.table c.requires.problem.some (get_or middle r 0) d.cofactor w.get-entry.result.now.terms.list middle new
          (row_small P.p (count (shape_of P)) middle r own low) known.1 terms w.sub_terms.ensures.value in
          let member : Agree R R.n (vector_of_row new) (less R (get_or middle r 0) (shift R d.cofactor (B.member d.place)) (vector_of_row middle)) =
          subst (λ (e : Entry). Agree R R.n (vector_of_row new) (less R (get_or middle r 0) (shift R d.cofactor (vector_of_terms e.terms)) (vector_of_row middle))) (sym at) taken in
          subst (λ s. IsRow P.p (count (shape_of P)) s × DividedTo R B (r + 1) old s) (sym w.row-is)
          (row, divided_by R B r old middle new (hit_of d) ranked first member c.loop-rank.invariant.1)
      | then-c-ne0+in_default w ↦
          let first : first_lead R B r ≡ None = sym (c.requires.firsts.each r low) ∙ ap (option_map hit_of) w.in_default.is in
          subst (λ s. IsRow P.p (count (shape_of P)) s × DividedTo R B (r + 1) old s) (sym w.row-is) (own, divided_none R B r old middle first c.loop-rank.invariant.1)
      | else-c-ne0 w ↦
          subst (λ s. IsRow P.p (count (shape_of P)) s × DividedTo R B (r + 1) old s) (sym w.row-is) (own, divided_zero R B r old middle ranked w.if-c-ne0.false c.loop-rank.invariant.1)
    ]

pub returns-clause-row : goal.returns-clause-row
returns-clause-row c = cut_residues c.args.problem.now.p (count (shape_of c.args.problem.now)) c.args.corner c.loop-rank.row c.cut.new.row c.loop-rank.invariant.0 c.cut.ensures

pub returns-clause-value : goal.returns-clause-value
returns-clause-value c = λ v h.
    let R = ranks_of_problem c.args.problem.now in
    let B = basis_of c.args.entries.now in
    let end : c.loop-rank.rank ≡ c.args.corner = omega (arith, c.loop-rank-test.false, c.loop-rank.auto.rank-end) in
    divided_all R B c.args.corner c.args.row.now c.loop-rank.row c.cut.new.row v c.cut.ensures
    (subst (λ k. DividedTo R B k c.args.row.now c.loop-rank.row) end c.loop-rank.invariant.1) h
