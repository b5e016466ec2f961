use Rattle.std.proofs.Common.{◌≡◌, ◌+◌, ◌<◌, length, [], ◌∷◌, ◌++◌, sym, ◌∙◌, ap, subst, arith}
use Rattle.std.proofs.lemmas.List.{length-append, length-map}
use Rattle.sparse_poly.specs.Poly.{in_variables}
use Rattle.entry_code.specs.Entry.{entry_of, entry_at}
use Rattle.rank_algebra.specs.Division.{first_of, corner_of}
use Rattle.mora_law.specs.Ring.{ranks_of_problem}
use Rattle.mora_law.specs.Entries.{basis_of}
use Rattle.mora_law.proofs.Ring.{problem_is_admissible, ranks_are}
use Rattle.cert_check.specs.Checks.{entry_checks, entry_line}
use Rattle.cert_check.specs.Answers.{IsAnswered}
use Rattle.cert_check.proofs.Answered.{all_left, one_passed, entry_at_fault, all_passed}
use Rattle.cert_check.proofs.BlockLines.{line_more, line_within, verdict_within}
use Rattle.cert_check.proofs.Passing.{corner_none, covers_more, corners_first, corners_more}
use Rattle.cert_check.proofs.Stored.{reads_are}
use Rattle.cert_check.proofs.Tables.{all_ranks}
use Rattle.cert_check.proofs.block.check_entries.Goals as goal

pub check_entry-requires-clause-few : goal.check_entry-requires-clause-few
check_entry-requires-clause-few c =
    let x = line_more c.args.block.now c.loop-i.i (omega (arith, c.loop-i-test.true, c.len-i-end.ensures)) in
    let y = line_within c.args.block.now (c.loop-i.i + 1) in
    let z = verdict_within c.args.block.now in
    omega (arith, c.loop-i.invariant.4, x, y, z, c.requires.few)

pub returns-in-Some : goal.returns-in-Some
returns-in-Some c = entry_at_fault c.args.block.now c.loop-i.i c.in-Some.fault.line c.in-Some.fault.reason (omega (arith, c.loop-i-test.true, c.len-i-end.ensures))
    (subst (IsAnswered c.args.block.now (entry_checks c.loop-i.i (entry_at c.args.block.now.entries c.loop-i.i))) c.in-Some.is c.in_ok-fault.ensures) c.loop-i.invariant.0

pub corner_of-corner-requires-clause-covers : goal.corner_of-corner-requires-clause-covers
corner_of-corner-requires-clause-covers c = covers_more (ranks_of_problem c.args.block.now.problem) (ranks_are _ (problem_is_admissible _ c.requires.read.problem)) (basis_of c.args.block.now.entries) c.loop-i.i c.loop-i.corner c.loop-i.invariant.3

pub loop-i-init : goal.loop-i-init
loop-i-init c =
    let first = c.count-corner.ensures.value ∙ sym (all_ranks c.args.block.now.problem _ c.requires.table) ∙ sym (corner_none (ranks_of_problem c.args.block.now.problem) (ranks_are _ (problem_is_admissible _ c.requires.read.problem)) (basis_of c.args.block.now.entries)) in (
      all_left c.args.block.now,
      corners_first c.args.block.now.problem c.args.block.now.entries c.new-corners.result.items c.push.new.self.items c.count-corner.result c.new-corners.ensures.items c.in_ok-push.ensures.items first,
      omega (arith, ap length (c.in_ok-push.ensures.items ∙ ap (λ xs. xs ++ c.count-corner.result ∷ []) c.new-corners.ensures.items)),
      first,
      omega (arith, c.len.ensures, ap length c.gens.ensures.value, length-map c.args.block.now.problem.gens (in_variables c.args.block.now.problem.n)),
    )

pub overflow_add-line-in-loop-i : goal.overflow_add-line-in-loop-i
overflow_add-line-in-loop-i c =
    let x = line_more c.args.block.now c.loop-i.i (omega (arith, c.loop-i-test.true, c.len-i-end.ensures)) in
    let y = line_within c.args.block.now (c.loop-i.i + 1) in
    let z = verdict_within c.args.block.now in
    let r = ap length (reads_are c.args.block.now.entries c.loop-i.i (entry_of c.get.result.now) c.get.ensures) in
    omega (arith, c.loop-i.invariant.4, x, y, z, r, c.len-in-loop-i.ensures, c.requires.few)

pub overflow_add-line-in-loop-i-2 : goal.overflow_add-line-in-loop-i-2
overflow_add-line-in-loop-i-2 c =
    let x = line_more c.args.block.now c.loop-i.i (omega (arith, c.loop-i-test.true, c.len-i-end.ensures)) in
    let y = line_within c.args.block.now (c.loop-i.i + 1) in
    let z = verdict_within c.args.block.now in
    let r = ap length (reads_are c.args.block.now.entries c.loop-i.i (entry_of c.get.result.now) c.get.ensures) in
    omega (arith, c.loop-i.invariant.4, x, y, z, r, c.len-in-loop-i.ensures, c.requires.few)

pub loop-i-preserved : goal.loop-i-preserved
loop-i-preserved c =
    let l : c.loop-i.i < length c.args.block.now.entries = omega (arith, c.loop-i-test.true, c.len-i-end.ensures) in
    let r = ap length (reads_are c.args.block.now.entries c.loop-i.i (entry_of c.get.result.now) c.get.ensures) in
    let x = line_more c.args.block.now c.loop-i.i l in (
      one_passed c.args.block.now c.loop-i.i l (subst (IsAnswered c.args.block.now (entry_checks c.loop-i.i (entry_at c.args.block.now.entries c.loop-i.i))) c.in_default.is c.in_ok-fault.ensures) c.loop-i.invariant.0,
      corners_more c.args.block.now.problem c.args.block.now.entries c.loop-i.i c.corner_of-corner.result c.loop-i.corners.items c.push-in-loop-i.new.self.items c.loop-i.invariant.2 c.in_ok-push-2.ensures.items c.corner_of-corner.ensures c.loop-i.invariant.1,
      ap length c.in_ok-push-2.ensures.items ∙ length-append c.loop-i.corners.items (c.corner_of-corner.result ∷ []) ∙ ap (λ n. n + 1) c.loop-i.invariant.2,
      c.corner_of-corner.ensures,
      omega (arith, c.loop-i.invariant.4, x, r, c.len-in-loop-i.ensures),
    )

pub returns : goal.returns
returns c =
    let z : c.loop-i.i ≡ length c.args.block.now.entries = omega (arith, c.loop-i-test.false, c.loop-i.auto.i-end, c.len-i-end.ensures) in (
      all_passed c.args.block.now c.loop-i.i (omega (arith, z)) c.loop-i.invariant.0,
      record {
        corner = c.loop-i.invariant.3 ∙ ap (λ k. corner_of (ranks_of_problem c.args.block.now.problem) (first_of k (basis_of c.args.block.now.entries))) z;
        line = c.loop-i.invariant.4 ∙ ap (entry_line c.args.block.now) z;
      },
    )
