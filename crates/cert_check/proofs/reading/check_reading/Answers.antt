use Rattle.std.proofs.Common.{◌≡◌, ◌≤◌, suc, length, slice_get, Some, false, true, refl, sym, ◌∙◌, ap, subst, arith}
use Rattle.entry_code.specs.declared.reading.Reading.{Reading}
use Rattle.entry_code.specs.Entry.{entry_of, entry_at}
use Rattle.mora_law.specs.Ring.{ranks_of_problem}
use Rattle.mora_law.specs.Entries.{basis_of}
use Rattle.mora_law.specs.Alike.{RunAlike}
use Rattle.mora_law.proofs.Ring.{problem_is_admissible}
use Rattle.cert_check.specs.Checks.{IsKnown, IsCornerOf, end_at}
use Rattle.cert_check.specs.Sparse.{at}
use Rattle.cert_check.specs.Replay.{state}
use Rattle.cert_check.proofs.Stored.{reads_are}
use Rattle.cert_check.proofs.Before.{reading_is}
use Rattle.cert_check.proofs.Replaying.{RunTo, one_replayed, next_replayed, run_holds, run_fails, known_fault, corner_fault, run_fault, reading_holds}
use Rattle.cert_check.proofs.reading.check_reading.Goals as goal

pub returns-then-not-is_known-clause-answer : goal.returns-then-not-is_known-clause-answer
returns-then-not-is_known-clause-answer c =
    let er = reads_are c.args.block.now.entries c.args.i (entry_of c.get-entry.result.now) c.get-entry.ensures in
    known_fault c.args.block.now c.args.i c.args.j c.args.line
    (λ k. let z : false ≡ true = c.if-not-is_known.ensures.1 (subst (λ ds. IsKnown c.args.i ds c.args.j) er k) in cc z) c.requires.line

pub is_corner-requires-clause-reading : goal.is_corner-requires-clause-reading
is_corner-requires-clause-reading c = omega (arith, c.requires.reading, ap length (reads_are c.args.block.now.entries c.args.i (entry_of c.get-entry.result.now) c.get-entry.ensures))

pub returns-then-not-is_corner-clause-answer : goal.returns-then-not-is_corner-clause-answer
returns-then-not-is_corner-clause-answer c =
    let er = reads_are c.args.block.now.entries c.args.i (entry_of c.get-entry.result.now) c.get-entry.ensures in
    let told = c.if-not-is_corner.ensures c.args.block.now.entries c.requires.corners in
    corner_fault c.args.block.now c.args.i c.args.j c.args.line (subst (λ ds. IsKnown c.args.i ds c.args.j) (sym er) (c.if-not-is_known.ensures.0 refl))
    (λ k. let z : false ≡ true = told.1 (subst (λ ds. IsCornerOf (ranks_of_problem c.args.block.now.problem) (basis_of c.args.block.now.entries) c.args.i ds c.args.j) er k) in cc z) c.requires.line

pub get-reading-requires : goal.get-reading-requires
get-reading-requires c = omega (arith, c.requires.reading, ap length (reads_are c.args.block.now.entries c.args.i (entry_of c.get-entry.result.now) c.get-entry.ensures))

pub step-requires-clause-known : goal.step-requires-clause-known
step-requires-clause-known c =
    let k : IsKnown c.args.i c.get-entry.result.now.reads.list c.args.j = c.if-not-is_known.ensures.0 refl in
    omega (arith, k.within, ap (λ (x : Reading). x.known) (reading_is c.get-entry.result.now.reads.list c.args.j c.get-reading.result c.get-reading.ensures), c.requires.place)

pub is_end-requires : goal.is_end-requires
is_end-requires c = omega (arith, c.requires.reading, ap length (reads_are c.args.block.now.entries c.args.i (entry_of c.get-entry.result.now) c.get-entry.ensures), c.len.ensures)

pub returns-then-not-is_end-clause-answer : goal.returns-then-not-is_end-clause-answer
returns-then-not-is_end-clause-answer c =
    let er = reads_are c.args.block.now.entries c.args.i (entry_of c.get-entry.result.now) c.get-entry.ensures in
    let k : IsKnown c.args.i c.get-entry.result.now.reads.list c.args.j = c.if-not-is_known.ensures.0 refl in
    let low : c.get-reading.result.known ≤ length c.args.block.now.entries = omega (arith, k.within, ap (λ (x : Reading). x.known) (reading_is c.get-entry.result.now.reads.list c.args.j c.get-reading.result c.get-reading.ensures), c.requires.place) in
    let g : slice_get (entry_at c.args.block.now.entries c.args.i).reads c.args.j ≡ Some c.get-reading.result = subst (λ ds. slice_get ds c.args.j ≡ Some c.get-reading.result) (sym er) c.get-reading.ensures in
    let a : RunAlike (ranks_of_problem c.args.block.now.problem) (state (Some c.in_ok-end.end) (at c.step.new.h.terms) c.step.new.kept.items) (RunTo c.args.block.now (problem_is_admissible _ c.requires.problem) c.args.i (suc c.args.j)) =
    one_replayed c.args.block.now (problem_is_admissible _ c.requires.problem) c.args.i c.args.j c.get-reading.result c.in_ok-end.end (at c.args.h.now.terms) (at c.step.new.h.terms) c.args.kept.now.items c.step.new.kept.items g low c.requires.replayed c.in_ok-end.ensures.step in
    run_fault c.args.block.now c.args.i c.args.j c.args.line (subst (λ ds. IsKnown c.args.i ds c.args.j) (sym er) k)
    (subst (λ ds. IsCornerOf (ranks_of_problem c.args.block.now.problem) (basis_of c.args.block.now.entries) c.args.i ds c.args.j) (sym er) ((c.if-not-is_corner.ensures c.args.block.now.entries c.requires.corners).0 refl))
    (run_fails c.args.block.now (problem_is_admissible _ c.requires.problem) c.args.i c.args.j c.in_ok-end.end (at c.step.new.h.terms) c.step.new.kept.items a
    (λ e. let z : false ≡ true = c.if-not-is_end.ensures.1 (e ∙ ap (λ n. end_at n c.args.j) (ap length er ∙ sym c.len.ensures)) in cc z)) c.requires.line

pub returns-clause-answer : goal.returns-clause-answer
returns-clause-answer c =
    let er = reads_are c.args.block.now.entries c.args.i (entry_of c.get-entry.result.now) c.get-entry.ensures in
    let k : IsKnown c.args.i c.get-entry.result.now.reads.list c.args.j = c.if-not-is_known.ensures.0 refl in
    let low : c.get-reading.result.known ≤ length c.args.block.now.entries = omega (arith, k.within, ap (λ (x : Reading). x.known) (reading_is c.get-entry.result.now.reads.list c.args.j c.get-reading.result c.get-reading.ensures), c.requires.place) in
    let g : slice_get (entry_at c.args.block.now.entries c.args.i).reads c.args.j ≡ Some c.get-reading.result = subst (λ ds. slice_get ds c.args.j ≡ Some c.get-reading.result) (sym er) c.get-reading.ensures in
    let a : RunAlike (ranks_of_problem c.args.block.now.problem) (state (Some c.in_ok-end.end) (at c.step.new.h.terms) c.step.new.kept.items) (RunTo c.args.block.now (problem_is_admissible _ c.requires.problem) c.args.i (suc c.args.j)) =
    one_replayed c.args.block.now (problem_is_admissible _ c.requires.problem) c.args.i c.args.j c.get-reading.result c.in_ok-end.end (at c.args.h.now.terms) (at c.step.new.h.terms) c.args.kept.now.items c.step.new.kept.items g low c.requires.replayed c.in_ok-end.ensures.step in
    reading_holds c.args.block.now c.args.i c.args.j (subst (λ ds. IsKnown c.args.i ds c.args.j) (sym er) k)
    (subst (λ ds. IsCornerOf (ranks_of_problem c.args.block.now.problem) (basis_of c.args.block.now.entries) c.args.i ds c.args.j) (sym er) ((c.if-not-is_corner.ensures c.args.block.now.entries c.requires.corners).0 refl))
    (run_holds c.args.block.now (problem_is_admissible _ c.requires.problem) c.args.i c.args.j c.in_ok-end.end (at c.step.new.h.terms) c.step.new.kept.items a
    (c.if-not-is_end.ensures.0 refl ∙ ap (λ n. end_at n c.args.j) (c.len.ensures ∙ ap length (sym er))))

pub returns-clause-replayed : goal.returns-clause-replayed
returns-clause-replayed c =
    let er = reads_are c.args.block.now.entries c.args.i (entry_of c.get-entry.result.now) c.get-entry.ensures in
    let k : IsKnown c.args.i c.get-entry.result.now.reads.list c.args.j = c.if-not-is_known.ensures.0 refl in
    let low : c.get-reading.result.known ≤ length c.args.block.now.entries = omega (arith, k.within, ap (λ (x : Reading). x.known) (reading_is c.get-entry.result.now.reads.list c.args.j c.get-reading.result c.get-reading.ensures), c.requires.place) in
    let g : slice_get (entry_at c.args.block.now.entries c.args.i).reads c.args.j ≡ Some c.get-reading.result = subst (λ ds. slice_get ds c.args.j ≡ Some c.get-reading.result) (sym er) c.get-reading.ensures in
    next_replayed c.args.block.now (problem_is_admissible _ c.requires.problem) c.args.i c.args.j c.in_ok-end.end (at c.step.new.h.terms) c.step.new.kept.items
    (one_replayed c.args.block.now (problem_is_admissible _ c.requires.problem) c.args.i c.args.j c.get-reading.result c.in_ok-end.end (at c.args.h.now.terms) (at c.step.new.h.terms) c.args.kept.now.items c.step.new.kept.items g low c.requires.replayed c.in_ok-end.ensures.step)
