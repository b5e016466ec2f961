use Rattle.std.proofs.Common.{◌≡◌, ◌+◌, length, All, ap, subst, arith}
use Rattle.std.specs.Prelude.{IfNone}
use Rattle.entry_code.specs.Entry.{entry_of, entry_at}
use Rattle.mora_law.proofs.Ring.{problem_is_admissible}
use Rattle.cert_check.specs.Checks.{reading_checks, Holds}
use Rattle.cert_check.specs.Sparse.{at}
use Rattle.cert_check.specs.Answers.{IsAnswered, IsReplayed}
use Rattle.cert_check.proofs.Stored.{reads_are}
use Rattle.cert_check.proofs.Replaying.{three, readings_more, reading_fault, whole_run}
use Rattle.cert_check.proofs.reading.check_readings.Goals as goal

pub returns-in-Some-clause-answer : goal.returns-in-Some-clause-answer
returns-in-Some-clause-answer c =
    let er = reads_are c.args.block.now.entries c.args.i (entry_of c.get.result.now) c.get.ensures in
    reading_fault c.args.block.now c.args.i (length (entry_at c.args.block.now.entries c.args.i).reads) c.loop-j.j c.in-Some.fault.line c.in-Some.fault.reason
    (omega (arith, c.loop-j-test.true, c.len-readings.ensures, ap length er)) c.loop-j.invariant.0
    (subst (IsAnswered c.args.block.now (three c.args.i c.loop-j.j)) c.in-Some.is c.in_ok-fault.ensures.answer)

pub loop-j-preserved : goal.loop-j-preserved
loop-j-preserved c = (
  readings_more c.args.block.now c.args.i c.loop-j.j c.loop-j.invariant.0 (subst (IsAnswered c.args.block.now (three c.args.i c.loop-j.j)) c.in_default.is c.in_ok-fault.ensures.answer),
  subst (λ o. IfNone o (IsReplayed c.args.block.now c.args.i (c.loop-j.j + 1) (at c.check_reading.new.h.terms) c.check_reading.new.kept.items)) c.in_default.is c.in_ok-fault.ensures.replayed,
  c.in_ok-fault.ensures.kept,
  c.in_ok-fault.ensures.clean,
)

pub returns-clause-answer : goal.returns-clause-answer
returns-clause-answer c =
    let er = reads_are c.args.block.now.entries c.args.i (entry_of c.get.result.now) c.get.ensures in
    subst (λ n. All (Holds c.args.block.now) (reading_checks c.args.i n 0)) (let z : c.loop-j.j ≡ length (entry_at c.args.block.now.entries c.args.i).reads = omega (arith, c.loop-j-test.false, c.loop-j.auto.j-end, c.len-readings.ensures, ap length er) in z) c.loop-j.invariant.0

pub returns-clause-run : goal.returns-clause-run
returns-clause-run c =
    let er = reads_are c.args.block.now.entries c.args.i (entry_of c.get.result.now) c.get.ensures in
    whole_run c.args.block.now (problem_is_admissible _ c.requires.problem) c.args.i c.loop-j.j (at c.loop-j.h.terms) c.loop-j.kept.items (omega (arith, c.loop-j-test.false, c.len-readings.ensures, ap length er)) c.loop-j.invariant.1
