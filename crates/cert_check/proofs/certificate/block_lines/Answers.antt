use Rattle.std.proofs.Common.{◌+◌, length, ap, arith}
use Rattle.std.proofs.lemmas.List.{length-map}
use Rattle.sparse_poly.specs.Poly.{in_variables}
use Rattle.entry_code.specs.Entry.{entry_of}
use Rattle.cert_check.proofs.BlockLines.{line_more, line_within, verdict_within}
use Rattle.cert_check.proofs.Stored.{reads_are}
use Rattle.cert_check.proofs.certificate.block_lines.Goals as goal

pub loop-i-init : goal.loop-i-init
loop-i-init c = omega (arith, c.len.ensures, ap length c.gens.ensures.value, length-map c.args.block.now.problem.gens (in_variables c.args.block.now.problem.n))

pub loop-i-preserved : goal.loop-i-preserved
loop-i-preserved c =
    let r = ap length (reads_are c.args.block.now.entries c.loop-i.i (entry_of c.get.result.now) c.get.ensures) in
    let x = line_more c.args.block.now c.loop-i.i (omega (arith, c.loop-i-test.true, c.len-i-end.ensures)) in
    omega (arith, c.loop-i.invariant, x, r, c.len-in-loop-i.ensures)

pub overflow_add-lines-in-loop-i : goal.overflow_add-lines-in-loop-i
overflow_add-lines-in-loop-i c =
    let x = line_more c.args.block.now c.loop-i.i (omega (arith, c.loop-i-test.true, c.len-i-end.ensures)) in
    let y = line_within c.args.block.now (c.loop-i.i + 1) in
    let z = verdict_within c.args.block.now in
    let r = ap length (reads_are c.args.block.now.entries c.loop-i.i (entry_of c.get.result.now) c.get.ensures) in
    omega (arith, c.loop-i.invariant, x, y, z, r, c.len-in-loop-i.ensures, c.requires)

pub overflow_add-lines-in-loop-i-2 : goal.overflow_add-lines-in-loop-i-2
overflow_add-lines-in-loop-i-2 c =
    let x = line_more c.args.block.now c.loop-i.i (omega (arith, c.loop-i-test.true, c.len-i-end.ensures)) in
    let y = line_within c.args.block.now (c.loop-i.i + 1) in
    let z = verdict_within c.args.block.now in
    let r = ap length (reads_are c.args.block.now.entries c.loop-i.i (entry_of c.get.result.now) c.get.ensures) in
    omega (arith, c.loop-i.invariant, x, y, z, r, c.len-in-loop-i.ensures, c.requires)
