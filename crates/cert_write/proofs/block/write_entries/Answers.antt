use Rattle.std.proofs.Common.{◌≡◌, ◌++◌, List, ℕ, suc, map, Err, refl, ◌∙◌, ap, arith}
use Rattle.std.proofs.lemmas.Result.{err_from_is_err_and}
use Rattle.entry_code.specs.Entry.{Entry, entry_of as stored_entry}
use Rattle.cert_grammar.specs.Lines.{text}
use Rattle.cert_grammar.specs.Cert.{in_turn, entry_lines}
use Rattle.cert_grammar.specs.Certified.{entry_of}
use Rattle.cert_grammar.proofs.Refusals.{text-append}
use Rattle.cert_write.specs.Parts.{IsWritable}
use Rattle.cert_write.proofs.Steps.{holds_at}
use Rattle.cert_write.proofs.Parts.{entries_text}
use Rattle.cert_write.proofs.Stopping.{all_of, none_yet, one_written, one_stops, all_written}
use Rattle.cert_write.proofs.block.write_entries.Goals as goal

pub overflow_cast-i : goal.overflow_cast-i
overflow_cast-i g c = omega (arith, c.loop-i-test.true, c.len-i-end.ensures, c.requires.few)

pub loop-i-init : goal.loop-i-init
loop-i-init g c = none_yet (entries_text c.args.ring.now c.args.problem.now) c.args.entries.now _ _

pub entry_text-made-requires-clause-entry : goal.entry_text-made-requires-clause-entry
entry_text-made-requires-clause-entry g c =
    holds_at (IsWritable c.args.ring.now c.args.problem.now) c.args.entries.now c.loop-i.i (stored_entry c.get.result.now) c.requires.entries c.get.ensures

pub loop-i-preserved : goal.loop-i-preserved
loop-i-preserved g c =
    let r = c.args.ring.now in
    let P = c.args.problem.now in
    let x : Entry = stored_entry c.get.result.now in
    let piece : List ℕ = text (entry_lines r c.loop-i.i (entry_of P x)) in
    let done = all_of _ _ _ _ c.write_made.result _ piece c.in_ok-write_made.was (c.write_made.ensures piece c.entry_text-made.ensures) in
    one_written (entries_text r P) c.args.entries.now _ _ _ _ _ _ c.loop-i.i x piece
    (λ ys. text-append (entry_lines r c.loop-i.i (entry_of P x)) (in_turn (entry_lines r) (suc c.loop-i.i) (map (entry_of P) ys)))
    c.get.ensures c.loop-i.invariant done.0 done.1

pub returns-in_err-write_made : goal.returns-in_err-write_made
returns-in_err-write_made g c =
    let r = c.args.ring.now in
    let P = c.args.problem.now in
    let x : Entry = stored_entry c.get.result.now in
    let piece : List ℕ = text (entry_lines r c.loop-i.i (entry_of P x)) in
    let q = err_from_is_err_and c.from_residual.result c.from_residual.ensures.1 in
    one_stops (entries_text r P) c.args.entries.now _ _ _ _ _ _ c.write_made.result c.from_residual.result _ c.loop-i.i x piece
    (λ ys. text-append (entry_lines r c.loop-i.i (entry_of P x)) (in_turn (entry_lines r) (suc c.loop-i.i) (map (entry_of P) ys)))
    c.get.ensures c.in_err-write_made.was (q.1 ∙ ap (λ e. Err e) q.2) c.loop-i.invariant (c.write_made.ensures piece c.entry_text-made.ensures)

pub returns : goal.returns
returns g c =
    all_written (entries_text c.args.ring.now c.args.problem.now) c.args.entries.now _ _ _ _ _ c.loop-i.i (omega (arith, c.loop-i-test.false, c.len-i-end.ensures)) refl c.loop-i.invariant
