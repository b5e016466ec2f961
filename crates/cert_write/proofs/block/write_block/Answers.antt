use Rattle.std.proofs.Common.{◌≡◌, ◌++◌, ◌∷◌, [], List, ℕ, Err, length, map, codes, string_bytes, refl, sym, ◌∙◌, ap, subst}
use Rattle.std.specs.Prelude.{IfOk}
use Rattle.std.proofs.lemmas.Result.{err_from_is_err_and}
use Rattle.std.proofs.lemmas.List.{length-map}
use Rattle.cert_grammar.specs.Lines.{text}
use Rattle.cert_grammar.specs.Words.{Ring}
use Rattle.cert_grammar.specs.Cert.{numbered, in_turn, entry_lines, verdict_lines}
use Rattle.cert_grammar.specs.declared.certified.Certified.{Certified}
use Rattle.cert_grammar.specs.Certified.{entry_of, ring_of, block_of}
use Rattle.cert_grammar.proofs.CertifiedBlocks.{block_is}
use Rattle.cert_write.specs.Claim.{claim}
use Rattle.cert_write.specs.Writes.{WritesOrStops}
use Rattle.cert_write.proofs.Parts.{writable, front_is, front_lines, block_text}
use Rattle.cert_write.proofs.Stopping.{all_of, stops_then, stops_within}
use Rattle.cert_write.proofs.block.write_block.Goals as goal

pub front_text-front-requires : goal.front_text-front-requires
front_text-front-requires g c =
    let x = claim c.args.letters.now c.args.problem.now c.args.entries.now c.args.answer.now in
    rw (c.new-ring.ensures, c.gens.ensures.value, c.field.ensures.value, c.d.ensures.value) (block_is x c.requires).gens

pub write_entries-requires-clause-entries : goal.write_entries-requires-clause-entries
write_entries-requires-clause-entries g c =
    let x = claim c.args.letters.now c.args.problem.now c.args.entries.now c.args.answer.now in
    rw (c.new-ring.ensures, c.field.ensures.value, c.d.ensures.value) (writable (ring_of x) x.problem refl c.requires.variables x.entries c.requires.entries (block_is x c.requires).entries)

pub returns-in_err-write_made : goal.returns-in_err-write_made
returns-in_err-write_made g c =
    let x = claim c.args.letters.now c.args.problem.now c.args.entries.now c.args.answer.now in
    let y = block_of x in
    let b = c.args.index in
    let front : List ℕ = text (front_lines b y) in
    let entries : List ℕ = text (in_turn (entry_lines y.ring) 0 y.entries) in
    let last : List ℕ = text (verdict_lines y.ring y.verdict ++ numbered (codes "end") b ∷ []) in
    let ring_is : c.new-ring.result ≡ y.ring = rw (c.field.ensures.value, c.d.ensures.value) at c.new-ring.ensures in
    let made = front_is c.front_text-front.result (λ s. string_bytes s) b y c.new-ring.result c.gens.result.now c.len.result ring_is c.gens.ensures.value (c.len.ensures ∙ sym (length-map x.entries (entry_of x.problem))) c.front_text-front.ensures in
    let q = err_from_is_err_and c.from_residual.result c.from_residual.ensures.1 in
    subst (WritesOrStops _ _ _ _ c.from_residual.result) (sym (block_text b y))
    (stops_within _ _ _ _ c.write_made.result c.from_residual.result _ front (entries ++ last) c.in_err-write_made.was (q.1 ∙ ap (λ e. Err e) q.2) (c.write_made.ensures front made))

pub returns-in_err-write_entries : goal.returns-in_err-write_entries
returns-in_err-write_entries g c =
    let x = claim c.args.letters.now c.args.problem.now c.args.entries.now c.args.answer.now in
    let y = block_of x in
    let b = c.args.index in
    let front : List ℕ = text (front_lines b y) in
    let entries : List ℕ = text (in_turn (entry_lines y.ring) 0 y.entries) in
    let last : List ℕ = text (verdict_lines y.ring y.verdict ++ numbered (codes "end") b ∷ []) in
    let ring_is : c.new-ring.result ≡ y.ring = rw (c.field.ensures.value, c.d.ensures.value) at c.new-ring.ensures in
    let made = front_is c.front_text-front.result (λ s. string_bytes s) b y c.new-ring.result c.gens.result.now c.len.result ring_is c.gens.ensures.value (c.len.ensures ∙ sym (length-map x.entries (entry_of x.problem))) c.front_text-front.ensures in
    let before = all_of _ _ _ _ c.write_made.result _ front c.in_ok-write_made.was (c.write_made.ensures front made) in
    let q = err_from_is_err_and c.from_residual-in_err-write_entries.result c.from_residual-in_err-write_entries.ensures.1 in
    let wrote = subst (λ (r : Ring). WritesOrStops (g.C.Sink.written c.write_made.new.sink) (g.C.Sink.written c.write_entries.new.sink) (g.C.Sink.faults c.write_made.new.sink) (g.C.Sink.faults c.write_entries.new.sink) c.write_entries.result (text (in_turn (entry_lines r) 0 y.entries))) ring_is c.write_entries.ensures in
    subst (WritesOrStops _ _ _ _ c.from_residual-in_err-write_entries.result) (sym (block_text b y))
    (stops_then _ _ _ _ _ _ c.from_residual-in_err-write_entries.result front (entries ++ last) before.0 before.1
    (stops_within _ _ _ _ c.write_entries.result c.from_residual-in_err-write_entries.result _ entries last c.in_err-write_entries.was (q.1 ∙ ap (λ e. Err e) q.2) wrote))

pub returns : goal.returns
returns g c =
    let x = claim c.args.letters.now c.args.problem.now c.args.entries.now c.args.answer.now in
    let y = block_of x in
    let b = c.args.index in
    let front : List ℕ = text (front_lines b y) in
    let entries : List ℕ = text (in_turn (entry_lines y.ring) 0 y.entries) in
    let last : List ℕ = text (verdict_lines y.ring y.verdict ++ numbered (codes "end") b ∷ []) in
    let ring_is : c.new-ring.result ≡ y.ring = rw (c.field.ensures.value, c.d.ensures.value) at c.new-ring.ensures in
    let made = front_is c.front_text-front.result (λ s. string_bytes s) b y c.new-ring.result c.gens.result.now c.len.result ring_is c.gens.ensures.value (c.len.ensures ∙ sym (length-map x.entries (entry_of x.problem))) c.front_text-front.ensures in
    let before = all_of _ _ _ _ c.write_made.result _ front c.in_ok-write_made.was (c.write_made.ensures front made) in
    let wrote = subst (λ (r : Ring). WritesOrStops (g.C.Sink.written c.write_made.new.sink) (g.C.Sink.written c.write_entries.new.sink) (g.C.Sink.faults c.write_made.new.sink) (g.C.Sink.faults c.write_entries.new.sink) c.write_entries.result (text (in_turn (entry_lines r) 0 y.entries))) ring_is c.write_entries.ensures in
    let then = all_of _ _ _ _ c.write_entries.result _ entries c.in_ok-write_entries.was wrote in
    let end = subst (λ (r : Ring). IfOk c.end_text.result (λ s. string_bytes s ≡ text (verdict_lines r y.verdict ++ numbered (codes "end") b ∷ []))) ring_is c.end_text.ensures in
    subst (WritesOrStops _ _ _ _ c.write_made-2.result) (sym (block_text b y))
    (stops_then _ _ _ _ _ _ c.write_made-2.result front (entries ++ last) before.0 before.1
    (stops_then _ _ _ _ _ _ c.write_made-2.result entries last then.0 then.1 (c.write_made-2.ensures last end)))
