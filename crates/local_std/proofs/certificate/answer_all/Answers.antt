use Rattle.std.proofs.Common.{◌≡◌, ◌+◌, List, Err, Some, length, string_bytes, codes, refl, sym, ◌∙◌, ap, subst, arith}
use Rattle.std.specs.Prelude.{slice_get}
use Rattle.std.proofs.lemmas.Result.{err_from_is_err_and}
use Rattle.cert_grammar.specs.Lines.{line_text, text}
use Rattle.cert_grammar.specs.Cert.{head_line, numbered, block_lines}
use Rattle.cert_grammar.specs.Certified.{block_of}
use Rattle.cert_write.specs.Writes.{WritesOrStops}
use Rattle.cert_write.proofs.Stopping.{all_of}
use Rattle.local_std.specs.declared.solved.Solved.{Solved}
use Rattle.local_std.specs.Solved.{claim_of}
use Rattle.local_std.specs.Claims.{IsClaimable}
use Rattle.local_std.proofs.Progress.{next_is, none_written, one_written, stops_first, stops_between, stops_at, stops_last, ends_whole}
use Rattle.local_std.proofs.certificate.answer_all.Goals as goal

pub returns-in_err-begin : goal.returns-in_err-begin
returns-in_err-begin g c =
    let q = err_from_is_err_and c.from_residual.result c.from_residual.ensures.1 in
    stops_first c.args.script.now c.requires.coherent (string_bytes c.args.front) _ _ _ _ _ c.begin.result c.from_residual.result c.in_err-begin.was (q.1 ∙ ap (λ e. Err e) q.2) c.begin.ensures

pub loop-k-init : goal.loop-k-init
loop-k-init g c =
    (none_written c.args.script.now _ _ _ _ (all_of _ _ _ _ c.begin.result _ (line_text head_line) c.in_ok-begin.was c.begin.ensures), c.behind-blocks.ensures.answered c.args.script.now, c.behind-blocks.ensures.solved)

pub push-requires-clause-solved : goal.push-requires-clause-solved
push-requires-clause-solved g c = λ κs lives. c.loop-k.invariant.2

pub returns-in_default : goal.returns-in_default
returns-in_default g c = stops_between c.args.script.now c.requires.coherent (string_bytes c.args.front) _ _ _ _ c.loop-k.k c.loop-k.invariant.0 _ refl

pub write_claim-requires : goal.write_claim-requires
write_claim-requires g c =
    let s = c.args.script.now in
    let next = next_is s c.requires.coherent c.loop-k.k (omega (arith, c.loop-k-test.true, c.len-k-end.ensures)) c.push.new.self.solved.items c.in-Ok.place c.in-Ok.ensures.solved c.in-Ok.ensures.place in
    subst (λ (l : List Solved). IsClaimable s.names l c.in-Ok.place) (sym c.deref.ensures.value) (next.one, next.there, next.certified)

pub returns-in_err-write_claim : goal.returns-in_err-write_claim
returns-in_err-write_claim g c =
    let s = c.args.script.now in
    let next = next_is s c.requires.coherent c.loop-k.k (omega (arith, c.loop-k-test.true, c.len-k-end.ensures)) c.push.new.self.solved.items c.in-Ok.place c.in-Ok.ensures.solved c.in-Ok.ensures.place in
    let wrote = c.write_claim.ensures next.one (subst (λ (l : List Solved). slice_get l c.in-Ok.place ≡ Some next.one) (sym c.deref.ensures.value) next.there) in
    let q = err_from_is_err_and c.from_residual-in_err-write_claim.result c.from_residual-in_err-write_claim.ensures.1 in
    stops_at s c.requires.coherent (string_bytes c.args.front) _ _ _ _ c.loop-k.k c.loop-k.invariant.0 _ _ _ c.write_claim.result c.from_residual-in_err-write_claim.result c.in_err-write_claim.was (q.1 ∙ ap (λ e. Err e) q.2)
    next.command next.at (claim_of s.names next.one) next.certifies next.certified wrote

pub loop-k-preserved : goal.loop-k-preserved
loop-k-preserved g c =
    let s = c.args.script.now in
    let next = next_is s c.requires.coherent c.loop-k.k (omega (arith, c.loop-k-test.true, c.len-k-end.ensures)) c.push.new.self.solved.items c.in-Ok.place c.in-Ok.ensures.solved c.in-Ok.ensures.place in
    let wrote = c.write_claim.ensures next.one (subst (λ (l : List Solved). slice_get l c.in-Ok.place ≡ Some next.one) (sym c.deref.ensures.value) next.there) in (
      one_written s c.loop-k.k next.command next.at (claim_of s.names next.one) next.certifies next.certified _ _ _ _ c.loop-k.invariant.0 _ _
          (all_of _ _ _ _ c.write_claim.result _ (text (block_lines (c.loop-k.k + 1) (block_of (claim_of s.names next.one)))) c.in_ok-write_claim.was wrote),
      c.in-Ok.ensures.answered (string_bytes c.args.front) c.loop-k.invariant.1,
      c.in-Ok.ensures.solved,
    )

pub returns-in_err-end : goal.returns-in_err-end
returns-in_err-end g c =
    let past : c.loop-k.k ≡ length c.args.script.now.commands = omega (arith, c.loop-k-test.false, c.loop-k.auto.k-end, c.len-k-end.ensures) in
    let q = err_from_is_err_and c.from_residual-in_err-end.result c.from_residual-in_err-end.ensures.1 in
    let ended = subst (λ n. WritesOrStops (g.C.Sink.written c.loop-k.cert) (g.C.Sink.written c.end.new.cert) (g.C.Sink.faults c.loop-k.cert) (g.C.Sink.faults c.end.new.cert) c.end.result (line_text (numbered (codes "done") n))) c.len.ensures c.end.ensures in
    stops_last c.args.script.now c.requires.coherent (string_bytes c.args.front) _ _ _ _ c.loop-k.k c.loop-k.invariant.0 past _ _ _ c.end.result c.from_residual-in_err-end.result c.in_err-end.was (q.1 ∙ ap (λ e. Err e) q.2) ended

pub returns : goal.returns
returns g c =
    let past : c.loop-k.k ≡ length c.args.script.now.commands = omega (arith, c.loop-k-test.false, c.loop-k.auto.k-end, c.len-k-end.ensures) in
    let ended = subst (λ n. WritesOrStops (g.C.Sink.written c.loop-k.cert) (g.C.Sink.written c.end.new.cert) (g.C.Sink.faults c.loop-k.cert) (g.C.Sink.faults c.end.new.cert) c.end.result (line_text (numbered (codes "done") n))) c.len.ensures c.end.ensures in
    ends_whole c.args.script.now c.requires.coherent (string_bytes c.args.front) _ _ _ _ c.loop-k.k c.loop-k.invariant.0 past _ _ c.loop-k.blocks (all_of _ _ _ _ c.end.result _ (line_text (numbered (codes "done") (length c.args.script.now.commands))) c.in_ok-end.was ended) c.loop-k.invariant.1
