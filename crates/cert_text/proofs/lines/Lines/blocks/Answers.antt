use Rattle.std.proofs.Common.{◌-◌, ◌+◌, List, [], ◌∷◌, map, sym, ◌∙◌, ap, subst, arith}
use Rattle.std.specs.List.{AllByRecursion}
use Rattle.std.proofs.lemmas.List.{map-append}
use Rattle.cert_grammar.specs.Blocks.{Block as BlockLines}
use Rattle.cert_grammar.specs.declared.certified.Certified.{Certified}
use Rattle.cert_grammar.specs.Certified.{IsCertified, block_of}
use Rattle.cert_text.proofs.Certifying.{all-push}
use Rattle.std.proofs.lemmas.Result.{err_from_is_err_and}
use Rattle.cert_text.specs.Gives.{with_items}
use Rattle.cert_grammar.specs.Reading.{blocks_at}
use Rattle.cert_text.proofs.BlockReads.{blocks_done, blocks_more, blocks_stop, end_done, end_stop}
use Rattle.cert_text.proofs.lines.Lines.blocks.Goals as goal

pub returns-then-is_done-clause-read : goal.returns-then-is_done-clause-read
returns-then-is_done-clause-read c =
    blocks_done (map block_of c.loop-b.blocks.items) c.loop-b.b c.loop-b.self c.given.new.self _ c.loop-b-test.true (sym c.is_done.ensures ∙ c.if-is_done.true) c.in_ok-given.ensures c.loop-b.invariant.read

pub returns-in_err-block-clause-read : goal.returns-in_err-block-clause-read
returns-in_err-block-clause-read c =
    let p = err_from_is_err_and c.from_residual-in_err-block.result c.from_residual-in_err-block.ensures.1 in
    rw (p.1, p.2) (blocks_stop c.in_err-block.field-0.0 (map block_of c.loop-b.blocks.items) c.loop-b.b c.loop-b.self c.block.new.self _ c.loop-b-test.true (sym c.is_done.ensures ∙ c.if-is_done.false) c.in_err-block.ensures.read c.loop-b.invariant.read)

pub loop-b-preserved : goal.loop-b-preserved
loop-b-preserved c = record {
  read =
      ap (λ (z : List Certified). with_items (map block_of z) (blocks_at (64 - (c.loop-b.b + 1)) (c.loop-b.b + 1) c.block.new.self)) c.in_ok-push-2.ensures.items
      ∙ ap (λ (z : List BlockLines). with_items z (blocks_at (64 - (c.loop-b.b + 1)) (c.loop-b.b + 1) c.block.new.self)) (map-append block_of c.loop-b.blocks.items (_ ∷ []))
      ∙ blocks_more (map block_of c.loop-b.blocks.items) c.loop-b.b c.loop-b.self c.block.new.self _ c.loop-b-test.true (sym c.is_done.ensures ∙ c.if-is_done.false) c.in_ok-block.ensures.read
      ∙ c.loop-b.invariant.read;
  certified = subst (AllByRecursion IsCertified) (sym c.in_ok-push-2.ensures.items) (all-push c.loop-b.blocks.items _ c.loop-b.invariant.certified c.in_ok-block.ensures.certified);
}

pub returns-in_err-given-2-clause-read : goal.returns-in_err-given-2-clause-read
returns-in_err-given-2-clause-read c =
    let p = err_from_is_err_and c.from_residual-in_err-given-2.result c.from_residual-in_err-given-2.ensures.1 in
    rw (p.1, p.2) (end_stop c.in_err-given-2.field-0.0 (map block_of c.loop-b.blocks.items) c.loop-b.b c.loop-b.self c.given-2.new.self _ (omega (arith, c.loop-b-test.false, c.loop-b.auto.b-end)) c.in_err-given-2.ensures c.loop-b.invariant.read)

pub returns-clause-read : goal.returns-clause-read
returns-clause-read c = end_done (map block_of c.loop-b.blocks.items) c.loop-b.b c.loop-b.self c.given-2.new.self _ (omega (arith, c.loop-b-test.false, c.loop-b.auto.b-end)) c.in_ok-given-2.ensures c.loop-b.invariant.read
