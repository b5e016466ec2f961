use Rattle.std.proofs.Common.{◌≡◌, ◌<◌, List, length, get_or, sym, ◌∙◌, ap, subst, arith}
use Rattle.std.specs.Prelude.{IfNone}
use Rattle.cert_grammar.specs.declared.certified.Certified.{Certified}
use Rattle.cert_check.specs.Block.{IsRead}
use Rattle.cert_check.specs.Accepted.{IsAcceptedBlock}
use Rattle.cert_check.specs.Checks.{checks, block_lines}
use Rattle.cert_check.specs.Answers.{IsAnswered}
use Rattle.cert_check.proofs.FaultLines.{fault_within}
use Rattle.cert_check.proofs.Verdicts.{all_read, block_line_more, block_within, accepted_more, fault_of_block}
use Rattle.cert_check.proofs.certificate.check_blocks.Goals as goal

pub check_block-requires-clause-read : goal.check_block-requires-clause-read
check_block-requires-clause-read c =
    let here : get_or c.args.cert.now c.loop-k.k c.index-blocks-k.result ≡ c.index-blocks-k.result = sym (c.index-blocks-k.is ∙ ap (λ (xs : List Certified). get_or xs c.loop-k.k c.index-blocks-k.result) c.blocks-blocks.ensures) in
    subst IsRead here (all_read c.args.cert.now c.requires.certificate c.loop-k.k c.index-blocks-k.result (omega (arith, c.loop-k-test.true, ap length c.blocks-blocks.ensures)))

pub check_block-requires-clause-few : goal.check_block-requires-clause-few
check_block-requires-clause-few c =
    let here : get_or c.args.cert.now c.loop-k.k c.index-blocks-k.result ≡ c.index-blocks-k.result = sym (c.index-blocks-k.is ∙ ap (λ (xs : List Certified). get_or xs c.loop-k.k c.index-blocks-k.result) c.blocks-blocks.ensures) in
    let w = block_within c.args.cert.now c.loop-k.k c.index-blocks-k.result (omega (arith, c.loop-k-test.true, ap length c.blocks-blocks.ensures)) in
    omega (arith, w, ap block_lines here, c.requires.few)

pub overflow_add-result : goal.overflow_add-result
overflow_add-result c =
    let here : get_or c.args.cert.now c.loop-k.k c.index-blocks-k.result ≡ c.index-blocks-k.result = sym (c.index-blocks-k.is ∙ ap (λ (xs : List Certified). get_or xs c.loop-k.k c.index-blocks-k.result) c.blocks-blocks.ensures) in
    let w = block_within c.args.cert.now c.loop-k.k c.index-blocks-k.result (omega (arith, c.loop-k-test.true, ap length c.blocks-blocks.ensures)) in
    let f = fault_within c.index-blocks-k.result c.in-Some.fault.line c.in-Some.fault.reason (subst (IsAnswered c.index-blocks-k.result (checks c.index-blocks-k.result)) c.in-Some.is c.in_ok-fault.ensures.fault) in
    omega (arith, w, f, ap block_lines here, c.loop-k.invariant.1, c.requires.few)

pub returns-in-Some : goal.returns-in-Some
returns-in-Some c =
    let here : get_or c.args.cert.now c.loop-k.k c.index-blocks-k.result ≡ c.index-blocks-k.result = sym (c.index-blocks-k.is ∙ ap (λ (xs : List Certified). get_or xs c.loop-k.k c.index-blocks-k.result) c.blocks-blocks.ensures) in
    fault_of_block c.args.cert.now c.loop-k.k c.loop-k.line c.in-Some.fault.line c.in-Some.fault.reason c.index-blocks-k.result (omega (arith, c.loop-k-test.true, ap length c.blocks-blocks.ensures)) here c.loop-k.invariant.0
    (subst (IsAnswered c.index-blocks-k.result (checks c.index-blocks-k.result)) c.in-Some.is c.in_ok-fault.ensures.fault) c.loop-k.invariant.1

pub block_lines-line-requires : goal.block_lines-line-requires
block_lines-line-requires c =
    let here : get_or c.args.cert.now c.loop-k.k c.index-blocks-k.result ≡ c.index-blocks-k.result = sym (c.index-blocks-k.is ∙ ap (λ (xs : List Certified). get_or xs c.loop-k.k c.index-blocks-k.result) c.blocks-blocks.ensures) in
    let w = block_within c.args.cert.now c.loop-k.k c.index-blocks-k.result (omega (arith, c.loop-k-test.true, ap length c.blocks-blocks.ensures)) in
    omega (arith, w, ap block_lines here, c.requires.few)

pub overflow_add-line : goal.overflow_add-line
overflow_add-line c =
    let here : get_or c.args.cert.now c.loop-k.k c.index-blocks-k.result ≡ c.index-blocks-k.result = sym (c.index-blocks-k.is ∙ ap (λ (xs : List Certified). get_or xs c.loop-k.k c.index-blocks-k.result) c.blocks-blocks.ensures) in
    let w = block_within c.args.cert.now c.loop-k.k c.index-blocks-k.result (omega (arith, c.loop-k-test.true, ap length c.blocks-blocks.ensures)) in
    omega (arith, w, ap block_lines here, c.loop-k.invariant.1, c.block_lines-line.ensures, c.requires.few)

pub loop-k-preserved : goal.loop-k-preserved
loop-k-preserved c =
    let here : get_or c.args.cert.now c.loop-k.k c.index-blocks-k.result ≡ c.index-blocks-k.result = sym (c.index-blocks-k.is ∙ ap (λ (xs : List Certified). get_or xs c.loop-k.k c.index-blocks-k.result) c.blocks-blocks.ensures) in
    let l : c.loop-k.k < length c.args.cert.now = omega (arith, c.loop-k-test.true, ap length c.blocks-blocks.ensures) in
    let m = block_line_more c.args.cert.now c.loop-k.k c.index-blocks-k.result l in (
      accepted_more c.args.cert.now c.loop-k.k c.index-blocks-k.result l c.loop-k.invariant.0 (subst IsAcceptedBlock (sym here) (subst (λ o. IfNone o (IsAcceptedBlock c.index-blocks-k.result)) c.in_default.is c.in_ok-fault.ensures.accepted)),
      omega (arith, c.loop-k.invariant.1, m, ap block_lines here, c.block_lines-line.ensures),
    )
