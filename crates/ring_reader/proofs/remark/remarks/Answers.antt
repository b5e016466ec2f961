use Rattle.std.proofs.Common.{sym, ◌∙◌, arith}
use Rattle.script_tokens.specs.PlaceView.{place_of}
use Rattle.ring_reader.proofs.Monomials.{reads_failed}
use Rattle.ring_reader.proofs.Remarks.{remarks_go, remarks_fail, remarks_end}
use Rattle.ring_reader.proofs.remark.remarks.Goals as goal

pub returns-in_err-after-clause-reads : goal.returns-in_err-after-clause-reads
returns-in_err-after-clause-reads c =
    reads_failed _ _ _ _ c.from_residual.ensures.1
    (remarks_fail _ (place_of c.loop-after.after) _ (sym c.is_remark.ensures.which ∙ c.loop-after-test.true) (c.is_remark.ensures.some c.loop-after-test.true) c.in_err-after.ensures.reads c.loop-after.invariant.so_far)

pub loop-after-preserved : goal.loop-after-preserved
loop-after-preserved c = record {
  so_far = remarks_go _ (place_of c.loop-after.after) (place_of c.in_ok-after.after) (sym c.is_remark.ensures.which ∙ c.loop-after-test.true)
      (omega (arith, c.is_remark.ensures.some c.loop-after-test.true, c.in_ok-after.ensures.shorter)) c.in_ok-after.ensures.reads c.loop-after.invariant.so_far;
  shorter = omega (arith, c.in_ok-after.ensures.shorter, c.loop-after.invariant.shorter);
}

pub returns-clause-reads : goal.returns-clause-reads
returns-clause-reads c = remarks_end _ (place_of c.loop-after.after) (sym c.is_remark.ensures.which ∙ c.loop-after-test.false) c.loop-after.invariant.so_far
