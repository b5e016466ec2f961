use Rattle.std.proofs.Common.{sym, ◌∙◌, arith}
use Rattle.script_tokens.specs.PlaceView.{place_of}
use Rattle.ring_reader.proofs.Monomials.{monomial_goes, monomial_fails, monomial_ends, reads_failed}
use Rattle.ring_reader.proofs.noether.monomial.Goals as goal

pub returns-in_err-more-clause-reads : goal.returns-in_err-more-clause-reads
returns-in_err-more-clause-reads c =
    reads_failed _ _ _ _ c.from_residual-in_err-more.ensures.1
    (monomial_fails c.args.letters.now _ c.loop-after.degree (place_of c.loop-after.after) (place_of c.behind.result) _
    (sym c.is_mark.ensures.which ∙ c.loop-after-test.true) (c.is_mark.ensures.some c.loop-after-test.true) c.behind.ensures.next c.in_err-more.ensures.reads c.loop-after.invariant.so_far)

pub loop-after-preserved : goal.loop-after-preserved
loop-after-preserved c = record {
  so_far = monomial_goes c.args.letters.now _ c.loop-after.degree (place_of c.loop-after.after) (place_of c.behind.result) c.in_ok-more.more (place_of c.in_ok-more.next) c.min-degree.result
      (sym c.is_mark.ensures.which ∙ c.loop-after-test.true) (omega (arith, c.is_mark.ensures.some c.loop-after-test.true, c.in_ok-more.ensures.shorter, c.behind.ensures.shorter)) c.behind.ensures.next c.in_ok-more.ensures.reads c.min-degree.ensures
      c.loop-after.invariant.so_far;
  shorter = omega (arith, c.is_mark.ensures.some c.loop-after-test.true, c.in_ok-more.ensures.shorter, c.behind.ensures.shorter, c.loop-after.invariant.shorter);
  low = omega (arith, c.min-degree.ensures);
}

pub returns-clause-reads : goal.returns-clause-reads
returns-clause-reads c =
    monomial_ends c.args.letters.now _ c.loop-after.degree (place_of c.loop-after.after) (sym c.is_mark.ensures.which ∙ c.loop-after-test.false) c.loop-after.invariant.so_far
