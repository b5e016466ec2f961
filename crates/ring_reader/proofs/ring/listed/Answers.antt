use Rattle.std.proofs.Common.{sym, ◌∙◌, arith}
use Rattle.script_tokens.specs.PlaceView.{place_of}
use Rattle.expression_reader.proofs.Handed.{gives_failed}
use Rattle.ring_reader.proofs.Variables.{listed_goes, listed_fails, listed_ends, listed_stops}
use Rattle.ring_reader.proofs.ring.listed.Goals as goal

pub returns-in_err-letter-clause-gives : goal.returns-in_err-letter-clause-gives
returns-in_err-letter-clause-gives c =
    gives_failed _ _ _ _ c.from_residual-in_err-letter.ensures.1
    (listed_fails c.args.ring.now _ c.loop-letters.letters.items (place_of c.loop-letters.after) (place_of c.behind.result) _
    (sym c.is_mark.ensures.which ∙ c.if-is_mark.true) c.behind.ensures.next (rw c.deref.ensures.value at c.in_err-letter.ensures.reads) c.loop-letters.invariant.so_far)

pub loop-letters-preserved : goal.loop-letters-preserved
loop-letters-preserved c = record {
  so_far = listed_goes c.args.ring.now _ c.loop-letters.letters.items (place_of c.loop-letters.after) (place_of c.behind.result) c.in_ok-letter.letter (place_of c.in_ok-letter.next) c.push-then-is_mark.new.self.items
      (sym c.is_mark.ensures.which ∙ c.if-is_mark.true) (omega (arith, c.is_mark.ensures.some c.if-is_mark.true, c.in_ok-letter.ensures.shorter, c.behind.ensures.shorter)) c.behind.ensures.next
      (rw c.deref.ensures.value at c.in_ok-letter.ensures.reads) c.in_ok-letter.ensures.letter (rw c.deref.ensures.value at c.in_ok-letter.ensures.fresh) (rw c.deref.ensures.value at c.in_ok-letter.ensures.few)
      c.in_ok-push-2.ensures.items
      c.loop-letters.invariant.so_far;
  shorter = omega (arith, c.is_mark.ensures.some c.if-is_mark.true, c.in_ok-letter.ensures.shorter, c.behind.ensures.shorter, c.loop-letters.invariant.shorter);
}

pub returns-then-is_mark-2-clause-gives : goal.returns-then-is_mark-2-clause-gives
returns-then-is_mark-2-clause-gives c =
    listed_ends c.args.ring.now _ c.loop-letters.letters.items (place_of c.loop-letters.after) (place_of c.behind-then-is_mark-2.result)
    (sym c.is_mark.ensures.which ∙ c.if-is_mark.false) (sym c.is_mark-else-is_mark.ensures.which ∙ c.if-is_mark-2.true) c.behind-then-is_mark-2.ensures.next c.loop-letters.invariant.so_far

pub returns-else-is_mark-2-clause-gives : goal.returns-else-is_mark-2-clause-gives
returns-else-is_mark-2-clause-gives c =
    listed_stops c.args.ring.now _ c.loop-letters.letters.items (place_of c.loop-letters.after) c.refused.result
    (sym c.is_mark.ensures.which ∙ c.if-is_mark.false) (sym c.is_mark-else-is_mark.ensures.which ∙ c.if-is_mark-2.false) c.refused.ensures c.loop-letters.invariant.so_far
