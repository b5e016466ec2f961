use Rattle.std.proofs.Common.{arith, ap, sym, ◌∙◌, inl, inr}
use Rattle.sparse_poly.specs.Poly.{Polynomial}
use Rattle.script_tokens.specs.PlaceView.{place_of}
use Rattle.script_grammar.specs.Expressions.{inner_at}
use Rattle.expression_reader.specs.NamesView.{declarations_of, values_of}
use Rattle.expression_reader.proofs.Handed.{value_failed, value_made}
use Rattle.expression_reader.proofs.Operands.{inner_reads, inner_refused}
use Rattle.expression_reader.proofs.Loops.{term_goes, term_fails_on, term_ends, sum_adds_on, sum_subtracts_on, sum_fails_on, sum_ends}
use Rattle.expression_reader.proofs.expressions.+expression.Goals as goal

pub inner-returns-in_err-after : goal.inner-returns-in_err-after
inner-returns-in_err-after t c =
    value_failed _ _ _ _ _ _ _ c.from_residual-in_err-after.ensures.1
    (inner_refused (declarations_of c.args.names.now) (values_of c.args.names.now) c.args.deep (place_of c.args.here) (place_of c.behind.result) (place_of c.in_ok-value.after) _ _
    (omega (arith, c.if-deep-eq0.false)) c.behind.ensures.next c.in_ok-value.ensures.gives c.in_err-after.ensures.reads)

pub inner-returns : goal.inner-returns
inner-returns t c = record {
  gives = inner_reads (declarations_of c.args.names.now) (values_of c.args.names.now) c.args.deep (place_of c.args.here) (place_of c.behind.result) (place_of c.in_ok-value.after) _ _
      (omega (arith, c.if-deep-eq0.false)) c.behind.ensures.next c.in_ok-value.ensures.gives c.in_ok-after.ensures.reads;
  shorter = omega (arith, c.behind.ensures.shorter, c.in_ok-value.ensures.shorter, c.in_ok-after.ensures.shorter);
  valid = c.in_ok-value.ensures.valid;
}

pub term-returns-in_err-factor : goal.term-returns-in_err-factor
term-returns-in_err-factor t c =
    let n = declarations_of c.args.names.now in
    value_failed _ _ _ _ _ _ _ c.from_residual-in_err-factor.ensures.1
    (term_fails_on (inner_at c.args.deep n) n (values_of c.args.names.now) _ c.loop-alloc.value.terms (place_of c.loop-alloc.after) (place_of c.behind.result) _
    (sym c.is_mark.ensures.which ∙ c.loop-alloc-test.true) (c.is_mark.ensures.some c.loop-alloc-test.true) c.behind.ensures.next c.in_err-factor.ensures.gives c.loop-alloc.invariant.so_far)

pub term-loop-alloc-preserved : goal.term-loop-alloc-preserved
term-loop-alloc-preserved t c = let n = declarations_of c.args.names.now in record {
  so_far = term_goes (inner_at c.args.deep n) n (values_of c.args.names.now) _ c.loop-alloc.value.terms (place_of c.loop-alloc.after) c.in_ok-factor.factor.terms (place_of c.in_ok-factor.next) (place_of c.behind.result) c.in_ok-value-2.value.terms
      (sym c.is_mark.ensures.which ∙ c.loop-alloc-test.true) (omega (arith, c.is_mark.ensures.some c.loop-alloc-test.true, c.in_ok-factor.ensures.shorter, c.behind.ensures.shorter)) c.behind.ensures.next (ap (λ (f : Polynomial). f.terms) c.in_ok-value-2.ensures.value)
      c.in_ok-factor.ensures.gives c.loop-alloc.invariant.so_far;
  shorter = omega (arith, c.is_mark.ensures.some c.loop-alloc-test.true, c.in_ok-factor.ensures.shorter, c.behind.ensures.shorter, c.loop-alloc.invariant.shorter);
  valid = value_made _ _ _ c.in_ok-value-2.value (ap (λ (f : Polynomial). f.n) c.in_ok-value-2.ensures.value) c.loop-alloc.invariant.valid.variables c.in_ok-value-2.ensures.canonical;
}

pub term-returns : goal.term-returns
term-returns t c = let n = declarations_of c.args.names.now in record {
  gives = term_ends (inner_at c.args.deep n) n (values_of c.args.names.now) _ c.loop-alloc.value.terms (place_of c.loop-alloc.after) (sym c.is_mark.ensures.which ∙ c.loop-alloc-test.false) c.loop-alloc.invariant.so_far;
  shorter = c.loop-alloc.invariant.shorter;
  valid = c.loop-alloc.invariant.valid;
}

pub sum-returns-in_err-other : goal.sum-returns-in_err-other
sum-returns-in_err-other t c =
    let n = declarations_of c.args.names.now in
    value_failed _ _ _ _ _ _ _ c.from_residual-in_err-other.ensures.1
    (sum_fails_on (inner_at c.args.deep n) n (values_of c.args.names.now) _ c.loop-after.value.terms (place_of c.loop-after.after) (place_of c.behind.result) _
    (inl (sym c.is_mark.ensures.which ∙ c.if-is_mark.true)) (c.is_mark.ensures.some c.if-is_mark.true) c.behind.ensures.next c.in_err-other.ensures.gives c.loop-after.invariant.so_far)

pub sum-loop-after-preserved-then-is_mark : goal.sum-loop-after-preserved-then-is_mark
sum-loop-after-preserved-then-is_mark t c = let n = declarations_of c.args.names.now in record {
  so_far = sum_adds_on (inner_at c.args.deep n) n (values_of c.args.names.now) _ c.loop-after.value.terms (place_of c.loop-after.after) c.in_ok-other.other.terms (place_of c.in_ok-other.next) (place_of c.behind.result) c.in_ok-value-2.value.terms
      (sym c.is_mark.ensures.which ∙ c.if-is_mark.true) (omega (arith, c.is_mark.ensures.some c.if-is_mark.true, c.in_ok-other.ensures.shorter, c.behind.ensures.shorter)) c.behind.ensures.next (ap (λ (f : Polynomial). f.terms) c.in_ok-value-2.ensures.value)
      c.in_ok-other.ensures.gives c.loop-after.invariant.so_far;
  shorter = omega (arith, c.is_mark.ensures.some c.if-is_mark.true, c.in_ok-other.ensures.shorter, c.behind.ensures.shorter, c.loop-after.invariant.shorter);
  valid = value_made _ _ _ c.in_ok-value-2.value (ap (λ (f : Polynomial). f.n) c.in_ok-value-2.ensures.value) c.loop-after.invariant.valid.variables c.in_ok-value-2.ensures.canonical;
}

pub sum-returns-in_err-other-2 : goal.sum-returns-in_err-other-2
sum-returns-in_err-other-2 t c =
    let n = declarations_of c.args.names.now in
    value_failed _ _ _ _ _ _ _ c.from_residual-in_err-other-2.ensures.1
    (sum_fails_on (inner_at c.args.deep n) n (values_of c.args.names.now) _ c.loop-after.value.terms (place_of c.loop-after.after) (place_of c.behind-then-is_mark-2.result) _
    (inr (sym c.is_mark.ensures.which ∙ c.if-is_mark.false, sym c.is_mark-else-is_mark.ensures.which ∙ c.if-is_mark-2.true)) (c.is_mark-else-is_mark.ensures.some c.if-is_mark-2.true) c.behind-then-is_mark-2.ensures.next c.in_err-other-2.ensures.gives c.loop-after.invariant.so_far)

pub sum-loop-after-preserved : goal.sum-loop-after-preserved
sum-loop-after-preserved t c = let n = declarations_of c.args.names.now in record {
  so_far = sum_subtracts_on (inner_at c.args.deep n) n (values_of c.args.names.now) _ c.loop-after.value.terms (place_of c.loop-after.after) c.in_ok-other-2.other.terms (place_of c.in_ok-other-2.next) (place_of c.behind-then-is_mark-2.result) c.in_ok-value-3.value.terms
      (sym c.is_mark.ensures.which ∙ c.if-is_mark.false) (sym c.is_mark-else-is_mark.ensures.which ∙ c.if-is_mark-2.true) (omega (arith, c.is_mark-else-is_mark.ensures.some c.if-is_mark-2.true, c.in_ok-other-2.ensures.shorter, c.behind-then-is_mark-2.ensures.shorter)) c.behind-then-is_mark-2.ensures.next (ap (λ (f : Polynomial). f.terms) c.in_ok-value-3.ensures.value)
      c.in_ok-other-2.ensures.gives c.loop-after.invariant.so_far;
  shorter = omega (arith, c.is_mark-else-is_mark.ensures.some c.if-is_mark-2.true, c.in_ok-other-2.ensures.shorter, c.behind-then-is_mark-2.ensures.shorter, c.loop-after.invariant.shorter);
  valid = value_made _ _ _ c.in_ok-value-3.value (ap (λ (f : Polynomial). f.n) c.in_ok-value-3.ensures.value) c.loop-after.invariant.valid.variables c.in_ok-value-3.ensures.canonical;
}

pub sum-returns-else-is_mark-2 : goal.sum-returns-else-is_mark-2
sum-returns-else-is_mark-2 t c = let n = declarations_of c.args.names.now in record {
  gives = sum_ends (inner_at c.args.deep n) n (values_of c.args.names.now) _ c.loop-after.value.terms (place_of c.loop-after.after)
      (sym c.is_mark.ensures.which ∙ c.if-is_mark.false) (sym c.is_mark-else-is_mark.ensures.which ∙ c.if-is_mark-2.false) c.loop-after.invariant.so_far;
  shorter = c.loop-after.invariant.shorter;
  valid = c.loop-after.invariant.valid;
}
