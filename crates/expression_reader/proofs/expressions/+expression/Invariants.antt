use Rattle.std.proofs.Common.{◌≤◌, ◌-◌, ◌+◌, ◌*◌, length}
use Rattle.script_tokens.specs.PlaceView.{place_of}
use Rattle.script_grammar.specs.Expressions.{inner_at, term_at, sum_at}
use Rattle.expression_reader.specs.NamesView.{declarations_of, values_of}
use Rattle.expression_reader.specs.Sound.{IsValue}
use Rattle.expression_reader.proofs.Loops.{TermSoFar, SumSoFar}
use Rattle.expression_reader.proofs.expressions.+expression.Given as goal

-- six calls stand between one ( and the next
abbrev pub decreases-inner : goal.decreases-inner
decreases-inner l = 6 * l.deep

abbrev pub decreases-operand : goal.decreases-operand
decreases-operand l = 6 * l.deep + 1

abbrev pub decreases-power : goal.decreases-power
decreases-power l = 6 * l.deep + 2

abbrev pub decreases-term : goal.decreases-term
decreases-term l = 6 * l.deep + 3

abbrev pub decreases-first : goal.decreases-first
decreases-first l = 6 * l.deep + 4

abbrev pub decreases-sum : goal.decreases-sum
decreases-sum l = 6 * l.deep + 5

abbrev pub invariant-term-loop-alloc : goal.invariant-term-loop-alloc
invariant-term-loop-alloc l = let n = declarations_of l.names in record {
  so_far : TermSoFar (inner_at l.deep n) n (values_of l.names) (term_at (inner_at l.deep n) n (place_of l.here)) l.value.terms (place_of l.after);
  shorter : l.after.left ≤ l.here.left - 1;
  valid : IsValue l.names.field (length l.names.letters) l.value;
}

abbrev pub decreases-term-loop-alloc : goal.decreases-term-loop-alloc
decreases-term-loop-alloc l = l.after.left

abbrev pub invariant-sum-loop-after : goal.invariant-sum-loop-after
invariant-sum-loop-after l = let n = declarations_of l.names in record {
  so_far : SumSoFar (inner_at l.deep n) n (values_of l.names) (sum_at (inner_at l.deep n) n (place_of l.here)) l.value.terms (place_of l.after);
  shorter : l.after.left ≤ l.here.left - 1;
  valid : IsValue l.names.field (length l.names.letters) l.value;
}

abbrev pub decreases-sum-loop-after : goal.decreases-sum-loop-after
decreases-sum-loop-after l = l.after.left
