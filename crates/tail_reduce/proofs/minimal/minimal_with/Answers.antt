use Rattle.std.proofs.Common.{◌≡◌, true, ◌&&◌, eqb, sym, ◌∙◌, ap₂, arith}
use Rattle.std.proofs.lemmas.Bool.{eq-eqb}
use Rattle.mora_law.specs.Ring.{ranks_of_problem}
use Rattle.mora_law.specs.Basis.{is_minimal}
use Rattle.tail_reduce.proofs.Searching.{minimal_there, minimal_nowhere}
use Rattle.tail_reduce.proofs.minimal.minimal_with.Goals as goal

pub returns-then-is_minimal : goal.returns-then-is_minimal
returns-then-is_minimal c = λ P B h.
    let k = c.loop-place.place in
    let same : eqb (B.lead k) c.args.rank ≡ true = eq-eqb (B.lead k) c.args.rank (h.lead k c.loop-place-test.true ∙ c.if-leads-place.true) in
    let minimal : is_minimal (ranks_of_problem P) B k ≡ true = sym (c.is_minimal.ensures P B h) ∙ c.if-is_minimal.true in
    minimal_there P B c.args.table.now c.args.leads.now c.args.rank k h c.loop-place-test.true (ap₂ (λ a b. a && b) same minimal) c.loop-place.invariant

pub returns : goal.returns
returns c = λ P B h. minimal_nowhere P B c.args.table.now c.args.leads.now c.args.rank c.loop-place.place h (omega (arith, c.loop-place-test.false)) c.loop-place.invariant
