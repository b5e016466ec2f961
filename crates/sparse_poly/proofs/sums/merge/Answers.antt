use Rattle.std.proofs.Common.{◌≡◌, ◌-◌, ℕ, take, drop, length, arith, sym, ◌∙◌, inl, inr}
use Rattle.local_order.proofs.Prefix.{above_of_compare, same_of_compare, below_of_compare}
use Rattle.std.proofs.lemmas.List.{take_all, length-drop}
use Rattle.sparse_poly.specs.Poly.{Poly}
use Rattle.sparse_poly.proofs.Merging.{take_left, take_right, take_both, merged, next_left, next_right, below_next}
use Rattle.sparse_poly.proofs.sums.merge.Goals as goal
use Rattle.sparse_poly.proofs.sums.merge.Goals.{then-loop-i-test+else-j-its, else-loop-i-test}

pub cmp_ds-requires : goal.cmp_ds-requires
cmp_ds-requires c =
    let x = c.loop-i.invariant in
    let a = next_left _ _ _ _ _ _ c.index-mine-i.result x c.loop-i-test.true c.index-mine-i.is in
    let b = next_right _ _ _ _ _ _ c.index-its-j.result x c.if-j-its.true c.index-its-j.is in
    a.0 ∙ sym b.0

pub add-coef-requires-clause-a_residue : goal.add-coef-requires-clause-a_residue
add-coef-requires-clause-a_residue c =
    (next_left _ _ _ _ _ _ c.index-mine-i.result c.loop-i.invariant c.loop-i-test.true c.index-mine-i.is).2

pub add-coef-requires-clause-b_residue : goal.add-coef-requires-clause-b_residue
add-coef-requires-clause-b_residue c =
    (next_right _ _ _ _ _ _ c.index-its-j.result c.loop-i.invariant c.if-j-its.true c.index-its-j.is).2

pub loop-i-preserved-in-Greater : goal.loop-i-preserved-in-Greater
loop-i-preserved-in-Greater c =
    rw c.in_ok-push-in-Greater.ensures.items
    (take_left _ _ _ _ _ _ c.index-mine-i.result c.loop-i.invariant c.loop-i-test.true c.index-mine-i.is
    (below_next _ _ _ c.index-its-j.result c.if-j-its.true c.index-its-j.is (above_of_compare _ _ c.in-Greater.ensures)))

pub loop-i-preserved-in-Less : goal.loop-i-preserved-in-Less
loop-i-preserved-in-Less c =
    let x = c.loop-i.invariant in
    let a = next_left _ _ _ _ _ _ c.index-mine-i.result x c.loop-i-test.true c.index-mine-i.is in
    let b = next_right _ _ _ _ _ _ c.index-its-j.result x c.if-j-its.true c.index-its-j.is in
    rw c.in_ok-push-in-Less.ensures.items
    (take_right _ _ _ _ _ _ c.index-its-j.result x c.if-j-its.true c.index-its-j.is
    (below_next _ _ _ c.index-mine-i.result c.loop-i-test.true c.index-mine-i.is (below_of_compare _ _ (a.0 ∙ sym b.0) c.in-Less.ensures)))

pub loop-i-preserved : goal.loop-i-preserved
loop-i-preserved c = take_both _ _ _ _ _ _ _ _ _ _ c.loop-i.invariant c.loop-i-test.true c.if-j-its.true
    c.index-mine-i.is c.index-its-j.is (same_of_compare _ _ c.in-Equal.ensures) c.add-coef.ensures.value c.in_ok-push_term-in-Equal.ensures

-- a slice from a place to the end
to_end : (i : ℕ) (f : Poly) → take (length f - i) (drop i f) ≡ drop i f
to_end i f = take_all (length f - i) (drop i f) (omega (arith, length-drop i f))

pub returns : goal.returns
returns c =
    rw (c.in_ok-extend_from_slice-2.ensures.items, c.in_ok-extend_from_slice.ensures.items, to_end c.loop-i.i c.args.mine.now, to_end c.loop-i.j c.args.its.now)
    (merged _ _ _ _ _ _ c.loop-i.invariant (elim c.loop-i-test.branch [
      | then-loop-i-test+else-j-its w ↦ inr w.if-j-its.false
      | else-loop-i-test w ↦ inl w.loop-i-test.false
    ]))
