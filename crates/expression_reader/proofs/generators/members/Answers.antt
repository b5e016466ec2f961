use Rattle.std.proofs.Common.{◌∙◌, sym, refl, arith}
use Rattle.script_tokens.specs.PlaceView.{place_of}
use Rattle.expression_reader.specs.NamesView.{declarations_of, values_of}
use Rattle.expression_reader.proofs.Handed.{gives_failed}
use Rattle.expression_reader.proofs.MemberLists.{members_go, members_fail, members_end}
use Rattle.expression_reader.proofs.generators.members.Goals as goal

pub returns-in_err-after-2-clause-gives : goal.returns-in_err-after-2-clause-gives
returns-in_err-after-2-clause-gives c =
    let names = c.args.names.now in
    gives_failed _ _ _ _ c.from_residual-in_err-after-2.ensures.1
    (members_fail (declarations_of names) (values_of names) _ c.loop-alloc.gens.items (place_of c.loop-alloc.after) (place_of c.behind.result) _ refl
    (sym c.is_mark.ensures.which ∙ c.loop-alloc-test.true) c.behind.ensures.next c.in_err-after-2.ensures.gives c.loop-alloc.invariant.so_far)

pub loop-alloc-preserved : goal.loop-alloc-preserved
loop-alloc-preserved c = let names = c.args.names.now in record {
  so_far = members_go (declarations_of names) (values_of names) _ c.loop-alloc.gens.items _ (place_of c.loop-alloc.after) (place_of c.in_ok-after-2.after) (place_of c.behind.result) refl
      (sym c.is_mark.ensures.which ∙ c.loop-alloc-test.true) (omega (arith, c.is_mark.ensures.some c.loop-alloc-test.true, c.in_ok-after-2.ensures.shorter, c.behind.ensures.shorter)) c.behind.ensures.next c.in_ok-after-2.ensures.gives c.loop-alloc.invariant.so_far;
  few = c.in_ok-after-2.ensures.few;
  valid = c.in_ok-after-2.ensures.valid;
  shorter = omega (arith, c.is_mark.ensures.some c.loop-alloc-test.true, c.in_ok-after-2.ensures.shorter, c.behind.ensures.shorter, c.loop-alloc.invariant.shorter);
}

pub returns-in_err-after-3-clause-gives : goal.returns-in_err-after-3-clause-gives
returns-in_err-after-3-clause-gives c =
    let names = c.args.names.now in
    gives_failed _ _ _ _ c.from_residual-in_err-after-3.ensures.1
    (members_end (declarations_of names) (values_of names) _ c.loop-alloc.gens.items (place_of c.loop-alloc.after) _ (sym c.is_mark.ensures.which ∙ c.loop-alloc-test.false) c.in_err-after-3.ensures.reads c.loop-alloc.invariant.so_far)

pub returns-clause-gives : goal.returns-clause-gives
returns-clause-gives c =
    let names = c.args.names.now in
    members_end (declarations_of names) (values_of names) _ c.loop-alloc.gens.items (place_of c.loop-alloc.after) _ (sym c.is_mark.ensures.which ∙ c.loop-alloc-test.false) c.in_ok-after-3.ensures.reads c.loop-alloc.invariant.so_far
