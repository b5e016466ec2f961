use Rattle.std.proofs.Common.{◌≤◌, All, sym, subst, arith}
use Rattle.std.proofs.lemmas.List.{take_all}
use Rattle.std.proofs.lemmas.List.Elements.{All-more}
use Rattle.std.proofs.lemmas.Option.{slice_get_within, get_or_from_slice_get}
use Rattle.mora_tests.proofs.trial.may_follow.Goals as goal

pub loop-i-preserved : goal.loop-i-preserved
loop-i-preserved c =
    let ds = c.args.reads.now.list in
    let d = c.get.result in
    let i = c.loop-i.i in
    let l : c.args.corner ≤ d.corner = omega (arith, c.if-get-corner.false) in
    All-more (λ e. c.args.corner ≤ e.corner) ds i d (slice_get_within ds i d c.get.ensures) c.loop-i.invariant (subst (λ e. c.args.corner ≤ e.corner) (sym (get_or_from_slice_get ds i d d c.get.ensures)) l)

pub returns : goal.returns
returns c =
    let ds = c.args.reads.now.list in
    λ h. subst (All (λ e. c.args.corner ≤ e.corner)) (take_all c.loop-i.i ds (omega (arith, c.loop-i-test.false, c.len-i-end.ensures))) c.loop-i.invariant
