use Rattle.std.proofs.Common.{◌<◌, ◌≡◌, ◌+◌, get_or, set, sym, subst, arith, get_or-set_other}
use Rattle.local_order.proofs.Places.{get_or-le-degree}
use Rattle.mono_rank.specs.Next.{IsNext}
use Rattle.mono_rank.proofs.Steps.{within_written, beyond_written}
use Rattle.mono_rank.proofs.Walk.{step-is_next}
use Rattle.mono_rank.proofs.build.go_on.Goals as goal
use Rattle.mono_rank.proofs.build.go_on.Goals.{then-loop-i-test+else-exps-i-eq0, else-loop-i-test}

pub overflow_add-exps-then-i-last : goal.overflow_add-exps-then-i-last
overflow_add-exps-then-i-last c =
    let i = c.loop-i.i in
    let kept : get_or (set c.args.exps.now i 0) (i + 1) 0 ≡ get_or c.args.exps.now (i + 1) 0 = get_or-set_other c.args.exps.now i (i + 1) 0 0 (omega arith) in
    omega (arith, get_or-le-degree c.args.exps.now (i + 1))

pub overflow_add-exps-else-i-last : goal.overflow_add-exps-else-i-last
overflow_add-exps-else-i-last c = omega (arith, get_or-le-degree c.args.exps.now c.loop-i.i)

pub returns-then-i-last : goal.returns-then-i-last
returns-then-i-last c =
    let some : 0 < get_or c.args.exps.now c.loop-i.i 0 = elim c.loop-i-test.branch [ then-loop-i-test+else-exps-i-eq0 w ↦ omega (arith, w.if-exps-i-eq0.false) | else-loop-i-test w ↦ omega (arith, w.loop-i-test.false) ] in
    subst (IsNext c.args.exps.now) (sym (within_written c.args.exps.now c.loop-i.i (omega arith) c.loop-i.invariant.1 some)) (step-is_next c.args.exps.now c.requires.some)

pub returns-else-i-last : goal.returns-else-i-last
returns-else-i-last c =
    subst (IsNext c.args.exps.now) (sym (beyond_written c.args.exps.now c.loop-i.i (omega arith) (omega arith) c.loop-i.invariant.1)) (step-is_next c.args.exps.now c.requires.some)
