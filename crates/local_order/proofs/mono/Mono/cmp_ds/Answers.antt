use Rattle.std.proofs.Common.{◌≡◌, ◌+◌, ◌-◌, ◌≢◌, take, ap, sym, ◌∙◌, arith}
use Rattle.std.proofs.Math.Path.{ap₂}
use Rattle.local_order.specs.Mono.{degree}
use Rattle.local_order.specs.Order.{compare_last}
use Rattle.local_order.proofs.Prefix.{compare_last-differ, compare_last-same, compare_ds-differ, compare_ds-level}
use Rattle.local_order.proofs.Stored.{degree_is, both_stored}
use Rattle.local_order.proofs.mono.Mono.cmp_ds.Goals as goal

pub returns-then-self-other : goal.returns-then-self-other
returns-then-self-other c =
    let mine = degree_is c.self.invariant c.self.view_is in
    let its = degree_is c.other.invariant c.other.view_is in
    let differ : degree c.args.self.now ≢ degree c.args.other.now = λ e. c.if-self-other.true (sym mine ∙ e ∙ its) in
    c.cmp.ensures ∙ sym (rw (← mine, ← its) (compare_ds-differ c.args.self.now c.args.other.now differ))

pub loop-i-init : goal.loop-i-init
loop-i-init c =
    let mine = degree_is c.self.invariant c.self.view_is in
    let its = degree_is c.other.invariant c.other.view_is in
    let both = both_stored c.self.invariant c.self.view_is c.other.invariant c.other.view_is c.requires in
    compare_ds-level c.args.self.now c.args.other.now (mine ∙ c.if-self-other.false ∙ sym its)
    ∙ sym (ap₂ compare_last both.first_is both.second_is)
    ∙ ap (λ n. compare_last (take n c.self.inside.exps) (take n c.other.inside.exps)) (sym c.from-i.ensures)

pub returns-then-self-i : goal.returns-then-self-i
returns-then-self-i c =
    let last : c.loop-i.i - 1 + 1 ≡ c.loop-i.i = omega arith in
    c.cmp-then-self-i.ensures
    ∙ sym (compare_last-differ c.self.inside.exps c.other.inside.exps (c.loop-i.i - 1) (omega (arith, c.self.invariant.full, c.self.invariant.few)) (omega (arith, c.other.invariant.full, c.self.invariant.few)) c.if-self-i.true)
    ∙ ap (λ i. compare_last (take i c.self.inside.exps) (take i c.other.inside.exps)) last
    ∙ sym c.loop-i.invariant

pub loop-i-preserved : goal.loop-i-preserved
loop-i-preserved c =
    let last : c.loop-i.i - 1 + 1 ≡ c.loop-i.i = omega arith in
    c.loop-i.invariant
    ∙ ap (λ i. compare_last (take i c.self.inside.exps) (take i c.other.inside.exps)) (sym last)
    ∙ compare_last-same c.self.inside.exps c.other.inside.exps (c.loop-i.i - 1) (omega (arith, c.self.invariant.full, c.self.invariant.few)) (omega (arith, c.other.invariant.full, c.self.invariant.few)) c.if-self-i.false
