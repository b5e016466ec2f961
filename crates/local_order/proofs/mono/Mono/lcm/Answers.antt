use Rattle.std.proofs.Common.{sym, subst, arith}
use Rattle.local_order.specs.Stored.{IsStored}
use Rattle.local_order.proofs.Stored.{total_small, both_stored, lcm_is, lcm_stored}
use Rattle.local_order.proofs.mono.Mono.lcm.Goals as goal

pub degree_of-requires : goal.degree_of-requires
degree_of-requires c =
    let both = both_stored c.self.invariant c.self.view_is c.other.invariant c.other.view_is c.requires in
    let stored = lcm_stored c.loop-i.exps both c.loop-i.invariant.full (λ k i. c.loop-i.invariant.greater k (omega arith)) in
    omega (arith, total_small stored)

pub invariant_of-result : goal.invariant_of-result
invariant_of-result c =
    let both = both_stored c.self.invariant c.self.view_is c.other.invariant c.other.view_is c.requires in
    let stored = lcm_stored c.loop-i.exps both c.loop-i.invariant.full (λ k i. c.loop-i.invariant.greater k (omega arith)) in
    subst (IsStored c.loop-i.exps c.self.inside.n) (sym c.degree_of.ensures) stored

pub returns : goal.returns
returns c =
    let both = both_stored c.self.invariant c.self.view_is c.other.invariant c.other.view_is c.requires in
    lcm_is c.loop-i.exps both c.loop-i.invariant.full (λ k i. c.loop-i.invariant.greater k (omega arith))
