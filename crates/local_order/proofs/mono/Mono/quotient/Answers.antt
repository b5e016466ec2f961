use Rattle.std.proofs.Common.{refl, arith}
use Rattle.std.proofs.lemmas.Bool.{false≢true}
use Rattle.local_order.proofs.Division.{places_from_Divides}
use Rattle.local_order.proofs.Stored.{view_at, both_stored, quotient_is, quotient_divides, quotient_total, quotient_stored}
use Rattle.local_order.proofs.mono.Mono.quotient.Goals as goal

pub returns-in_err-exps-clause-some : goal.returns-in_err-exps-clause-some
returns-in_err-exps-clause-some c =
    let i = c.loop-i.i in
    let mine = view_at c.self.invariant c.self.view_is i in
    let its = view_at c.other.invariant c.other.view_is i in (
      λ s. absurd (false≢true (rw c.from_residual.ensures at s)),
      λ d. absurd (c.in_err-exps.ensures (omega (arith, places_from_Divides c.args.other.now c.args.self.now d i, mine, its))),
    )

pub overflow_sub-result : goal.overflow_sub-result
overflow_sub-result c =
    let inv = c.loop-i.invariant in
    let both = both_stored c.self.invariant c.self.view_is c.other.invariant c.other.view_is c.requires in
    omega (arith, quotient_total c.loop-i.exps both inv.full (λ k i. inv.differences k (omega arith)) (λ k i. inv.divides k (omega arith)))

pub invariant_of-result : goal.invariant_of-result
invariant_of-result c =
    let inv = c.loop-i.invariant in
    let both = both_stored c.self.invariant c.self.view_is c.other.invariant c.other.view_is c.requires in
    quotient_stored c.loop-i.exps both inv.full (λ k i. inv.differences k (omega arith)) (λ k i. inv.divides k (omega arith))

pub returns-clause-some : goal.returns-clause-some
returns-clause-some c =
    let both = both_stored c.self.invariant c.self.view_is c.other.invariant c.other.view_is c.requires in
    (λ _. quotient_divides both (λ k i. c.loop-i.invariant.divides k (omega arith)), λ _. refl)

pub returns-clause-value : goal.returns-clause-value
returns-clause-value c =
    let both = both_stored c.self.invariant c.self.view_is c.other.invariant c.other.view_is c.requires in
    quotient_is c.loop-i.exps both c.loop-i.invariant.full (λ k i. c.loop-i.invariant.differences k (omega arith))
