use Rattle.std.proofs.Common.{◌≡◌, ap, arith, subst}
use Rattle.sparse_poly.specs.Ideal.{IsProblem}
use Rattle.run_core.specs.State.{Seat, State}
use Rattle.run_core.specs.SeatCode.{seat_at}
use Rattle.run_core.proofs.Machines.{seat_read, seen_small, claims_small, ticket_small}
use Rattle.run_core.proofs.machine.Machine.do_claim.Goals as goal

pub win-requires-clause-seen : goal.win-requires-clause-seen
win-requires-clause-seen c =
    let s = c.args.self.now in
    let p : IsProblem s.problem = subst (λ (t : State). IsProblem t.problem) c.self.view_is c.n-problem.ensures.problem in
    let is : c.index_mut-seat.result.now ≡ seat_at s c.args.i = seat_read s _ c.args.i c.index_mut-seat.result.now c.self.view_is c.requires.place c.index_mut-seat.ensures.value in
    omega (arith, ap (λ (v : Seat). v.seen) is, seen_small s c.requires.sound p c.args.i c.requires.place)

pub win-requires-clause-claims : goal.win-requires-clause-claims
win-requires-clause-claims c =
    let s = c.args.self.now in
    let p : IsProblem s.problem = subst (λ (t : State). IsProblem t.problem) c.self.view_is c.n-problem.ensures.problem in
    let is : c.index_mut-seat.result.now ≡ seat_at s c.args.i = seat_read s _ c.args.i c.index_mut-seat.result.now c.self.view_is c.requires.place c.index_mut-seat.ensures.value in
    omega (arith, ap (λ (v : Seat). v.claims) is, claims_small s c.requires.sound p c.args.i c.requires.place)

pub overflow_add-self : goal.overflow_add-self
overflow_add-self c =
    let s = c.args.self.now in
    let p : IsProblem s.problem = subst (λ (t : State). IsProblem t.problem) c.self.view_is c.n-problem.ensures.problem in
    omega (arith, ap (λ (t : State). t.ticket) c.self.view_is, ticket_small s c.requires.sound p)
