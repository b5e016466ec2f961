use Rattle.std.proofs.Common.{◌≡◌, ap, arith, subst}
use Rattle.sparse_poly.specs.Ideal.{IsProblem}
use Rattle.run_core.specs.State.{Seat, State}
use Rattle.run_core.specs.SeatCode.{seat_at}
use Rattle.run_core.proofs.Machines.{seat_read, known_small}
use Rattle.run_core.proofs.machine.Machine.look.Goals as goal

pub learn-requires : goal.learn-requires
learn-requires c =
    let s = c.args.self.now in
    let p : IsProblem s.problem = subst (λ (t : State). IsProblem t.problem) c.self.view_is c.n-problem.ensures.problem in
    let is : c.index_mut-seat.result.now ≡ seat_at s c.args.i = seat_read s _ c.args.i c.index_mut-seat.result.now c.self.view_is c.requires.place c.index_mut-seat.ensures.value in
    omega (arith, ap (λ (v : Seat). v.known) is, known_small s c.requires.sound p c.args.i c.requires.place)
