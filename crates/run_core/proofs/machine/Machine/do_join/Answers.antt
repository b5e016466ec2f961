use Rattle.std.proofs.Common.{◌≡◌, ap, arith, subst}
use Rattle.sparse_poly.specs.Ideal.{IsProblem}
use Rattle.run_core.specs.State.{Seat, State}
use Rattle.run_core.specs.SeatCode.{seat_at}
use Rattle.run_core.proofs.Machines.{seat_read, claims_small, published_small}
use Rattle.run_core.proofs.machine.Machine.do_join.Goals as goal

pub joined-requires-clause-claims : goal.joined-requires-clause-claims
joined-requires-clause-claims c =
    let s = c.args.self.now in
    let p : IsProblem s.problem = subst (λ (t : State). IsProblem t.problem) c.self.view_is c.n-problem.ensures.problem in
    let is : c.index.result.now ≡ seat_at s c.args.i = seat_read s _ c.args.i c.index.result.now c.self.view_is c.requires.place c.index.ensures in
    let other : c.index-2.result.now ≡ seat_at s c.args.j = seat_read s _ c.args.j c.index-2.result.now c.self.view_is c.requires.other c.index-2.ensures in
    omega (arith, ap (λ (v : Seat). v.claims) is, ap (λ (v : Seat). v.claims) other, claims_small s c.requires.sound p c.args.i c.requires.place, claims_small s c.requires.sound p c.args.j c.requires.other)

pub joined-requires-clause-published : goal.joined-requires-clause-published
joined-requires-clause-published c =
    let s = c.args.self.now in
    let p : IsProblem s.problem = subst (λ (t : State). IsProblem t.problem) c.self.view_is c.n-problem.ensures.problem in
    let is : c.index.result.now ≡ seat_at s c.args.i = seat_read s _ c.args.i c.index.result.now c.self.view_is c.requires.place c.index.ensures in
    let other : c.index-2.result.now ≡ seat_at s c.args.j = seat_read s _ c.args.j c.index-2.result.now c.self.view_is c.requires.other c.index-2.ensures in
    omega (arith, ap (λ (v : Seat). v.published) is, ap (λ (v : Seat). v.published) other, published_small s c.requires.sound p c.args.i c.requires.place, published_small s c.requires.sound p c.args.j c.requires.other)
