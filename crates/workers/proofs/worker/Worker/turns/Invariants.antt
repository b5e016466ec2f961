use Rattle.std.proofs.Common.{◌≡◌, ◌<◌, ◌≤◌, false}
use Rattle.workers.specs.Working.{CanTurn, numbers_of}
use Rattle.workers.specs.Rounds.{all_tickets}
use Rattle.workers.proofs.worker.Worker.turns.Given as goal

abbrev pub invariant-loop : goal.invariant-loop
invariant-loop g l =
    CanTurn l.board l.self
    × (numbers_of l.self ≡ numbers_of l.fn.self)
    × (l.self.rests ≡ false)
    × (l.fn.self.seat.view.seat.claims ≤ l.self.seat.view.seat.claims)
    × (0 < l.counter → (l.fn.self.seat.view.seat.claims < l.self.seat.view.seat.claims) × (l.self.seat.view.seat.claims ≤ all_tickets l.board.setting))
