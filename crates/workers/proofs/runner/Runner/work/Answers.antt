use Rattle.std.proofs.Common.{arith}
use Rattle.workers.proofs.Turning.{known_top}
use Rattle.workers.proofs.runner.Runner.work.Goals as goal

pub loop-smaller : goal.loop-smaller
loop-smaller c =
    let more = c.if-advance.ensures.done.more in
    let low = known_top c.args.board.now c.advance.new.self c.advance.ensures.placed in
    omega (arith, more, low)
