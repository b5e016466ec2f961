use Rattle.std.proofs.Common.{◌≡◌, ◌∙◌}
use Rattle.local_order.specs.Shape.{count}
use Rattle.sparse_poly.specs.Shape.{shape_of}
use Rattle.mora_law.proofs.Ring.{ranks_count, count_is}
use Rattle.run_core.specs.State.{count_of}
use Rattle.run_core.proofs.plain_board.PlainBoard.open.Goals as goal

pub returns : goal.returns
returns c =
    let e : count_of c.args.problem.now ≡ count (shape_of c.args.problem.now) = ranks_count c.args.problem.now ∙ count_is c.args.problem.now in
    cc (c.of.ensures, c.new.ensures, c.n.ensures.value, c.d.ensures.value, c.monomial_count.ensures, e)
