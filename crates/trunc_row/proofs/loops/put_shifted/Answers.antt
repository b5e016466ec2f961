use Rattle.std.proofs.Common.{◌<◌, ◌∙◌, arith}
use Rattle.local_order.specs.Shape.{count}
use Rattle.trunc_row.proofs.Walks.{products_low, walked_beyond, walked_run}
use Rattle.trunc_row.proofs.Shifts.{itself, none_there, shifted_all}
use Rattle.trunc_row.proofs.loops.put_shifted.Goals as goal

pub copy_run-requires-clause-to : goal.copy_run-requires-clause-to
copy_run-requires-clause-to c =
    omega (
      arith,
      c.loop-rank.invariant.0,
      products_low c.args.table.now c.args.shift c.loop-rank.rank c.in-Some.product c.run_from-run.result c.count-count.ensures.limits.some c.requires.shift
          c.run_from-run.ensures.some c.run_from-run.ensures.within c.in-Some.ensures c.run_from-run.ensures.products,
    )

pub loop-rank-preserved : goal.loop-rank-preserved
loop-rank-preserved c = (
  c.copy_run.ensures.full ∙ c.loop-rank.invariant.0,
  c.run_from-run.ensures.within,
  walked_run c.args.table.now c.args.shift c.loop-rank.rank c.in-Some.product c.run_from-run.result itself none_there c.args.other.now c.loop-rank.row c.copy_run.new.row
      c.count-count.ensures.limits.some c.loop-rank.invariant.2 c.run_from-run.ensures.within c.in-Some.ensures c.run_from-run.ensures.products c.run_from-run.ensures.some
      (record { inside = λ k l e. c.copy_run.ensures.inside k l; before = c.copy_run.ensures.before; behind = c.copy_run.ensures.behind }),
)

pub returns-in_default : goal.returns-in_default
returns-in_default c =
    let T = c.args.table.now in
    let low : c.loop-rank.rank < count T = omega (arith, c.count-count.ensures.value, c.loop-rank-test.true) in
    shifted_all T c.args.shift (count T) c.args.other.now c.loop-rank.row c.loop-rank.invariant.0
    (walked_beyond T c.args.shift c.loop-rank.rank (count T) itself none_there c.args.other.now c.loop-rank.row c.count-count.ensures.limits.some c.loop-rank.invariant.1 c.loop-rank.invariant.2 low c.in_default.ensures)
    (omega arith)

pub returns : goal.returns
returns c =
    shifted_all c.args.table.now c.args.shift c.loop-rank.rank c.args.other.now c.loop-rank.row c.loop-rank.invariant.0 c.loop-rank.invariant.2
    (omega (arith, c.count-count.ensures.value, c.loop-rank-test.false))
