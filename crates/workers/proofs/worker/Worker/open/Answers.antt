use Rattle.std.proofs.Common.{◌+◌, ◌<◌, ◌≤◌, ◌^◌, ◌∷◌, [], length, sym, ap, subst, arith}
use Rattle.sparse_poly.specs.Ideal.{Problem, IsProblem}
use Rattle.entry_code.specs.Entry.{HasRoom}
use Rattle.run_core.specs.Work.{Holds}
use Rattle.reducer_list.specs.View.{View, Setting, top}
use Rattle.workers.specs.Working.{HasBounds}
use Rattle.workers.specs.Running.{IsKnown, IsShut}
use Rattle.workers.proofs.Opening.{known_new, shut_new, bounds_new, top_is}
use Rattle.workers.proofs.worker.Worker.open.Goals as goal

pub invariant_of-result : goal.invariant_of-result
invariant_of-result c =
    let p : Setting = c.args.board.now.setting in
    let ns = c.args.number ∷ [] in
    let is = c.requires.seat in
    let same = c.problem-problem.ensures in
    let generators : length c.problem-problem.result.now.gens < 2 ^ 32 = omega (arith, c.generator_count-generators.ensures, c.generator_count-generators.type_inv) in
    let known = known_new p ns c.in_ok-space.space (subst IsProblem same c.n-problem.ensures.problem) (subst (λ (P : Problem). length P.gens < 2 ^ 32) same generators) (subst (λ P. Holds P [] c.in_ok-space.space) same c.in_ok-space.ensures.holds) in
    let n = top_is p c.table.result.now c.count-top.result c.count-top.ensures.value c.table.ensures in
    let size : top p + 4 ≤ c.in_ok-words.words.len = omega (arith, n, c.in_ok-words.ensures.len) in (
      record {
        known = subst (λ (v : View). IsKnown v c.in_ok-space.space) (sym is) known;
        words = subst (λ (v : View). top v.setting + 4 ≤ c.in_ok-words.words.len) (sym is) size;
        room = subst (λ (v : View). HasRoom (top v.setting) c.in_ok-room.room) (sym is) (subst (λ k. HasRoom k c.in_ok-room.room) n c.in_ok-room.ensures.room);
      },
      subst IsShut (sym is) (shut_new p ns),
      subst (λ (v : View). HasBounds v c.in_ok-space.space.reductions) (sym is) (bounds_new p ns c.in_ok-space.space.reductions c.in_ok-space.ensures.none),
      ap (λ (v : View). v.seat.numbers) is,
    )
