use Rattle.std.proofs.Common.{◌≡◌, ◌∙◌, ◌∷◌, ◌++◌, [], ap₂}
use Rattle.std.specs.List.{range_with_len}
use Rattle.local_order.specs.Shape.{count}
use Rattle.sparse_poly.specs.Shape.{shape_of}
use Rattle.mora_law.proofs.Ring.{ranks_count, count_is}
use Rattle.run_core.specs.State.{count_of, fresh}
use Rattle.run_core.proofs.machine.Machine.opening.Goals as goal

pub returns : goal.returns
returns c =
    let P = c.args.problem.now in
    let all : count_of P ≡ count (shape_of P) = ranks_count P ∙ count_is P in
    let seats : c.push.new.self.items ≡ fresh (range_with_len 0 c.args.workers) ∷ [] = c.in_ok-push.ensures.items ∙ ap₂ (λ l x. l ++ x ∷ []) c.new-seats.ensures.items c.in_ok-fresh.ensures in
    cc (seats, c.in_ok-copy.ensures, c.new.ensures, c.n.ensures.value, c.d.ensures.value, c.monomial_count.ensures, all)
