use Rattle.std.proofs.Common.{refl, ap, arith, sym, ◌∙◌, subst, List, ℕ}
use Rattle.workers.specs.Working.{Working}
use Rattle.workers.specs.Manned.{HasEvery}
use Rattle.workers.proofs.Left.{less_left, same_numbers}
use Rattle.workers.proofs.rounds.run_rounds.Goals as goal

pub loop-board-smaller : goal.loop-board-smaller
loop-board-smaller g c =
    let any = c.if-all_rest.ensures.some refl in
    less_left c.args.crew.now.board c.loop-board.workers.items c.round.new.workers.items any.0 any.1 c.round.ensures.len c.round.ensures.each any.2 (ap (λ (w : Working). w.rests) any.3 ∙ any.4)

pub loop-board-preserved : goal.loop-board-preserved
loop-board-preserved g c =
    let i = c.loop-board.invariant in
    let some_workers = i.0 in
    let len = c.round.ensures.len in (
      omega arith,
      (λ k d less. (c.round.ensures.each k d (omega arith)).ready),
      same_numbers c.args.crew.now.board c.loop-board.workers.items c.round.new.workers.items len c.round.ensures.each ∙ i.2,
      len ∙ i.3,
    )

pub returns-clause-manned : goal.returns-clause-manned
returns-clause-manned g c =
    let i = c.loop-board.invariant in
    let some_workers = i.0 in
    let len = c.round.ensures.len in
    let numbers = same_numbers c.args.crew.now.board c.loop-board.workers.items c.round.new.workers.items len c.round.ensures.each ∙ i.2 in
    record {
      some = omega arith;
      count = len ∙ i.3 ∙ c.requires.manned.count;
      ready = λ k d less. (c.round.ensures.each k d (omega arith)).ready;
      numbers = subst (λ (ns : List (List ℕ)). HasEvery c.args.crew.now.board.setting.workers ns) (sym numbers) c.requires.manned.numbers;
    }

pub returns-clause-numbers : goal.returns-clause-numbers
returns-clause-numbers g c =
    same_numbers c.args.crew.now.board c.loop-board.workers.items c.round.new.workers.items c.round.ensures.len c.round.ensures.each ∙ c.loop-board.invariant.2
