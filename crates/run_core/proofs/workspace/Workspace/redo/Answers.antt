use Rattle.std.proofs.Common.{◌≡◌, Some, sym, ◌∙◌, ap, le_trans}
use Rattle.std.specs.List.{slice_get}
use Rattle.run_core.specs.Hand.{Hand}
use Rattle.run_core.proofs.Replays.{HasLearnt, reading_within, count, corners, redone}
use Rattle.run_core.proofs.workspace.Workspace.redo.Goals as goal

pub learn_to-requires-clause-within : goal.learn_to-requires-clause-within
learn_to-requires-clause-within c =
    let at : slice_get c.args.hand.now.reads c.args.i ≡ Some c.get-reading.result = ap (λ (h : Hand). slice_get h.reads c.args.i) (sym c.hand.view_is) ∙ c.get-reading.ensures in
    le_trans (reading_within c.args.problem.now c.args.entries.now c.args.known c.args.hand.now c.requires.hand c.args.i c.get-reading.result at) c.requires.hand.within

pub step-requires-clause-known : goal.step-requires-clause-known
step-requires-clause-known c =
    let at : slice_get c.args.hand.now.reads c.args.i ≡ Some c.get-reading.result = ap (λ (h : Hand). slice_get h.reads c.args.i) (sym c.hand.view_is) ∙ c.get-reading.ensures in
    let learnt : HasLearnt c.args.problem.now c.args.entries.now c.args.self.now c.get-reading.result.known c.learn_to.new.self =
    record { holds = c.learn_to.ensures.holds; run = c.learn_to.ensures.run; same = c.learn_to.ensures.same } in
    sym (count c.args.problem.now c.args.entries.now c.args.known c.args.hand.now c.requires.hand c.args.i c.args.self.now c.requires.run c.get-reading.result at c.requires.within c.learn_to.new.self learnt)

pub step-requires-clause-corners : goal.step-requires-clause-corners
step-requires-clause-corners c =
    let at : slice_get c.args.hand.now.reads c.args.i ≡ Some c.get-reading.result = ap (λ (h : Hand). slice_get h.reads c.args.i) (sym c.hand.view_is) ∙ c.get-reading.ensures in
    let learnt : HasLearnt c.args.problem.now c.args.entries.now c.args.self.now c.get-reading.result.known c.learn_to.new.self =
    record { holds = c.learn_to.ensures.holds; run = c.learn_to.ensures.run; same = c.learn_to.ensures.same } in
    corners c.args.problem.now c.args.entries.now c.args.known c.args.hand.now c.requires.hand c.args.i c.args.self.now c.requires.run c.get-reading.result at c.requires.within c.learn_to.new.self learnt

pub returns : goal.returns
returns c =
    let at : slice_get c.args.hand.now.reads c.args.i ≡ Some c.get-reading.result = ap (λ (h : Hand). slice_get h.reads c.args.i) (sym c.hand.view_is) ∙ c.get-reading.ensures in
    let learnt : HasLearnt c.args.problem.now c.args.entries.now c.args.self.now c.get-reading.result.known c.learn_to.new.self =
    record { holds = c.learn_to.ensures.holds; run = c.learn_to.ensures.run; same = c.learn_to.ensures.same } in
    record {
      run = redone c.args.problem.now c.args.entries.now c.args.known c.args.hand.now c.requires.hand c.args.i c.args.self.now c.requires.run c.get-reading.result at c.requires.within c.learn_to.new.self learnt
          c.step.new.self c.step.result c.step.ensures.value c.step.ensures.end c.step.ensures.still_open (c.step.ensures.run c.args.problem.now _ learnt.holds.knows (learnt.run c.requires.run.run));
    }
