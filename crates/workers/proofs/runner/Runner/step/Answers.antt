use Rattle.std.proofs.Common.{◌≡◌, not, subst, ap, ◌∙◌, refl}
use Rattle.entry_code.specs.declared.reading.Reading.{Reading}
use Rattle.mora_law.proofs.Ring.{problem_is_admissible}
use Rattle.mora_form.specs.State.{HasRun}
use Rattle.run_core.proofs.Running.{covered_corner}
use Rattle.reducer_list.specs.View.{View}
use Rattle.reducer_list.specs.Steps.{AreAbove}
use Rattle.workers.specs.Running.{IsKnown}
use Rattle.workers.proofs.Stepping.{above_all, busy_is, reads_are, in_hand_more, last_more, known_more}
use Rattle.workers.proofs.Knowing.{placed_with, room_here}
use Rattle.workers.proofs.runner.Runner.step.Goals as goal

pub corner-corner-requires-clause-hand : goal.corner-corner-requires-clause-hand
corner-corner-requires-clause-hand c = let r = c.requires.running in busy_is c.args.self.now.seat.view c.args.self.now.space.mora r.hand ∙ ap not r.going

pub corner-corner-requires-clause-own : goal.corner-corner-requires-clause-own
corner-corner-requires-clause-own c =
    let v : View = c.args.self.now.seat.view in
    let k : IsKnown v c.args.self.now.space = c.requires.running.placed.equipped.known in
    covered_corner v.setting.problem (problem_is_admissible v.setting.problem k.problem) v.list k.legal c.args.self.now.space k.holds c.corner.result c.corner.ensures.least

pub step-requires-clause-corners : goal.step-requires-clause-corners
step-requires-clause-corners c =
    let r = c.requires.running in
    above_all c.corner-corner.result c.args.self.now.space.mora.reads
    (subst (AreAbove c.corner-corner.result) (reads_are c.args.self.now.seat.view c.args.self.now.space.mora r.hand) c.corner-corner.ensures.above)

pub returns-clause-stepped : goal.returns-clause-stepped
returns-clause-stepped c =
    let r = c.requires.running in
    let v : View = c.args.self.now.seat.view in
    let w : View = c.corner-corner.new.seat.view in
    let d : Reading = record { known = c.known-known.result; corner = c.corner-corner.result } in
    let is = c.corner-corner.ensures.read in
    let known : d.known ≡ v.seat.known = c.known-known.ensures ∙ ap (λ (u : View). u.seat.known) is in
    let k = r.placed.equipped.known in
    let more : HasRun v.setting.problem v.list c.step.new.self = c.step.ensures.run v.setting.problem v.list k.holds.knows r.hand.run in
    let value = c.step.ensures.value in
    record {
      placed = placed_with c.args.board.now c.args.self.now _ r.placed c.corner-corner.ensures.board (ap (λ (u : View). u.seat.numbers) is) (ap (λ (u : View). u.setting) is)
          (known_more v w c.args.self.now.space c.step.new.self r.hand d known is value more k) refl (room_here c.args.board.now c.args.self.now r.placed);
      hand = in_hand_more v w c.args.self.now.space c.step.new.self r.hand d known is value more;
      opened = c.step.ensures.still_open;
      ended = c.step.ensures.end;
      last = last_more v w c.args.self.now.space c.step.new.self r.hand d known is value more;
    }
