use Rattle.std.proofs.Common.{◌≡◌, ◌≢◌, sym, ap, ◌∙◌, Some, refl}
use Rattle.mora_law.specs.declared.step_end.StepEnd.{StepEnd}
use Rattle.mora_law.specs.declared.step_end.StepEnd.TheVariants.{Zero, Reduced, Stuck}
use Rattle.workers.proofs.Stepping.{reads_are}
use Rattle.workers.proofs.Carrying.{ended_zero}
use Rattle.workers.proofs.Lasting.{zero_shut}
use Rattle.workers.proofs.runner.Runner.advance.Goals as goal

-- the third way in which a step ends
zero_else : (e : StepEnd) → e ≢ Reduced → e ≢ Stuck → e ≡ Zero
zero_else Zero r s = refl
zero_else Reduced r s = absurd (r refl)
zero_else Stuck r s = absurd (s refl)

pub returns-else-is_stuck-clause-done : goal.returns-else-is_stuck-clause-done
returns-else-is_stuck-clause-done c =
    let s = c.run.ensures.stepped in
    let v = c.args.self.now.seat.view in
    let w = c.run.new.self.seat.view in
    let m = c.run.new.self.space.mora in
    let zero = s.ended ∙ ap Some (zero_else c.run.result c.run.ensures.over (c.if-is_stuck.ensures.no refl)) in
    record {
      shut = zero_shut w m s.hand zero;
      ended = ended_zero v w c.run.new.self.space m c.run.ensures.seat s.hand (s.hand.run.some (λ z. absurd (cc (sym zero ∙ z)))) s.placed.equipped.known;
      reads = reads_are w m s.hand;
    }
