-- The one worker publishes the entry of its hand.
-- The draft of the run is that of the hand, and a hand whose entry is published is done with.
use Rattle.std.proofs.Common.{◌≡◌, ◌<◌, false, [], ◌∷◌, ◌++◌, length, refl, ap, ◌∙◌, arith}
use Rattle.sparse_poly.specs.Ideal.{IsProblem}
use Rattle.mora_law.specs.declared.step_end.StepEnd.TheVariants.{Stuck}
use Rattle.mora_law.specs.Run.{last_known}
use Rattle.mora_law.proofs.Ring.{ranks_count, count_is}
use Rattle.mora_form.specs.State.{State as MoraState, draft_of as draft_of_run}
use Rattle.run_core.specs.declared.event.Event.TheVariants.{Publish}
use Rattle.run_core.specs.declared.workspace.Workspace.{Workspace}
use Rattle.run_core.specs.Hand.{reads_of, has_open, marked, is_open}
use Rattle.run_core.specs.Sound.{IsSound}
use Rattle.run_core.specs.Makes.{Makes}
use Rattle.run_core.specs.Plain.{Plain, plain, plain_seat, plain_draft, plain_published, is_working}
use Rattle.run_core.specs.Work.{IsInHand, HasRunTo}
use Rattle.run_core.proofs.Keeps.{keeps_sound}
use Rattle.run_core.proofs.Plain.{plain_can_publish, plain_publishes}
use Rattle.run_core.proofs.Room.{draft_room}
use Rattle.run_core.proofs.Running.{draft_alike}

-- the entry of the run is that of the hand
pub draft_is : (b : Plain) (m : MoraState) → IsInHand b m → draft_of_run b.problem b.entries m.item m.reads ≡ plain_draft b
draft_is b m h = draft_alike b.problem b.entries h.ticket m b.hand h.item h.hand

module _ (b : Plain) (w : Workspace) (r : HasRunTo b w Stuck) where
  -- the hand's run is over the whole list
  pub last : last_known 0 (reads_of b.hand) ≡ length b.entries
  last = ap (λ o. last_known 0 (reads_of o)) r.hand.hand ∙ r.last

  -- the board makes the event
  publishes : Makes Publish (plain b) 0 (plain (plain_published b))
  publishes = plain_publishes b r.working r.ended last

  -- there is a place for the entry
  pub place : IsProblem b.problem → length b.entries < 4096
  place p = omega (arith, (draft_room (plain b) 0 (plain_seat b) r.sound refl (plain_can_publish b r.working r.ended last)).1, p.monomials, ranks_count b.problem, count_is b.problem)

  -- the state is sound
  pub sound : IsSound (plain (plain_published b))
  sound = keeps_sound (plain b) (plain (plain_published b)) 0 Publish r.sound publishes

  -- the hand is done with
  pub done : is_working (plain_published b) ≡ false
  unfolding is_open
  done = ap (λ h. has_open b.problem (b.entries ++ plain_draft b ∷ []) (marked h)) r.hand.hand
