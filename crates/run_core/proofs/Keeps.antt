-- Every event keeps states sound.
-- By cases of the event.
use Rattle.std.proofs.Common.{ℕ}
use Rattle.run_core.specs.declared.event.Event.{Event}
use Rattle.run_core.specs.declared.event.Event.TheVariants.{Claim, Corner, Look, Publish, Split, Join}
use Rattle.run_core.specs.State.{State}
use Rattle.run_core.specs.Makes.{Makes}
use Rattle.run_core.specs.Sound.{IsSound}
use Rattle.run_core.proofs.Claims.{keeps_claim}
use Rattle.run_core.proofs.Corners.{keeps_corner}
use Rattle.run_core.proofs.Looks.{keeps_look}
use Rattle.run_core.proofs.Publishes.{keeps_publish}
use Rattle.run_core.proofs.Splits.{keeps_split}
use Rattle.run_core.proofs.Joins.{keeps_join}

-- by the event
pub keeps_sound : (s t : State) (i : ℕ) (e : Event) → IsSound s → Makes e s i t → IsSound t
keeps_sound s t i Claim = keeps_claim s t i
keeps_sound s t i Corner = keeps_corner s t i
keeps_sound s t i Look = keeps_look s t i
keeps_sound s t i Publish = keeps_publish s t i
keeps_sound s t i (Split k) = keeps_split k s t i
keeps_sound s t i (Join k) = keeps_join k s t i
