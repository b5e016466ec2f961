use Rattle.std.proofs.Common.{◌≡◌, ℕ, ◌<◌, map, take}
use Rattle.std.specs.Prelude.{slice_index_or}
use Rattle.workers.specs.Working.{Working, IsCounted}
use Rattle.workers.specs.Rounds.{IsLegalView}
use Rattle.workers.proofs.finish.counts_of.Given as goal

abbrev pub invariant-loop-i : goal.invariant-loop-i
invariant-loop-i l =
    (l.counts ≡ map (λ w. w.reductions) (take l.i l.workers.items))
    × ((k : ℕ) (d : Working) → k < l.i → IsCounted (slice_index_or l.workers.items k d) × IsLegalView (slice_index_or l.workers.items k d).seat.view)
