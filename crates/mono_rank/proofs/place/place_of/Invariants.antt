use Rattle.mono_rank.proofs.Counts.{HasTold}
use Rattle.mono_rank.proofs.place.place_of.Given as goal

abbrev pub invariant-loop-i : goal.invariant-loop-i
invariant-loop-i l = HasTold l.m l.i l.before l.rest
