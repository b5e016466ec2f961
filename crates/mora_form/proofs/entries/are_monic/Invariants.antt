use Rattle.mora_form.proofs.Learning.{AreGood}
use Rattle.mora_form.proofs.entries.are_monic.Given as goal

abbrev pub invariant-loop-i : goal.invariant-loop-i
invariant-loop-i l = AreGood l.prime l.places l.i l.low l.terms.list
