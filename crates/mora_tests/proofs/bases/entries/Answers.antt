use Rattle.std.proofs.Common.{refl}
use Rattle.mora_tests.proofs.bases.entries.Goals as goal

pub returns : goal.returns
returns c = rw c.in_ok-add_entry-2.ensures (rw c.in_ok-add_entry.ensures (rw c.new-entries.ensures (rw c.ranked.ensures (rw c.ranked-2.ensures (rw c.ranked-3.ensures (rw c.ranked-4.ensures refl))))))
