use Rattle.std.proofs.Common.{refl}
use Rattle.mora_tests.proofs.jacobian.entries.Goals as goal

pub returns : goal.returns
returns c = rw c.in_ok-add-4.ensures (rw c.in_ok-add-3.ensures (rw c.in_ok-add-2.ensures (rw c.in_ok-add.ensures (rw c.new-entries.ensures (rw c.ranked.ensures (rw c.ranked-2.ensures (rw c.ranked-3.ensures (rw c.ranked-4.ensures (rw c.ranked-5.ensures (rw c.ranked-6.ensures (rw c.ranked-7.ensures refl)))))))))))
