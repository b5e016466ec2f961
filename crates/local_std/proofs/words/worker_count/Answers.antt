use Rattle.local_std.proofs.Readings.{counted}
use Rattle.local_std.proofs.words.worker_count.Goals as goal

pub returns-in-Some-workers-clause-bounds : goal.returns-in-Some-workers-clause-bounds
returns-in-Some-workers-clause-bounds c =
    let found = c.in-Some.ensures.found in
    counted found.0 c.in-Some.given c.in-Some-workers.count found.1.values found.2 c.in-Some-workers.is
