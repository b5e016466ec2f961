use Rattle.std.proofs.Common.{ap}
use Rattle.local_std.proofs.Readings.{no_cert}
use Rattle.local_std.proofs.words.cert_path.Goals as goal

pub returns-in-Some-clause-none : goal.returns-in-Some-clause-none
returns-in-Some-clause-none c =
    let found = c.in-Some.ensures.found in
    no_cert _ _ found.0 found.1 c.in-Some.given.cert (ap (λ k. k.paths) found.2)
