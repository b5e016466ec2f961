use Rattle.std.proofs.Common.{◌++◌}
use Rattle.mora_law.proofs.Prefixes.{prefix_append}
use Rattle.mora_law.proofs.Growth.{corner_never_rises}
use Rattle.run_core.proofs.laws.corner_never_rises.Goals as goal

pub returns : goal.returns
returns c P entries more ok = corner_never_rises P entries (entries ++ more) (prefix_append entries more) ok
