use Rattle.std.proofs.Common.{◌-◌, length}
use Rattle.script_table.proofs.print_outcomes.Given as goal

abbrev pub decreases-loop-start : goal.decreases-loop-start
decreases-loop-start g l = length l.table - l.start
