use Rattle.script_table.proofs.Ends.{NoneBefore}
use Rattle.script_table.proofs.parts.end_of_part.Given as goal

abbrev pub invariant-loop-i : goal.invariant-loop-i
invariant-loop-i l = NoneBefore l.table l.start l.i l.begins_line
