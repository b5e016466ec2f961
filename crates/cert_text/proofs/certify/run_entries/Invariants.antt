use Rattle.std.proofs.Common.{◌≡◌, ◌++◌, drop, map}
use Rattle.cert_grammar.specs.Certified.{run_entry}
use Rattle.cert_text.proofs.certify.run_entries.Given as goal

abbrev pub invariant-loop-entry : goal.invariant-loop-entry
invariant-loop-entry l = l.list ++ map (run_entry l.table) (drop l.entry-index l.entries) ≡ map (run_entry l.table) l.entries
