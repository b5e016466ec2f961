use Rattle.std.proofs.Common.{◌≡◌, ◌-◌}
use Rattle.cert_text.specs.Gives.{with_items}
use Rattle.cert_grammar.specs.Reading.{entry_at, times_at}
use Rattle.cert_text.proofs.lines.Lines.many_entries.Given as goal

abbrev pub invariant-loop-i : goal.invariant-loop-i
invariant-loop-i l = with_items l.entries.items (times_at (entry_at l.ring) (l.count - l.i) l.i l.self) ≡ times_at (entry_at l.ring) l.count 0 l.fn.self
