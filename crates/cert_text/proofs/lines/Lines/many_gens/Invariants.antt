use Rattle.std.proofs.Common.{◌≡◌, ◌-◌}
use Rattle.cert_text.specs.Gives.{with_items}
use Rattle.cert_grammar.specs.Words.{poly_of_word}
use Rattle.cert_grammar.specs.Reading.{poly_alone, times_at}
use Rattle.cert_text.proofs.lines.Lines.many_gens.Given as goal

abbrev pub invariant-loop-i : goal.invariant-loop-i
invariant-loop-i l = with_items l.gens.items (times_at (poly_alone (poly_of_word l.ring)) (l.count - l.i) l.i l.self) ≡ times_at (poly_alone (poly_of_word l.ring)) l.count 0 l.fn.self
