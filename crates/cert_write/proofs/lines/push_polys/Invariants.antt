use Rattle.std.proofs.Common.{◌≡◌, ◌++◌, drop, string_bytes}
use Rattle.cert_grammar.specs.Lines.{text}
use Rattle.cert_grammar.specs.Words.{poly_word}
use Rattle.cert_grammar.specs.Cert.{in_turn, alone}
use Rattle.cert_write.proofs.lines.push_polys.Given as goal

abbrev pub invariant-loop-k : goal.invariant-loop-k
invariant-loop-k l =
    string_bytes l.text ++ text (in_turn (alone (poly_word l.ring)) l.k (drop l.k l.polys)) ≡ string_bytes l.fn.text ++ text (in_turn (alone (poly_word l.ring)) 0 l.polys)
