use Rattle.std.proofs.Common.{◌≡◌, length, take}
use Rattle.cert_text.specs.Gives.{with_bytes}
use Rattle.cert_grammar.specs.Reading.{bytes_of}
use Rattle.cert_text.proofs.vars.letters_in.Given as goal

abbrev pub invariant-loop-i : goal.invariant-loop-i
invariant-loop-i l = record { full : length l.bytes ≡ 8; so_far : with_bytes (take l.i l.bytes) (bytes_of l.left) ≡ bytes_of l.fn.words }
