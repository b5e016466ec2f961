use Rattle.std.proofs.Common.{◌≡◌, ◌++◌, drop, map, string_bytes}
use Rattle.cert_write.proofs.Steps.{letters_text}
use Rattle.cert_write.proofs.front.push_vars.Given as goal

abbrev pub invariant-loop-i : goal.invariant-loop-i
invariant-loop-i l = string_bytes l.text ++ letters_text l.i (drop l.i l.letters) ≡ string_bytes l.initial.text ++ letters_text 0 l.letters
