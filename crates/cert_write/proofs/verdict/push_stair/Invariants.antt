use Rattle.std.proofs.Common.{◌≡◌, ◌++◌, drop, string_bytes}
use Rattle.cert_write.proofs.Parts.{stair_text}
use Rattle.cert_write.proofs.verdict.push_stair.Given as goal

abbrev pub invariant-loop-k : goal.invariant-loop-k
invariant-loop-k l = string_bytes l.text ++ stair_text l.ring l.k (drop l.k l.stair) ≡ string_bytes l.initial.text ++ stair_text l.ring 0 l.stair
