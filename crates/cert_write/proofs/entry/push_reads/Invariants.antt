use Rattle.std.proofs.Common.{◌≡◌, ◌++◌, drop, string_bytes}
use Rattle.cert_write.proofs.Parts.{reads_text}
use Rattle.cert_write.proofs.entry.push_reads.Given as goal

abbrev pub invariant-loop-k : goal.invariant-loop-k
invariant-loop-k l = string_bytes l.text ++ reads_text l.ring l.poly l.k (drop l.k l.reads.list) ≡ string_bytes l.fn.text ++ reads_text l.ring l.poly 0 l.reads.list
