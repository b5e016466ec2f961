use Rattle.std.proofs.Common.{◌≡◌, All, take}
use Rattle.cert_check.specs.Accepted.{IsAcceptedBlock}
use Rattle.cert_check.specs.Fault.{block_line}
use Rattle.cert_check.proofs.certificate.check_blocks.Given as goal

-- the blocks so far are accepted
abbrev pub invariant-loop-k : goal.invariant-loop-k
invariant-loop-k l = All IsAcceptedBlock (take l.k l.cert) × (l.line ≡ block_line l.cert l.k)
