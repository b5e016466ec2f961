use Rattle.std.proofs.Common.{◌≡◌}
use Rattle.cert_check.specs.Checks.{entry_line}
use Rattle.cert_check.proofs.certificate.block_lines.Given as goal

-- the lines of the entries so far
abbrev pub invariant-loop-i : goal.invariant-loop-i
invariant-loop-i l = l.lines ≡ entry_line l.block l.i
