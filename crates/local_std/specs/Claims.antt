-- Problems that were solved and can be certified.
use Rattle.std.specs.Prelude.{◌≡◌, ℕ, suc, List, Some, slice_get}
use Rattle.cert_grammar.specs.Lines.{Line}
use Rattle.cert_grammar.specs.Blocks.{Block}
use Rattle.cert_grammar.specs.Cert.{block_lines}
use Rattle.cert_grammar.specs.Certified.{IsCertified}
use Rattle.local_std.specs.declared.solved.Solved.{Solved}
use Rattle.local_std.specs.Solved.{claim_of}

-- the place is one of a problem that can be certified in these letters
abbrev pub IsClaimable : List ℕ → List Solved → ℕ → Type 0
IsClaimable letters solved place = (one : Solved) × (slice_get solved place ≡ Some one) × IsCertified (claim_of letters one)

-- the lines of the block that stands behind so many
abbrev pub numbered_block : ℕ → Block → List Line
numbered_block i x = block_lines (suc i) x
