-- The first fault of a block, and of all blocks of a certificate.
use Rattle.std.specs.Prelude.{◌≡◌, ℕ, ◌+◌, List, Some, slice_get, take, map, sum, All}
use Rattle.cert_check.specs.declared.reason.Reason.{Reason}
use Rattle.cert_grammar.specs.declared.certified.Certified.{Certified}
use Rattle.cert_check.specs.Accepted.{IsAcceptedBlock}
use Rattle.cert_check.specs.Checks.{Check, checks, line_of, reason_of, Holds, block_lines}

-- of these checks one fails, at this line for this reason, and all before it hold
pub record IsFirstFaultIn (b : Certified) (cs : List Check) (line : ℕ) (reason : Reason) : Type 0 where
  pub place : ℕ
  pub check : Check
  pub there : slice_get cs place ≡ Some check
  pub earlier : All (Holds b) (take place cs)
  pub fails : Holds b check → ⊥
  pub at : line ≡ line_of b check
  pub because : reason ≡ reason_of check

-- the same of all checks of the block; its lines are counted from 0
abbrev pub IsFirstFault : Certified → ℕ → Reason → Type 0
IsFirstFault b line reason = IsFirstFaultIn b (checks b) line reason

-- the line of block k, counted from 1: it stands behind the head and the blocks before it
abbrev pub block_line : List Certified → ℕ → ℕ
block_line bs k = 2 + sum (map block_lines (take k bs))

-- the first fault of a certificate: that of the first block which isn't accepted
pub record IsFirstFaultOf (bs : List Certified) (line : ℕ) (reason : Reason) : Type 0 where
  pub place : ℕ
  pub block : Certified
  pub there : slice_get bs place ≡ Some block
  pub earlier : All IsAcceptedBlock (take place bs)
  pub within : ℕ
  pub fault : IsFirstFault block within reason
  pub at : line ≡ block_line bs place + within
