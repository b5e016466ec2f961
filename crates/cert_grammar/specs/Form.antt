-- Which bytes are a certificate, and the line at which others go wrong.
use Rattle.std.specs.Prelude.{◌≡◌, ℕ, ◌+◌, suc, ◌==◌, if◌then◌else◌, List, [], ◌∷◌, ◌++◌, length}
use Rattle.cert_grammar.specs.Lines.{Line, text}
use Rattle.cert_grammar.specs.Blocks.{Block}
use Rattle.cert_grammar.specs.Cert.{IsCert, cert_lines, cert_text}

-- the bytes are the text of a certificate
pub record IsCertText (bytes : List ℕ) : Type 0 where
  pub blocks : List Block
  pub is : IsCert blocks
  pub spelled : bytes ≡ cert_text blocks

-- these are the first lines of some certificate
pub record BeginsCert (lines : List Line) : Type 0 where
  pub blocks : List Block
  pub is : IsCert blocks
  pub more : List Line
  pub begins : cert_lines blocks ≡ lines ++ more

-- The bytes are no certificate, and L is the first line with which they aren't the beginning of one: the lines before it
-- are the first lines of a certificate, and where it has an end, no certificate begins with it too.
pub record IsFormLine (bytes : List ℕ) (L : ℕ) : Type 0 where
  pub good : List Line
  pub rest : List ℕ
  pub split : bytes ≡ text good ++ rest
  pub number : L ≡ length good + 1
  pub begun : BeginsCert good
  pub no_more : (l : Line) (other : List ℕ) → rest ≡ text (l ∷ []) ++ other → BeginsCert (good ++ l ∷ []) → ⊥
  pub none : IsCertText bytes → ⊥

-- ---- whole lines
-- how many ends of lines there are
abbrev pub line_count : List ℕ → ℕ
line_count [] = 0
line_count (b ∷ bytes) = if b == 10 then suc (line_count bytes) else line_count bytes
