-- Degrees, where all above 255 are one.
use Rattle.std.specs.Prelude.{ℕ, min}

-- a degree, where all above 255 are one
abbrev pub capped : ℕ → ℕ
capped d = min d 256
