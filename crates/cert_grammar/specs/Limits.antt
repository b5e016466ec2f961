-- The limits of certificates.
use Rattle.std.specs.Prelude.{ℕ}

-- the greatest number, where nothing else is said
abbrev pub max_number : ℕ
max_number = 65535

-- the most blocks
abbrev pub max_blocks : ℕ
max_blocks = 64

-- the greatest characteristic
abbrev pub max_prime : ℕ
max_prime = 2147483647
