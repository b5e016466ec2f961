-- The limits of scripts.
use Rattle.std.specs.Prelude.{ℕ}

-- the most bytes of a script
abbrev pub max_script : ℕ
max_script = 1048576

-- the most names that are declared
abbrev pub max_names : ℕ
max_names = 64

-- the most commands
abbrev pub max_commands : ℕ
max_commands = 64

-- the most parentheses that are open at once
abbrev pub max_depth : ℕ
max_depth = 32
