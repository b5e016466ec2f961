-- The sign form of residues.
use Rattle.std.specs.Prelude.{ℕ, ◌-◌, ◌/◌, Bool, true, false, nat_le, if◌then◌else◌}

-- whether a residue a modulo p is written with a minus, and the size that is written: a up to the half of p, else minus p - a
abbrev pub sign_form : ℕ → ℕ → Bool × ℕ
sign_form p a = if nat_le a (p / 2) then (false, a) else (true, p - a)
