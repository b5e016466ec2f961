-- Rows of residues modulo p, one less a multiple of another, place by place. Ours.
use Rattle.std.specs.Prelude.{◌≡◌, ℕ, ◌+◌, ◌*◌, ◌-◌, ◌%◌, ◌<◌, List, length, All, slice_index}

-- s is r less c times g, as residues modulo p
pub record IsDifference (p c : ℕ) (r g s : List ℕ) : Type 0 where
  pub full : length s ≡ length r
  pub residues : All (λ x. x < p) s
  pub value : (k : ℕ) → slice_index s k ≡ (slice_index r k + (p - c) * slice_index g k) % p
