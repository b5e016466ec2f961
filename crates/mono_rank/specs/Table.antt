-- When there is no table.
use Rattle.std.specs.Prelude.{◌≡◌, ℕ, ◌<◌, ◌≤◌}
use Rattle.local_order.specs.Limits.{max_monomials}
use Rattle.local_order.specs.Count.{monomial_count}
use Rattle.mono_rank.specs.declared.table.RankError.{RankError}
use Rattle.mono_rank.specs.declared.table.RankError.TheVariants.{TooManyMonomials, Memory}

-- why there is no table: more than 4,096 monomials, whose number is told, or no memory for fewer
abbrev pub IsRefusal : ℕ → ℕ → RankError → Type 0
IsRefusal n d (TooManyMonomials many) = (max_monomials < many) × (many ≡ monomial_count n d)
IsRefusal n d Memory = monomial_count n d ≤ max_monomials
