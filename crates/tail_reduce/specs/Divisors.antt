-- For each rank the first entry whose lead divides, and what is read off these.
use Rattle.std.specs.Prelude.{◌≡◌, ℕ, ◌<◌, List, length, map, Option, None, option_map, filter_map, get_or, slice_index}
use Rattle.std.specs.List.{range_with_len}
use Rattle.local_order.specs.Shape.{Shape}
use Rattle.sparse_poly.specs.Shape.{shape_of}
use Rattle.rank_algebra.specs.Ranks.{Ranks}
use Rattle.sparse_poly.specs.Ideal.{Problem}
use Rattle.entry_code.specs.Entry.{Entry}
use Rattle.rank_algebra.specs.Division.{Basis, Hit, first_lead}
use Rattle.mora_law.specs.Entries.{lead_rank}
use Rattle.mora_law.specs.Basis.{minimal_with}
use Rattle.tail_reduce.specs.declared.divisors.Divisor.{Divisor}

-- the ranks of the leads
abbrev pub leads_of : List Entry → List ℕ
leads_of entries = map (λ e. lead_rank e.terms) entries

-- these are the leads of the members of B, by their ranks in the problem's table
pub record AreLeadsOf (P : Problem) (B : Basis) (table : Shape) (leads : List ℕ) : Type 0 where
  pub table_is : table ≡ shape_of P
  pub size : B.size ≡ length leads
  pub lead : (k : ℕ) → k < length leads → B.lead k ≡ slice_index leads k

-- a stored divisor as a definition has it
abbrev pub hit_of : Divisor → Hit
hit_of d = record { place = d.place; cofactor = d.cofactor }

-- for each of the first `count` ranks the first member whose lead divides
pub record AreFirsts (R : Ranks) (B : Basis) (count : ℕ) (firsts : List (Option Divisor)) : Type 0 where
  pub all : length firsts ≡ count
  pub each : (r : ℕ) → r < count → option_map hit_of (get_or firsts r None) ≡ first_lead R B r

-- the members of B with a minimal lead among the first `count` ranks, by the ranks of these leads
abbrev pub minimal_places : Ranks → Basis → ℕ → List ℕ
minimal_places R B count = filter_map (minimal_with R B) (range_with_len 0 count)
