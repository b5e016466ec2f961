-- The lead and the ecart of a vector.
use Rattle.std.specs.Prelude.{find, filter, fold, not, ℕ, ◌-◌, ◌%◌, List, Bool, Option, option_map, unwrap_or, max, ◌==◌}
use Rattle.std.specs.List.{range_with_len}
use Rattle.rank_algebra.specs.Ranks.{Ranks}
use Rattle.rank_algebra.specs.Vector.{Vector}

-- whether v has no term of rank r
abbrev pub is_none_at : Ranks → Vector → ℕ → Bool
is_none_at R v r = (v r % R.p) == 0

-- the rank of the lead: the least rank of a term; there is none where v is 0
unfoldable pub lead : Ranks → Vector → Option ℕ
lead R v = find (λ r. not (is_none_at R v r)) (range_with_len 0 R.n)

-- the support: the ranks of all terms
abbrev pub support : Ranks → Vector → List ℕ
support R v = filter (λ r. not (is_none_at R v r)) (range_with_len 0 R.n)

-- the greatest degree of a term, and 0 where v is 0
abbrev pub top_degree : Ranks → Vector → ℕ
top_degree R v = fold (λ most r. max most (R.degree r)) 0 (support R v)

-- the ecart: the greatest degree of a term less the degree of the lead, and 0 where v is 0
unfoldable pub ecart : Ranks → Vector → ℕ
ecart R v = unwrap_or (option_map (λ r. top_degree R v - R.degree r) (lead R v)) 0
