-- S-polynomials of entries.
use Rattle.std.specs.Prelude.{ℕ, ◌-◌, List, [], ◌++◌, get_or}
use Rattle.local_order.specs.Mono.{mono_quotient, mono_lcm}
use Rattle.mono_rank.specs.Rank.{mono_at}
use Rattle.sparse_poly.specs.Poly.{Poly, term_times}
use Rattle.sparse_poly.specs.Ideal.{Problem}
use Rattle.entry_code.specs.Entry.{Entry}
use Rattle.mora_law.specs.Entries.{leads, polys_of}

-- (lcm / a) * f - (lcm / b) * g for monic polynomials f and g with leads a and b: minus is the factor p - 1
abbrev pub s_polynomial_of : ℕ → List ℕ → Poly → List ℕ → Poly → Poly
s_polynomial_of p a f b g = term_times 1 (mono_quotient (mono_lcm a b) a) f ++ term_times (p - 1) (mono_quotient (mono_lcm a b) b) g

-- the S-polynomial of entries i and j
abbrev pub s_polynomial : Problem → List Entry → ℕ → ℕ → Poly
s_polynomial P entries i j =
    s_polynomial_of P.p (mono_at (leads P entries) i) (get_or (polys_of P entries) i []) (mono_at (leads P entries) j) (get_or (polys_of P entries) j [])
