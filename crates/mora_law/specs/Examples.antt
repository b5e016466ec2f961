-- Worked examples: problems with lists of entries, and small vectors to compute with.
-- By rank the monomials in x and y begin with 1, x, y, x^2, x*y, y^2, x^3, x^2*y, x*y^2, y^3, x^4, x^3*y, x^2*y^2, x*y^3, y^4;
-- those in x alone are its powers, each with its exponent as rank.
use Rattle.std.specs.Prelude.{ℕ, List, [], ◌∷◌, ◌++◌, map, Option, get_or, option_map, None}
use Rattle.sparse_poly.specs.Poly.{Term as PolyTerm, Poly}
use Rattle.sparse_poly.specs.Ideal.{Problem}
use Rattle.entry_code.specs.declared.item.Item.{Item}
use Rattle.entry_code.specs.declared.item.Item.TheVariants.{Generator, Pair}
use Rattle.entry_code.specs.declared.reading.Reading.{Reading}
use Rattle.entry_code.specs.declared.term.Term.{Term}
use Rattle.entry_code.specs.Entry.{Entry}
use Rattle.rank_algebra.specs.Ranks.{Ranks}
use Rattle.mora_law.specs.declared.step_end.StepEnd.{StepEnd}
use Rattle.mora_law.specs.Ring.{ranks_of_problem}
use Rattle.mora_law.specs.Step.{Run, choose, step}
use Rattle.mora_law.specs.Entries.{terms_of}
use Rattle.entry_code.specs.Terms.{vector_of_terms}
use Rattle.mora_law.specs.Basis.{remainder_by}

-- ---- words
-- c times the monomial of rank r
abbrev pub term : ℕ → ℕ → Term
term r c = record { rank = r; coef = c }

-- a reading of the number of entries known and of the corner
abbrev pub reading : ℕ → ℕ → Reading
reading known corner = record { known = known; corner = corner }

-- an entry: its item, its readings and its terms
abbrev pub entry : Item → List Reading → List Term → Entry
entry item reads terms = record { item = item; reads = reads; terms = terms }

-- c * x^a * y^b
abbrev pub written : ℕ → ℕ → ℕ → PolyTerm
written c a b = record { mono = a ∷ b ∷ []; coef = c }

-- the problem of these generators in x and y over Z/32003, modulo degree d + 1
abbrev pub plane : ℕ → List Poly → Problem
plane d gens = record { p = 32003; n = 2; d = d; gens = gens }

-- ---- an intermediate is used: x - x^2 - y^3 and x modulo degree 5
abbrev pub kept_problem : Problem
kept_problem = plane 4 ((written 1 1 0 ∷ written 32002 2 0 ∷ written 32002 0 3 ∷ []) ∷ (written 1 1 0 ∷ []) ∷ [])

-- the run of the second entry keeps x, takes x - x^2 - y^3, and then takes x itself from the intermediates
abbrev pub kept_entries : List Entry
kept_entries =
    entry (Generator 0) (reading 0 15 ∷ []) (term 1 1 ∷ term 3 32002 ∷ term 9 32002 ∷ [])
    ∷ entry (Generator 1) (reading 1 15 ∷ reading 1 15 ∷ reading 1 15 ∷ []) (term 9 1 ∷ [])
    ∷ []

-- x and y^3
abbrev pub kept_basis : List Poly
kept_basis = (written 1 1 0 ∷ []) ∷ (written 1 0 3 ∷ []) ∷ []

-- ---- a corner that another worker lowered: x^2, y^2 and x^2 + x*y + x^3 modulo degree 5
abbrev pub racing_problem : Problem
racing_problem = plane 4 ((written 1 2 0 ∷ []) ∷ (written 1 0 2 ∷ []) ∷ (written 1 2 0 ∷ written 1 1 1 ∷ written 1 3 0 ∷ []) ∷ [])

-- x^2 and y^2
abbrev pub racing_squares : List Entry
racing_squares =
    entry (Generator 0) (reading 0 15 ∷ []) (term 3 1 ∷ [])
    ∷ entry (Generator 1) (reading 1 15 ∷ []) (term 5 1 ∷ [])
    ∷ []

-- and x*y: the first reading of its run knows x^2 alone, and has the corner of both squares, which drops x^3
abbrev pub racing_entries : List Entry
racing_entries = racing_squares ++ entry (Generator 2) (reading 1 5 ∷ reading 2 5 ∷ []) (term 4 1 ∷ []) ∷ []

-- ---- pairs that are skipped, and one beyond the degree: the partial derivatives of x^5 + x^2*y^2 + y^5 modulo degree 7
abbrev pub curve_problem : Problem
curve_problem = plane 6 ((written 2 1 2 ∷ written 5 4 0 ∷ []) ∷ (written 2 2 1 ∷ written 5 0 4 ∷ []) ∷ [])

-- x*y^2 - 15999*x^4, x^2*y - 15999*y^4, x^5 - y^5 and y^6
abbrev pub curve_entries : List Entry
curve_entries =
    entry (Generator 0) (reading 0 28 ∷ []) (term 8 1 ∷ term 10 16004 ∷ [])
    ∷ entry (Generator 1) (reading 1 28 ∷ []) (term 7 1 ∷ term 14 16004 ∷ [])
    ∷ entry (Pair 0 1) (reading 2 28 ∷ []) (term 15 1 ∷ term 20 32002 ∷ [])
    ∷ entry (Pair 1 2) (reading 3 28 ∷ []) (term 27 1 ∷ [])
    ∷ []

-- their leads
abbrev pub curve_leads : List (List ℕ)
curve_leads = (1 ∷ 2 ∷ []) ∷ (2 ∷ 1 ∷ []) ∷ (5 ∷ 0 ∷ []) ∷ (0 ∷ 6 ∷ []) ∷ []

-- the four as polynomials, in falling order
abbrev pub curve_basis : List Poly
curve_basis =
    (written 1 2 1 ∷ written 16004 0 4 ∷ [])
    ∷ (written 1 1 2 ∷ written 16004 4 0 ∷ [])
    ∷ (written 1 5 0 ∷ written 32002 0 5 ∷ [])
    ∷ (written 1 0 6 ∷ [])
    ∷ []

-- ---- a degree that doesn't fit: x^3 and y^3 modulo degree 4
abbrev pub cubes_problem : Problem
cubes_problem = plane 3 ((written 1 3 0 ∷ []) ∷ (written 1 0 3 ∷ []) ∷ [])

-- x^3
abbrev pub cubes_first : Entry
cubes_first = entry (Generator 0) (reading 0 10 ∷ []) (term 6 1 ∷ [])

-- x^3 and y^3
abbrev pub cubes_entries : List Entry
cubes_entries = cubes_first ∷ entry (Generator 1) (reading 1 10 ∷ []) (term 9 1 ∷ []) ∷ []

-- ---- lists that aren't legal, each for one reason
-- entry 1 is made of the pair of entries 0 and 2, where entry 2 stands behind it
abbrev pub later_pair : List Entry
later_pair =
    entry (Generator 0) (reading 0 28 ∷ []) (term 8 1 ∷ term 10 16004 ∷ [])
    ∷ entry (Pair 0 2) (reading 1 28 ∷ []) (term 15 1 ∷ term 20 32002 ∷ [])
    ∷ entry (Generator 1) (reading 2 28 ∷ []) (term 7 1 ∷ term 14 16004 ∷ [])
    ∷ []

-- the run of y^3 knows no entry at its end, where x^3 stands before it
abbrev pub unknown_entry : List Entry
unknown_entry = cubes_first ∷ entry (Generator 1) (reading 0 10 ∷ []) (term 9 1 ∷ []) ∷ []

-- 2*y^3 is not monic
abbrev pub other_multiple : List Entry
other_multiple = cubes_first ∷ entry (Generator 1) (reading 1 10 ∷ []) (term 9 2 ∷ []) ∷ []

-- the first run drops x^3, by a corner that only entries behind it bring about
abbrev pub low_corner : List Entry
low_corner =
    entry (Generator 2) (reading 0 5 ∷ []) (term 3 1 ∷ term 4 1 ∷ [])
    ∷ entry (Generator 1) (reading 1 15 ∷ []) (term 5 1 ∷ [])
    ∷ entry (Generator 0) (reading 2 5 ∷ reading 2 5 ∷ []) (term 4 1 ∷ [])
    ∷ []

-- the last run keeps x^3, at a corner above that of the entries it knows
abbrev pub high_corner : List Entry
high_corner = racing_squares ++ entry (Generator 2) (reading 2 9 ∷ reading 2 9 ∷ []) (term 4 1 ∷ term 6 1 ∷ []) ∷ []

-- the last run could go on, but lacks a reading
abbrev pub short_run : List Entry
short_run = racing_squares ++ entry (Generator 2) (reading 2 5 ∷ []) (term 4 1 ∷ []) ∷ []

-- the last run has a reading after its end
abbrev pub long_run : List Entry
long_run = racing_squares ++ entry (Generator 2) (reading 1 5 ∷ reading 2 5 ∷ reading 2 5 ∷ []) (term 4 1 ∷ []) ∷ []

-- the second run, of three readings, forgets an entry in between
abbrev pub forgotten_entry : List Entry
forgotten_entry =
    entry (Generator 0) (reading 0 15 ∷ []) (term 1 1 ∷ term 3 32002 ∷ term 9 32002 ∷ [])
    ∷ entry (Generator 1) (reading 1 15 ∷ reading 0 15 ∷ reading 1 15 ∷ []) (term 9 1 ∷ [])
    ∷ []

-- x, y^3 and x + x*y + y^2 modulo degree 5
abbrev pub rising_problem : Problem
rising_problem = plane 4 ((written 1 1 0 ∷ []) ∷ (written 1 0 3 ∷ []) ∷ (written 1 1 0 ∷ written 1 1 1 ∷ written 1 0 2 ∷ []) ∷ [])

-- the last run has the corner of x and y^3, then again that of x alone
abbrev pub rising_corner : List Entry
rising_corner =
    entry (Generator 0) (reading 0 15 ∷ []) (term 1 1 ∷ [])
    ∷ entry (Generator 1) (reading 1 15 ∷ []) (term 9 1 ∷ [])
    ∷ entry (Generator 2) (reading 1 6 ∷ reading 1 15 ∷ reading 2 6 ∷ []) (term 5 1 ∷ [])
    ∷ []

-- ---- small vectors: powers of x over Z/7 modulo degree 5
-- their ranks
abbrev pub powers : Ranks
powers = ranks_of_problem (record { p = 7; n = 1; d = 4; gens = [] })

-- the terms of the vector that is chosen of these as the reducer of x^r
abbrev pub chosen : ℕ → List (List Term) → Option (List Term)
chosen r gs = option_map (λ g. terms_of powers g.poly) (choose powers r (map vector_of_terms gs))

-- how a step ended, the terms that are left, and those of the intermediates
pub record Outcome : Type 0 where
  pub end : Option StepEnd
  pub left : List Term
  pub kept : List (List Term)

-- the outcome of a run so far
abbrev pub outcome : Run → Outcome
outcome s = record { end = s.end; left = terms_of powers s.poly; kept = map (terms_of powers) s.kept }

-- the outcome of a step on f by these entries and these intermediates
abbrev pub step_on : List (List Term) → List (List Term) → List Term → Reading → Outcome
step_on entries kept f d = outcome (step powers (λ k. vector_of_terms (get_or entries k [])) (record { end = None; poly = vector_of_terms f; kept = map vector_of_terms kept }) d)

-- entries with these terms, where nothing is said of their runs
abbrev pub bare : List (List Term) → List Entry
bare gs = map (entry (Generator 0) []) gs

-- what plain division by these in x and y modulo degree 4 leaves of f
abbrev pub divided : List (List Term) → List Term → List Term
divided gs f = terms_of (ranks_of_problem (plane 3 [])) (remainder_by (plane 3 []) (bare gs) (vector_of_terms f))
