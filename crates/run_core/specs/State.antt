-- Seats and states.
use Rattle.std.specs.Prelude.{◌≡◌, ℕ, ◌-◌, Bool, false, List, [], ◌∷◌, length, take, Option, None, count_by, max, min, ◌==◌, if◌then◌else◌}
use Rattle.std.specs.List.{range_with_len}
use mathlib.Core.Option.{some}
use lib.ListN.{get_elem?}
use Rattle.sparse_poly.specs.Ideal.{Problem}
use Rattle.entry_code.specs.Entry.{Entry}
use Rattle.mora_law.specs.Ring.{ranks_of_problem}
use Rattle.run_core.specs.Hand.{Hand, has_open}

-- a seat: its worker numbers, how many entries it knows, the greatest ticket word it has seen, its hand, its idle mark, and its
-- counts of tickets claimed and of steps published. A seat that was joined away stays, with no numbers
pub record Seat : Type 0 where
  pub numbers : List ℕ
  pub known : ℕ
  pub seen : ℕ
  pub hand : Option Hand
  pub idle : Bool
  pub claims : ℕ
  pub published : ℕ

-- a state: the problem, the number of workers, the entries, the corner word, the ticket word and the seats
pub record State : Type 0 where
  pub problem : Problem
  pub workers : ℕ
  pub entries : List Entry
  pub corner : ℕ
  pub ticket : ℕ
  pub seats : List Seat

-- the seat at a place
abbrev pub IsAt : State → ℕ → Seat → Type 0
IsAt s i v = get_elem? s.seats i ≡ some v

-- how many monomials have a rank
abbrev pub count_of : Problem → ℕ
count_of P = (ranks_of_problem P).n

-- the entries that a seat knows
abbrev pub known_by : State → Seat → List Entry
known_by s v = take v.known s.entries

-- whether the seat has an open hand
abbrev pub is_busy : State → Seat → Bool
is_busy s v = has_open s.problem (known_by s v) v.hand

-- how often x is in the list
abbrev pub times : ℕ → List ℕ → ℕ
times x xs = count_by (λ y. x == y) xs

-- the greatest number
abbrev pub highest : List ℕ → ℕ
highest [] = 0
highest (n ∷ ns) = max n (highest ns)

-- the least number, by which a seat is named
abbrev pub lowest : List ℕ → ℕ
lowest [] = 0
lowest (n ∷ []) = n
lowest (n ∷ k ∷ ns) = min n (lowest (k ∷ ns))

-- the list without its first x
abbrev pub without : ℕ → List ℕ → List ℕ
without x [] = []
without x (n ∷ ns) = if x == n then ns else n ∷ without x ns

-- a seat with these numbers that has done nothing
abbrev pub fresh : List ℕ → Seat
fresh numbers = record { numbers = numbers; known = 0; seen = 0; hand = None; idle = false; claims = 0; published = 0 }

-- no entries, no corner, no ticket claimed, and one seat with all numbers
abbrev pub opening : Problem → ℕ → State
opening P workers = record {
  problem = P;
  workers = workers;
  entries = [];
  corner = count_of P;
  ticket = 0;
  seats = fresh (range_with_len 0 workers) ∷ [];
}

-- the readings of an entry but the last
abbrev pub steps_of : Entry → ℕ
steps_of e = length e.reads - 1
