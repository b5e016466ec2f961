-- What the checker answers, and what it goes by between the readings of an entry.
use Rattle.std.specs.Prelude.{◌≡◌, ℕ, ◌<◌, ◌≤◌, List, [], length, get_or, take, filter_map, Option, Some, None, All}
use Rattle.std.specs.List.{range_with_len}
use Rattle.sparse_poly.specs.Poly.{Polynomial}
use Rattle.sparse_poly.specs.Ideal.{Problem}
use Rattle.entry_code.specs.declared.term.Term.{Term}
use Rattle.entry_code.specs.Placed.{Placed}
use Rattle.entry_code.specs.Entry.{Entry, entry_at}
use Rattle.rank_algebra.specs.Vector.{Vector, Agree}
use Rattle.rank_algebra.specs.Division.{first_of, corner_of}
use Rattle.mora_law.specs.Ring.{ranks_of_problem}
use Rattle.mora_law.specs.Entries.{basis_of, corner}
use Rattle.mora_law.specs.Start.{run}
use Rattle.mora_law.specs.Alike.{AllAlike}
use Rattle.mora_law.specs.Basis.{minimal_with, basis}
use Rattle.cert_grammar.specs.declared.certified.Certified.{Certified}
use Rattle.cert_check.specs.declared.fault.Fault.{Fault}
use Rattle.cert_check.specs.declared.block.Passed.{Passed}
use Rattle.cert_check.specs.Block.{terms_of_each}
use Rattle.cert_check.specs.Checks.{Check, Holds, verdict_line}
use Rattle.cert_check.specs.Fault.{IsFirstFaultIn}
use Rattle.cert_check.specs.Replay.{vectors_of}

-- no fault where all these checks hold, and else the first
abbrev pub IsAnswered : Certified → List Check → Option Fault → Type 0
IsAnswered b cs None = All (Holds b) cs
IsAnswered b cs (Some f) = IsFirstFaultIn b cs f.line f.reason

-- number k is the corner of the first k entries, for each k up to i
abbrev pub AreCorners : Problem → List Entry → ℕ → List ℕ → Type 0
AreCorners P entries i corners = (k : ℕ) → k ≤ i → (k < length corners) × (get_or corners k 0 ≡ corner_of (ranks_of_problem P) (first_of k (basis_of entries)))

-- v and the intermediates are those of the run of entry i by its first j readings
pub record IsReplayed (b : Certified) (i j : ℕ) (v : Vector) (ts : List (Placed Term)) : Type 0 where
  pub poly : Agree (ranks_of_problem b.problem) (ranks_of_problem b.problem).n v (run b.problem b.entries (entry_at b.entries i).item (take j (entry_at b.entries i).reads)).poly
  pub kept : AllAlike (ranks_of_problem b.problem) (vectors_of ts) (run b.problem b.entries (entry_at b.entries i).item (take j (entry_at b.entries i).reads)).kept

-- the places of the entries that make the members of the basis, the greatest lead first
abbrev pub ArePlaces : Problem → List Entry → List ℕ → Type 0
ArePlaces P entries places = places ≡ filter_map (minimal_with (ranks_of_problem P) (basis_of entries)) (range_with_len 0 (ranks_of_problem P).n)

-- the polynomial at place k is member k of the basis
abbrev pub IsMemberAt : Problem → List Entry → List Polynomial → ℕ → Type 0
IsMemberAt P entries gs k = get_or (terms_of_each gs) k [] ≡ get_or (basis P entries) k []

-- so are the first so many
abbrev pub HasMembers : Problem → List Entry → List Polynomial → ℕ → Type 0
HasMembers P entries gs n = (k : ℕ) → k < n → IsMemberAt P entries gs k

-- the first that isn't stands at place k
pub record IsWrongMember (P : Problem) (entries : List Entry) (gs : List Polynomial) (k : ℕ) : Type 0 where
  pub within : k < length gs
  pub earlier : HasMembers P entries gs k
  pub wrong : IsMemberAt P entries gs k → ⊥

-- what is known behind the entries: their corner, and the line of the verdict
pub record IsPassed (b : Certified) (x : Passed) : Type 0 where
  pub corner : x.corner ≡ corner b.problem b.entries
  pub line : x.line ≡ verdict_line b
