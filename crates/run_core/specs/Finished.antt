-- What the computation with one worker counts.
use Rattle.std.specs.Prelude.{◌≡◌, ℕ, ◌*◌, ◌≤◌, List, [], ◌∷◌, length, sum_by}
use Rattle.sparse_poly.specs.Ideal.{Problem}
use Rattle.entry_code.specs.Entry.{Entry}
use Rattle.mora_law.specs.Tickets.{total}
use Rattle.run_core.specs.State.{count_of, steps_of}

-- there is one count: at least the readings of the entries but the last of each, and at most the number of monomials for each ticket
pub record IsOneCount (P : Problem) (entries : List Entry) (counts : List ℕ) : Type 0 where
  pub count : ℕ
  pub one : counts ≡ count ∷ []
  pub least : sum_by steps_of entries ≤ count
  pub most : count ≤ count_of P * total (length P.gens) (length entries)
