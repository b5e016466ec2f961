use Rattle.std.proofs.Common.{◌≡◌, ◌<◌, ℕ}
use Rattle.entry_code.specs.Entry.{entry_at}
use Rattle.cert_check.proofs.tickets.has_entry.Given as goal

-- the entries so far have other items
abbrev pub invariant-loop-k : goal.invariant-loop-k
invariant-loop-k l = (i : ℕ) → i < l.k → (entry_at l.entries i).item ≡ l.item → ⊥
