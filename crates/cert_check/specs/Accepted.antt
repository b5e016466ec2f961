-- Accepted blocks: the entries are legal, plain division by them brings the start of each ticket to zero, and the answer
-- is what the leads of the entries say.
use Rattle.std.specs.Prelude.{◌≡◌, ℕ, zero, suc, ◌<◌, ◌≤◌, ◌⊎◌, ◌↔◌, List, length, Option, Some, None, Contains, ⊤}
use Rattle.local_order.specs.Mono.{degree, Divides}
use Rattle.mono_rank.specs.Rank.{fewer}
use Rattle.sparse_poly.specs.Ideal.{Problem, IsGreater, IsFalling}
use Rattle.entry_code.specs.declared.item.Item.{Item}
use Rattle.entry_code.specs.Entry.{Entry}
use Rattle.mora_law.specs.Ring.{numbering_of, ranks_of_problem, generators_of}
use Rattle.mora_law.specs.Entries.{corner, leads}
use Rattle.mora_law.specs.Legal.{Legal}
use Rattle.mora_law.specs.Tickets.{HasTicket, ticket_of, total}
use Rattle.mora_law.specs.Settled.{IsSkipped, HasEntry, LeavesNothing}
use Rattle.mora_law.specs.Basis.{basis}
use Rattle.text_out.specs.declared.answer.Answer.{Answer}
use Rattle.text_out.specs.declared.answer.Answer.TheVariants.{Fits, TooSmall}
use Rattle.cert_grammar.specs.declared.certified.Certified.{Certified}
use Rattle.cert_check.specs.Block.{terms_of_each}

-- a lead of the entries divides m
abbrev pub IsMultipleOfLeads : Problem → List Entry → List ℕ → Type 0
IsMultipleOfLeads P entries m = (l : List ℕ) × Contains (leads P entries) l × Divides l m

-- the pair of the item is skipped, or plain division of its start by all entries leaves nothing
abbrev pub IsDivided : Problem → List Entry → Item → Type 0
IsDivided P entries item = IsSkipped P entries item ⊎ LeavesNothing (ranks_of_problem P) (generators_of P) entries item

-- so it is with each ticket below the total
abbrev pub AreDivided : Problem → List Entry → Type 0
AreDivided P entries = (item : Item) → HasTicket (length P.gens) item → ticket_of (length P.gens) item < total (length P.gens) (length entries) → IsDivided P entries item

-- an entry has the item, or it is divided
abbrev pub IsDone : Problem → List Entry → Item → Type 0
IsDone P entries item = HasEntry entries item ⊎ IsDivided P entries item

-- all tickets are divided but for those that have an entry
abbrev pub OthersAreDivided : Problem → List Entry → Type 0
OthersAreDivided P entries = (item : Item) → HasTicket (length P.gens) item → ticket_of (length P.gens) item < total (length P.gens) (length entries) → IsDone P entries item

-- m is the greatest monomial of degree d that is a multiple of no lead
pub record IsFirstFree (P : Problem) (entries : List Entry) (m : List ℕ) : Type 0 where
  pub in_ring : length m ≡ P.n
  pub top : degree m ≡ P.d
  pub free : IsMultipleOfLeads P entries m → ⊥
  pub first : (k : List ℕ) → length k ≡ P.n → degree k ≡ P.d → IsGreater P k m → IsMultipleOfLeads P entries k

-- the answer is that the degree fits exactly where the corner of the entries is at most the first rank of degree d,
-- and else names the greatest monomial of degree d that is a multiple of no lead
abbrev pub IsVerdict : Problem → List Entry → Answer → Type 0
IsVerdict P entries (Fits gs s) = corner P entries ≤ fewer P.n P.d
IsVerdict P entries (TooSmall m) = (corner P entries ≤ fewer P.n P.d → ⊥) × IsFirstFree P entries m

-- s has the monomials of degree at most d that are multiples of no lead, the greatest first, each once
pub record IsFreeList (P : Problem) (entries : List Entry) (s : List (List ℕ)) : Type 0 where
  pub falling : IsFalling P s
  pub exactly : (m : List ℕ) → length m ≡ P.n → degree m ≤ P.d → Contains s m ↔ (IsMultipleOfLeads P entries m → ⊥)
  pub only : (m : List ℕ) → Contains s m → (length m ≡ P.n) × (degree m ≤ P.d)

-- the monomial of the rank before w, and none where w is 0
abbrev pub before : Problem → ℕ → Option (List ℕ)
before P zero = None
before P (suc w) = Some ((numbering_of P).mono w)

-- the highest corner: the monomial of the rank before the corner of the entries
abbrev pub highest_corner : Problem → List Entry → Option (List ℕ)
highest_corner P entries = before P (corner P entries)

-- after `fits`: the basis that plain division makes of the entries, the highest corner, and the monomials that are multiples of no lead
abbrev pub IsAfterFits : Problem → List Entry → Answer → Option (List ℕ) → Type 0
IsAfterFits P entries (Fits gs s) highest = (terms_of_each gs ≡ basis P entries) × (highest ≡ highest_corner P entries) × IsFreeList P entries s
IsAfterFits P entries (TooSmall m) highest = ⊤

-- the block is accepted
pub record IsAcceptedBlock (b : Certified) : Type 0 where
  pub legal : Legal b.problem b.entries
  pub divided : AreDivided b.problem b.entries
  pub verdict : IsVerdict b.problem b.entries b.answer
  pub after : IsAfterFits b.problem b.entries b.answer b.corner
