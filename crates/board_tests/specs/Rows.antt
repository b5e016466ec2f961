-- Worked examples, with two workers: x^3, x^2*y and y^3 modulo degree 6, and x - x^2 - y^3 and x modulo degree 5.
use Rattle.std.specs.Prelude.{◌≡◌, ℕ, suc, ◌+◌, ◌≤◌, vec_len, false, List, [], ◌∷◌, length, Option, Some, None}
use Rattle.sparse_poly.specs.Ideal.{Problem}
use Rattle.entry_code.specs.declared.item.Item.TheVariants.{Generator}
use Rattle.entry_code.specs.Entry.{Entry, HasRoom}
use Rattle.mora_law.specs.Examples.{term, reading, entry, written, plane}
use Rattle.run_core.specs.Hand.{Hand, hand_of, marked}
use Rattle.reducer_list.specs.View.{View, Board, top}
use Rattle.reducer_list.specs.Steps.{learnt_view}
use Rattle.board_tests.specs.declared.desk.Desk.{Desk}
use Rattle.reducer_list.specs.declared.answers.Claim.{Claim}
use Rattle.reducer_list.specs.declared.answers.Claim.TheVariants.{NoneKnown, Claimed, Later}
use Rattle.reducer_list.specs.declared.answers.Publish.{Publish}
use Rattle.reducer_list.specs.declared.answers.Publish.TheVariants.{Published, Longer}

-- the first problem
abbrev pub cubes : Problem
cubes = plane 5 ((written 1 3 0 ∷ []) ∷ (written 1 2 1 ∷ []) ∷ (written 1 0 3 ∷ []) ∷ [])

-- a ticket with one reading, of the corner 21
abbrev pub once_read : ℕ → ℕ → Hand
once_read ticket known = record { ticket = ticket; reads = reading known 21 ∷ []; published = false }

-- x^3 or x^2*y, as ticket 0 or 1 makes it where so many entries are known
abbrev pub made_cube : ℕ → ℕ → Entry
made_cube ticket known = entry (Generator ticket) (reading known 21 ∷ []) (term (6 + ticket) 1 ∷ [])

-- a seat with one number, which knows these entries and has this hand
pub record Sits (entries : List Entry) (held : Option Hand) (v : View) : Type 0 where
  pub list : v.list ≡ entries
  pub count : v.seat.known ≡ length entries
  pub hand : v.seat.hand ≡ held
  pub one : length v.seat.numbers ≡ 1

-- after a claim: only a ticket that is won changes the hand
abbrev pub HasTaken : List Entry → Option Hand → Claim → View → Type 0
HasTaken entries held NoneKnown v = Sits entries held v
HasTaken entries held (Claimed k) v = Sits entries (Some (hand_of k)) v
HasTaken entries held (Later c) v = Sits entries held v

-- after the exchange of a head by a seat that knows nothing yet, and whose hand makes this entry
abbrev pub HasTried : Hand → Entry → Publish → View → Type 0
HasTried held made (Published i) v = Sits (made ∷ []) (marked (Some held)) v
HasTried held made Longer v = Sits [] (Some held) v

-- the entry of x - x^2 - y^3, which is the generator as it stands, and its hand
abbrev pub curve_entry : Entry
curve_entry = entry (Generator 0) (reading 0 15 ∷ []) (term 1 1 ∷ term 3 32002 ∷ term 9 32002 ∷ [])

abbrev pub curve_hand : Hand
curve_hand = record { ticket = 0; reads = reading 0 15 ∷ []; published = false }

-- a seat has learnt this entry
abbrev pub HasLearnt : View → Entry → View → Type 0
HasLearnt v e w = w ≡ record (learnt_view e v) { looks = suc v.looks }

-- a desk has room for the words of an entry of this board, and for an entry
abbrev pub IsFor : Board → Desk → Type 0
IsFor b d = (top b.setting + 4 ≤ vec_len d.words) × HasRoom (top b.setting) d.room
