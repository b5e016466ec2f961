-- The ideal of the first eight monomials of degree 3 in x, y and z, modulo degree 4. By rank they are 10 to 17 of 20.
-- None of them divides another, so each generator makes an entry, whatever is known.
use Rattle.std.specs.Prelude.{◌≡◌, ◌≢◌, ℕ, ◌+◌, ◌<◌, ◌≤◌, true, false, List, [], ◌∷◌, length, Option, Some, None, All, ⊤}
use Rattle.std.specs.List.{range_with_len}
use Rattle.sparse_poly.specs.Poly.{Poly, Polynomial, in_variables}
use Rattle.sparse_poly.specs.Ideal.{Problem}
use Rattle.entry_code.specs.declared.item.Item.TheVariants.{Generator}
use Rattle.entry_code.specs.declared.reading.Reading.{Reading}
use Rattle.entry_code.specs.declared.term.Term.{Term}
use Rattle.entry_code.specs.Entry.{Entry}
use Rattle.mora_law.specs.Examples.{term, reading, entry}
use Rattle.run_core.specs.Hand.{Hand, hand_of}
use Rattle.reducer_list.specs.View.{View, Sitting, Board, is_busy}
use Rattle.reducer_list.specs.Calls.{IsAt}
use Rattle.reducer_list.specs.declared.answers.Publish.{Publish}
use Rattle.reducer_list.specs.declared.answers.Publish.TheVariants.{Published, Longer}
use Rattle.board_tests.specs.Rows.{Sits}

-- x^a*y^b*z^c
abbrev pub cubic : ℕ → ℕ → ℕ → Poly
cubic a b c = record { mono = a ∷ b ∷ c ∷ []; coef = 1 } ∷ []

-- the same as a polynomial in three variables
abbrev pub of_cubic : ℕ → ℕ → ℕ → Polynomial
of_cubic a b c = in_variables 3 (cubic a b c)

-- the generators without z
abbrev pub in_plane : List Polynomial
in_plane = of_cubic 3 0 0 ∷ of_cubic 2 1 0 ∷ of_cubic 1 2 0 ∷ of_cubic 0 3 0 ∷ []

-- the problem
abbrev pub cubics : Problem
cubics = record {
  p = 32003;
  n = 3;
  d = 3;
  gens = cubic 3 0 0 ∷ cubic 2 1 0 ∷ cubic 1 2 0 ∷ cubic 0 3 0 ∷ cubic 2 0 1 ∷ cubic 1 1 1 ∷ cubic 0 2 1 ∷ cubic 1 0 2 ∷ [];
}

-- the term of generator t
abbrev pub cubic_terms : ℕ → List Term
cubic_terms t = term (10 + t) 1 ∷ []

-- the readings of a run of one step over so many entries
abbrev pub one_reading : ℕ → List Reading
one_reading known = reading known 20 ∷ []

-- the hand of a ticket with these readings
abbrev pub hand_with : ℕ → List Reading → Hand
hand_with t reads = record { ticket = t; reads = reads; published = false }

-- the entry of generator t where so many entries are known
abbrev pub cubic_entry : ℕ → ℕ → Entry
cubic_entry t known = entry (Generator t) (one_reading known) (cubic_terms t)

-- an entry with the term of another generator
pub record IsOther (t : ℕ) (e : Entry) : Type 0 where
  pub generator : ℕ
  pub low : generator < 8
  pub other : generator ≢ t
  pub terms : e.terms ≡ cubic_terms generator

-- a seat with so many numbers that knows nothing and has no hand
pub record HasNumbers (count : ℕ) (v : View) : Type 0 where
  pub list : v.list ≡ []
  pub known : v.seat.known ≡ 0
  pub hand : v.seat.hand ≡ None
  pub numbers : v.seat.numbers ≡ range_with_len 0 count

-- no reading, or one of at most so many entries
abbrev pub AreFew : ℕ → List Reading → Type 0
AreFew n [] = ⊤
AreFew n (d ∷ []) = (d.known ≤ n) × (d.corner ≡ 20)
AreFew n (d ∷ e ∷ ds) = ⊥

-- a seat with one number that works at ticket t, and knows entries of other generators
pub record Works (t : ℕ) (v : View) : Type 0 where
  pub low : t < 8
  pub others : All (IsOther t) v.list
  pub count : v.seat.known ≡ length v.list
  pub one : length v.seat.numbers ≡ 1
  pub reads : List Reading
  pub few : AreFew (length v.list) reads
  pub hand : v.seat.hand ≡ Some (hand_with t reads)

-- such a seat that has just read the corner over all that it knows
pub record HasRead (t : ℕ) (v : View) : Type 0 where
  pub low : t < 8
  pub others : All (IsOther t) v.list
  pub count : v.seat.known ≡ length v.list
  pub one : length v.seat.numbers ≡ 1
  pub hand : v.seat.hand ≡ Some (hand_with t (one_reading (length v.list)))

-- a seat whose entry is published
pub record HasPosted (v : View) : Type 0 where
  pub held : Hand
  pub marked : held.published ≡ true
  pub hand : v.seat.hand ≡ Some held

-- after the exchange of a head by such a seat
abbrev pub HasTriedAt : ℕ → Publish → View → Type 0
HasTriedAt t (Published i) v = HasPosted v
HasTriedAt t Longer v = HasRead t v

-- a board for this problem
abbrev pub IsOfCubics : Board → Type 0
IsOfCubics b = b.setting.problem ≡ cubics

-- a seat with so many numbers at such a board, from which that many threads may begin
abbrev pub MayBegin : Board → ℕ → Sitting → Type 0
MayBegin b count s = IsOfCubics b × IsAt b s × (1 ≤ count) × (count ≤ 8) × HasNumbers count s.view

-- a seat with one number, with which a thread may work
abbrev pub MayWork : Board → Sitting → Type 0
MayWork b s = IsOfCubics b × IsAt b s × Sits [] None s.view

-- a seat whose work is done
abbrev pub HasEnded : Board → Sitting → Type 0
HasEnded b s = IsAt b s × (is_busy s.view ≡ false)
