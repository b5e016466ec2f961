-- What a seat of the board knows. Ours.
use Rattle.std.specs.Prelude.{◌≡◌, ℕ, Bool, take, length, List, [], Option, None}
use Rattle.atomic_table.specs.Seated.{TableId}
use Rattle.sparse_poly.specs.Ideal.{Problem}
use Rattle.entry_code.specs.Entry.{Entry}
use Rattle.run_core.specs.Hand.{has_open}
use Rattle.run_core.specs.State.{Seat, count_of, fresh}
use Rattle.std.specs.List.{range_with_len}

-- the most workers
abbrev pub max_workers : ℕ
max_workers = 16

-- the problem, and the number of workers
pub record Setting : Type 0 where
  pub problem : Problem
  pub workers : ℕ

-- the place of the entry that is being read, the chunk that has its words, and those that were read so far
pub record BodyReading : Type 0 where
  pub place : ℕ
  pub chunk : ℕ
  pub words : List ℕ

-- the seat of the machine, and beside it: the entries that it knows, the unpublished chunk of each of its numbers, the words that it stored
-- in the first of them, the chunk of the head at `known` once that was seen taken, what is read of a body, how often it looked, and the
-- lesser of the two lists when it was last joined
pub record View : Type 0 where
  pub setting : Setting
  pub list : List Entry
  pub seat : Seat
  pub chunks : List ℕ
  pub draft : List ℕ
  pub taken : Option ℕ
  pub reading : Option BodyReading
  pub looks : ℕ
  pub joined : List Entry

-- a view, and the table that it is of
pub record Sitting : Type 0 where
  pub table : TableId
  pub view : View

-- a table, and what it is for
pub record Board : Type 0 where
  pub table : TableId
  pub setting : Setting

-- how many monomials have a rank: so many entries there can be
abbrev pub top : Setting → ℕ
top p = count_of p.problem

-- the first list begins the second
abbrev pub Begins : List Entry → List Entry → Type 0
Begins l m = take (length l) m ≡ l

-- whether the seat has an open hand
abbrev pub is_busy : View → Bool
is_busy v = has_open v.setting.problem v.list v.seat.hand

-- a seat that has all numbers and has done nothing
abbrev pub one_seat : Setting → View
one_seat p = record {
  setting = p;
  list = [];
  seat = fresh (range_with_len 0 p.workers);
  chunks = range_with_len 0 p.workers;
  draft = [];
  taken = None;
  reading = None;
  looks = 0;
  joined = [];
}
