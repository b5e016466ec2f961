-- What a run keeps in memory, and what holds of it.
use Rattle.std.specs.Prelude.{◌≡◌, ◌+◌, ◌<◌, ◌≤◌, length, Some, false, IsTrue}
use Rattle.prime_field.specs.Prime.{InTable}
use Rattle.local_order.specs.Shape.{Shape, count}
use Rattle.mono_rank.specs.Stored.{HasLimits}
use Rattle.entry_code.specs.Entry.{entry_of, HasRoom}
use Rattle.rank_algebra.specs.Rows.{IsRow}
use Rattle.mora_law.specs.declared.step_end.StepEnd.TheVariants.{Zero, Stuck}
use Rattle.mora_form.specs.Held.{AreReducers, HasGone}
use Rattle.mora_form.specs.State.{State, recorded, draft_in}
use Rattle.mora_form.specs.declared.mora.Mora.TheInside.{Inside}

-- the monomials that it is about
abbrev pub shape_in : Inside → Shape
shape_in a = record { variables = a.n; degree = a.d }

-- what contracts see of it
abbrev pub state_of : Inside → State
state_of a = record {
  p = a.field;
  shape = shape_in a;
  known = a.known.rows.list;
  is_open = a.is_open;
  item = a.item;
  reads = a.reads.list;
  end = a.end;
  poly = a.row;
  kept = a.kept.rows.list;
}

-- a stuck run has a reading, and its draft is made
pub record IsStuck (a : Inside) : Type 0 where
  pub some : 0 < length a.reads.list
  pub draft : entry_of a.draft ≡ draft_in (state_of a)

-- a table's limits, rows of residues with their summaries, room for all that may come, and a draft where the last step was stuck
pub record IsSound (a : Inside) : Type 0 where
  pub limits : HasLimits (shape_in a)
  pub field : InTable a.field
  pub known : AreReducers a.field (shape_in a) a.known
  pub kept : AreReducers a.field (shape_in a) a.kept
  pub few_known : length a.known.rows.list ≤ count (shape_in a)
  pub row : IsRow a.field (count (shape_in a)) a.row
  pub scratch : length a.scratch ≡ count (shape_in a)
  pub reads_room : count (shape_in a) + 1 ≤ a.reads.places
  pub draft_room : HasRoom (count (shape_in a)) a.draft
  pub going : IsTrue a.is_open → HasGone (count (shape_in a)) (length (recorded a.end a.reads.list)) (length a.kept.rows.list) a.row
  pub ended : a.end ≡ Some Zero → a.is_open ≡ false
  pub stuck : a.end ≡ Some Stuck → IsStuck a
