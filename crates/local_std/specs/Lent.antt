-- What a call was lent: a source or a sink, as it was before and as it is now.
use Rattle.std.specs.Prelude.{◌≡◌, ◌⊎◌, ℕ, List, [], take}
use Rattle.std.specs.declared.option.Option.{Option}
use Rattle.std.specs.Io.KnownBytes.{Appends}
use Rattle.io_edge.specs.Faults.{Rose}
use Rattle.io_edge.specs.Reads.{Gave, GaveSome}

-- where it tells its bytes, those that a source has left, or that were written to a sink; its count of faults; before; now
pub record Lent (A : Type 0) : Type 0 where
  pub bytes : A → Option (List ℕ)
  pub faults : A → ℕ
  pub before : A
  pub now : A

abbrev pub lent : {A : Type 0} → (A → Option (List ℕ)) → (A → ℕ) → A → A → Lent A
lent bytes faults before now = record { bytes = bytes; faults = faults; before = before; now = now }

-- ---- either
-- it is as it was
abbrev pub IsUntouched : {A : Type 0} → Lent A → Type 0
IsUntouched a = a.now ≡ a.before

-- it failed: its count of faults rose
abbrev pub HasFailed : {A : Type 0} → Lent A → Type 0
HasFailed a = Rose (a.faults a.before) (a.faults a.now)

-- no fault was counted
abbrev pub HasNoFault : {A : Type 0} → Lent A → Type 0
HasNoFault a = a.faults a.now ≡ a.faults a.before

-- ---- a source
-- it gave these bytes, and where their number is within the limit it is at its end
abbrev pub HasGiven : {A : Type 0} → Lent A → ℕ → List ℕ → Type 0
HasGiven source limit input = Gave (source.bytes source.before) (source.bytes source.now) limit input

-- it gave no more bytes than the limit
abbrev pub HasGivenSome : {A : Type 0} → Lent A → ℕ → Type 0
HasGivenSome source limit = GaveSome (source.bytes source.before) (source.bytes source.now) limit

-- ---- a sink
-- it has gained this text
abbrev pub HasGained : {A : Type 0} → Lent A → List ℕ → Type 0
HasGained sink text = Appends (sink.bytes sink.before) (sink.bytes sink.now) text

-- it has gained nothing, or the beginning of a text of which Q holds
abbrev pub HasGainedPart : {A : Type 0} → Lent A → (List ℕ → Type 0) → Type 0
HasGainedPart sink Q = HasGained sink [] ⊎ ((text : List ℕ) × (n : ℕ) × Q text × HasGained sink (take n text))
