-- What a call that writes a text has done.
use Rattle.std.specs.Prelude.{◌≡◌, ℕ, ◌≤◌, List, length, take, Option, Result, Ok, Err, OnOk, OnErr}
use Rattle.std.specs.Io.KnownBytes.{Appends}
use Rattle.io_edge.specs.Faults.{Rose, HasCause}
use Rattle.cert_write.specs.declared.error.CertWriteError.{CertWriteError}
use Rattle.cert_write.specs.declared.error.CertWriteError.TheVariants.{Failed, Memory}

-- On Ok the text was appended, and no fault was counted; on a refusal a prefix of it was, and the count rose.
pub record Writes {T E : Type 0} (before now : Option (List ℕ)) (faults_before faults_now : ℕ) (result : Result T E) (text : List ℕ) : Type 0 where
  pub ok : OnOk result (Appends before now text)
  pub err : OnErr result ((n : ℕ) × (n ≤ length text) × Appends before now (take n text))
  pub cause : HasCause faults_before faults_now result
  pub kept : OnOk result (faults_now ≡ faults_before)

-- ---- calls that take memory
-- the count of faults rose where the sink failed, and stayed where all was written or memory ran out
abbrev pub HasReason : {T : Type 0} → ℕ → ℕ → Result T CertWriteError → Type 0
HasReason before now (Ok x) = now ≡ before
HasReason before now (Err Failed) = (before ≤ now) × Rose before now
HasReason before now (Err Memory) = now ≡ before

-- On Ok the text was appended; on a refusal a prefix of it was, for the reason that is told.
pub record WritesOrStops {T : Type 0} (before now : Option (List ℕ)) (faults_before faults_now : ℕ) (result : Result T CertWriteError) (text : List ℕ) : Type 0 where
  pub ok : OnOk result (Appends before now text)
  pub err : OnErr result ((n : ℕ) × (n ≤ length text) × Appends before now (take n text))
  pub reason : HasReason faults_before faults_now result
