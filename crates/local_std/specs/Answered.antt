-- The first commands of a script, answered; and what a call leaves that answers them all and certifies each.
use Rattle.std.specs.Prelude.{◌≡◌, ℕ, List, ◌++◌, take, Bool, Option, Result, IfOk, string_bytes, if◌then◌else◌}
use Rattle.std.specs.Bool.{OnTrue, OnFalse}
use Rattle.script_grammar.specs.declared.script.Command.{Command}
use Rattle.script_grammar.specs.declared.script.Script.{Script}
use Rattle.cert_write.specs.declared.error.CertWriteError.{CertWriteError}
use Rattle.cert_write.specs.Writes.{WritesOrStops}
use Rattle.local_std.specs.declared.block.Blocks.{Blocks}
use Rattle.local_std.specs.declared.outcome.Status.{Status}
use Rattle.local_std.specs.declared.outcome.Status.TheVariants.{Fits, TooSmall}
use Rattle.local_std.specs.Answer.{AreBlocks, AllFit, SomeIsSmall}
use Rattle.local_std.specs.Due.{SolvesBehind}

-- the text has the blocks of these commands, and the flag says whether the degree fits for each
pub record AreDone (s : Script) (cs : List Command) (text : List ℕ) (fits : Bool) : Type 0 where
  pub blocks : AreBlocks s 1 cs text
  pub fit : OnTrue fits (AllFit s cs)
  pub small : OnFalse fits (SomeIsSmall s cs)

-- the first k commands are done, and their blocks stand behind the front
pub record AreAnswered (s : Script) (front : List ℕ) (k : ℕ) (fits : Bool) (text : List ℕ) : Type 0 where
  pub blocks : List ℕ
  pub done : AreDone s (take k s.commands) blocks fits
  pub spelled : text ≡ front ++ blocks

-- the status that the flag gives
abbrev pub status_of : Bool → Status
status_of fits = if fits then Fits else TooSmall

-- A certificate that is due was written whole, and the answer is told that is due with it; or a part of it was, and the refusal says why.
pub record Answers (s : Script) (front : List ℕ) (before now : Option (List ℕ)) (faults_before faults_now : ℕ) (result : Result Blocks CertWriteError) : Type 0 where
  pub status : Status
  pub text : List ℕ
  pub proof : List ℕ
  pub is_due : SolvesBehind front s status text proof
  pub writes : WritesOrStops before now faults_before faults_now result proof
  pub told : IfOk result (λ b. (status ≡ status_of b.fits) × (text ≡ string_bytes b.text))
