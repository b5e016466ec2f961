-- How a call can end: with a text, or without one, and then why not.
use Rattle.std.specs.Prelude.{◌≡◌, ◌⊎◌}
use Rattle.local_std.specs.declared.outcome.Status.{Status}
use Rattle.local_std.specs.declared.outcome.Status.TheVariants.{Fits, Rejected, Input, TooSmall, Memory, ReadFault, WriteFault, Usage}

pub data Ending : Type 0 where
  -- the request is answered by a text
  answered : Ending
  -- it is refused, by a line that says why
  refused : Ending
  -- there is no text: memory ran out, the source failed, or a sink did
  no_memory : Ending
  read_failed : Ending
  write_failed : Ending

abbrev pub ending_of : Status → Ending
ending_of Fits = answered
ending_of TooSmall = answered
ending_of Rejected = answered
ending_of Input = refused
ending_of Usage = refused
ending_of Memory = no_memory
ending_of ReadFault = read_failed
ending_of WriteFault = write_failed

-- the call ends with a text
abbrev pub WithText : Ending → Type 0
WithText answered = Unit {0}
WithText refused = Unit {0}
WithText other = ⊥

-- the status comes with a text
abbrev pub HasText : Status → Type 0
HasText status = WithText (ending_of status)

-- the request was answered, or memory ran out
abbrev pub IsAnswered : Status → Type 0
IsAnswered status = (ending_of status ≡ answered) ⊎ (status ≡ Memory)
