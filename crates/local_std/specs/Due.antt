-- Which status and which texts are due, and what a call leaves.
use Rattle.std.specs.Prelude.{◌≡◌, ℕ, ◌≤◌, ◌⊎◌, List, [], ◌++◌, length, take, Some}
use Rattle.script_grammar.specs.Limits.{max_script}
use Rattle.script_grammar.specs.declared.script.Script.{Script}
use Rattle.script_grammar.specs.Trees.{Tree}
use Rattle.script_grammar.specs.Valid.{IsScript}
use Rattle.local_std.specs.declared.outcome.Status.{Status}
use Rattle.local_std.specs.declared.outcome.Status.TheVariants.{Memory, ReadFault, WriteFault, Usage}
use Rattle.local_std.specs.Bench.{bench_script, bench_line}
use Rattle.local_std.specs.Words.{Request, solve, check, bench, Asks, InGrammar}
use Rattle.local_std.specs.Answer.{Solves}
use Rattle.local_std.specs.Scripts.{IsRead, ScriptDue}
use Rattle.local_std.specs.Checked.{max_certificate, CheckDue}
use Rattle.local_std.specs.Texts.{usage_line}
use Rattle.local_std.specs.Endings.{HasText}
use Rattle.local_std.specs.Lent.{Lent, IsUntouched, HasFailed, HasNoFault, HasGiven, HasGivenSome, HasGained, HasGainedPart}

-- ---- each request
-- the greatest number of bytes that it takes of the source
abbrev pub limit_of : Request → ℕ
limit_of solve = max_script
limit_of check = max_certificate
limit_of (bench k) = 0

-- for this input, this status, this text for `out` and this text for `cert` are due
abbrev pub RequestDue : Request → List ℕ → Status → List ℕ → List ℕ → Type 0
RequestDue solve input status text proof = ScriptDue Solves (limit_of solve) input status text proof
RequestDue check input status text proof = CheckDue input status text proof
RequestDue (bench k) input status text proof = (blocks : List ℕ) × IsRead Solves max_script input status blocks proof × (text ≡ bench_line k ++ blocks)

-- it has read this input; the bench makes its own, and leaves the source as it is
abbrev pub HasRead : {S : Type 0} → Request → Lent S → List ℕ → Type 0
HasRead solve source input = HasGiven source (limit_of solve) input
HasRead check source input = HasGiven source (limit_of check) input
HasRead (bench k) source input = IsUntouched source × (input ≡ bench_script k)

-- the source failed while it read
abbrev pub FailsToRead : {S : Type 0} → Request → Lent S → Type 0
FailsToRead solve source = HasFailed source × HasGivenSome source (limit_of solve)
FailsToRead check source = HasFailed source × HasGivenSome source (limit_of check)
FailsToRead (bench k) source = ⊥

-- it was broken off, and no fault of the source was counted
abbrev pub HasReadSome : {S : Type 0} → Request → Lent S → Type 0
HasReadSome solve source = HasNoFault source × HasGivenSome source (limit_of solve)
HasReadSome check source = HasNoFault source × HasGivenSome source (limit_of check)
HasReadSome (bench k) source = IsUntouched source

-- it has this input, and but for the bench that is the source's
abbrev pub Offers : {S : Type 0} → Request → Lent S → List ℕ → Type 0
Offers solve source input = source.bytes source.before ≡ Some input
Offers check source input = source.bytes source.before ≡ Some input
Offers (bench k) source input = input ≡ bench_script k

-- it answers this input: solve each script within the limits, check all bytes that aren't too many, and the bench its own script
abbrev pub Admits : Request → List ℕ → Type 0
Admits solve input = (length input ≤ limit_of solve) × (tree : Tree) × IsScript input tree
Admits check input = length input ≤ limit_of check
Admits (bench k) input = Unit {0}

-- ---- what is due
-- the request has read some input, and this is due for it
pub record Served {S : Type 0} (request : Request) (source : Lent S) (status : Status) (text proof : List ℕ) : Type 0 where
  pub input : List ℕ
  pub reads : HasRead request source input
  pub is_due : RequestDue request input status text proof

-- the words ask for nothing, and nothing was read
pub record Misused {S : Type 0} (words : List (List ℕ)) (source : Lent S) (status : Status) (text proof : List ℕ) : Type 0 where
  pub no_words : InGrammar words → ⊥
  pub unread : IsUntouched source
  pub answer : status ≡ Usage
  pub spelled : text ≡ usage_line
  pub uncertified : proof ≡ []

-- the words ask for a request of which Q holds
abbrev pub OnRequest : List (List ℕ) → (Request → Type 0) → Type 0
OnRequest words Q = (request : Request) × Asks words request × Q request

abbrev pub Due : {S : Type 0} → List (List ℕ) → Lent S → Status → List ℕ → List ℕ → Type 0
Due words source status text proof =
    Misused words source status text proof ⊎ OnRequest words (λ request. Served request source status text proof)

-- ---- what a call leaves of its sinks, where D is due
-- both texts were written
abbrev pub IsWritten : {K C : Type 0} → (Status → List ℕ → List ℕ → Type 0) → Lent K → Lent C → Status → Type 0
IsWritten D out cert status = (text proof : List ℕ) × D status text proof × HasGained out text × HasGained cert proof

-- nothing was written to `out`, and of a certificate that is due nothing or its beginning
abbrev pub IsBrokenOff : {K C : Type 0} → (Status → List ℕ → List ℕ → Type 0) → Lent K → Lent C → Type 0
IsBrokenOff D out cert = IsUntouched out × HasGainedPart cert (λ proof. (status : Status) × (text : List ℕ) × D status text proof)

-- `out` failed after the beginning of its text, and the certificate was written
pub record IsCut {K C : Type 0} (D : Status → List ℕ → List ℕ → Type 0) (out : Lent K) (cert : Lent C) : Type 0 where
  pub failed : HasFailed out
  pub status : Status
  pub text : List ℕ
  pub proof : List ℕ
  pub is_due : D status text proof
  pub count : ℕ
  pub begun : HasGained out (take count text)
  pub certified : HasGained cert proof

-- `cert` failed after the beginning of its text, and nothing was written to `out`
pub record IsUncertified {K C : Type 0} (D : Status → List ℕ → List ℕ → Type 0) (out : Lent K) (cert : Lent C) : Type 0 where
  pub failed : HasFailed cert
  pub status : Status
  pub text : List ℕ
  pub proof : List ℕ
  pub is_due : D status text proof
  pub count : ℕ
  pub begun : HasGained cert (take count proof)
  pub unwritten : IsUntouched out

-- a sink failed: `cert`, after which `out` gets nothing, or else `out`
abbrev pub IsUnwritten : {K C : Type 0} → (Status → List ℕ → List ℕ → Type 0) → Lent K → Lent C → Type 0
IsUnwritten D out cert = IsUncertified D out cert ⊎ IsCut D out cert

-- what answers a script stands behind a line
abbrev pub SolvesBehind : List ℕ → Script → Status → List ℕ → List ℕ → Type 0
SolvesBehind front s status text proof = (blocks : List ℕ) × Solves s status blocks proof × (text ≡ front ++ blocks)

-- how a call ends that has nothing to read
pub record Concludes {K C : Type 0} (D : Status → List ℕ → List ℕ → Type 0) (out : Lent K) (cert : Lent C) (status : Status) : Type 0 where
  pub written : HasText status → IsWritten D out cert status
  pub memory : status ≡ Memory → IsBrokenOff D out cert
  pub write_fault : status ≡ WriteFault → IsUnwritten D out cert
  pub no_read_fault : status ≡ ReadFault → ⊥

-- how a request ends
pub record Ends {S K C : Type 0} (request : Request) (source : Lent S) (out : Lent K) (cert : Lent C) (status : Status) : Type 0 where
  pub written : HasText status → IsWritten (Served request source) out cert status
  pub read_fault : status ≡ ReadFault → IsUntouched out × IsUntouched cert × FailsToRead request source
  pub memory : status ≡ Memory → IsBrokenOff (Served request source) out cert × HasReadSome request source
  pub write_fault : status ≡ WriteFault → IsUnwritten (Served request source) out cert
