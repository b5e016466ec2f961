-- The answer to a script. It is defined by the problems of its commands.
use Rattle.std.specs.Prelude.{◌≡◌, ℕ, ◌+◌, List, [], ◌∷◌, ◌++◌, length, map, All, Contains}
use Rattle.std.specs.List.{AllZip}
use Rattle.sparse_poly.specs.Poly.{Poly}
use Rattle.sparse_poly.specs.Ideal.{Problem, ring, Fits, IsFirstMissing, IsReducedBasis, IsStaircase}
use Rattle.sparse_poly.specs.Jacobian.{jacobian_problem, tjurina_problem}
use Rattle.script_grammar.specs.declared.script.Subject.{Subject}
use Rattle.script_grammar.specs.declared.script.Subject.TheVariants.{Ideal, Function}
use Rattle.script_grammar.specs.declared.script.Word.{Word}
use Rattle.script_grammar.specs.declared.script.Word.TheVariants.{Milnor, Tjurina}
use Rattle.script_grammar.specs.declared.script.Command.{Command}
use Rattle.script_grammar.specs.declared.script.Script.{Script}
use Rattle.local_std.specs.declared.outcome.Status.{Status}
use Rattle.local_std.specs.declared.outcome.Status.TheVariants as statuses
use Rattle.text_out.specs.declared.answer.Answer.{Answer}
use Rattle.text_out.specs.declared.answer.Answer.TheVariants as answers
use Rattle.text_out.specs.Block.{block}
use Rattle.cert_grammar.specs.declared.certified.Certified.{Certified}
use Rattle.cert_grammar.specs.Certified.{IsCertificate as IsCertificateOf, certificate_text}
use Rattle.cert_check.specs.Accepted.{IsAcceptedBlock}

-- The problem of a word that is asked of a function: that of its Milnor number or of its Tjurina number. The other words are asked of
-- none, and have a problem without generators.
abbrev pub function_problem : Word → ℕ → ℕ → ℕ → Poly → Problem
function_problem Milnor p n d f = jacobian_problem p n d f
function_problem Tjurina p n d f = tjurina_problem p n d f
function_problem other p n d f = ring p n d

-- The problem of a word and what it is asked of: an ideal has its generators, cut beyond the noether degree.
abbrev pub problem_in : Script → Word → Subject → Problem
problem_in s word (Ideal P) = P
problem_in s word (Function f) = function_problem word s.field (length s.names) s.d f.terms

abbrev pub problem_of : Script → Command → Problem
problem_of s c = problem_in s c.word c.subject

-- the answer of a problem: its reduced basis and its staircase where the degree fits, and else the first missing monomial
abbrev pub IsAnswerOf : Problem → Answer → Type 0
IsAnswerOf P (answers.Fits basis stair) = Fits P × IsReducedBasis P (map (λ f. f.terms) basis) × IsStaircase P stair
IsAnswerOf P (answers.TooSmall missing) = IsFirstMissing P missing

-- ---- the text
-- the block of a command, with its number
pub record IsBlock (s : Script) (index : ℕ) (c : Command) (text : List ℕ) : Type 0 where
  pub answer : Answer
  pub answers : IsAnswerOf (problem_of s c) answer
  pub spelled : text ≡ block index s.names c answer

-- the blocks of commands one after another, numbered from index on
abbrev pub AreBlocks : Script → ℕ → List Command → List ℕ → Type 0
AreBlocks s index [] text = text ≡ []
AreBlocks s index (c ∷ cs) text =
    (first rest : List ℕ) × IsBlock s index c first × AreBlocks s (index + 1) cs rest × (text ≡ first ++ rest)

-- the text that answers a script
abbrev pub IsAnswer : Script → List ℕ → Type 0
IsAnswer s text = AreBlocks s 1 s.commands text

-- ---- the certificate
-- What is certified of a command: its problem, in the script's letters, and the problem's answer, in a block that the checker accepts.
pub record Certifies (s : Script) (c : Command) (x : Certified) : Type 0 where
  pub letters : x.letters ≡ s.names
  pub problem : x.problem ≡ problem_of s c
  pub answer : IsAnswerOf x.problem x.answer
  pub accepted : IsAcceptedBlock x

-- the text for `cert`: a certificate with a block for each command, in order
pub record IsCertificate (s : Script) (proof : List ℕ) : Type 0 where
  pub blocks : List Certified
  pub is : IsCertificateOf blocks
  pub each : AllZip (Certifies s) s.commands blocks
  pub spelled : proof ≡ certificate_text blocks

-- ---- the status
-- the degree fits for each of some commands
abbrev pub AllFit : Script → List Command → Type 0
AllFit s cs = All (λ c. Fits (problem_of s c)) cs

-- it is too small for one of them
abbrev pub SomeIsSmall : Script → List Command → Type 0
SomeIsSmall s cs = (c : Command) × Contains cs c × (Fits (problem_of s c) → ⊥)

-- the status says whether the degree fits for each command
abbrev pub IsVerdict : Script → Status → Type 0
IsVerdict s statuses.Fits = AllFit s s.commands
IsVerdict s statuses.TooSmall = SomeIsSmall s s.commands
IsVerdict s other = ⊥

-- ---- all of it
-- the blocks of all commands, whether the degree fits for each, and the certificate
pub record Solves (s : Script) (status : Status) (text proof : List ℕ) : Type 0 where
  pub verdict : IsVerdict s status
  pub answer : IsAnswer s text
  pub certificate : IsCertificate s proof
