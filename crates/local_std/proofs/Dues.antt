-- What is due after each part of the call. The reader's answer gives the tree or the first refusal, the blocks give the verdict
-- and the text; a source that tells its bytes gave all of them, so a script within the limits is answered.
use Rattle.std.proofs.Common.{◌≡◌, ◌⊎◌, inl, inr, ℕ, List, [], ◌++◌, ◌≤◌, ◌<◌, length, refl, Bool, true, false, if◌then◌else◌, Result, Ok, Err, ap, sym, ◌∙◌, arith, subst}
use Rattle.std.specs.Bool.{OnTrue, OnFalse}
use Rattle.script_grammar.specs.declared.refusal.Refusal.{Refusal}
use Rattle.script_grammar.specs.declared.refusal.ReadKind.{ReadKind}
use Rattle.script_grammar.specs.declared.script.Script.{Script}
use Rattle.script_grammar.specs.Trees.{Tree}
use Rattle.script_grammar.specs.Steps.{◌>>=◌}
use Rattle.script_grammar.specs.Script.{script_of, position_of}
use Rattle.script_grammar.specs.Valid.{IsScript}
use Rattle.script_grammar.specs.Meaning.{meaning}
use Rattle.script_grammar.proofs.ValidScriptIsRead.{script_once}
use Rattle.script_grammar.proofs.FirstRefusal.{first_is}
use Rattle.ring_reader.specs.declared.error.ReadError.TheVariants as errors
use Rattle.ring_reader.specs.Answers.{Refuses, asked_by}
use Rattle.local_std.specs.declared.outcome.Status.{Status}
use Rattle.local_std.specs.declared.outcome.Status.TheVariants.{Fits, Rejected, Input, TooSmall, Memory, ReadFault, WriteFault, Usage}
use Rattle.local_std.specs.Words.{Request, solve, check, bench, Asks, InGrammar}
use Rattle.local_std.specs.Endings.{HasText, IsAnswered}
use Rattle.local_std.specs.Lent.{Lent, IsUntouched, HasFailed, HasGiven}
use Rattle.local_std.specs.Answer.{IsAnswer, IsCertificate, AllFit, SomeIsSmall, IsVerdict, Solves}
use Rattle.local_std.specs.Texts.{usage_line, too_long_line, refusal_line}
use Rattle.local_std.specs.Scripts.{IsScriptOf, IsTooLong, IsRefused}
use Rattle.local_std.specs.Due.{SolvesBehind, limit_of, RequestDue, FailsToRead, Offers, Admits, Served, Due, IsUncertified, IsCut, Ends}
use Rattle.local_std.proofs.Inputs.{read_is, given_le}
use Rattle.local_std.proofs.Checks.{answers_check}

-- the greatest number of bytes of a script that is to be solved
abbrev script_limit : ℕ
script_limit = limit_of solve

-- ---- what is due for the bytes of a script
-- the first refusal, from what is read
refused_of : (bytes : List ℕ) (f : Refusal) → asked_by bytes ≡ Err f → script_of bytes ≡ Err f
refused_of bytes f e = go (script_of bytes) e
  where
    go : (r : Result Tree Refusal) → (r >>= λ t. Ok (meaning t)) ≡ Err f → r ≡ Err f
    go (Ok t) h = absurd cc
    go (Err g) h = let e : g ≡ f = cc (h) in ap (λ x. Err x) e

module _ (bytes : List ℕ) (few : length bytes ≤ script_limit) where
  -- a refusal that holds of the bytes, and of every tree they might be a script of, is what is due for them
  pub refused : (line column : ℕ) (kind : ReadKind) (text : List ℕ) → text ≡ refusal_line line column kind →
      Refuses bytes (errors.At line column kind) (asked_by bytes) → ((t : Tree) → IsScript bytes t → Refuses bytes (errors.At line column kind) (Ok (meaning t))) → RequestDue solve bytes Input text []
  refused line column kind text spelled (f, is, at) only = inl (record {
    refused = refl;
    why = inr (record {
      few = few;
      none = λ t s. absurd (cc (only t s).1);
      refusal = f;
      refuses = refused_of bytes f is;
      first = first_is bytes f (refused_of bytes f is);
      spelled = spelled ∙ same;
    });
    uncertified = refl;
  })
    where
      same : refusal_line line column kind ≡ refusal_line (position_of bytes f).0 (position_of bytes f).1 f.kind
      same =
          let l : line ≡ (position_of bytes f).0 = cc (at) in
          let c : column ≡ (position_of bytes f).1 = cc (at) in
          let k : kind ≡ f.kind = cc (at) in
          ap (λ n. refusal_line n column kind) l
          ∙ ap (λ n. refusal_line (position_of bytes f).0 n kind) c
          ∙ ap (λ n. refusal_line (position_of bytes f).0 (position_of bytes f).1 n) k

  module _ (tree : Tree) (is : IsScript bytes tree) where
    script_is : IsScriptOf script_limit bytes tree
    script_is = record { few = few; is_script = is; only = λ other o. script_once bytes other tree o is }

    -- What answers the script is due for the bytes.
    pub due : (s : Script) → s ≡ meaning tree → (status : Status) (text proof : List ℕ) → Solves s status text proof → RequestDue solve bytes status text proof
    due s e status text proof h = inr (record { tree = tree; script = script_is; answer = subst (λ z. Solves z status text proof) e h })

-- the verdict that the flag gives
verdict_of : (s : Script) (fits : Bool) → OnTrue fits (AllFit s s.commands) → OnFalse fits (SomeIsSmall s s.commands) → IsVerdict s (if fits then Fits else TooSmall)
verdict_of s true fit small = fit
verdict_of s false fit small = small

-- The blocks of all commands, the flag and the certificate answer a script.
pub solves : (s : Script) (fits : Bool) → OnTrue fits (AllFit s s.commands) → OnFalse fits (SomeIsSmall s s.commands) → (text proof : List ℕ) → IsAnswer s text → IsCertificate s proof →
    Solves s (if fits then Fits else TooSmall) text proof
solves s fits fit small text proof answer certificate = record { verdict = verdict_of s fits fit small; answer = answer; certificate = certificate }

-- Behind nothing stands the answer itself.
pub behind_nothing : (front : List ℕ) → front ≡ [] → (s : Script) (status : Status) (text proof : List ℕ) → SolvesBehind front s status text proof → Solves s status text proof
behind_nothing front none s status text proof (blocks, h, spelled) = subst (λ (z : List ℕ). Solves s status z proof) (sym (spelled ∙ ap (λ (z : List ℕ). z ++ blocks) none)) h

-- a verdict comes with a text
pub verdict_text : (s : Script) (status : Status) → IsVerdict s status → HasText status
verdict_text s Fits v = tt
verdict_text s TooSmall v = tt
verdict_text s Rejected v = tt
verdict_text s Input v = tt
verdict_text s Usage v = tt
verdict_text s Memory v = v
verdict_text s ReadFault v = v
verdict_text s WriteFault v = v

-- ---- what is due for a request
module _ {S : Type 0} (source : Lent S) where
  -- more bytes than a script may have are refused by the line for them
  pub too_long : (bytes : List ℕ) × HasGiven source script_limit bytes × (script_limit < length bytes) → Served solve source Input too_long_line []
  too_long m = record {
    input = m.0;
    reads = m.1;
    is_due = inl (record { refused = refl; why = inl (record { many = m.2; spelled = refl }); uncertified = refl });
  }

  -- what is due for the bytes that were read is due
  pub served : (bytes : List ℕ) → HasGiven source script_limit bytes → (status : Status) (text proof : List ℕ) → RequestDue solve bytes status text proof → Served solve source status text proof
  served bytes gave status text proof is_due = record { input = bytes; reads = gave; is_due = is_due }

-- words that ask for nothing: the usage line is due
pub misused : {S : Type 0} (words : List (List ℕ)) (source : Lent S) → IsUntouched source → (InGrammar words → ⊥) → Due words source Usage usage_line []
misused words source kept none = inl (record { no_words = none; unread = kept; answer = refl; spelled = refl; uncertified = refl })

-- what a request is served is due for the words that ask for it
pub asked : {S : Type 0} (words : List (List ℕ)) (source : Lent S) (request : Request) → Asks words request →
    (status : Status) (text proof : List ℕ) → Served request source status text proof → Due words source status text proof
asked words source request asks status text proof served = inr (request, asks, served)

-- for a script within the limits no line about the input is due
admitted : (input text : List ℕ) → Admits solve input → IsTooLong script_limit input text ⊎ IsRefused script_limit input text → ⊥
admitted input text (few, tree, is) (inl long) = omega (arith, few, long.many)
admitted input text (few, tree, is) (inr refused) = refused.none tree is

-- a verdict answers a script
verdict_answers : (s : Script) (status : Status) → IsVerdict s status → IsAnswered status
verdict_answers s Fits v = inl refl
verdict_answers s TooSmall v = inl refl
verdict_answers s Rejected v = absurd v
verdict_answers s Input v = absurd v
verdict_answers s Usage v = absurd v
verdict_answers s Memory v = absurd v
verdict_answers s ReadFault v = absurd v
verdict_answers s WriteFault v = absurd v

-- what is due for a script that the source had is its answer
answers_solve : {S : Type 0} (source : Lent S) (input : List ℕ) → Offers solve source input → Admits solve input → (status : Status) (text proof : List ℕ) → Served solve source status text proof → IsAnswered status
answers_solve source input offers admits status text proof s = go s.is_due
  where
    same : s.input ≡ input
    same =
        let no_more = given_le (source.bytes source.before) (source.bytes source.now) s.input input offers s.reads.given in
        read_is script_limit (source.bytes source.before) (source.bytes source.now) s.input input offers s.reads (omega (arith, no_more, admits.0))

    go : RequestDue solve s.input status text proof → IsAnswered status
    go (inl unread) = absurd (admitted s.input text (subst (Admits solve) (sym same) admits) unread.why)
    go (inr read) = verdict_answers (meaning read.tree) status read.answer.verdict

-- what is due for what a request admits is its answer
answers : {S : Type 0} (request : Request) (source : Lent S) (input : List ℕ) → Offers request source input → Admits request input → (status : Status) (text proof : List ℕ) → Served request source status text proof → IsAnswered status
answers solve source input offers admits status text proof s = answers_solve source input offers admits status text proof s
answers check source input offers admits status text proof s = answers_check source input offers admits status text proof s
answers (bench k) source input offers admits status text proof s = let read = s.is_due.1 in verdict_answers (meaning read.tree) status read.answer.verdict

-- a source that failed counted it
failed_of : {S : Type 0} (request : Request) (source : Lent S) → FailsToRead request source → HasFailed source
failed_of solve source fails = fails.0
failed_of check source fails = fails.0
failed_of (bench k) source fails = absurd fails

module _ {S K C : Type 0} (request : Request) (source : Lent S) (out : Lent K) (cert : Lent C) (input : List ℕ) (offers : Offers request source input) (admits : Admits request input) where
  -- where no fault was counted, what a request admits is answered
  pub complete_by : (status : Status) → Ends request source out cert status → (HasFailed source → ⊥) → (HasFailed out ⊎ HasFailed cert → ⊥) → IsAnswered status
  complete_by Fits e no_read no_write = inl refl
  complete_by TooSmall e no_read no_write = inl refl
  complete_by Rejected e no_read no_write = inl refl
  complete_by Memory e no_read no_write = inr refl
  complete_by Input e no_read no_write = let (text, proof, is_due, o, c) = e.written tt in answers request source input offers admits Input text proof is_due
  complete_by Usage e no_read no_write = let (text, proof, is_due, o, c) = e.written tt in answers request source input offers admits Usage text proof is_due
  complete_by ReadFault e no_read no_write = absurd (no_read (failed_of request source (e.read_fault refl).2))
  complete_by WriteFault e no_read no_write = absurd (go (e.write_fault refl))
    where
      go : IsUncertified (Served request source) out cert ⊎ IsCut (Served request source) out cert → ⊥
      go (inl none) = no_write (inr none.failed)
      go (inr cut) = no_write (inl cut.failed)
