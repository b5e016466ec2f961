-- What is certified of a command is accepted by the checker: the entries are legal and settle every ticket, and the answer with its
-- highest corner is the right one. So the certificate of a script is accepted, block by block.
use Rattle.std.proofs.Common.{◌≡◌, ℕ, suc, ◌-◌, List, [], ◌∷◌, length, Option, refl, sym, ◌∙◌, ap, arith}
use Rattle.std.specs.Prelude.{All, slice_get}
use Rattle.std.specs.List.{AllZip}
use Rattle.std.proofs.lemmas.List.Elements.{All-nil, All-cons}
use Rattle.sparse_poly.specs.Ideal.{Problem, IsProblem}
use Rattle.staircase.proofs.Staircases.{none_missing}
use Rattle.script_grammar.specs.declared.script.Command.{Command}
use Rattle.script_grammar.specs.declared.script.Script.{Script}
use Rattle.mora_law.specs.Legal.{Legal}
use Rattle.mora_law.specs.Settled.{AllSettled}
use Rattle.mora_law.proofs.Ring.{problem_is_admissible}
use Rattle.text_out.specs.declared.answer.Answer.{Answer}
use Rattle.text_out.specs.declared.answer.Answer.TheVariants.{Fits, TooSmall}
use Rattle.cert_grammar.specs.declared.certified.Certified.{Certified}
use Rattle.cert_write.specs.Claim.{last_of, corner_of}
use Rattle.cert_check.specs.Accepted.{IsAcceptedBlock}
use Rattle.cert_check.specs.Right.{IsRight}
use Rattle.cert_check.specs.Certificate.{Accepts}
use Rattle.cert_check.proofs.SettledAccepted.{settled_accepted}
use Rattle.local_std.specs.Answer.{IsAnswerOf, Certifies, IsCertificate}

-- The last member of a list stands at its last place.
last_at : {A : Type 0} (xs : List A) → last_of xs ≡ slice_get xs (length xs - 1)
last_at [] = refl
last_at (x ∷ []) = refl
last_at (x ∷ y ∷ xs) =
    let here : length (y ∷ xs) - 1 ≡ length xs = omega arith in
    let there : length (x ∷ y ∷ xs) - 1 ≡ suc (length xs) = omega arith in
    last_at (y ∷ xs) ∙ ap (slice_get (y ∷ xs)) here ∙ sym (ap (slice_get (x ∷ y ∷ xs)) there)

-- The answer of a problem with its highest corner is right.
right : (P : Problem) (answer : Answer) (highest : Option (List ℕ)) → IsAnswerOf P answer → highest ≡ corner_of answer → IsRight P answer highest
right P (Fits basis stair) highest h e = (h.0, h.1, h.2, e ∙ last_at stair)
right P (TooSmall missing) highest h e = ((λ fits. none_missing P missing fits h), h)

-- So it is accepted behind legal entries that settle every ticket.
pub accepted : (x : Certified) → IsProblem x.problem → Legal x.problem x.entries → AllSettled x.problem x.entries → IsAnswerOf x.problem x.answer → x.corner ≡ corner_of x.answer → IsAcceptedBlock x
accepted x problem legal settled answer corner =
    settled_accepted x (problem_is_admissible x.problem problem) legal settled (right x.problem x.answer x.corner answer corner)

-- The blocks of some commands are accepted, and there are as many.
blocks_accepted : (s : Script) (cs : List Command) (xs : List Certified) → AllZip (Certifies s) cs xs → All IsAcceptedBlock xs × (length cs ≡ length xs)
blocks_accepted s [] [] h = (All-nil IsAcceptedBlock, refl)
blocks_accepted s [] (x ∷ xs) h = absurd h
blocks_accepted s (c ∷ cs) [] h = absurd h
blocks_accepted s (c ∷ cs) (x ∷ xs) h = let rest = blocks_accepted s cs xs h.1 in (All-cons IsAcceptedBlock x xs h.0.accepted rest.0, ap suc rest.1)

-- So the certificate of a script is accepted, with a block for each command.
pub certificate_accepted : (s : Script) (proof : List ℕ) → IsCertificate s proof → Accepts proof (length s.commands)
certificate_accepted s proof h = let all = blocks_accepted s s.commands h.blocks h.each in record {
  blocks = h.blocks;
  read = record { is = h.is; text = h.spelled };
  accepted = all.0;
  number = all.1;
}
