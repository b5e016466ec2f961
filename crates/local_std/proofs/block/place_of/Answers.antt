use Rattle.std.proofs.Common.{◌≡◌, List, Some, length, sym, ◌∙◌, ap, subst}
use Rattle.std.specs.Prelude.{slice_get}
use Rattle.std.proofs.lemmas.List.Elements.{All-same, All-push}
use Rattle.sparse_poly.specs.Ideal.{Problem, IsProblem}
use Rattle.mora_law.specs.Legal.{Legal}
use Rattle.mora_law.specs.Settled.{AllSettled}
use Rattle.text_out.specs.Answers.{IsInRing}
use Rattle.local_std.specs.declared.solved.Solved.{Solved}
use Rattle.local_std.specs.Answer.{IsAnswerOf}
use Rattle.local_std.specs.Solved.{IsSolved}
use Rattle.local_std.proofs.Certificates.{get_last}
use Rattle.local_std.proofs.block.place_of.Goals as goal

pub returns-clause-solved : goal.returns-clause-solved
returns-clause-solved g c =
    let es = c.in_ok-finished.finished.entries in
    let a = c.in_ok-finished.answer in
    All-same IsSolved _ _ c.in_ok-push.ensures.items
    (All-push IsSolved _ _ c.requires.solved (record {
      problem = subst IsProblem c.problem-2.ensures c.in_ok-finished.ensures.problem;
      legal = subst (λ (P : Problem). Legal P es) c.problem-2.ensures c.in_ok-finished.ensures.legal;
      settled = subst (λ (P : Problem). AllSettled P es) c.problem-2.ensures c.in_ok-finished.ensures.settled;
      value = subst (λ (P : Problem). IsAnswerOf P a) c.problem-2.ensures c.in_ok-finished.ensures.value;
      ring = subst (λ (P : Problem). IsInRing P.p P.n a) c.problem-2.ensures c.in_ok-finished.ensures.ring;
    }))

pub returns-clause-place : goal.returns-clause-place
returns-clause-place g c =
    let one : Solved = record { question = c.in_ok-question.question; entries = c.in_ok-finished.finished.entries; answer = c.in_ok-finished.answer } in
    let old : List Solved = c.args.solved.now.items in
    let len : c.len-place.result ≡ length old = c.len-place.ensures ∙ sym c.deref.ensures.len ∙ ap (λ (l : List Solved). length l) c.deref.ensures.value in
    let at : slice_get c.push.new.self.items c.len-place.result ≡ Some one =
    subst (λ n. slice_get c.push.new.self.items n ≡ Some one) (sym len) (subst (λ (l : List Solved). slice_get l (length old) ≡ Some one) (sym c.in_ok-push.ensures.items) (get_last old one)) in
    (one, at, c.in_ok-question.ensures)
