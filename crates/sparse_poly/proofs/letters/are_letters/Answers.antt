use Rattle.std.proofs.Common.{refl}
use Rattle.sparse_poly.proofs.Distinct.{letters_more, letters_all, no_letter, no_new_letter, some_letter}
use Rattle.sparse_poly.proofs.letters.are_letters.Goals as goal
use Rattle.sparse_poly.proofs.letters.are_letters.Goals.{then-not-is_ascii_alphabetic-via-then-not-is_ascii_alphabetic, then-not-is_ascii_alphabetic-via-else-not-is_ascii_alphabetic+then-contains}

pub returns-then-not-is_ascii_alphabetic : goal.returns-then-not-is_ascii_alphabetic
returns-then-not-is_ascii_alphabetic c = (
  λ f. absurd (cc),
  λ are. absurd (elim c.then-not-is_ascii_alphabetic.branch [
    | then-not-is_ascii_alphabetic-via-then-not-is_ascii_alphabetic w ↦ no_letter _ _ c.loop-i-test.true w.if-not-is_ascii_alphabetic.ensures.cases are
    | then-not-is_ascii_alphabetic-via-else-not-is_ascii_alphabetic+then-contains w ↦ (let x = w.if-contains.ensures.cases in no_new_letter _ _ x.0 c.loop-i-test.true x.1 x.2 are)
  ]),
)

pub loop-i-preserved : goal.loop-i-preserved
loop-i-preserved c =
    letters_more _ _ c.loop-i.invariant c.loop-i-test.true c.if-not-is_ascii_alphabetic.ensures.cases c.if-contains.ensures.cases

pub returns : goal.returns
returns c = (λ t. letters_all _ _ c.loop-i.invariant c.loop-i-test.false (some_letter _ c.if-is_empty.ensures) c.if-letters-gt-MAX_LETTERS.false, λ are. refl)
