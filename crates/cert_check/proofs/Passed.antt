-- The answer of the checks behind the entries, which are legal.
-- After `fits` the members come first, then the highest corner and the staircase.
use Rattle.std.proofs.Common.{◌≡◌, ℕ, ◌+◌, List, [], ◌∷◌, ◌++◌, length, All, Option, Some, None, refl, sym, ◌∙◌, ap, subst, arith}
use Rattle.std.specs.Prelude.{IfNone}
use Rattle.sparse_poly.specs.Poly.{Polynomial}
use Rattle.mora_law.specs.Basis.{basis}
use Rattle.mora_law.specs.Legal.{Legal}
use Rattle.mora_law.proofs.Ring.{problem_is_admissible}
use Rattle.text_out.specs.declared.answer.Answer.{Answer}
use Rattle.text_out.specs.declared.answer.Answer.TheVariants.{Fits}
use Rattle.cert_grammar.specs.declared.certified.Certified.{Certified}
use Rattle.cert_check.specs.declared.fault.Fault.{Fault}
use Rattle.cert_check.specs.declared.reason.Reason.{Reason}
use Rattle.cert_check.specs.declared.reason.Reason.TheVariants as reasons
use Rattle.cert_check.specs.Block.{IsRead}
use Rattle.cert_check.specs.Accepted.{IsFreeList, highest_corner, IsAcceptedBlock}
use Rattle.cert_check.specs.Right.{IsRight}
use Rattle.cert_check.specs.Checks.{count, highest, stair, member, entries_checks, member_checks, answer_checks, checks, verdict_line, Holds}
use Rattle.cert_check.specs.Fault.{IsFirstFaultIn}
use Rattle.cert_check.specs.Answers.{HasMembers, IsWrongMember, IsAnswered}
use Rattle.cert_check.proofs.Accepted.{legal_is_checked, accepted_is_checked}
use Rattle.cert_check.proofs.Answered.{members_fault}
use Rattle.cert_check.proofs.Every.{Every, every_all, all_every, every_append, members_every}
use Rattle.cert_check.proofs.Faults.{fault_left, fault_right, fault_here}
use Rattle.cert_check.proofs.Right.{right}

module _ (b : Certified) (gs : List Polynomial) (s : List (List ℕ)) where
  -- the block with an answer
  abbrev with : Answer → Certified
  with a = record { letters = b.letters; problem = b.problem; entries = b.entries; answer = a; corner = b.corner }

  -- as many members as the basis has
  abbrev AsMany : Type 0
  AsMany = length gs ≡ length (basis b.problem b.entries)

  -- a fault with this answer is one of the block
  own_fault : (line : ℕ) (reason : Reason) → b.answer ≡ Fits gs s → IsFirstFaultIn (with (Fits gs s)) (answer_checks (Fits gs s)) line reason → IsFirstFaultIn b (answer_checks b.answer) line reason
  own_fault line reason e f = subst (λ a. IsFirstFaultIn (with a) (answer_checks a) line reason) (sym e) f

  -- the number of members is wrong
  pub count_fault : (line : ℕ) → b.answer ≡ Fits gs s → (AsMany → ⊥) → line ≡ verdict_line b + 1 → IsFirstFaultIn b (answer_checks b.answer) line reasons.Basis
  count_fault line e n l = own_fault line reasons.Basis e (fault_here (with (Fits gs s)) count (member_checks (length gs) 0 ++ highest ∷ stair ∷ []) line reasons.Basis n l refl)

  -- a member is wrong
  pub member_fault : (k line : ℕ) → b.answer ≡ Fits gs s → AsMany → IsWrongMember b.problem b.entries gs k → line ≡ verdict_line b + 2 + k → IsFirstFaultIn b (answer_checks b.answer) line reasons.Basis
  member_fault k line e many w l = own_fault line reasons.Basis e (fault_right (with (Fits gs s)) (count ∷ []) (member_checks (length gs) 0 ++ highest ∷ stair ∷ []) line reasons.Basis (many, tt)
      (fault_left (with (Fits gs s)) (member_checks (length gs) 0) (highest ∷ stair ∷ []) line reasons.Basis
      (members_fault (with (Fits gs s)) (length gs) 0 k line w.within (λ i m o. w.earlier i (omega (arith, o))) (subst (λ j. Holds (with (Fits gs s)) (member j) → ⊥) z w.wrong) (l ∙ ap (λ j. verdict_line b + 2 + j) z))))
    where
      z : k ≡ 0 + k
      z = omega arith

  -- the members are those of the basis
  passed : AsMany → HasMembers b.problem b.entries gs (length gs) → Every (Holds (with (Fits gs s))) (count ∷ member_checks (length gs) 0)
  passed many h = (many, members_every (Holds (with (Fits gs s))) (length gs) 0 (λ j l m. h j (omega (arith, m))))

  -- the highest corner is wrong
  pub highest_fault : (line : ℕ) → b.answer ≡ Fits gs s → AsMany → HasMembers b.problem b.entries gs (length gs) → (b.corner ≡ highest_corner b.problem b.entries → ⊥) → line ≡ verdict_line b + 2 + length gs
      → IsFirstFaultIn b (answer_checks b.answer) line reasons.HighCorner
  highest_fault line e many h n l = own_fault line reasons.HighCorner e (fault_right (with (Fits gs s)) (count ∷ member_checks (length gs) 0) (highest ∷ stair ∷ []) line reasons.HighCorner (passed many h)
      (fault_here (with (Fits gs s)) highest (stair ∷ []) line reasons.HighCorner n l refl))

  -- the staircase is wrong
  pub stair_fault : (line : ℕ) → b.answer ≡ Fits gs s → AsMany → HasMembers b.problem b.entries gs (length gs) → b.corner ≡ highest_corner b.problem b.entries → (IsFreeList b.problem b.entries s → ⊥) → line ≡ verdict_line b + 3 + length gs
      → IsFirstFaultIn b (answer_checks b.answer) line reasons.Stair
  stair_fault line e many h c n l = own_fault line reasons.Stair e (fault_right (with (Fits gs s)) (count ∷ member_checks (length gs) 0) (highest ∷ stair ∷ []) line reasons.Stair (passed many h)
      (fault_right (with (Fits gs s)) (highest ∷ []) (stair ∷ []) line reasons.Stair (c, tt) (fault_here (with (Fits gs s)) stair [] line reasons.Stair n l refl)))

  -- nothing is wrong
  pub all_hold : b.answer ≡ Fits gs s → AsMany → HasMembers b.problem b.entries gs (length gs) → b.corner ≡ highest_corner b.problem b.entries → IsFreeList b.problem b.entries s → All (Holds b) (answer_checks b.answer)
  all_hold e many h c f = subst (λ a. All (Holds (with a)) (answer_checks a)) (sym e)
      (every_all (Holds (with (Fits gs s))) (answer_checks (Fits gs s)) (every_append (Holds (with (Fits gs s))) (count ∷ member_checks (length gs) 0) (highest ∷ stair ∷ []) (passed many h) (c, (f, tt))))

-- ---- the whole block
-- where the checks of the entries hold they are legal
pub legal_by : (b : Certified) → IsRead b → All (Holds b) (entries_checks 0 b.entries) → Legal b.problem b.entries
legal_by b r h = (legal_is_checked b r).1 (all_every (Holds b) (entries_checks 0 b.entries) h)

-- where no check fails the block is accepted
pub accepted_by : (b : Certified) → IsRead b → (o : Option Fault) → IsAnswered b (checks b) o → IfNone o (IsAcceptedBlock b)
accepted_by b r None a = (accepted_is_checked b r).1 a
accepted_by b r (Some f) a = tt

-- and its answer is right
pub right_by : (b : Certified) → IsRead b → (o : Option Fault) → IsAnswered b (checks b) o → IfNone o (IsRight b.problem b.answer b.corner)
right_by b r None a = right b (problem_is_admissible b.problem r.problem) ((accepted_is_checked b r).1 a)
right_by b r (Some f) a = tt
