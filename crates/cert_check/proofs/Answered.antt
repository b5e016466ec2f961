-- The answer of checks in order, put together from the answers of parts.
-- What holds is passed, and the first that fails is the fault of all.
use Rattle.std.proofs.Common.{◌≡◌, ℕ, zero, suc, ◌+◌, ◌<◌, ◌≤◌, List, [], ◌∷◌, ◌++◌, length, drop, All, Option, Some, None, refl, sym, ◌∙◌, ap, subst, arith}
use Rattle.entry_code.specs.Entry.{Entry, entry_at}
use Rattle.cert_grammar.specs.declared.certified.Certified.{Certified}
use Rattle.cert_check.specs.declared.fault.Fault.{Fault}
use Rattle.cert_check.specs.declared.reason.Reason.{Reason}
use Rattle.cert_check.specs.declared.reason.Reason.TheVariants as reasons
use Rattle.cert_check.specs.Checks.{Check, member, member_checks, entry_checks, entries_checks, line_of, Holds}
use Rattle.cert_check.specs.Fault.{IsFirstFaultIn}
use Rattle.cert_check.specs.Answers.{IsAnswered}
use Rattle.cert_check.proofs.Every.{every_all, all_every, every_append}
use Rattle.cert_check.proofs.Faults.{fault_left, fault_right, fault_here}

-- behind the first k members stands the one at place k
pub dropped : (es : List Entry) (k : ℕ) → k < length es → drop k es ≡ entry_at es k ∷ drop (suc k) es
dropped [] k l = absurd (omega (arith, l))
dropped (x ∷ es) zero l = refl
dropped (x ∷ es) (suc k) l = dropped es k (omega (arith, l))

-- and behind all nothing
pub dropped_all : (es : List Entry) (k : ℕ) → length es ≤ k → drop k es ≡ []
dropped_all [] zero l = refl
dropped_all [] (suc k) l = refl
dropped_all (x ∷ es) zero l = absurd (omega (arith, l))
dropped_all (x ∷ es) (suc k) l = dropped_all es k (omega (arith, l))

module _ (b : Certified) where
  -- where the first checks hold, the answer of the others is that of all
  pub answered_behind : (cs ds : List Check) (o : Option Fault) → All (Holds b) cs → IsAnswered b ds o → IsAnswered b (cs ++ ds) o
  answered_behind cs ds None h a = every_all (Holds b) (cs ++ ds) (every_append (Holds b) cs ds (all_every (Holds b) cs h) (all_every (Holds b) ds a))
  answered_behind cs ds (Some f) h a = fault_right b cs ds f.line f.reason (all_every (Holds b) cs h) a

  -- a check that holds is passed
  pub answered_next : (c : Check) (cs : List Check) (o : Option Fault) → Holds b c → IsAnswered b cs o → IsAnswered b (c ∷ cs) o
  answered_next c cs o h a = answered_behind (c ∷ []) cs o (every_all (Holds b) (c ∷ []) (h, tt)) a

  -- ---- entries
  -- the answer of the entries from i on is that of all
  pub record IsLeft (i : ℕ) : Type 0 where
    pub is : (o : Option Fault) → IsAnswered b (entries_checks i (drop i b.entries)) o → IsAnswered b (entries_checks 0 b.entries) o

  -- at the beginning it is
  pub all_left : IsLeft 0
  all_left = record { is = λ o a. a }

  -- an entry whose checks hold is passed
  pub one_passed : (i : ℕ) → i < length b.entries → All (Holds b) (entry_checks i (entry_at b.entries i)) → IsLeft i → IsLeft (i + 1)
  one_passed i l h left = record {
    is = λ o a. left.is o (subst (λ es. IsAnswered b (entries_checks i es) o) (sym (dropped b.entries i l))
        (answered_behind (entry_checks i (entry_at b.entries i)) (entries_checks (suc i) (drop (suc i) b.entries)) o h
        (subst (λ k. IsAnswered b (entries_checks k (drop k b.entries)) o) (let z : i + 1 ≡ suc i = omega arith in z) a)));
  }

  -- a fault of an entry is that of all
  pub entry_at_fault : (i line : ℕ) (reason : Reason) → i < length b.entries → IsFirstFaultIn b (entry_checks i (entry_at b.entries i)) line reason → IsLeft i
      → IsFirstFaultIn b (entries_checks 0 b.entries) line reason
  entry_at_fault i line reason l f left = left.is (Some (record { line = line; reason = reason }))
      (subst (λ es. IsFirstFaultIn b (entries_checks i es) line reason) (sym (dropped b.entries i l)) (fault_left b (entry_checks i (entry_at b.entries i)) _ line reason f))

  -- behind the last entry all checks hold
  pub all_passed : (i : ℕ) → length b.entries ≤ i → IsLeft i → All (Holds b) (entries_checks 0 b.entries)
  all_passed i l left = left.is None (subst (λ es. All (Holds b) (entries_checks i es)) (sym (dropped_all b.entries i l)) (every_all (Holds b) [] tt))

  -- ---- members
  -- the first member that is wrong is the fault of all members from k on
  pub members_fault : (left k j line : ℕ) → j < left → ((i : ℕ) → k ≤ i → i < k + j → Holds b (member i)) → (Holds b (member (k + j)) → ⊥) → line ≡ line_of b (member (k + j))
      → IsFirstFaultIn b (member_checks left k) line reasons.Basis
  members_fault zero k j line l h n e = absurd (omega (arith, l))
  members_fault (suc left) k zero line l h n e =
      let z : k + 0 ≡ k = omega arith in
      fault_here b (member k) (member_checks left (suc k)) line reasons.Basis (subst (λ x. Holds b (member x) → ⊥) z n) (e ∙ ap (λ x. line_of b (member x)) z) refl
  members_fault (suc left) k (suc j) line l h n e =
      let z : k + suc j ≡ suc k + j = omega arith in
      fault_right b (member k ∷ []) (member_checks left (suc k)) line reasons.Basis (h k (omega arith) (omega arith), tt)
      (members_fault left (suc k) j line (omega (arith, l)) (λ i m o. h i (omega (arith, m)) (omega (arith, o))) (subst (λ x. Holds b (member x) → ⊥) z n) (e ∙ ap (λ x. line_of b (member x)) z))
