-- The readings of an entry one by one: the run so far, and the answer of the checks so far.
-- A step from what is alike to the run so far is alike to the run with one more reading.
use Rattle.std.proofs.Common.{◌≡◌, ℕ, zero, suc, ◌+◌, ◌-◌, ◌<◌, ◌≤◌, List, [], ◌∷◌, ◌++◌, length, take, slice_get, Some, None, All, refl, sym, ◌∙◌, ap, subst, arith}
use Rattle.std.proofs.lemmas.List.{take_more, take_all}
use Rattle.std.proofs.lemmas.Option.{slice_get_within, get_or_from_slice_get}
use Rattle.entry_code.specs.declared.term.Term.{Term}
use Rattle.entry_code.specs.declared.reading.Reading.{Reading}
use Rattle.entry_code.specs.Placed.{Placed}
use Rattle.entry_code.specs.Entry.{Entry, entry_at}
use Rattle.rank_algebra.specs.Vector.{Vector, Agree}
use Rattle.rank_algebra.proofs.Linear.{agree_refl}
use Rattle.mora_law.specs.declared.step_end.StepEnd.{StepEnd}
use Rattle.mora_law.specs.Ring.{ranks_of_problem, IsAdmissible, generators_of}
use Rattle.mora_law.specs.Step.{Run, step}
use Rattle.mora_law.specs.Start.{start, run}
use Rattle.mora_law.specs.Entries.{basis_of}
use Rattle.mora_law.specs.Alike.{RunAlike}
use Rattle.mora_law.proofs.Ring.{ranks_are}
use Rattle.mora_law.proofs.Alike.{step_alike}
use Rattle.mora_law.proofs.Readings.{run_more}
use Rattle.cert_grammar.specs.declared.certified.Certified.{Certified}
use Rattle.cert_check.specs.declared.reason.Reason.{Reason}
use Rattle.cert_check.specs.declared.reason.Reason.TheVariants as reasons
use Rattle.cert_check.specs.Checks.{Check, item, known, corner, run as run_check, terms, reading_checks, entry_checks, line_of, end_at, Holds}
use Rattle.cert_check.specs.Fault.{IsFirstFaultIn}
use Rattle.cert_check.specs.Replay.{state}
use Rattle.cert_check.specs.Answers.{IsReplayed}
use Rattle.cert_check.proofs.Every.{every_all, all_every, every_append}
use Rattle.cert_check.proofs.Faults.{fault_left, fault_right, fault_here}
use Rattle.cert_check.proofs.Stepping.{run_trans}

-- ---- the run
module _ (b : Certified) (h : IsAdmissible b.problem) (i : ℕ) where
  -- the entry
  abbrev pub Own : Entry
  Own = entry_at b.entries i

  -- its run by the first readings
  abbrev pub RunTo : ℕ → Run
  RunTo j = run b.problem b.entries (entry_at b.entries i).item (take j (entry_at b.entries i).reads)

  -- at the beginning it is the start
  pub none_replayed : (v : Vector) → Agree (ranks_of_problem b.problem) (ranks_of_problem b.problem).n v (start b.problem b.entries (entry_at b.entries i).item) → IsReplayed b i 0 v []
  none_replayed v a = record { poly = a; kept = tt }

  -- a step more
  pub one_replayed : (j : ℕ) (d : Reading) (end : StepEnd) (v u : Vector) (old new : List (Placed Term)) → slice_get (entry_at b.entries i).reads j ≡ Some d → d.known ≤ length b.entries → IsReplayed b i j v old
      → RunAlike (ranks_of_problem b.problem) (state (Some end) u new) (step (ranks_of_problem b.problem) (basis_of b.entries).member (state None v old) d)
      → RunAlike (ranks_of_problem b.problem) (state (Some end) u new) (RunTo (suc j))
  one_replayed j d end v u old new g l w a = subst (RunAlike (ranks_of_problem b.problem) (state (Some end) u new)) (sym more)
      (run_trans (ranks_of_problem b.problem) (state (Some end) u new) _ _ a
      (step_alike (ranks_of_problem b.problem) (ranks_are b.problem h) (basis_of b.entries).member (basis_of b.entries).member (length b.entries) (λ k m. agree_refl (ranks_of_problem b.problem) (ranks_of_problem b.problem).n ((basis_of b.entries).member k))
      (state (RunTo j).end v old) (RunTo j) d l (record { end = refl; poly = w.poly; kept = w.kept })))
    where
      ds : List Reading
      ds = (entry_at b.entries i).reads

      taken : take (suc j) (entry_at b.entries i).reads ≡ take j (entry_at b.entries i).reads ++ d ∷ []
      taken =
          ap (λ n. take n (entry_at b.entries i).reads) (let z : suc j ≡ j + 1 = omega arith in z)
          ∙ take_more (entry_at b.entries i).reads j d (slice_get_within (entry_at b.entries i).reads j d g)
          ∙ ap (λ (x : Reading). take j (entry_at b.entries i).reads ++ x ∷ []) (get_or_from_slice_get (entry_at b.entries i).reads j d d g)

      more : RunTo (suc j) ≡ step (ranks_of_problem b.problem) (basis_of b.entries).member (RunTo j) d
      more =
          ap (run b.problem b.entries (entry_at b.entries i).item) taken
          ∙ run_more (ranks_of_problem b.problem) (generators_of b.problem) (basis_of b.entries) (entry_at b.entries i).item (take j (entry_at b.entries i).reads) d

  -- so the run is replayed by one more reading
  pub next_replayed : (j : ℕ) (end : StepEnd) (u : Vector) (new : List (Placed Term)) → RunAlike (ranks_of_problem b.problem) (state (Some end) u new) (RunTo (suc j)) → IsReplayed b i (j + 1) u new
  next_replayed j end u new a = subst (λ n. IsReplayed b i n u new) (let z : suc j ≡ j + 1 = omega arith in z) (record { poly = a.poly; kept = a.kept })

  -- it ends as the step ended
  pub run_holds : (j : ℕ) (end : StepEnd) (u : Vector) (new : List (Placed Term)) → RunAlike (ranks_of_problem b.problem) (state (Some end) u new) (RunTo (suc j)) → end ≡ end_at (length (entry_at b.entries i).reads) j → Holds b (run_check i j)
  run_holds j end u new a e = sym a.end ∙ ap Some e

  -- and in no other way
  pub run_fails : (j : ℕ) (end : StepEnd) (u : Vector) (new : List (Placed Term)) → RunAlike (ranks_of_problem b.problem) (state (Some end) u new) (RunTo (suc j)) → (end ≡ end_at (length (entry_at b.entries i).reads) j → ⊥) → Holds b (run_check i j) → ⊥
  run_fails j end u new a n r = n (let z : Some end ≡ Some (end_at (length (entry_at b.entries i).reads) j) = a.end ∙ r in cc z)

  -- all readings make the whole run
  pub whole_run : (j : ℕ) (u : Vector) (new : List (Placed Term)) → length (entry_at b.entries i).reads ≤ j → IsReplayed b i j u new
      → Agree (ranks_of_problem b.problem) (ranks_of_problem b.problem).n u (run b.problem b.entries (entry_at b.entries i).item (entry_at b.entries i).reads).poly
  whole_run j u new l w = subst (λ ds. Agree (ranks_of_problem b.problem) (ranks_of_problem b.problem).n u (run b.problem b.entries (entry_at b.entries i).item ds).poly) (take_all j (entry_at b.entries i).reads l) w.poly

-- ---- the checks of a reading
-- the checks of the readings before and behind place j are those of all
checks_split : (i j rest k : ℕ) → reading_checks i (j + suc rest) k ≡ reading_checks i j k ++ (known i (k + j) ∷ corner i (k + j) ∷ run_check i (k + j) ∷ reading_checks i rest (suc (k + j)))
checks_split i zero rest k =
    ap (λ n. reading_checks i n k) (let z : 0 + suc rest ≡ suc rest = omega arith in z)
    ∙ ap (λ n. known i n ∷ corner i n ∷ run_check i n ∷ reading_checks i rest (suc n)) (let z : k ≡ k + 0 = omega arith in z)
checks_split i (suc j) rest k =
    ap (λ n. reading_checks i n k) (let z : suc j + suc rest ≡ suc (j + suc rest) = omega arith in z)
    ∙ ap (λ cs. known i k ∷ corner i k ∷ run_check i k ∷ cs) (checks_split i j rest (suc k))
    ∙ ap (λ n. known i k ∷ corner i k ∷ run_check i k ∷ (reading_checks i j (suc k) ++ (known i n ∷ corner i n ∷ run_check i n ∷ reading_checks i rest (suc n)))) (let z : suc k + j ≡ k + suc j = omega arith in z)

-- the three checks of reading j
abbrev pub three : ℕ → ℕ → List Check
three i j = known i j ∷ corner i j ∷ run_check i j ∷ []

module _ (b : Certified) (i : ℕ) where
  -- the checks of one more reading hold
  pub readings_more : (j : ℕ) → All (Holds b) (reading_checks i j 0) → All (Holds b) (three i j) → All (Holds b) (reading_checks i (j + 1) 0)
  readings_more j h k = subst (All (Holds b)) (sym (checks_split i j 0 0 ∙ ap (λ n. reading_checks i j 0 ++ three i n) (let z : 0 + j ≡ j = omega arith in z)))
      (every_all (Holds b) (reading_checks i j 0 ++ three i j) (every_append (Holds b) (reading_checks i j 0) (three i j) (all_every (Holds b) (reading_checks i j 0) h) (all_every (Holds b) (three i j) k)))

  -- the fault of a reading is the first of all where those before hold
  pub reading_fault : (n j line : ℕ) (reason : Reason) → j < n → All (Holds b) (reading_checks i j 0) → IsFirstFaultIn b (three i j) line reason → IsFirstFaultIn b (reading_checks i n 0) line reason
  reading_fault n j line reason l h f = subst (λ cs. IsFirstFaultIn b cs line reason)
      (ap (λ (k : ℕ). reading_checks i j 0 ++ (known i k ∷ corner i k ∷ run_check i k ∷ reading_checks i (n - suc j) (suc k))) (let z : j ≡ 0 + j = omega arith in z)
      ∙ sym (checks_split i j (n - suc j) 0) ∙ ap (λ k. reading_checks i k 0) (let z : j + suc (n - suc j) ≡ n = omega (arith, l) in z))
      (fault_right b (reading_checks i j 0) (three i j ++ reading_checks i (n - suc j) (suc j)) line reason (all_every (Holds b) (reading_checks i j 0) h)
      (fault_left b (three i j) (reading_checks i (n - suc j) (suc j)) line reason f))

  -- what a reading knows is its first fault
  pub known_fault : (j line : ℕ) → (Holds b (known i j) → ⊥) → line ≡ line_of b (known i j) → IsFirstFaultIn b (three i j) line reasons.Known
  known_fault j line n e = fault_here b (known i j) (corner i j ∷ run_check i j ∷ []) line reasons.Known n e refl

  -- or its corner is
  pub corner_fault : (j line : ℕ) → Holds b (known i j) → (Holds b (corner i j) → ⊥) → line ≡ line_of b (corner i j) → IsFirstFaultIn b (three i j) line reasons.Corner
  corner_fault j line k n e = fault_right b (known i j ∷ []) (corner i j ∷ run_check i j ∷ []) line reasons.Corner (k, tt) (fault_here b (corner i j) (run_check i j ∷ []) line reasons.Corner n e refl)

  -- or how its step ends
  pub run_fault : (j line : ℕ) → Holds b (known i j) → Holds b (corner i j) → (Holds b (run_check i j) → ⊥) → line ≡ line_of b (run_check i j) → IsFirstFaultIn b (three i j) line reasons.Run
  run_fault j line k c n e = fault_right b (known i j ∷ corner i j ∷ []) (run_check i j ∷ []) line reasons.Run (k, (c, tt)) (fault_here b (run_check i j) [] line reasons.Run n e refl)

  -- or there is none
  pub reading_holds : (j : ℕ) → Holds b (known i j) → Holds b (corner i j) → Holds b (run_check i j) → All (Holds b) (three i j)
  reading_holds j k c r = every_all (Holds b) (three i j) (k, (c, (r, tt)))

  -- ---- the checks of an entry
  -- the entry's item is its first fault
  pub item_fault : (line : ℕ) → (Holds b (item i) → ⊥) → line ≡ line_of b (item i) → IsFirstFaultIn b (entry_checks i (entry_at b.entries i)) line reasons.Item
  item_fault line n e = fault_here b (item i) (reading_checks i (length (entry_at b.entries i).reads) 0 ++ terms i ∷ []) line reasons.Item n e refl

  -- or one of its readings is
  pub readings_fault : (line : ℕ) (reason : Reason) → Holds b (item i) → IsFirstFaultIn b (reading_checks i (length (entry_at b.entries i).reads) 0) line reason → IsFirstFaultIn b (entry_checks i (entry_at b.entries i)) line reason
  readings_fault line reason k f = fault_right b (item i ∷ []) (reading_checks i (length (entry_at b.entries i).reads) 0 ++ terms i ∷ []) line reason (k, tt)
      (fault_left b (reading_checks i (length (entry_at b.entries i).reads) 0) (terms i ∷ []) line reason f)

  -- or its terms are
  pub terms_fault : (line : ℕ) → Holds b (item i) → All (Holds b) (reading_checks i (length (entry_at b.entries i).reads) 0) → (Holds b (terms i) → ⊥) → line ≡ line_of b (terms i) → IsFirstFaultIn b (entry_checks i (entry_at b.entries i)) line reasons.Poly
  terms_fault line k h n e = fault_right b (item i ∷ []) (reading_checks i (length (entry_at b.entries i).reads) 0 ++ terms i ∷ []) line reasons.Poly (k, tt)
      (fault_right b (reading_checks i (length (entry_at b.entries i).reads) 0) (terms i ∷ []) line reasons.Poly (all_every (Holds b) (reading_checks i (length (entry_at b.entries i).reads) 0) h) (fault_here b (terms i) [] line reasons.Poly n e refl))

  -- or there is none
  pub entry_holds : Holds b (item i) → All (Holds b) (reading_checks i (length (entry_at b.entries i).reads) 0) → Holds b (terms i) → All (Holds b) (entry_checks i (entry_at b.entries i))
  entry_holds k h t = every_all (Holds b) (entry_checks i (entry_at b.entries i))
      (k, every_append (Holds b) (reading_checks i (length (entry_at b.entries i).reads) 0) (terms i ∷ []) (all_every (Holds b) (reading_checks i (length (entry_at b.entries i).reads) 0) h) (t, tt))
