-- What a seat may do that sits at some entries with a hand, and what it sits at afterwards.
-- The facts of the view are put in place, and are then those of the example.
use Rattle.std.proofs.Common.{◌≡◌, ℕ, ◌≤◌, Bool, List, [], ◌∷◌, ◌++◌, length, Option, Some, sym, ap, ◌∙◌, subst, arith}
use Rattle.std.specs.List.{slice_get}
use Rattle.sparse_poly.specs.Ideal.{Problem}
use Rattle.entry_code.specs.Entry.{Entry}
use Rattle.mora_law.specs.declared.step_end.StepEnd.TheVariants.{Stuck}
use Rattle.mora_law.specs.Entries.{corner}
use Rattle.mora_law.specs.Examples.{reading}
use Rattle.mora_law.specs.Run.{last_known}
use Rattle.run_core.specs.Hand.{Hand, hand_of, has_open, read, draft, marked, hand_end, reads_of}
use Rattle.reducer_list.specs.View.{View, is_busy}
use Rattle.reducer_list.specs.Steps.{IsStuck, made, posted, cornered}
use Rattle.reducer_list.specs.Calls.{HasClaimed, HasPublished}
use Rattle.reducer_list.specs.declared.answers.Claim.{Claim}
use Rattle.reducer_list.specs.declared.answers.Claim.TheVariants.{NoneKnown, Claimed, Later}
use Rattle.reducer_list.specs.declared.answers.Publish.{Publish}
use Rattle.reducer_list.specs.declared.answers.Publish.TheVariants.{Published, Longer}
use Rattle.board_tests.specs.Rows.{Sits, HasTaken, HasTried, HasLearnt}

module _ (P : Problem) (v : View) (is : v.setting.problem ≡ P) (l : List Entry) (h : Option Hand) (s : Sits l h v) where
  -- its hand is open just where it is over these entries
  pub busy : (b : Bool) → has_open P l h ≡ b → is_busy v ≡ b
  busy b e = (λ i. has_open (is i) (s.list i) (s.hand i)) ∙ e

  -- its corner is that of these entries
  pub own : (n : ℕ) → corner P l ≡ n → n ≡ corner v.setting.problem v.list
  own n e = sym ((λ i. corner (is i) (s.list i)) ∙ e)

  -- after a reading of this corner it has the hand with that reading
  pub read_sits : (n : ℕ) (w : View) (h' : Option Hand) → w ≡ cornered n v → read P l (reading (length l) n) h ≡ h' → Sits l h' w
  read_sits n w h' e new = subst (Sits l h') (sym e) record {
    list = s.list;
    count = s.count;
    hand = (λ i. read (is i) (s.list i) (record { known = s.count i; corner = n }) (s.hand i)) ∙ new;
    one = s.one;
  }

  -- its hand is stuck where it is over these entries
  pub stuck_sits : hand_end P l h ≡ Some Stuck → last_known 0 (reads_of h) ≡ length l → IsStuck v
  stuck_sits e k = ((λ i. hand_end (is i) (s.list i) (s.hand i)) ∙ e, (λ i. last_known 0 (reads_of (s.hand i))) ∙ k ∙ sym s.count)

  -- what it makes is what the hand makes over these entries
  pub draft_sits : made v ≡ draft P l h
  draft_sits = λ i. draft (is i) (s.list i) (s.hand i)

-- after a claim
pub taken : (l : List Entry) (h : Option Hand) (r : Claim) (v w : View) → Sits l h v → HasClaimed v r w → HasTaken l h r w
taken l h NoneKnown v w s c = subst (Sits l h) (sym c.1) s
taken l h (Claimed k) v w s c = subst (Sits l (Some (hand_of k))) (sym c.2) record {
  list = s.list;
  count = s.count;
  hand = ap (λ n. Some (hand_of n)) (sym c.1);
  one = s.one;
}
taken l h (Later k) v w s c = subst (Sits l h) (sym c.2) record {
  list = s.list;
  count = s.count;
  hand = s.hand;
  one = s.one;
}

-- after the exchange of a head
pub tried : (P : Problem) (h : Hand) (e : Entry) (r : Publish) (v w : View) → v.setting.problem ≡ P → Sits [] (Some h) v → draft P [] (Some h) ≡ e → HasPublished v r w → HasTried h e r w
tried P h e (Published k) v w is s d p = subst (Sits (e ∷ []) (marked (Some h))) (sym p.1) record {
  list = λ i. s.list i ++ (draft_sits P v is [] (Some h) s ∙ d) i ∷ [];
  count = omega (arith, s.count);
  hand = ap marked s.hand;
  one = s.one;
}
tried P h e Longer v w is s d p = subst (Sits [] (Some h)) (sym p.1) record {
  list = s.list;
  count = s.count;
  hand = s.hand;
  one = s.one;
}

-- after it has learnt an entry, the first one
pub learnt : (h : Option Hand) (e x : Entry) (v w : View) → Sits [] h v → HasLearnt v e w → e ≡ x → Sits (x ∷ []) h w
learnt h e x v w s is same = subst (Sits (x ∷ []) h) (sym is) record {
  list = λ i. s.list i ++ same i ∷ [];
  count = omega (arith, s.count);
  hand = s.hand;
  one = s.one;
}

module _ {A : Type 0} where
  -- a list of one member is that member
  pub single : (l : List A) (x : A) → length l ≡ 1 → slice_get l 0 ≡ Some x → l ≡ x ∷ []
  single [] x e is = absurd (omega (arith, e))
  single (y ∷ []) x e is = let same : y ≡ x = cc is in ap (λ (z : A). z ∷ []) same
  single (y ∷ z ∷ l) x e is = absurd (omega (arith, e))

  -- so it is with one of three
  pub three : (l : List A) (x y z : A) → length l ≡ 3 → slice_get l 0 ≡ Some x → slice_get l 1 ≡ Some y → slice_get l 2 ≡ Some z → l ≡ x ∷ y ∷ z ∷ []
  three [] x y z e a b c = absurd (omega (arith, e))
  three (p ∷ []) x y z e a b c = absurd (omega (arith, e))
  three (p ∷ q ∷ []) x y z e a b c = absurd (omega (arith, e))
  three (p ∷ q ∷ r ∷ []) x y z e a b c =
      let first : p ≡ x = cc a in
      let second : q ≡ y = cc b in
      let third : r ≡ z = cc c in
      λ i. first i ∷ second i ∷ third i ∷ []
  three (p ∷ q ∷ r ∷ s ∷ l) x y z e a b c = absurd (omega (arith, e))
