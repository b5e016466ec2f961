-- Each refusal in a remark has its cause.
-- Along the reading function of one remark, and then at the end of the loop over remarks, which may stand in three parts of a script.
use Rattle.std.proofs.Common.{◌≡◌, ◌<◌, true, false, cond, List, [], ◌∷◌, ◌++◌, Result, Ok, Err, refl, sym, ap, subst, ◌∙◌, inl, inr, arith, append_assoc}
use Rattle.std.proofs.lemmas.List.{append-nil}
use Rattle.std.specs.Prelude.{codes}
use Rattle.std.specs.List.{flat_map}
use Rattle.script_grammar.specs.declared.refusal.Refusal.{Refusal}
use Rattle.script_grammar.specs.declared.refusal.ReadKind.TheVariants.{Expected}
use Rattle.script_grammar.specs.declared.refusal.What.TheVariants as whats
use Rattle.script_grammar.specs.Tokens.{Token, Place, next, word, text, mark}
use Rattle.script_grammar.specs.Words.{is_the_word, is_the_text}
use Rattle.script_grammar.specs.Trees.{Remark, option, library, remark_tokens, one}
use Rattle.script_grammar.specs.Steps.{◌>>=◌, refused, wanted, mark_at}
use Rattle.script_grammar.specs.Expressions.{Declarations}
use Rattle.script_grammar.specs.Statements.{begins_remark, remark_at, remarks_at}
use Rattle.script_grammar.specs.Places.{Placed}
use Rattle.script_grammar.specs.Spots.{just, Behind, BeforeRemark, of_remark}
use Rattle.script_grammar.proofs.Steps.{ok_is, bind_err, chosen, err_is, never, word_is, text_is, second_so}
use Rattle.script_grammar.proofs.ReadRemarksStand.{remark_found}
use Rattle.script_grammar.proofs.TreeTokens.{AreTokens-remark}
use Rattle.script_grammar.proofs.RingByTokens.{remarks_loop, remark_some, remark_last}
use Rattle.script_grammar.proofs.LoopEnds.{LoopEnds, loop_ends}
use Rattle.script_grammar.proofs.CauseSteps.{not_both, Leads, Leads-then, Caused, refused_here, tokens_less, behind_on, behind_first, mark_or, word_or}

-- nothing is declared
abbrev pub nothing : Declarations
nothing = record { ring = []; prime = 0; letters = []; polys = []; ideals = [] }

-- the end of the remark on a library
abbrev library_end : Place → Result (Remark × Place) Refusal
library_end t = mark_at 59 whats.Semicolon t >>= λ after. Ok (library, after)

module _ (s : Place) where
  -- Behind LIB, the string and the ; must stand.
  library_caused : (d : List Token) (t : Place) (f : Refusal) → Leads s d t → Behind BeforeRemark (one (word (codes "LIB"))) d
      → (cond (is_the_text (codes "sing.lib") t.token) (Ok (next t.rest)) (wanted t whats.Library) >>= library_end) ≡ Err f → Caused s f
  library_caused d t f st b e =
      let i = word (codes "LIB") in
      let name = text (codes "sing.lib") in
      let must = of_remark library i name [] (one (mark 59)) d refl b in
      let string : Result Place Refusal = cond (is_the_text (codes "sing.lib") t.token) (Ok (next t.rest)) (wanted t whats.Library) in
      elim (bind_err string library_end f e) [
        | inl early ↦ elim (chosen (is_the_text (codes "sing.lib") t.token) (Ok (next t.rest)) (wanted t whats.Library) (Err f) early) [
          | inl yea ↦ absurd (never _ f yea.1)
          | inr nay ↦ refused_here s nothing (just name) (Expected whats.Library) d t f st must (inl refl) (inr refl) (λ j. (j, (refl, λ here. not_both (is_the_text (codes "sing.lib") t.token) nay.0 (ap (is_the_text (codes "sing.lib")) here)))) nay.1
        ]
        | inr late ↦ elim (chosen (is_the_text (codes "sing.lib") t.token) (Ok (next t.rest)) (wanted t whats.Library) (Ok late.0) late.1) [
          | inl yea ↦
              let st-2 = Leads-then s d t (one name) (next t.rest) st (text_is (codes "sing.lib") t.token yea.0, refl) (tt, tt) in
              let b-2 = behind_on (one i) d (one name) b in
              let on = ap library_end (ok_is (next t.rest) late.0 yea.1) ∙ late.2 in
              elim (mark_or s nothing 59 whats.Semicolon _ (next t.rest) _ f st-2 (of_remark library i (mark 59) (one name) [] _ refl b-2) (λ no. (refl, no)) on) [ inl done ↦ done | inr end ↦ absurd (never _ f end.1) ]
          | inr nay ↦ absurd (never late.0 _ (sym nay.1))
        ]
      ]

  -- A remark is refused where a token of it, but the first, isn't there.
  pub remark_caused : (c : List Token) (t : Place) (f : Refusal) → Leads s c t → BeforeRemark c → begins_remark t.token ≡ true → remark_at t ≡ Err f → Caused s f
  unfolding remark_at
  remark_caused c t f st may begins e = elim (chosen (is_the_word (codes "option") t.token) _ _ _ e) [
    | inl yea ↦
        let i = word (codes "option") in
        let d = c ++ one i in
        let b : Behind BeforeRemark (one i) d = behind_first c (one i) may in
        let st-1 = Leads-then s c t (one i) (next t.rest) st (word_is (codes "option") t.token yea.0, refl) (tt, tt) in
        elim (mark_or s nothing 40 whats.Open d (next t.rest) _ f st-1 (of_remark option i (mark 40) [] _ d refl b) (λ no. (refl, no)) yea.1) [
          | inl done ↦ done
          | inr a ↦
              let b-2 = behind_on (one i) d (one (mark 40)) b in
              elim (word_or s nothing (codes "redSB") whats.RedSb _ _ _ f a.0 (of_remark option i (word (codes "redSB")) (one (mark 40)) _ _ refl b-2) (λ no. (refl, no)) a.1) [
                | inl done ↦ done
                | inr red ↦
                    let b-3 = behind_on _ _ (one (word (codes "redSB"))) b-2 in
                    elim (mark_or s nothing 41 whats.Close _ _ _ f red.0 (of_remark option i (mark 41) (mark 40 ∷ one (word (codes "redSB"))) _ _ refl b-3) (λ no. (refl, no)) red.1) [
                      | inl done ↦ done
                      | inr last ↦
                          let b-4 = behind_on _ _ (one (mark 41)) b-3 in
                          elim (mark_or s nothing 59 whats.Semicolon _ _ _ f last.0 (of_remark option i (mark 59) (mark 40 ∷ word (codes "redSB") ∷ one (mark 41)) [] _ refl b-4) (λ no. (refl, no)) last.1) [
                            | inl done ↦ done
                            | inr end ↦ absurd (never _ f end.1)
                          ]
                    ]
              ]
        ]
    | inr nay ↦
        let i = word (codes "LIB") in
        let d = c ++ one i in
        let b : Behind BeforeRemark (one i) d = behind_first c (one i) may in
        let here = word_is (codes "LIB") t.token (second_so (is_the_word (codes "option") t.token) _ begins nay.0) in
        library_caused d (next t.rest) f (Leads-then s c t (one i) (next t.rest) st (here, refl) (tt, tt)) b nay.1
  ]

  -- ---- more than one
  -- remarks that lead from the start to a place, behind these tokens
  abbrev Remarked : List Token → List Remark → Place → Type 0
  Remarked c done t = Leads s (c ++ flat_map remark_tokens done) t

  abbrev EndOfRemarks : List Token → Result (List Remark × Place) Refusal → Type 0
  EndOfRemarks c r = LoopEnds (List Remark) Remark (List Remark) (λ y i. begins_remark i) (λ y. remark_at) (λ y t. Ok (y, t)) (Remarked c) r

  -- A remark that is read leads on, and less is left.
  remark_kept : (c : List Token) (done : List Remark) (t : Place) (r : Remark) (u : Place) → Remarked c done t → Placed t → begins_remark t.token ≡ true → remark_at t ≡ Ok (r, u)
      → (u.left < t.left) × Placed u × Remarked c (done ++ r ∷ []) u
  remark_kept c done t r u so_far placed begins e =
      let is = remark_found t (r, u) begins e in
      let same : (c ++ flat_map remark_tokens done) ++ remark_tokens r ≡ c ++ flat_map remark_tokens (done ++ r ∷ []) =
      append_assoc c (flat_map remark_tokens done) (remark_tokens r) ∙ ap (λ (x : List Token). c ++ x) (sym (remark_last done r)) in
      let less = tokens_less t (remark_tokens r) u placed (AreTokens-remark r) (remark_some r) is in
      (less.0, less.1, subst (λ (x : List Token). Leads s x u) same (Leads-then s (c ++ flat_map remark_tokens done) t (remark_tokens r) u so_far is (AreTokens-remark r)))

  -- The loop over remarks ends where one is refused, or where none begins.
  remarks_end : (c : List Token) (t : Place) (r : Result (List Remark × Place) Refusal) → Leads s c t → Placed t → remarks_at t.left [] t ≡ r → EndOfRemarks c r
  remarks_end c t r st placed e =
      loop_ends (List Remark) Remark (List Remark) (λ y i. begins_remark i) (λ y. remark_at) (λ y x. y ++ x ∷ []) (λ y t. Ok (y, t)) remarks_at remarks_loop (Remarked c)
      (λ y t x u kept placed goes e. remark_kept c y t x u kept placed goes e) t.left [] t r (omega arith) placed (subst (λ (x : List Token). Leads s x t) (sym (append-nil c)) st) e

  -- Remarks are refused where one of them is, if they may stand there.
  pub remarks_caused : (c : List Token) (t : Place) (f : Refusal) → ((done : List Remark) → BeforeRemark (c ++ flat_map remark_tokens done)) → Leads s c t → Placed t → remarks_at t.left [] t ≡ Err f → Caused s f
  remarks_caused c t f may st placed e =
      let end = remarks_end c t (Err f) st placed e in
      elim end.ended [
        | inl refused ↦ remark_caused (c ++ flat_map remark_tokens end.so_far) end.place f end.kept (may end.so_far) refused.0 (refused.2 ∙ ap (λ (z : Refusal). Err z) (sym (err_is {A = List Remark × Place} f refused.1 refused.3)))
        | inr stopped ↦ absurd (never _ f stopped.1)
      ]

  -- Remarks that are read lead on, to where none begins.
  pub remarks_kept : (c : List Token) (t : Place) (x : List Remark) (u : Place) → Leads s c t → Placed t → remarks_at t.left [] t ≡ Ok (x, u) → Leads s (c ++ flat_map remark_tokens x) u × Placed u × (begins_remark u.token ≡ false)
  remarks_kept c t x u st placed e =
      let end = remarks_end c t (Ok (x, u)) st placed e in
      elim end.ended [
        | inl refused ↦ absurd (never (x, u) refused.1 refused.3)
        | inr stopped ↦
            let same = ok_is (end.so_far, end.place) (x, u) stopped.1 in
            subst (λ (q : List Remark × Place). Leads s (c ++ flat_map remark_tokens q.0) q.1 × Placed q.1 × (begins_remark q.1.token ≡ false)) same (end.kept, end.placed, stopped.0)
      ]
