-- Remarks that are read stand there.
-- Step by step along the reading function of a remark, and by induction on the turns of its loop.
use Rattle.std.proofs.Common.{◌≡◌, ℕ, zero, suc, true, List, [], ◌∷◌, ◌++◌, Ok, refl, sym, subst, ◌∙◌, inl, inr, append_assoc}
use Rattle.std.proofs.lemmas.List.{append-nil}
use Rattle.std.specs.Prelude.{codes}
use Rattle.std.specs.List.{flat_map}
use Rattle.script_grammar.specs.Tokens.{Place, next}
use Rattle.script_grammar.specs.Words.{is_the_word}
use Rattle.script_grammar.specs.Trees.{Remark, remark_tokens}
use Rattle.script_grammar.specs.Statements.{begins_remark, remark_at, remarks_at}
use Rattle.script_grammar.specs.Valid.{Stand}
use Rattle.script_grammar.proofs.Steps.{ok_is, bind_ok, chosen, word_is, second_so, Stand-then}
use Rattle.script_grammar.proofs.StepsBehindRead.{mark_step, word_step, text_step}

-- A remark that is read stands there.
pub remark_found : (t : Place) (x : Remark × Place) → begins_remark t.token ≡ true → remark_at t ≡ Ok x → Stand t (remark_tokens x.0) x.1
unfolding remark_at
remark_found t x begins e =
    let branch = chosen (is_the_word (codes "option") t.token) _ _ _ e in
    elim branch [
      | inl yea ↦
          let a = mark_step _ _ _ _ _ yea.1 in
          let b = word_step _ _ _ _ _ a.1 in
          let c = mark_step _ _ _ _ _ b.1 in
          let d = mark_step _ _ _ _ _ c.1 in
          subst (λ (y : Remark × Place). Stand t (remark_tokens y.0) y.1) (ok_is _ x d.1) (word_is (codes "option") t.token yea.0, (a.0, (b.0, (c.0, (d.0, refl)))))
      | inr nay ↦
          let here = word_is (codes "LIB") t.token (second_so (is_the_word (codes "option") t.token) _ begins nay.0) in
          let a = text_step (codes "sing.lib") _ (next t.rest) _ _ nay.1 in
          let d = mark_step _ _ _ _ _ a.1 in
          subst (λ (y : Remark × Place). Stand t (remark_tokens y.0) y.1) (ok_is _ x d.1) (here, (a.0, (d.0, refl)))
    ]

-- what a loop reads goes on with what was read before
pub remarks_found : (n : ℕ) (done : List Remark) (t : Place) (x : List Remark × Place) → remarks_at n done t ≡ Ok x → (more : List Remark) × (x.0 ≡ done ++ more) × Stand t (flat_map remark_tokens more) x.1
unfolding remarks_at
remarks_found zero done t x e = subst (λ (y : List Remark × Place). (more : List Remark) × (y.0 ≡ done ++ more) × Stand t (flat_map remark_tokens more) y.1) (ok_is (done, t) x e) ([], sym (append-nil done), refl)
remarks_found (suc n) done t x e =
    let branch = chosen (begins_remark t.token) _ _ _ e in
    elim branch [
      | inl yea ↦
          let a = bind_ok _ _ _ yea.1 in
          let r = remark_found t a.0 yea.0 a.1 in
          let h = remarks_found n (done ++ a.0.0 ∷ []) a.0.1 x a.2 in
          (a.0.0 ∷ h.0, h.1 ∙ append_assoc done (a.0.0 ∷ []) h.0, Stand-then t (remark_tokens a.0.0) a.0.1 (flat_map remark_tokens h.0) x.1 r h.2)
      | inr nay ↦ subst (λ (y : List Remark × Place). (more : List Remark) × (y.0 ≡ done ++ more) × Stand t (flat_map remark_tokens more) y.1) (ok_is (done, t) x nay.1) ([], sym (append-nil done), refl)
    ]

-- Remarks that are read from none on stand there.
pub all_remarks_found : (n : ℕ) (t : Place) (x : List Remark × Place) → remarks_at n [] t ≡ Ok x → Stand t (flat_map remark_tokens x.0) x.1
all_remarks_found n t x e =
    let h = remarks_found n [] t x e in
    subst (λ (rs : List Remark). Stand t (flat_map remark_tokens rs) x.1) (sym h.1) h.2
