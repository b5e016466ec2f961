-- Each refusal of a name has its cause: of one that is declared, and of one in parentheses.
-- By the tests on its word; a name in parentheses is told by what comes before them.
use Rattle.std.proofs.Common.{◌≡◌, ℕ, ◌+◌, not, List, [], ◌∷◌, ◌++◌, length, Result, Ok, Err, refl, sym, ap, ◌∙◌, ◌⊎◌, inl, inr}
use Rattle.std.proofs.lemmas.Bool.{leb-true, not-true, not-false}
use Rattle.std.specs.Prelude.{nat_le}
use Rattle.script_grammar.specs.declared.refusal.Refusal.{Refusal}
use Rattle.script_grammar.specs.declared.refusal.ReadKind.TheVariants.{Expected, NameClash, TooManyNames, UnknownName}
use Rattle.script_grammar.specs.declared.refusal.What.TheVariants as whats
use Rattle.script_grammar.specs.Tokens.{Token, Place, next, word, mark}
use Rattle.script_grammar.specs.Words.{is_one_of, word_of}
use Rattle.script_grammar.specs.Trees.{one}
use Rattle.script_grammar.specs.Steps.{◌>>=◌, mark_at}
use Rattle.script_grammar.specs.Expressions.{Declarations}
use Rattle.script_grammar.specs.Statements.{clashes, new_name_at, name_among, argument_at}
use Rattle.script_grammar.specs.Valid.{IsNew, IsOneOf}
use Rattle.script_grammar.specs.Spots.{a_new_name, a_name_of, Behind, BeforeArgument, Here, of_argument, of_end}
use Rattle.script_grammar.specs.Causes.{is_name}
use Rattle.script_grammar.proofs.Steps.{ok_is, bind_err, chosen, never}
use Rattle.script_grammar.proofs.ByTokensInTurn.{bind_assoc}
use Rattle.script_grammar.proofs.StepsBehindRead.{new_name_step, name_among_step}
use Rattle.script_grammar.proofs.CauseSteps.{Leads, Leads-then, Caused, refused_here, behind_on, behind_first, mark_or}

-- Three steps of reading are the same in either grouping.
regroup : {B : Type 0} (r : Result (List ℕ × Place) Refusal) (g : List ℕ × Place → Result B Refusal)
    → (r >>= (λ name. mark_at 41 whats.Close name.1 >>= λ closed. Ok (name.0, closed)) >>= g) ≡ (r >>= λ name. mark_at 41 whats.Close name.1 >>= λ after. g (name.0, after))
regroup (Ok name) g = bind_assoc (mark_at 41 whats.Close name.1) (λ closed. Ok (name.0, closed)) g
regroup (Err d) g = refl

module _ (s : Place) where
  -- A name that is declared is refused where it is none, taken, or the 65th; else it is new.
  pub new_name_or : {B : Type 0} (known : Declarations) (c : List Token) (t : Place) (g : List ℕ × Place → Result B Refusal) (f : Refusal) → Leads s c t → Here known a_new_name c → (new_name_at known t >>= g) ≡ Err f
      → Caused s f ⊎ ((w : List ℕ) × IsNew known w × Leads s (c ++ one (word w)) (next t.rest) × (g (w, next t.rest) ≡ Err f))
  unfolding new_name_at
  new_name_or known c t g f st here e = elim (bind_err (new_name_at known t) g f e) [
    | inl early ↦ elim (chosen (not (is_name t.token)) _ _ _ early) [
      | inl none ↦ inl (refused_here s known a_new_name (Expected whats.Name) c t f st here (inl refl) (inr refl) (λ i. (i, not-true (is_name t.token) none.0)) none.1)
      | inr some ↦
          let is = not-false (is_name t.token) some.0 in
          elim (chosen (clashes known (word_of t.token)) _ _ _ some.1) [
            | inl taken ↦ inl (refused_here s known a_new_name NameClash c t f st here (inl refl) (inr refl) (λ i. (is, taken.0)) taken.1)
            | inr free ↦ elim (chosen (nat_le 64 (length known.polys + length known.ideals)) _ _ _ free.1) [
              | inl full ↦ inl (refused_here s known a_new_name TooManyNames c t f st here (inl refl) (inr refl) (λ i. (is, free.0, leb-true 64 (length known.polys + length known.ideals) full.0)) full.1)
              | inr room ↦ absurd (never _ f room.1)
            ]
          ]
    ]
    | inr late ↦
        let a = new_name_step known t (λ x. Ok x) late.0 (ap (λ (r : Result (List ℕ × Place) Refusal). r >>= λ x. Ok x) late.1) in
        inr (a.0, a.2, Leads-then s c t (one (word a.0)) (next t.rest) st (a.1, refl) (tt, tt), ap g (ok_is (a.0, next t.rest) late.0 a.3) ∙ late.2)
  ]

  -- The name of something declared is refused where it is none, or not among those.
  pub name_among_or : {B : Type 0} (known : Declarations) (names : List (List ℕ)) (c : List Token) (t : Place) (g : List ℕ × Place → Result B Refusal) (f : Refusal) → Leads s c t → Here known (a_name_of names) c → (name_among names t >>= g) ≡ Err f
      → Caused s f ⊎ ((w : List ℕ) × IsOneOf names w × Leads s (c ++ one (word w)) (next t.rest) × (g (w, next t.rest) ≡ Err f))
  unfolding name_among
  name_among_or known names c t g f st here e = elim (bind_err (name_among names t) g f e) [
    | inl early ↦ elim (chosen (not (is_name t.token)) _ _ _ early) [
      | inl none ↦ inl (refused_here s known (a_name_of names) (Expected whats.Argument) c t f st here (inl refl) (inr refl) (λ i. (i, not-true (is_name t.token) none.0)) none.1)
      | inr some ↦ elim (chosen (is_one_of names (word_of t.token)) _ _ _ some.1) [
        | inl among ↦ absurd (never _ f among.1)
        | inr strange ↦ inl (refused_here s known (a_name_of names) UnknownName c t f st here (inl refl) (inr refl) (λ i. (not-false (is_name t.token) some.0, strange.0)) strange.1)
      ]
    ]
    | inr late ↦
        let a = name_among_step names t (λ x. Ok x) late.0 (ap (λ (r : Result (List ℕ × Place) Refusal). r >>= λ x. Ok x) late.1) in
        inr (a.0, a.2, Leads-then s c t (one (word a.0)) (next t.rest) st (a.1, refl) (tt, tt), ap g (ok_is (a.0, next t.rest) late.0 a.3) ∙ late.2)
  ]

  -- A name and the ) behind it are refused behind the (.
  pub closed_or : {B : Type 0} (known : Declarations) (names : List (List ℕ)) (j : Token) (rest : List Token) (c : List Token) (t : Place) (g : List ℕ × Place → Result B Refusal) (f : Refusal) → Leads s c t
      → Behind (BeforeArgument known names (j ∷ rest)) (one (mark 40)) c → (name_among names t >>= λ name. mark_at 41 whats.Close name.1 >>= λ after. g (name.0, after)) ≡ Err f
      → Caused s f ⊎ ((w : List ℕ) × IsOneOf names w × (u : Place) × Leads s ((c ++ one (word w)) ++ one (mark 41)) u × Behind (BeforeArgument known names (j ∷ rest)) (mark 40 ∷ word w ∷ one (mark 41)) ((c ++ one (word w)) ++ one (mark 41)) × (g (w, u) ≡ Err f))
  closed_or known names j rest c t g f st b e = elim (name_among_or known names c t _ f st (j ∷ rest, b) e) [
    | inl done ↦ inl done
    | inr n ↦
        let b-1 = behind_on _ c (one (word n.0)) b in
        elim (mark_or s known 41 whats.Close _ _ _ f n.2 (of_end names n.0 (mark 41) j rest [] (j ∷ rest) _ n.1 refl b-1) (λ no. (refl, no)) n.3) [
          | inl done ↦ inl done
          | inr a ↦ inr (n.0, n.1, _, a.0, behind_on _ _ (one (mark 41)) b-1, a.1)
        ]
  ]

  -- A name in parentheses is refused where a part of it is.
  pub argument_or : {B : Type 0} (known : Declarations) (names : List (List ℕ)) (j : Token) (rest : List Token) (c : List Token) (t : Place) (g : List ℕ × Place → Result B Refusal) (f : Refusal) → Leads s c t
      → BeforeArgument known names (j ∷ rest) c → (argument_at names t >>= g) ≡ Err f
      → Caused s f ⊎ ((w : List ℕ) × IsOneOf names w × (u : Place) × Leads s (((c ++ one (mark 40)) ++ one (word w)) ++ one (mark 41)) u
      × Behind (BeforeArgument known names (j ∷ rest)) (mark 40 ∷ word w ∷ one (mark 41)) (((c ++ one (mark 40)) ++ one (word w)) ++ one (mark 41)) × (g (w, u) ≡ Err f))
  unfolding argument_at
  argument_or known names j rest c t g f st may e =
      let regrouped = sym (bind_assoc (mark_at 40 whats.Open t) _ g) ∙ e in
      elim (mark_or s known 40 whats.Open c t _ f st (of_argument names (j ∷ rest) c may) (λ no. (refl, no)) regrouped) [
        | inl done ↦ inl done
        | inr a ↦
            let on = sym (regroup (name_among names (next t.rest)) g) ∙ a.1 in
            closed_or known names j rest (c ++ one (mark 40)) (next t.rest) g f a.0 (behind_first c (one (mark 40)) may) on
      ]
