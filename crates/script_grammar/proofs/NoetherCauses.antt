-- Each refusal in the noether statement has its cause.
-- A factor by the tests on its word, the loop over factors, and then the degree, which is refused at the first token.
use Rattle.std.proofs.Common.{◌≡◌, ℕ, ◌≤◌, ◌<◌, Bool, true, false, cond, not, ◌&&◌, ◌||◌, eqb, List, [], ◌∷◌, ◌++◌, length, Result, Ok, Err, refl, sym, ap, subst, ◌∙◌, inl, inr, arith, nat_lt, append_assoc}
use Rattle.std.proofs.lemmas.Bool.{eqb-true, eqb-false, ltb-true, ltb-false, and_parts, or_cases, or_parts, not-true, not-false}
use Rattle.std.specs.Prelude.{codes}
use Rattle.local_order.specs.Count.{monomial_count}
use Rattle.script_grammar.specs.declared.refusal.Refusal.{Refusal}
use Rattle.script_grammar.specs.declared.refusal.ReadKind.{ReadKind}
use Rattle.script_grammar.specs.declared.refusal.ReadKind.TheVariants.{Expected, UnknownName, ExponentTooLarge, NoetherDegree, TooManyMonomials}
use Rattle.script_grammar.specs.declared.refusal.What.TheVariants as whats
use Rattle.script_grammar.specs.Tokens.{Token, Place, next, word, mark}
use Rattle.script_grammar.specs.Words.{is_named, is_short, has_large, is_the_mark, is_word, word_of}
use Rattle.script_grammar.specs.Trees.{Factor, short_word, raised_letter, factor_tokens, Monomial, factor, product, monomial_tokens, one}
use Rattle.script_grammar.specs.Steps.{◌>>=◌, refused, kind_at, mark_at, exponent_at}
use Rattle.script_grammar.specs.Expressions.{Declarations}
use Rattle.script_grammar.specs.Statements.{is_letter_word, factor_at, factors_at, degree_of, noether_at, monomial_at}
use Rattle.script_grammar.specs.Valid.{Stand, ValidFactors}
use Rattle.script_grammar.specs.Places.{Placed}
use Rattle.script_grammar.specs.First.{refusal_at}
use Rattle.script_grammar.specs.Spots.{a_factor, an_exponent, behind_monomial, Behind, BeforeNoether, InNoether, BeforeFactor, Here, of_noether}
use Rattle.script_grammar.specs.Causes.{is_name, ends_in_letter, IsWholeMonomial, IsLateCause}
use Rattle.script_grammar.proofs.Places.{next_placed, stand_placed, behind_mark}
use Rattle.script_grammar.proofs.Steps.{ok_is, bind_ok, bind_err, chosen, went_on, err_is, never, mark_is, some_word_is}
use Rattle.script_grammar.proofs.StepsBehindRead.{exponent_step}
use Rattle.script_grammar.proofs.ReadNoetherIsValid.{factor_found}
use Rattle.script_grammar.proofs.TreeTokens.{AreTokens-factor}
use Rattle.script_grammar.proofs.NoetherByTokens.{factors_on, factors_loop, first_word}
use Rattle.script_grammar.proofs.LoopEnds.{LoopEnds, loop_ends}
use Rattle.script_grammar.proofs.CauseSteps.{Leads, Leads-then, stand_behind, Caused, refused_here, exponent_refused, behind_on, mark_or}

-- a factor ends in a bare letter
abbrev bare_letter : Factor → Bool
bare_letter (short_word w) = is_letter_word w
bare_letter (raised_letter w digits) = false

-- Whether a monomial ends in a bare letter is told by its last factor.
ends_by_factor : (m : Monomial) (f : Factor) → ends_in_letter (product m f) ≡ bare_letter f
ends_by_factor m (short_word w) = refl
ends_by_factor m (raised_letter w digits) = refl

-- A monomial of one factor ends as that factor does.
ends_by_first : (f : Factor) → ends_in_letter (factor f) ≡ bare_letter f
ends_by_first (short_word w) = refl
ends_by_first (raised_letter w digits) = refl

-- Of three tests, where the outer two aren't both met, all three aren't.
not_all : (a b c : Bool) → (a && c) ≡ false → ((a && b) && c) ≡ false
not_all false b c h = refl
not_all true false c h = refl
not_all true true c h = h

-- Behind a factor that is read, no ^ goes on with it.
factor_ends : (letters : List ℕ) (t : Place) (x : Factor) (u : Place) → factor_at letters t ≡ Ok (x, u) → (bare_letter x && is_the_mark 94 u.token) ≡ false
unfolding factor_at
factor_ends letters t x u e =
    let w = word_of t.token in
    let a = went_on (not (is_name t.token)) _ _ (x, u) e in
    let b = went_on (not (is_short letters w)) _ _ (x, u) a.1 in
    let c = went_on (has_large w) _ _ (x, u) b.1 in
    elim (chosen (eqb (length w) 1 && is_the_mark 94 (next t.rest).token) _ _ _ c.1) [
      | inl yea ↦
          let n = exponent_step _ _ _ yea.1 in
          subst (λ (q : Factor × Place). (bare_letter q.0 && is_the_mark 94 q.1.token) ≡ false) (ok_is _ (x, u) n.4) refl
      | inr nay ↦
          let bare : (is_letter_word w && is_the_mark 94 (next t.rest).token) ≡ false = not_all (eqb (length w) 1) (is_named w) (is_the_mark 94 (next t.rest).token) nay.0 in
          subst (λ (q : Factor × Place). (bare_letter q.0 && is_the_mark 94 q.1.token) ≡ false) (ok_is (short_word w, next t.rest) (x, u) nay.1) bare
    ]

module _ (s : Place) where
  -- A factor is refused where it is no name, has a letter that is no variable or an exponent that is too large, or for its numeral.
  factor_caused : (known : Declarations) (c : List Token) (t : Place) (f : Refusal) → Leads s c t → BeforeFactor known c → factor_at known.letters t ≡ Err f → Caused s f
  unfolding factor_at
  factor_caused known c t f st here e =
      let w = word_of t.token in
      elim (chosen (not (is_name t.token)) _ _ _ e) [
        | inl none ↦ refused_here s known a_factor (Expected whats.Monomial) c t f st here (inl refl) (inr refl) (λ i. (i, not-true (is_name t.token) none.0)) none.1
        | inr some ↦
            let is = not-false (is_name t.token) some.0 in
            let p = and_parts (is_word t.token) (is_named w) is in
            elim (chosen (not (is_short known.letters w)) _ _ _ some.1) [
              | inl long ↦ refused_here s known a_factor UnknownName c t f st here (inl refl) (inr refl) (λ i. (is, not-true (is_short known.letters w) long.0)) long.1
              | inr short ↦
                  let fits = not-false (is_short known.letters w) short.0 in
                  elim (chosen (has_large w) _ _ _ short.1) [
                    | inl large ↦ refused_here s known a_factor ExponentTooLarge c t f st here (inl refl) (inr refl) (λ i. (is, fits, large.0)) large.1
                    | inr small ↦ elim (chosen (eqb (length w) 1 && is_the_mark 94 (next t.rest).token) _ _ _ small.1) [
                      | inl raised ↦
                          let q = and_parts (eqb (length w) 1) (is_the_mark 94 (next t.rest).token) raised.0 in
                          let u = next (next t.rest).rest in
                          let d = c ++ (word w ∷ one (mark 94)) in
                          let st-1 = Leads-then s c t (word w ∷ one (mark 94)) u st (some_word_is t.token p.0, (mark_is 94 (next t.rest).token q.1, refl)) (tt, (tt, tt)) in
                          let spot : Here known an_exponent d = inr (w, p.1, eqb-true (length w) 1 q.0, fits, (c, here, refl)) in
                          elim (bind_err (exponent_at u) _ f raised.1) [
                            | inl early ↦ elim (exponent_refused u f early) [
                              | inl none ↦ refused_here s known an_exponent (Expected whats.Numeral) d u f st-1 spot (inl refl) (inr refl) (λ i. (i, none.0)) none.1
                              | inr big ↦ refused_here s known an_exponent ExponentTooLarge d u f st-1 spot (inl refl) (inr refl) (λ i. (big.0, big.1)) big.2
                            ]
                            | inr late ↦ absurd (never _ f late.2)
                          ]
                      | inr bare ↦ absurd (never _ f bare.1)
                    ]
                  ]
            ]
      ]

  -- ---- the loop over factors
  -- factors that lead from the start to a place, behind the = that ends c
  record Factored (known : Declarations) (c : List Token) (m : Monomial) (t : Place) : Type 0 where
    leads : Leads s (c ++ monomial_tokens m) t
    valid : ValidFactors known.letters m
    bare : (ends_in_letter m && is_the_mark 94 t.token) ≡ false

  abbrev EndOfFactors : Declarations → List Token → Result (Monomial × Place) Refusal → Type 0
  EndOfFactors known c r = LoopEnds Monomial Factor Monomial (λ y i. is_the_mark 42 i) (λ y t. factor_at known.letters (next t.rest)) (λ y t. Ok (y, t)) (Factored known c) r

  -- A factor that is read behind a * is one of them, and less is left.
  factors_kept : (known : Declarations) (c : List Token) (m : Monomial) (t : Place) (x : Factor) (u : Place) → Factored known c m t → Placed t → is_the_mark 42 t.token ≡ true → factor_at known.letters (next t.rest) ≡ Ok (x, u)
      → (u.left < t.left) × Placed u × Factored known c (product m x) u
  factors_kept known c m t x u k placed star e =
      let is = factor_found known.letters (next t.rest) (x, u) e in
      let here = mark_is 42 t.token star in
      let less = behind_mark t 42 (factor_tokens x) u placed here is.0 in (
        less.0,
        less.1,
        record {
          leads = subst (λ (y : List Token). Leads s y u) (append_assoc c (monomial_tokens m) (mark 42 ∷ factor_tokens x)) (Leads-then s (c ++ monomial_tokens m) t (mark 42 ∷ factor_tokens x) u k.leads (here, is.0) (tt, AreTokens-factor x));
          valid = (k.valid, is.1);
          bare = ap (λ (b : Bool). b && is_the_mark 94 u.token) (ends_by_factor m x) ∙ factor_ends known.letters (next t.rest) x u e;
        },
      )

  -- The loop over factors ends where one is refused, or where no * stands.
  factors_end : (known : Declarations) (c : List Token) (m : Monomial) (t : Place) (r : Result (Monomial × Place) Refusal) → Factored known c m t → Placed t → factors_at t.left known.letters m t ≡ r → EndOfFactors known c r
  factors_end known c m t r k placed e =
      loop_ends Monomial Factor Monomial (λ y i. is_the_mark 42 i) (λ y t. factor_at known.letters (next t.rest)) product (λ y t. Ok (y, t)) (factors_on known.letters) (factors_loop known.letters) (Factored known c)
      (λ y t x u kept placed goes e. factors_kept known c y t x u kept placed goes e) t.left m t r (omega arith) placed k e

  -- The first factor is one of them.
  first_factor : (known : Declarations) (c : List Token) (t : Place) (x : Factor) (u : Place) → Leads s c t → factor_at known.letters t ≡ Ok (x, u) → Factored known c (factor x) u
  first_factor known c t x u st e =
      let is = factor_found known.letters t (x, u) e in
      record {
        leads = Leads-then s c t (factor_tokens x) u st is.0 (AreTokens-factor x);
        valid = is.1;
        bare = ap (λ (b : Bool). b && is_the_mark 94 u.token) (ends_by_first x) ∙ factor_ends known.letters t x u e;
      }

  -- Factors behind the first are refused where one of them is.
  factors_caused : (known : Declarations) (c : List Token) (m : Monomial) (t : Place) (f : Refusal) → InNoether known [] c → Factored known c m t → Placed t → factors_at t.left known.letters m t ≡ Err f → Caused s f
  factors_caused known c m t f here k placed e =
      let end = factors_end known c m t (Err f) k placed e in
      let q = end.place in
      let read = c ++ monomial_tokens end.so_far in
      let comes : BeforeFactor known (read ++ one (mark 42)) = inr (end.so_far, end.kept.valid, subst (InNoether known (monomial_tokens end.so_far ++ one (mark 42))) (sym (append_assoc c (monomial_tokens end.so_far) (one (mark 42)))) (behind_on (word (codes "noether") ∷ one (mark 61)) c (monomial_tokens end.so_far ++ one (mark 42)) here)) in
      elim end.ended [
        | inl refused ↦
            factor_caused known (read ++ one (mark 42)) (next q.rest) f (Leads-then s read q (one (mark 42)) (next q.rest) end.kept.leads (mark_is 42 q.token refused.0, refl) (tt, tt)) comes
            (refused.2 ∙ ap (λ (z : Refusal). Err z) (sym (err_is {A = Monomial × Place} f refused.1 refused.3)))
        | inr stopped ↦ absurd (never _ f stopped.1)
      ]

  -- The monomial is refused where a factor is.
  monomial_caused : (known : Declarations) (c : List Token) (t : Place) (f : Refusal) → InNoether known [] c → Leads s c t → Placed t → monomial_at known.letters t ≡ Err f → Caused s f
  monomial_caused known c t f here st placed e = elim (bind_err (factor_at known.letters t) _ f e) [
    | inl early ↦ factor_caused known c t f st (inl here) early
    | inr late ↦
        let x = late.0 in
        let is = factor_found known.letters t x late.1 in
        let there = stand_placed t (factor_tokens x.0) x.1 placed is.0 in
        factors_caused known c (factor x.0) x.1 f here (first_factor known c t x.0 x.1 st late.1) there.1 late.2
  ]

  -- A monomial that is read is made of factors, and no * is behind it.
  monomial_kept : (known : Declarations) (c : List Token) (t : Place) (m : Monomial × Place) → Leads s c t → Placed t → monomial_at known.letters t ≡ Ok m → Factored known c m.0 m.1 × (is_the_mark 42 m.1.token ≡ false)
  monomial_kept known c t m st placed e =
      let a = bind_ok (factor_at known.letters t) _ m e in
      let x = a.0 in
      let is = factor_found known.letters t x a.1 in
      let there = stand_placed t (factor_tokens x.0) x.1 placed is.0 in
      let end = factors_end known c (factor x.0) x.1 (Ok m) (first_factor known c t x.0 x.1 st a.1) there.1 a.2 in
      elim end.ended [
        | inl refused ↦ absurd (never m refused.1 refused.3)
        | inr stopped ↦
            let same : (end.so_far, end.place) ≡ m = ok_is (end.so_far, end.place) m stopped.1 in
            subst (λ (y : Monomial × Place). Factored known c y.0 y.1 × (is_the_mark 42 y.1.token ≡ false)) same (end.kept, stopped.0)
      ]

  -- ---- the degree
  -- A refusal at the first token of a monomial that is read whole names that place and no other kind.
  late_caused : {A : Type 0} (known : Declarations) (c : List Token) (t : Place) (kind : ReadKind) (m : Monomial) (u : Place) (f : Refusal) → Leads s c t → Stand t (monomial_tokens m) u → ((w : List ℕ) → kind_at (word w) kind ≡ kind) → IsLateCause kind known c t
      → refused {A = A} t kind ≡ Err f → Caused s f
  late_caused {A} known c t kind m u f st stand plain cause e =
      let first = first_word m in
      let at : Stand t (word first.0 ∷ first.1) u = subst (λ (x : List Token). Stand t x u) (sym first.2) stand in
      record {
        before = c;
        place = t;
        kind = kind;
        stand = st;
        is = sym (err_is {A = A} (refusal_at t (kind_at t.token kind)) f e) ∙ ap (λ (k : ReadKind). refusal_at t k) (ap (λ (i : Token). kind_at i kind) at.0 ∙ plain first.0);
        cause = (known, inr cause);
      }

  -- Behind a monomial that is read whole, its degree is refused, or what is no ;.
  degree_caused : {A : Type 0} (known : Declarations) (c : List Token) (t : Place) (m : Monomial) (u : Place) (f : Refusal) (made : Place → A) → Leads s c t → InNoether known [] c → Factored known c m u → is_the_mark 42 u.token ≡ false
      → cond (eqb (degree_of m) 0 || nat_lt 255 (degree_of m)) (refused t NoetherDegree) (cond (nat_lt 4096 (monomial_count (length known.letters) (degree_of m))) (refused t (TooManyMonomials (monomial_count (length known.letters) (degree_of m)))) (mark_at 59 whats.Operator u >>= λ after. Ok (made after))) ≡ Err f
      → Caused s f
  unfolding mark_at
  degree_caused {A} known c t m u f made st here k star e =
      let stand = stand_behind s c t (monomial_tokens m) u st.0 k.leads.0 in
      let whole : IsWholeMonomial known c t m = record { here = here; behind = u; stand = stand; valid = k.valid; no_factor = star; no_exponent = k.bare } in
      let d = degree_of m in
      let n = monomial_count (length known.letters) d in
      elim (chosen (eqb d 0 || nat_lt 255 d) _ _ _ e) [
        | inl wrong ↦ elim (or_cases (eqb d 0) (nat_lt 255 d) wrong.0) [
          | inl zero ↦ late_caused {A = A} known c t NoetherDegree m u f st stand (λ w. refl) (m, whole, inl (eqb-true d 0 zero)) wrong.1
          | inr large ↦ late_caused {A = A} known c t NoetherDegree m u f st stand (λ w. refl) (m, whole, inr (ltb-true 255 d large)) wrong.1
        ]
        | inr right ↦
            let p = or_parts (eqb d 0) (nat_lt 255 d) right.0 in
            let some : 1 ≤ d = omega (arith, eqb-false d 0 p.0) in
            let few : d ≤ 255 = ltb-false 255 d p.1 in
            elim (chosen (nat_lt 4096 n) _ _ _ right.1) [
              | inl many ↦ late_caused {A = A} known c t (TooManyMonomials n) m u f st stand (λ w. refl) (m, whole, some, few, refl, ltb-true 4096 n many.0) many.1
              | inr fits ↦ elim (bind_err (mark_at 59 whats.Operator u) _ f fits.1) [
                | inl early ↦ elim (chosen (is_the_mark 59 u.token) _ _ _ early) [
                  | inl yea ↦ absurd (never _ f yea.1)
                  | inr nay ↦
                      refused_here s known behind_monomial (Expected whats.Operator) (c ++ monomial_tokens m) u f k.leads
                      (m, record { factors = k.valid; degree = (some, few); count = ltb-false 4096 n fits.0 }, behind_on (word (codes "noether") ∷ one (mark 61)) c (monomial_tokens m) here) (inl refl) (inr refl) (λ i. (i, (star, nay.0))) nay.1
                ]
                | inr late ↦ absurd (never _ f late.2)
              ]
            ]
      ]

  -- The noether statement is refused where its = is, a factor, the degree, or the end.
  pub noether_caused : (known : Declarations) (c : List Token) (t : Place) (f : Refusal) → Behind (BeforeNoether known) (one (word (codes "noether"))) c → Leads s c t → noether_at known.letters t ≡ Err f → Caused s f
  unfolding noether_at
  noether_caused known c t f b st e = elim (mark_or s known 61 whats.Equals c t _ f st (of_noether c b) (λ no. (refl, no)) e) [
    | inl done ↦ done
    | inr a ↦
        let d = c ++ one (mark 61) in
        let start = next t.rest in
        let here : InNoether known [] d = behind_on (one (word (codes "noether"))) c (one (mark 61)) b in
        elim (bind_err (monomial_at known.letters start) _ f a.1) [
          | inl early ↦ monomial_caused known d start f here a.0 (next_placed t.rest) early
          | inr late ↦
              let m = late.0 in
              let q = monomial_kept known d start m a.0 (next_placed t.rest) late.1 in
              degree_caused known d start m.0 m.1 f (λ after. (m.0, after)) a.0 here q.0 q.1 late.2
        ]
  ]
