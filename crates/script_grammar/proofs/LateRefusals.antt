-- Refusals that are known at a later token than the one that they name, as that of a degree.
-- A test of what was read refuses at the first token of it; what passes the test is read on.
use Rattle.std.proofs.Common.{◌≡◌, ℕ, ◌<◌, List, [], ◌∷◌, Option, Some, None, Result, Ok, Err, refl, sym, ap, subst, ◌∙◌, inr}
use Rattle.script_grammar.specs.declared.refusal.Refusal.{Refusal}
use Rattle.script_grammar.specs.declared.refusal.ReadKind.{ReadKind}
use Rattle.script_grammar.specs.Tokens.{Token, Place}
use Rattle.script_grammar.specs.Steps.{◌>>=◌, refused, kind_at}
use Rattle.script_grammar.specs.Valid.{Stand}
use Rattle.script_grammar.specs.First.{refusal_at}
use Rattle.script_grammar.specs.Places.{Placed}
use Rattle.script_grammar.proofs.Steps.{ok_is, err_is, bind_ok}
use Rattle.script_grammar.proofs.ByTokens.{Reader, ReadsSo, RefusesSo, Local, refuses_by, same_head}

-- what was read, unless a test refuses it at its first token
abbrev pub tested : {A : Type 0} → Place → A × Place → Option ReadKind → Result (A × Place) Refusal
tested t x None = Ok x
tested t x (Some kind) = refused t kind

-- the first token is there, and what it makes of the kind goes with the tokens
abbrev pub LateAt : (ReadKind → List Token → Type 0) → List Token → ReadKind → Type 0
LateAt P [] kind = ⊥
LateAt P (i ∷ tokens) kind = P (kind_at i kind) (i ∷ tokens)

-- What holds of a refusal at the first token holds at the place where the tokens stand.
late_at : (P : ReadKind → List Token → Type 0) (t : Place) (tokens : List Token) (u : Place) (kind : ReadKind) → Stand t tokens u → LateAt P tokens kind → P (kind_at t.token kind) tokens
late_at P t [] u kind st h = absurd h
late_at P t (i ∷ tokens) u kind st h = subst (λ (j : Token). P (kind_at j kind) (i ∷ tokens)) (sym st.0) h

-- What passes a late test is read by the same tokens.
tested_reads : {P : ReadKind → List Token → Type 0} {A : Type 0} (n : ℕ) (W : Token → Type 0) (R : Reader A) (N : A → List Token → Type 0) (test : A → Option ReadKind) → Local P A n W R N
    → (t : Place) (a x : A) (m u : Place) → t.left < n → Placed t → W t.token → R t ≡ Ok (a, m) → (o : Option ReadKind) → test a ≡ o → tested t (a, m) o ≡ Ok (x, u)
    → ReadsSo A (λ s. R s >>= λ y. tested s y (test y.0)) N t x u
tested_reads n W R N test law t a x m u le placed w was (Some kind) is e = absurd cc
tested_reads {P} {A} n W R N test law t a x m u le placed w was None is e =
    let r = law.reads t a m le placed w was in
    let same : (a, m) ≡ (x, u) = ok_is (a, m) (x, u) e in
    let there : m ≡ u = ap (λ (p : A × Place). p.1) same in
    let here : a ≡ x = ap (λ (p : A × Place). p.0) same in
    record {
      tokens = r.tokens;
      stand = subst (λ (y : Place). Stand t r.tokens y) there r.stand;
      spells = subst (λ (y : A). N y r.tokens) here r.spells;
      again = λ s v ps st h.
          ap (λ (q : Result (A × Place) Refusal). q >>= λ y. tested s y (test y.0)) (r.again s v ps st (h ∙ sym (ap (λ (y : Place). y.token) there)))
          ∙ ap (λ (o : Option ReadKind). tested s (a, v) o) is ∙ ap (λ (b : A). Ok (b, v)) here;
    }

-- What fails a late test is refused at its first token, by the tokens up to its end.
tested_refuses : {P : ReadKind → List Token → Type 0} {A : Type 0} (n : ℕ) (W : Token → Type 0) (R : Reader A) (N : A → List Token → Type 0) (test : A → Option ReadKind)
    → Local P A n W R N → ((x : A) (tokens : List Token) (kind : ReadKind) → N x tokens → test x ≡ Some kind → LateAt P tokens kind)
    → (t : Place) (a : A) (m : Place) (f : Refusal) → t.left < n → Placed t → W t.token → R t ≡ Ok (a, m) → (o : Option ReadKind) → test a ≡ o → tested t (a, m) o ≡ Err f
    → RefusesSo P A (λ s. R s >>= λ y. tested s y (test y.0)) N t f
tested_refuses n W R N test law late t a m f le placed w was None is e = absurd cc
tested_refuses {P} {A} n W R N test law late t a m f le placed w was (Some kind) is e =
    let r = law.reads t a m le placed w was in
    record {
      before = [];
      place = t;
      between = r.tokens;
      at = m;
      kind = kind_at t.token kind;
      to_place = refl;
      to_at = r.stand;
      is = sym (err_is {A = A × Place} (refusal_at t (kind_at t.token kind)) f e);
      near = inr (late_at P t r.tokens m kind r.stand (late a r.tokens kind r.spells is));
      begun = law.some;
      again = λ s p v ps st q h.
          let q-s = subst (λ (y : Place). Stand y r.tokens v) (sym st) q in
          ap (λ (x : Result (A × Place) Refusal). x >>= λ y. tested s y (test y.0)) (r.again s v ps q-s h)
          ∙ ap (λ (o : Option ReadKind). tested s (a, v) o) is
          ∙ ap (λ (y : Place). Err (refusal_at y (kind_at y.token kind))) st
          ∙ ap (λ (i : Token). Err (refusal_at p (kind_at i kind))) (same_head t p r.tokens m v r.stand q h);
    }

-- A reader with a late test refuses where the reader does, or where the test does.
late_refuses : {P : ReadKind → List Token → Type 0} {A : Type 0} (n : ℕ) (W : Token → Type 0) (R : Reader A) (N : A → List Token → Type 0) (test : A → Option ReadKind)
    → Local P A n W R N → ((x : A) (tokens : List Token) (kind : ReadKind) → N x tokens → test x ≡ Some kind → LateAt P tokens kind)
    → (t : Place) (f : Refusal) → t.left < n → Placed t → W t.token → (r : Result (A × Place) Refusal) → R t ≡ r → (r >>= λ y. tested t y (test y.0)) ≡ Err f
    → RefusesSo P A (λ s. R s >>= λ y. tested s y (test y.0)) N t f
late_refuses n W R N test law late t f le placed w (Ok x) was e = tested_refuses n W R N test law late t x.0 x.1 f le placed w was (test x.0) refl e
late_refuses {P} {A} n W R N test law late t f le placed w (Err d) was e =
    let r = law.refuses t f le placed w (was ∙ ap (λ (y : Refusal). Err y) (err_is {A = A × Place} d f e)) in
    refuses_by r (λ s p v ps st q h. ap (λ (x : Result (A × Place) Refusal). x >>= λ y. tested s y (test y.0)) (r.again s p v ps st q h))

-- what was read, if it passes the test
pub late_test : {P : ReadKind → List Token → Type 0} {A : Type 0} {n : ℕ} {W : Token → Type 0} {R : Reader A} {N : A → List Token → Type 0} (test : A → Option ReadKind)
    → Local P A n W R N → ((x : A) (tokens : List Token) (kind : ReadKind) → N x tokens → test x ≡ Some kind → LateAt P tokens kind)
    → Local P A n W (λ t. R t >>= λ y. tested t y (test y.0)) N
late_test {P} {A} {n} {W} {R} {N} test law late = record {
  some = law.some;
  reads = λ t x u le placed w e.
      let a = bind_ok (R t) (λ y. tested t y (test y.0)) (x, u) e in
      tested_reads n W R N test law t a.0.0 x a.0.1 u le placed w a.1 (test a.0.0) refl a.2;
  refuses = λ t f le placed w e. late_refuses n W R N test law late t f le placed w (R t) refl e;
}

-- a late test, and what is read behind it
pub late_split : {A B : Type 0} (t : Place) (r : Result (A × Place) Refusal) (test : A → Option ReadKind) (S f : A × Place → Result (B × Place) Refusal)
    → ((x : A × Place) → f x ≡ (tested t x (test x.0) >>= S))
    → (r >>= f) ≡ (r >>= (λ y. tested t y (test y.0)) >>= S)
late_split t (Ok x) test S f same = same x
late_split t (Err d) test S f same = refl
