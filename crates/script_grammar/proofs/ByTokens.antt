-- What is read depends on the tokens up to the next one alone, and a refusal on those up to where it is known.
-- One record says both of a reader, and what the tokens before a refusal begin; then readers are put together.
use Rattle.std.proofs.Common.{◌≡◌, ℕ, ◌<◌, Bool, true, false, cond, List, [], ◌∷◌, ◌++◌, Result, Ok, Err, refl, sym, ap, subst, ◌∙◌, inl, inr, arith, ◌⊎◌}
use Rattle.script_grammar.specs.declared.refusal.Refusal.{Refusal}
use Rattle.script_grammar.specs.declared.refusal.ReadKind.{ReadKind}
use Rattle.script_grammar.specs.Tokens.{Token, Place, next}
use Rattle.script_grammar.specs.Trees.{one}
use Rattle.script_grammar.specs.Steps.{refused, kind_at}
use Rattle.script_grammar.specs.Valid.{Stand}
use Rattle.script_grammar.specs.First.{refusal_at}
use Rattle.script_grammar.specs.Places.{Placed}
use Rattle.script_grammar.proofs.Places.{next_is, next_placed}
use Rattle.script_grammar.proofs.Steps.{chosen, ok_is, err_is, never, Stand-then}

abbrev pub Reader : Type 0 → Type 0
Reader A = Place → Result (A × Place) Refusal

-- any token
abbrev pub Any : Token → Type 0
Any token = Unit {0}

-- x was read from t on: where the same tokens and the same next one stand, x is read again
pub record ReadsSo (A : Type 0) (R : Place → Result (A × Place) Refusal) (N : A → List Token → Type 0) (t : Place) (x : A) (u : Place) : Type 0 where
  pub tokens : List Token
  pub stand : Stand t tokens u
  pub spells : N x tokens
  pub again : (s v : Place) → Placed s → Stand s tokens v → v.token ≡ u.token → R s ≡ Ok (x, v)

-- Something was refused at a place, and that was known at the same or a later one. The tokens before begin what
-- N says; where the same tokens stand, the same is refused. P says what may stand from the one to the other.
pub record RefusesSo (P : ReadKind → List Token → Type 0) (A : Type 0) (R : Place → Result (A × Place) Refusal) (N : A → List Token → Type 0) (t : Place) (f : Refusal) : Type 0 where
  pub before : List Token
  pub place : Place
  pub between : List Token
  pub at : Place
  pub kind : ReadKind
  pub to_place : Stand t before place
  pub to_at : Stand place between at
  pub is : f ≡ refusal_at place kind
  pub near : (between ≡ []) ⊎ P kind between
  pub begun : (x : A) × (more : List Token) × N x (before ++ more)
  pub again : (s p v : Place) → Placed s → Stand s before p → Stand p between v → v.token ≡ at.token → R s ≡ Err (refusal_at p kind)

-- So it is wherever fewer than n bytes are left, the next token is one of W, and N says what tokens spell what is read.
pub record Local (P : ReadKind → List Token → Type 0) (A : Type 0) (n : ℕ) (W : Token → Type 0) (R : Place → Result (A × Place) Refusal) (N : A → List Token → Type 0) : Type 0 where
  pub some : (x : A) × (tokens : List Token) × N x tokens
  pub reads : (t : Place) (x : A) (u : Place) → t.left < n → Placed t → W t.token → R t ≡ Ok (x, u) → ReadsSo A R N t x u
  pub refuses : (t : Place) (f : Refusal) → t.left < n → Placed t → W t.token → R t ≡ Err f → RefusesSo P A R N t f

-- another reader that reads the same, or refuses it
reads_by : {A : Type 0} {R S : Reader A} {N : A → List Token → Type 0} {t : Place} {x : A} {u : Place} (r : ReadsSo A R N t x u)
    → ((s v : Place) → Placed s → Stand s r.tokens v → v.token ≡ u.token → S s ≡ Ok (x, v)) → ReadsSo A S N t x u
reads_by r again = record { tokens = r.tokens; stand = r.stand; spells = r.spells; again = again }

-- A reader that refuses the same refuses so for the same tokens.
pub refuses_by : {P : ReadKind → List Token → Type 0} {A : Type 0} {R S : Reader A} {N : A → List Token → Type 0} {t : Place} {f : Refusal} (r : RefusesSo P A R N t f)
    → ((s p v : Place) → Placed s → Stand s r.before p → Stand p r.between v → v.token ≡ r.at.token → S s ≡ Err (refusal_at p r.kind)) → RefusesSo P A S N t f
refuses_by r again = record {
  before = r.before;
  place = r.place;
  between = r.between;
  at = r.at;
  kind = r.kind;
  to_place = r.to_place;
  to_at = r.to_at;
  is = r.is;
  near = r.near;
  begun = r.begun;
  again = again;
}

-- the first of the tokens and the next one
pub same_head : (t s : Place) (tokens : List Token) (u v : Place) → Stand t tokens u → Stand s tokens v → v.token ≡ u.token → s.token ≡ t.token
same_head t s [] u v p q e = ap (λ (x : Place). x.token) q ∙ e ∙ sym (ap (λ (x : Place). x.token) p)
same_head t s (i ∷ tokens) u v p q e = q.0 ∙ sym p.0

-- The first of the tokens of two stretches is the same where they stand with the same next one.
same_front : (t s : Place) (a b : List Token) (m u k v : Place) → Stand t a m → Stand m b u → Stand s a k → Stand k b v → v.token ≡ u.token → s.token ≡ t.token
same_front t s a b m u k v p q r st e = same_head t s (a ++ b) u v (Stand-then t a m b u p q) (Stand-then s a k b v r st) e

-- What is read without a token depends on none.
pub local_done : {P : ReadKind → List Token → Type 0} {A : Type 0} {n : ℕ} {W : Token → Type 0} {N : A → List Token → Type 0} (x : A) → N x [] → Local P A n W (λ t. Ok (x, t)) N
local_done {P} {A} {n} {W} {N} x spelled = record {
  some = (x, [], spelled);
  reads = λ t y u le placed w e.
      let same : (x, t) ≡ (y, u) = ok_is (x, t) (y, u) e in
      let here : x ≡ y = ap (λ (p : A × Place). p.0) same in
      record {
        tokens = [];
        stand = ap (λ (p : A × Place). p.1) same;
        spells = subst (λ (a : A). N a []) here spelled;
        again = λ s v ps st h. ap (λ (a : A). Ok (a, s)) here ∙ ap (λ (b : Place). Ok (y, b)) st;
      };
  refuses = λ t f le placed w e. absurd (never (x, t) f e);
}

-- What refuses each token refuses by that token.
pub local_refuse : {P : ReadKind → List Token → Type 0} {A : Type 0} {n : ℕ} {W : Token → Type 0} {N : A → List Token → Type 0} (kind : ReadKind)
    → (x : A) × (tokens : List Token) × N x tokens → Local P A n W (λ t. refused t kind) N
local_refuse {P} {A} {n} {W} {N} kind some = record {
  some = some;
  reads = λ t x u le placed w e. absurd (never (x, u) (refusal_at t (kind_at t.token kind)) (sym e));
  refuses = λ t f le placed w e. record {
    before = [];
    place = t;
    between = [];
    at = t;
    kind = kind_at t.token kind;
    to_place = refl;
    to_at = refl;
    is = sym (err_is {A = A × Place} (refusal_at t (kind_at t.token kind)) f e);
    near = inl refl;
    begun = some;
    again = λ s p v ps st q h.
        let same : s.token ≡ t.token = ap (λ (x : Place). x.token) (st ∙ q) ∙ h in
        ap (λ (i : Token). Err (refusal_at s (kind_at i kind))) same ∙ ap (λ (x : Place). Err (refusal_at x (kind_at t.token kind))) st;
  };
}

-- other tokens, and another thing that is spelled
pub local_where : {P : ReadKind → List Token → Type 0} {A : Type 0} {n : ℕ} {V W : Token → Type 0} {R : Reader A} {N : A → List Token → Type 0} → ((i : Token) → W i → V i)
    → Local P A n V R N → Local P A n W R N
local_where to law = record { some = law.some; reads = λ t x u le placed w e. law.reads t x u le placed (to t.token w) e; refuses = λ t f le placed w e. law.refuses t f le placed (to t.token w) e }

-- What spells M spells N, if M says N.
pub local_to : {P : ReadKind → List Token → Type 0} {A : Type 0} {n : ℕ} {W : Token → Type 0} {R : Reader A} {M N : A → List Token → Type 0}
    → ((x : A) (a : List Token) → M x a → N x a) → Local P A n W R M → Local P A n W R N
local_to to law = record {
  some = let s = law.some in (s.0, s.1, to s.0 s.1 s.2);
  reads = λ t x u le placed w e.
      let r = law.reads t x u le placed w e in
      record { tokens = r.tokens; stand = r.stand; spells = to x r.tokens r.spells; again = r.again };
  refuses = λ t f le placed w e.
      let r = law.refuses t f le placed w e in
      let b = r.begun in
      record { before = r.before; place = r.place; between = r.between; at = r.at; kind = r.kind; to_place = r.to_place; to_at = r.to_at; is = r.is; near = r.near; begun = (b.0, b.1, to b.0 (r.before ++ b.1) b.2); again = r.again };
}

-- two readers that agree
pub local_same : {P : ReadKind → List Token → Type 0} {A : Type 0} {n : ℕ} {W : Token → Type 0} {R S : Reader A} {N : A → List Token → Type 0}
    → ((t : Place) → Placed t → R t ≡ S t) → Local P A n W S N → Local P A n W R N
local_same same law = record {
  some = law.some;
  reads = λ t x u le placed w e.
      let r = law.reads t x u le placed w (sym (same t placed) ∙ e) in
      reads_by r (λ s v ps st h. same s ps ∙ r.again s v ps st h);
  refuses = λ t f le placed w e.
      let r = law.refuses t f le placed w (sym (same t placed) ∙ e) in
      refuses_by r (λ s p v ps st q h. same s ps ∙ r.again s p v ps st q h);
}

-- where no place is
pub local_nowhere : {P : ReadKind → List Token → Type 0} {A : Type 0} {W : Token → Type 0} {R : Reader A} {N : A → List Token → Type 0}
    → (x : A) × (tokens : List Token) × N x tokens → Local P A 0 W R N
local_nowhere some = record { some = some; reads = λ t x u le placed w e. absurd (omega arith); refuses = λ t f le placed w e. absurd (omega arith) }

-- one token, and what is read behind it
pub local_next : {P : ReadKind → List Token → Type 0} {A : Type 0} {n : ℕ} {W : Token → Type 0} {N : A → List Token → Type 0} (R : Reader A) → (x : A) × (tokens : List Token) × N x tokens
    → ((i : Token) → W i → Local P A n Any R (λ x b. N x (i ∷ b))) → Local P A n W (λ t. R (next t.rest)) N
local_next R some law = record {
  some = some;
  reads = λ t x u le placed w e.
      let b = next_is t.rest in
      let r = (law t.token w).reads (next t.rest) x u (omega (arith, b.within, placed.shorter)) (next_placed t.rest) tt e in
      record { tokens = t.token ∷ r.tokens; stand = (refl, r.stand); spells = r.spells; again = λ s v ps st h. r.again (next s.rest) v (next_placed s.rest) st.1 h };
  refuses = λ t f le placed w e.
      let b = next_is t.rest in
      let r = (law t.token w).refuses (next t.rest) f (omega (arith, b.within, placed.shorter)) (next_placed t.rest) tt e in
      record {
        before = t.token ∷ r.before;
        place = r.place;
        between = r.between;
        at = r.at;
        kind = r.kind;
        to_place = (refl, r.to_place);
        to_at = r.to_at;
        is = r.is;
        near = r.near;
        begun = r.begun;
        again = λ s p v ps st q h. r.again (next s.rest) p v (next_placed s.rest) st.1 q h;
      };
}

-- what is read by the next token
pub local_cases : {P : ReadKind → List Token → Type 0} {A : Type 0} {n : ℕ} {W : Token → Type 0} {N : A → List Token → Type 0} (F : Token → Reader A) → (x : A) × (tokens : List Token) × N x tokens
    → ((i : Token) → W i → Local P A n (λ j. j ≡ i) (F i) N) → Local P A n W (λ t. F t.token t) N
local_cases F some law = record {
  some = some;
  reads = λ t x u le placed w e.
      let r = (law t.token w).reads t x u le placed refl e in
      reads_by r (λ s v ps st h. ap (λ (i : Token). F i s) (same_head t s r.tokens u v r.stand st h) ∙ r.again s v ps st h);
  refuses = λ t f le placed w e.
      let r = (law t.token w).refuses t f le placed refl e in
      refuses_by r (λ s p v ps st q h. ap (λ (i : Token). F i s) (same_front t s r.before r.between r.place r.at p v r.to_place r.to_at st q h) ∙ r.again s p v ps st q h);
}

-- a value that the token has
pub local_value : {P : ReadKind → List Token → Type 0} {A : Type 0} {n : ℕ} {W : Token → Type 0} {N : A → List Token → Type 0} (v : Token → A) → (x : A) × (tokens : List Token) × N x tokens
    → ((i : Token) → W i → N (v i) (one i)) → Local P A n W (λ t. Ok (v t.token, next t.rest)) N
local_value {P} {A} {n} {W} {N} v some spelled =
    local_cases (λ i t. Ok (v i, next t.rest)) some (λ i w. local_next (λ t. Ok (v i, t)) some (λ j same. local_done (v i) (subst (λ (k : Token). N (v i) (one k)) (sym same) (spelled i w))))

-- a test of the next token, or one that doesn't look at it
if_true : {A : Type 0} (b : Bool) (x y : A) → b ≡ true → cond b x y ≡ x
if_true true x y h = refl
if_true false x y h = absurd cc

-- A test that fails goes the second way.
if_false : {A : Type 0} (b : Bool) (x y : A) → b ≡ false → cond b x y ≡ y
if_false false x y h = refl
if_false true x y h = absurd cc

-- A test of the next token goes one of two ways by that token.
pub local_if : {P : ReadKind → List Token → Type 0} {A : Type 0} {n : ℕ} {W : Token → Type 0} {N : A → List Token → Type 0} {R S : Reader A} (b : Token → Bool)
    → Local P A n (λ i. W i × (b i ≡ true)) R N → Local P A n (λ i. W i × (b i ≡ false)) S N
    → Local P A n W (λ t. cond (b t.token) (R t) (S t)) N
local_if {P} {A} {n} {W} {N} {R} {S} b good poor = record {
  some = good.some;
  reads = λ t x u le placed w e. elim (chosen (b t.token) (R t) (S t) (Ok (x, u)) e) [
    | inl yea ↦
        let r = good.reads t x u le placed (w, yea.0) yea.1 in
        reads_by r (λ s v ps st h. if_true (b s.token) (R s) (S s) (ap b (same_head t s r.tokens u v r.stand st h) ∙ yea.0) ∙ r.again s v ps st h)
    | inr nay ↦
        let r = poor.reads t x u le placed (w, nay.0) nay.1 in
        reads_by r (λ s v ps st h. if_false (b s.token) (R s) (S s) (ap b (same_head t s r.tokens u v r.stand st h) ∙ nay.0) ∙ r.again s v ps st h)
  ];
  refuses = λ t f le placed w e. elim (chosen (b t.token) (R t) (S t) (Err f) e) [
    | inl yea ↦
        let r = good.refuses t f le placed (w, yea.0) yea.1 in
        refuses_by r (λ s p v ps st q h. if_true (b s.token) (R s) (S s) (ap b (same_front t s r.before r.between r.place r.at p v r.to_place r.to_at st q h) ∙ yea.0) ∙ r.again s p v ps st q h)
    | inr nay ↦
        let r = poor.refuses t f le placed (w, nay.0) nay.1 in
        refuses_by r (λ s p v ps st q h. if_false (b s.token) (R s) (S s) (ap b (same_front t s r.before r.between r.place r.at p v r.to_place r.to_at st q h) ∙ nay.0) ∙ r.again s p v ps st q h)
  ];
}
