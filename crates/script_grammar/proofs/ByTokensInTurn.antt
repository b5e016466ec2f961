-- One reader after the other, and a test of what was read that names the first token.
-- The tokens of both are put together; where the second fails, those of the first stand before.
use Rattle.std.proofs.Common.{◌≡◌, ℕ, ◌<◌, Bool, true, false, cond, List, ◌∷◌, ◌++◌, Result, Ok, Err, refl, sym, ap, subst, ◌∙◌, arith, append_assoc}
use Rattle.std.proofs.lemmas.List.{append-nil}
use Rattle.script_grammar.specs.declared.refusal.Refusal.{Refusal}
use Rattle.script_grammar.specs.declared.refusal.ReadKind.{ReadKind}
use Rattle.script_grammar.specs.declared.refusal.What.{What}
use Rattle.script_grammar.specs.declared.refusal.ReadKind.TheVariants.{Expected}
use Rattle.script_grammar.specs.Tokens.{Token, Place, next, word, mark}
use Rattle.script_grammar.specs.Words.{is_the_mark, is_the_word}
use Rattle.script_grammar.specs.Steps.{◌>>=◌, wanted, mark_at, word_at}
use Rattle.script_grammar.specs.Valid.{Stand}
use Rattle.script_grammar.specs.Places.{Placed}
use Rattle.script_grammar.proofs.Places.{stand_placed}
use Rattle.script_grammar.proofs.Steps.{refusal, err_is, bind_ok, Stand-then, Stand-split, mark_is, word_is}
use Rattle.script_grammar.proofs.ByTokens.{Reader, Any, RefusesSo, Local, same_head, local_same, local_if, local_next, local_refuse, local_done}

-- What two readers refuse one after the other is refused by the first, or by the second behind what the first read.
then_refuses : {P : ReadKind → List Token → Type 0} {A B : Type 0} (n m : ℕ) (W : Token → Type 0) (R : Reader A) (L : A → List Token → Type 0) (S : A × Place → Result (B × Place) Refusal) (N : B → List Token → Type 0)
    → Local P A n W R L
    → ((x : A) (a : List Token) → L x a → Local P B m Any (λ u. S (x, u)) (λ y b. N y (a ++ b)))
    → ((t : Place) (x : A) (a : List Token) (u : Place) → t.left < n → Placed t → W t.token → L x a → Stand t a u → u.left < m)
    → (t : Place) (f : Refusal) → t.left < n → Placed t → W t.token → (r : Result (A × Place) Refusal) → R t ≡ r → (r >>= S) ≡ Err f → RefusesSo P B (λ s. R s >>= S) N t f
then_refuses {P} {A} {B} n m W R L S N first second fits t f le placed w (Ok a) was e =
    let p = first.reads t a.0 a.1 le placed w was in
    let kept = stand_placed t p.tokens a.1 placed p.stand in
    let q = (second a.0 p.tokens p.spells).refuses a.1 f (fits t a.0 p.tokens a.1 le placed w p.spells p.stand) kept.1 tt e in
    let z = q.begun in
    record {
      before = p.tokens ++ q.before;
      place = q.place;
      between = q.between;
      at = q.at;
      kind = q.kind;
      to_place = Stand-then t p.tokens a.1 q.before q.place p.stand q.to_place;
      to_at = q.to_at;
      is = q.is;
      near = q.near;
      begun = (z.0, z.1, subst (λ (l : List Token). N z.0 l) {x = p.tokens ++ (q.before ++ z.1)} {y = (p.tokens ++ q.before) ++ z.1} (sym (append_assoc p.tokens q.before z.1)) z.2);
      again = λ s o v ps st st-2 h.
          let k = Stand-split s p.tokens q.before o st in
          let mid = stand_placed s p.tokens k.0 ps k.1 in
          let same = same_head a.1 k.0 (q.before ++ q.between) q.at v (Stand-then a.1 q.before q.place q.between q.at q.to_place q.to_at) (Stand-then k.0 q.before o q.between v k.2 st-2) h in
          ap (λ (r : Result (A × Place) Refusal). r >>= S) (p.again s k.0 ps k.1 same) ∙ q.again k.0 o v mid.1 k.2 st-2 h;
    }
then_refuses {P} {A} {B} n m W R L S N first second fits t f le placed w (Err d) was e =
    let p = first.refuses t f le placed w (was ∙ ap (λ (x : Refusal). Err x) (err_is {A = B × Place} d f e)) in
    let x = p.begun in
    let y = (second x.0 (p.before ++ x.1) x.2).some in
    record {
      before = p.before;
      place = p.place;
      between = p.between;
      at = p.at;
      kind = p.kind;
      to_place = p.to_place;
      to_at = p.to_at;
      is = p.is;
      near = p.near;
      begun = (y.0, x.1 ++ y.1, subst (λ (l : List Token). N y.0 l) {x = (p.before ++ x.1) ++ y.1} {y = p.before ++ (x.1 ++ y.1)} (append_assoc p.before x.1 y.1) y.2);
      again = λ s o v ps st st-2 h. ap (λ (r : Result (A × Place) Refusal). r >>= S) (p.again s o v ps st st-2 h);
    }

-- one after the other, where fewer than m bytes are left behind the first
pub local_then_less : {P : ReadKind → List Token → Type 0} {A B : Type 0} {n m : ℕ} {W : Token → Type 0} {R : Reader A} {L : A → List Token → Type 0} {N : B → List Token → Type 0} (S : A × Place → Result (B × Place) Refusal)
    → Local P A n W R L
    → ((x : A) (a : List Token) → L x a → Local P B m Any (λ u. S (x, u)) (λ y b. N y (a ++ b)))
    → ((t : Place) (x : A) (a : List Token) (u : Place) → t.left < n → Placed t → W t.token → L x a → Stand t a u → u.left < m)
    → Local P B n W (λ t. R t >>= S) N
local_then_less {P} {A} {B} {n} {m} {W} {R} {L} {N} S first second fits = record {
  some = let x = first.some in let y = (second x.0 x.1 x.2).some in (y.0, x.1 ++ y.1, y.2);
  reads = λ t x u le placed w e.
      let a = bind_ok (R t) S (x, u) e in
      let p = first.reads t a.0.0 a.0.1 le placed w a.1 in
      let kept = stand_placed t p.tokens a.0.1 placed p.stand in
      let q = (second a.0.0 p.tokens p.spells).reads a.0.1 x u (fits t a.0.0 p.tokens a.0.1 le placed w p.spells p.stand) kept.1 tt a.2 in
      record {
        tokens = p.tokens ++ q.tokens;
        stand = Stand-then t p.tokens a.0.1 q.tokens u p.stand q.stand;
        spells = q.spells;
        again = λ s v ps st h.
            let k = Stand-split s p.tokens q.tokens v st in
            let mid = stand_placed s p.tokens k.0 ps k.1 in
            ap (λ (r : Result (A × Place) Refusal). r >>= S) (p.again s k.0 ps k.1 (same_head a.0.1 k.0 q.tokens u v q.stand k.2 h)) ∙ q.again k.0 v mid.1 k.2 h;
      };
  refuses = λ t f le placed w e. then_refuses n m W R L S N first second fits t f le placed w (R t) refl e;
}

-- one after the other
pub local_then : {P : ReadKind → List Token → Type 0} {A B : Type 0} {n : ℕ} {W : Token → Type 0} {R : Reader A} {L : A → List Token → Type 0} {N : B → List Token → Type 0} (S : A × Place → Result (B × Place) Refusal)
    → Local P A n W R L
    → ((x : A) (a : List Token) → L x a → Local P B n Any (λ u. S (x, u)) (λ y b. N y (a ++ b))) → Local P B n W (λ t. R t >>= S) N
local_then S first second = local_then_less S first second (λ t x a u le placed w l st. let kept = stand_placed t a u placed st in omega (arith, kept.0))

-- what was read, made into something else
pub local_map : {P : ReadKind → List Token → Type 0} {A B : Type 0} {n : ℕ} {W : Token → Type 0} {R : Reader A} {L : A → List Token → Type 0} {N : B → List Token → Type 0} (f : A → B)
    → Local P A n W R L → ((x : A) (a : List Token) → L x a → N (f x) a) → Local P B n W (λ t. R t >>= λ y. Ok (f y.0, y.1)) N
local_map {N = N} f law spells = local_then _ law (λ x a l. local_done (f x) (subst (λ (b : List Token). N (f x) b) (sym (append-nil a)) (spells x a l)))

-- one known token, and what is read behind it
pub local_behind : {P : ReadKind → List Token → Type 0} {A : Type 0} {n : ℕ} {W : Token → Type 0} {N : A → List Token → Type 0} {R : Reader A} (i : Token)
    → ((j : Token) → W j → j ≡ i) → Local P A n Any R (λ x b. N x (i ∷ b)) → Local P A n W (λ t. R (next t.rest)) N
local_behind {P} {A} {n} {W} {N} {R} i here law =
    local_next R (let s = law.some in (s.0, i ∷ s.1, s.2)) (λ j w. subst (λ (k : Token). Local P A n Any R (λ x b. N x (k ∷ b))) (sym (here j w)) law)

-- Steps of reading may be grouped in either way.
pub bind_assoc : {A B C : Type 0} (r : Result A Refusal) (f : A → Result B Refusal) (g : B → Result C Refusal) → (r >>= f >>= g) ≡ (r >>= λ x. f x >>= g)
bind_assoc (Ok x) f g = refl
bind_assoc (Err d) f g = refl

-- a test of one token before what is read on
pub cond_bind : {A B : Type 0} (b : Bool) (x : A) (f : Refusal) (S : A → Result B Refusal) → (cond b (Ok x) (Err f) >>= S) ≡ cond b (S x) (Err f)
cond_bind true x f S = refl
cond_bind false x f S = refl

-- the token that a test is for, and what is read behind it
pub local_token : {P : ReadKind → List Token → Type 0} {A : Type 0} {n : ℕ} {W : Token → Type 0} {N : A → List Token → Type 0} {R : Reader A} (test : Token → Bool) (i : Token) (what : What)
    → ((j : Token) → test j ≡ true → j ≡ i) → Local P A n Any R (λ x b. N x (i ∷ b))
    → Local P A n W (λ t. cond {A = Result Place Refusal} (test t.token) (Ok (next t.rest)) (wanted t what) >>= R) N
local_token {R = R} test i what is law =
    local_same (λ t placed. cond_bind (test t.token) (next t.rest) (refusal t (Expected what)) R)
    (local_if test (local_behind i (λ j w. is j w.1) law) (local_refuse (Expected what) (let s = law.some in (s.0, i ∷ s.1, s.2))))

-- a mark, and what is read behind it
pub local_mark : {P : ReadKind → List Token → Type 0} {A : Type 0} {n : ℕ} {W : Token → Type 0} {N : A → List Token → Type 0} {R : Reader A} (m : ℕ) (what : What)
    → Local P A n Any R (λ x b. N x (mark m ∷ b)) → Local P A n W (λ t. mark_at m what t >>= R) N
unfolding mark_at
local_mark m what law = local_token (is_the_mark m) (mark m) what (mark_is m) law

-- a word, and what is read behind it
pub local_word : {P : ReadKind → List Token → Type 0} {A : Type 0} {n : ℕ} {W : Token → Type 0} {N : A → List Token → Type 0} {R : Reader A} (v : List ℕ) (what : What)
    → Local P A n Any R (λ x b. N x (word v ∷ b)) → Local P A n W (λ t. word_at v what t >>= R) N
unfolding word_at
local_word v what law = local_token (is_the_word v) (word v) what (word_is v) law
