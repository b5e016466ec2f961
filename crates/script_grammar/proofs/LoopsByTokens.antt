-- A loop that reads items as long as the next token begins one: what it reads depends on the tokens alone.
-- How many turns it has doesn't matter where they are enough; so one turn can be taken off, and induction goes by the bytes left.
use Rattle.std.proofs.Common.{◌≡◌, ℕ, zero, suc, ◌≤◌, ◌<◌, Bool, true, false, cond, List, [], ◌∷◌, ◌++◌, Result, Ok, Err, refl, sym, ap, ◌∙◌, arith}
use Rattle.script_grammar.specs.declared.refusal.Refusal.{Refusal}
use Rattle.script_grammar.specs.declared.refusal.ReadKind.{ReadKind}
use Rattle.script_grammar.specs.Tokens.{Token, Place}
use Rattle.script_grammar.specs.Steps.{◌>>=◌}
use Rattle.script_grammar.specs.Valid.{Stand}
use Rattle.script_grammar.specs.Places.{is_last, Placed}
use Rattle.script_grammar.proofs.Places.{stand_placed, stand_less}
use Rattle.script_grammar.proofs.ByTokens.{Reader, Any, Local, local_same, local_if, local_where, local_to, local_nowhere}
use Rattle.script_grammar.proofs.ByTokensInTurn.{local_then_less}

abbrev pub NotEmpty : List Token → Type 0
NotEmpty [] = ⊥
NotEmpty (i ∷ tokens) = Unit {0}

-- one turn, with what reads on behind it
abbrev turn : {S E A : Type 0} → (S → Token → Bool) → (S → Place → Result (E × Place) Refusal) → (S → E → S) → (S → Place → Result (A × Place) Refusal) → (S → Place → Result (A × Place) Refusal) → S → Reader A
turn test item add stop on y t = cond (test y t.token) (item y t >>= λ e. on (add y e.0) e.1) (stop y t)

-- a loop with so many turns: it goes on where the test says so, and stops otherwise
pub record IsLoop (S E A : Type 0) (test : S → Token → Bool) (item : S → Place → Result (E × Place) Refusal) (add : S → E → S) (stop : S → Place → Result (A × Place) Refusal) (loop : ℕ → S → Place → Result (A × Place) Refusal) : Type 0 where
  pub step : (n : ℕ) (y : S) (t : Place) → loop (suc n) y t ≡ cond (test y t.token) (item y t >>= λ e. loop n (add y e.0) e.1) (stop y t)
  pub base : (y : S) (t : Place) → test y t.token ≡ false → loop zero y t ≡ stop y t
  pub over : (y : S) (i : Token) → is_last i ≡ true → test y i ≡ false

-- its parts are local, each item takes a token, and what is spelled is put together
pub record LocalParts (P : ReadKind → List Token → Type 0) (S E A : Type 0) (test : S → Token → Bool) (item : S → Place → Result (E × Place) Refusal) (add : S → E → S) (stop : S → Place → Result (A × Place) Refusal) (Good : S → Type 0) (G : S → E → List Token → Type 0) (L : S → A → List Token → Type 0) : Type 0 where
  pub items : (n : ℕ) (y : S) → Good y → Local P E n (λ i. test y i ≡ true) (item y) (G y)
  pub takes : (y : S) (e : E) (tokens : List Token) → G y e tokens → NotEmpty tokens
  pub keeps : (y : S) (e : E) (tokens : List Token) → Good y → G y e tokens → Good (add y e)
  pub stops : (n : ℕ) (y : S) → Good y → Local P A n (λ i. test y i ≡ false) (stop y) (L y)
  pub more : (y : S) (e : E) (a : List Token) (x : A) (b : List Token) → G y e a → L (add y e) x b → L y x (a ++ b)

-- What reads on in two ways that agree on what was read gives the same.
bind_same : {A B : Type 0} (r : Result (A × Place) Refusal) (f g : A × Place → Result (B × Place) Refusal) → ((a : A) (m : Place) → r ≡ Ok (a, m) → f (a, m) ≡ g (a, m)) → (r >>= f) ≡ (r >>= g)
bind_same (Ok x) f g same = same x.0 x.1 refl
bind_same (Err d) f g same = refl

-- Two tests agree where their first ways do.
if_same : {A : Type 0} (b : Bool) (x y z : A) → (b ≡ true → x ≡ y) → cond b x z ≡ cond b y z
if_same true x y z h = h refl
if_same false x y z h = refl

-- true isn't false.
never_so : true ≡ false → ⊥
never_so e = cc

-- behind an item less is left
not_last : (b : Bool) → (b ≡ true → ⊥) → b ≡ false
not_last true h = absurd (h refl)
not_last false h = refl

-- Behind tokens, of which there are some, less is left.
less_behind : (t : Place) (tokens : List Token) (u : Place) → Placed t → is_last t.token ≡ false → NotEmpty tokens → Stand t tokens u → u.left < t.left
less_behind t [] u placed some h st = absurd h
less_behind t (i ∷ tokens) u placed some h st = let r = stand_less t i tokens u placed some st in r.0

module _ (P : ReadKind → List Token → Type 0) (S E A : Type 0) (test : S → Token → Bool) (item : S → Place → Result (E × Place) Refusal) (add : S → E → S) (stop : S → Place → Result (A × Place) Refusal) (loop : ℕ → S → Place → Result (A × Place) Refusal) (Good : S → Type 0) (G : S → E → List Token → Type 0) (L : S → A → List Token → Type 0)
    (is : IsLoop S E A test item add stop loop) (parts : LocalParts P S E A test item add stop Good G L) where
  -- Where the loop goes on, the end doesn't stand.
  going : (y : S) (t : Place) → Placed t → test y t.token ≡ true → is_last t.token ≡ false
  going y t placed goes = not_last (is_last t.token) (λ last. never_so (sym goes ∙ is.over y t.token last))

  -- Behind an item less is left, and what is kept is kept.
  less : (y : S) (t : Place) (e : E) (u : Place) → Good y → Placed t → test y t.token ≡ true → item y t ≡ Ok (e, u) → (u.left < t.left) × Placed u × Good (add y e)
  less y t e u good placed goes reads =
      let r = (parts.items (suc t.left) y good).reads t e u (omega arith) placed goes reads in
      (less_behind t r.tokens u placed (going y t placed goes) (parts.takes y e r.tokens r.spells) r.stand, (stand_placed t r.tokens u placed r.stand).1, parts.keeps y e r.tokens good r.spells)

  -- Two turns agree where they go on in the same way with less left.
  turn_same : (on other : S → Place → Result (A × Place) Refusal) (y : S) (t : Place) → Good y → Placed t → ((x : S) (u : Place) → Good x → u.left < t.left → Placed u → on x u ≡ other x u)
      → turn test item add stop on y t ≡ turn test item add stop other y t
  turn_same on other y t good placed same =
      if_same (test y t.token) (item y t >>= λ e. on (add y e.0) e.1) (item y t >>= λ e. other (add y e.0) e.1) (stop y t) (λ goes.
      bind_same (item y t) (λ e. on (add y e.0) e.1) (λ e. other (add y e.0) e.1) (λ a m e. let b = less y t a m good placed goes e in same (add y a) m b.2 b.0 b.1))

  -- Where the test fails, the loop stops, however many turns it has.
  stops_here : (n : ℕ) (y : S) (t : Place) → test y t.token ≡ false → loop n y t ≡ stop y t
  stops_here zero y t ends = is.base y t ends
  stops_here (suc n) y t ends = is.step n y t ∙ ap (λ (b : Bool). cond b (item y t >>= λ e. loop n (add y e.0) e.1) (stop y t)) ends

  -- Where nothing is left, the test fails.
  nothing_left : (y : S) (t : Place) → Placed t → t.left ≤ 0 → test y t.token ≡ false
  nothing_left y t placed le = is.over y t.token (placed.ends (omega arith))

  -- Two loops with enough turns are the same.
  enough : (n m : ℕ) (y : S) (t : Place) → Good y → t.left ≤ n → t.left ≤ m → Placed t → loop n y t ≡ loop m y t
  enough zero m y t good p q placed = let ends = nothing_left y t placed p in stops_here zero y t ends ∙ sym (stops_here m y t ends)
  enough (suc n) zero y t good p q placed = let ends = nothing_left y t placed q in stops_here (suc n) y t ends ∙ sym (stops_here zero y t ends)
  enough (suc n) (suc m) y t good p q placed =
      is.step n y t ∙ turn_same (loop n) (loop m) y t good placed (λ x u fine few kept. enough n m x u fine (omega arith) (omega arith) kept) ∙ sym (is.step m y t)

  -- the loop with as many turns as bytes are left
  full : S → Reader A
  full y t = loop t.left y t

  -- The full loop is one turn, and then the full loop.
  full_turn : (y : S) → Good y → (t : Place) → Placed t → full y t ≡ turn test item add stop full y t
  unfolding full
  full_turn y good t placed =
      enough t.left (suc t.left) y t good (omega arith) (omega arith) placed ∙ is.step t.left y t
      ∙ turn_same (loop t.left) (λ x u. loop u.left x u) y t good placed (λ x u fine few kept. enough t.left u.left x u fine (omega arith) (omega arith) kept)

  -- The full loop reads, or refuses, by the tokens.
  full_local : (n : ℕ) (y : S) → Good y → Local P A n Any (full y) (L y)
  full_local zero y good = local_nowhere (parts.stops 0 y good).some
  full_local (suc n) y good =
      local_same (full_turn y good) (local_if (test y)
      (local_where (λ i w. w.1) (local_then_less (λ e. full (add y e.0) e.1) (parts.items (suc n) y good)
      (λ e a g. local_to (λ x b l. parts.more y e a x b g l) (full_local n (add y e) (parts.keeps y e a good g)))
      (λ t e a u le placed goes g st. let b = less_behind t a u placed (going y t placed goes) (parts.takes y e a g) st in omega (arith, b))))
      (local_where (λ i w. w.1) (parts.stops (suc n) y good)))

  -- begun with as many turns as bytes are left
  pub local_loop : {n : ℕ} {W : Token → Type 0} (y : S) → Good y → Local P A n W (λ t. loop t.left y t) (L y)
  unfolding full
  local_loop {n} y good = local_where (λ i w. tt) (full_local n y good)
