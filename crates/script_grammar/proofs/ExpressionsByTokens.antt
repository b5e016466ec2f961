-- Expressions: what is read and what is refused depends on the tokens alone, and what stands before a refusal begins a valid one.
-- Powers, terms and sums, with two loops; then parentheses, by induction on how many more may be open.
use Rattle.std.proofs.Common.{◌≡◌, ℕ, zero, suc, ◌<◌, Bool, true, false, cond, ◌&&◌, ◌||◌, List, [], ◌∷◌, ◌++◌, Result, Ok, Err, refl, sym, ap, subst, ◌∙◌, append_assoc}
use Rattle.std.proofs.lemmas.Bool.{and_parts}
use Rattle.std.proofs.lemmas.List.{append-nil}
use Rattle.script_grammar.specs.declared.refusal.Refusal.{Refusal}
use Rattle.script_grammar.specs.declared.refusal.ReadKind.{ReadKind}
use Rattle.script_grammar.specs.declared.refusal.What.TheVariants as whats
use Rattle.script_grammar.specs.declared.refusal.ReadKind.TheVariants.{TooDeep}
use Rattle.script_grammar.specs.Tokens.{Token, Place, next, mark, word, text, bad, end, cut}
use Rattle.script_grammar.specs.Words.{is_the_mark}
use Rattle.script_grammar.specs.Trees.{Operand, number, inside, operand_tokens, Power, plain, raised, power_tokens, Term, single, times, term_tokens, Sum, bare, positive, negative, plus, minus, sum_tokens, one}
use Rattle.script_grammar.specs.Steps.{◌>>=◌, mark_at, exponent_at}
use Rattle.script_grammar.specs.Expressions.{Declarations, takes_exponent, power_at, times_at, term_at, more_at, first_at, sum_at, inner_at, expression_at}
use Rattle.script_grammar.specs.Valid.{ValidPower, ValidTerm, ValidSum}
use Rattle.script_grammar.specs.Places.{is_last}
use Rattle.script_grammar.proofs.Steps.{mark_is, second_so}
use Rattle.script_grammar.proofs.ByTokens.{Reader, Any, Local, local_done, local_refuse, local_to, local_same, local_next, local_if}
use Rattle.script_grammar.proofs.ByTokensInTurn.{local_then, local_mark, local_map, local_behind, bind_assoc}
use Rattle.script_grammar.proofs.LoopsByTokens.{NotEmpty, IsLoop, local_loop}
use Rattle.script_grammar.proofs.OperandsByTokens.{nil, InnerLocal, exponent_local, operand_local}

abbrev pub SpellsPower : Declarations → ℕ → Power → List Token → Type 0
SpellsPower known deep p tokens = (power_tokens p ≡ tokens) × ValidPower known deep p

-- A power is read, or refused, by its tokens, and those before a refusal begin a valid one.
power_local : {P : ReadKind → List Token → Type 0} {n : ℕ} {W : Token → Type 0} (inner : Place → Result (Sum × Place) Refusal) (known : Declarations) (deep : ℕ) → 1 < known.prime
    → InnerLocal P inner known deep → Local P Power n W (power_at inner known) (SpellsPower known deep)
unfolding power_at power_tokens
power_local inner known deep prime law =
    local_then _ (operand_local inner known deep prime law) (λ o a l.
    let whole : SpellsPower known deep (plain o) (a ++ []) = (l.0 ∙ sym (append-nil a), l.1) in
    local_if (λ i. takes_exponent known o && is_the_mark 94 i)
    (local_next (λ t. exponent_at t >>= λ d. Ok (raised o d.0, d.1)) (plain o, [], whole) (λ i w.
    let p = and_parts (takes_exponent known o) (is_the_mark 94 i) w.1 in
    local_map (raised o) exponent_local (λ d b e.
    (ap (λ (x : List Token). x ++ (mark 94 ∷ one (word d))) l.0 ∙ ap (λ (x : List Token). a ++ (mark 94 ∷ x)) e.0 ∙ ap (λ (k : Token). a ++ (k ∷ b)) (sym (mark_is 94 i p.1)), (l.1, p.0, e.1, e.2)))))
    (local_done (plain o) whole))

abbrev pub SpellsTerm : Declarations → ℕ → Term → List Token → Type 0
SpellsTerm known deep x tokens = (term_tokens x ≡ tokens) × ValidTerm known deep x

-- behind a term
abbrev GoesTerm : Declarations → ℕ → Term → Term → List Token → Type 0
GoesTerm known deep y x tokens = (term_tokens x ≡ term_tokens y ++ tokens) × (ValidTerm known deep y → ValidTerm known deep x)

abbrev StarPower : Declarations → ℕ → Power → List Token → Type 0
StarPower known deep p tokens = (mark 42 ∷ power_tokens p ≡ tokens) × ValidPower known deep p

-- The end is no mark.
pub no_mark : (m : ℕ) (i : Token) → is_last i ≡ true → is_the_mark m i ≡ false
no_mark m end h = refl
no_mark m cut h = refl
no_mark m bad h = refl
no_mark m (word w) h = refl
no_mark m (text w) h = refl
no_mark m (mark k) h = absurd cc

-- the power behind a *
abbrev pub star_power : (Place → Result (Sum × Place) Refusal) → Declarations → Term → Reader Power
star_power inner known y t = power_at inner known (next t.rest)

-- Powers behind * are read by a loop.
pub times_loop : (inner : Place → Result (Sum × Place) Refusal) (known : Declarations)
    → IsLoop Term Power Term (λ y i. is_the_mark 42 i) (star_power inner known) times (λ y t. Ok (y, t)) (times_at inner known)
unfolding times_at
times_loop inner known = record { step = λ n y t. refl; base = λ y t h. refl; over = λ y i h. no_mark 42 i h }

-- A token with others behind it is something.
not_empty : (i : Token) (a b : List Token) → i ∷ a ≡ b → NotEmpty b
not_empty i a b e = subst NotEmpty e tt

-- The loop over powers reads, or refuses, by the tokens.
times_local : {P : ReadKind → List Token → Type 0} (n : ℕ) (inner : Place → Result (Sum × Place) Refusal) (known : Declarations) (deep : ℕ) → 1 < known.prime
    → InnerLocal P inner known deep → (y : Term) → Local P Term n Any (λ t. times_at inner known t.left y t) (GoesTerm known deep y)
unfolding term_tokens
times_local n inner known deep prime law y =
    local_loop _ Term Power Term (λ y i. is_the_mark 42 i) (star_power inner known) times (λ y t. Ok (y, t)) (times_at inner known) (λ y. Unit {0}) (λ y. StarPower known deep) (GoesTerm known deep) (times_loop inner known)
    (record {
      items = λ n y good. local_behind (mark 42) (λ i w. mark_is 42 i w) (local_to (λ x a l. (ap (λ (z : List Token). mark 42 ∷ z) l.0, l.1)) (power_local inner known deep prime law));
      takes = λ y p tokens g. not_empty (mark 42) (power_tokens p) tokens g.0;
      keeps = λ y e tokens good g. tt;
      stops = λ n y good. local_done y (sym (append-nil (term_tokens y)), λ v. v);
      more = λ y p a x b g l. (
        l.0 ∙ append_assoc (term_tokens y) (mark 42 ∷ power_tokens p) b ∙ ap (λ (z : List Token). term_tokens y ++ (z ++ b)) g.0,
        λ v. l.1 (v, g.1),
      );
    }) y tt

-- A term is read, or refused, by its tokens.
term_local : {P : ReadKind → List Token → Type 0} {n : ℕ} {W : Token → Type 0} (inner : Place → Result (Sum × Place) Refusal) (known : Declarations) (deep : ℕ) → 1 < known.prime
    → InnerLocal P inner known deep → Local P Term n W (term_at inner known) (SpellsTerm known deep)
unfolding term_at term_tokens
term_local {P} {n} inner known deep prime law =
    local_then _ (power_local inner known deep prime law) (λ p a l.
    local_to (λ x b g. (g.0 ∙ ap (λ (z : List Token). z ++ b) l.0, g.1 l.1)) (times_local n inner known deep prime law (single p)))

abbrev pub SpellsSum : Declarations → ℕ → Sum → List Token → Type 0
SpellsSum known deep x tokens = (sum_tokens x ≡ tokens) × ValidSum known deep x

-- The first term of a sum is read, or refused, by its tokens.
first_local : {P : ReadKind → List Token → Type 0} {n : ℕ} {W : Token → Type 0} (inner : Place → Result (Sum × Place) Refusal) (known : Declarations) (deep : ℕ) → 1 < known.prime
    → InnerLocal P inner known deep → Local P Sum n W (first_at inner known) (SpellsSum known deep)
unfolding first_at sum_tokens
first_local inner known deep prime law =
    local_if (is_the_mark 43)
    (local_behind (mark 43) (λ i w. mark_is 43 i w.1) (local_map positive (term_local inner known deep prime law) (λ x a l. (ap (λ (z : List Token). mark 43 ∷ z) l.0, l.1))))
    (local_if (is_the_mark 45)
    (local_behind (mark 45) (λ i w. mark_is 45 i w.1) (local_map negative (term_local inner known deep prime law) (λ x a l. (ap (λ (z : List Token). mark 45 ∷ z) l.0, l.1))))
    (local_map bare (term_local inner known deep prime law) (λ x a l. l)))

-- behind a sum
abbrev GoesSum : Declarations → ℕ → Sum → Sum → List Token → Type 0
GoesSum known deep y x tokens = (sum_tokens x ≡ sum_tokens y ++ tokens) × (ValidSum known deep y → ValidSum known deep x)

abbrev JoinedSum : Declarations → ℕ → Sum → Sum → List Token → Type 0
JoinedSum known deep y x tokens = GoesSum known deep y x tokens × NotEmpty tokens

-- + or -
abbrev pub joins : Token → Bool
joins i = is_the_mark 43 i || is_the_mark 45 i

-- a sum with one more term
abbrev pub joined : (Place → Result (Sum × Place) Refusal) → Declarations → Sum → Reader Sum
joined inner known y t = cond (is_the_mark 43 t.token) (term_at inner known (next t.rest) >>= λ z. Ok (plus y z.0, z.1)) (term_at inner known (next t.rest) >>= λ z. Ok (minus y z.0, z.1))

-- Two ways to go on with one reader are one way with two results.
one_of_two : {A B : Type 0} (p q : Bool) (r : Result (A × Place) Refusal) (f g : A → B) (on : B × Place → Result (B × Place) Refusal) (stop : Result (B × Place) Refusal)
    → cond p (r >>= λ z. on (f z.0, z.1)) (cond q (r >>= λ z. on (g z.0, z.1)) stop) ≡ cond (p || q) (cond p (r >>= λ z. Ok (f z.0, z.1)) (r >>= λ z. Ok (g z.0, z.1)) >>= on) stop
one_of_two true q r f g on stop = sym (bind_assoc r (λ z. Ok (f z.0, z.1)) on)
one_of_two false true r f g on stop = sym (bind_assoc r (λ z. Ok (g z.0, z.1)) on)
one_of_two false false r f g on stop = refl

-- Terms behind + and - are read by a loop.
pub more_loop : (inner : Place → Result (Sum × Place) Refusal) (known : Declarations) → IsLoop Sum Sum Sum (λ y i. joins i) (joined inner known) (λ y e. e) (λ y t. Ok (y, t)) (more_at inner known)
unfolding more_at
more_loop inner known = record {
  step = λ n y t. one_of_two (is_the_mark 43 t.token) (is_the_mark 45 t.token) (term_at inner known (next t.rest)) (plus y) (minus y) (λ e. more_at inner known n e.0 e.1) (Ok (y, t));
  base = λ y t h. refl;
  over = λ y i h. rw (no_mark 43 i h, no_mark 45 i h) refl;
}

-- One more term of a sum is read, or refused, by its tokens.
joined_local : {P : ReadKind → List Token → Type 0} (n : ℕ) (inner : Place → Result (Sum × Place) Refusal) (known : Declarations) (deep : ℕ) → 1 < known.prime
    → InnerLocal P inner known deep → (y : Sum) → Local P Sum n (λ i. joins i ≡ true) (joined inner known y) (JoinedSum known deep y)
unfolding sum_tokens
joined_local n inner known deep prime law y =
    local_if (is_the_mark 43)
    (local_behind (mark 43) (λ i w. mark_is 43 i w.1) (local_map (plus y) (term_local inner known deep prime law) (λ x a l. ((ap (λ (z : List Token). sum_tokens y ++ (mark 43 ∷ z)) l.0, λ v. (v, l.1)), tt))))
    (local_behind (mark 45) (λ i w. mark_is 45 i (second_so (is_the_mark 43 i) (is_the_mark 45 i) w.0 w.1)) (local_map (minus y) (term_local inner known deep prime law) (λ x a l. ((ap (λ (z : List Token). sum_tokens y ++ (mark 45 ∷ z)) l.0, λ v. (v, l.1)), tt))))

-- The loop over terms reads, or refuses, by the tokens.
more_local : {P : ReadKind → List Token → Type 0} (n : ℕ) (inner : Place → Result (Sum × Place) Refusal) (known : Declarations) (deep : ℕ) → 1 < known.prime
    → InnerLocal P inner known deep → (y : Sum) → Local P Sum n Any (λ t. more_at inner known t.left y t) (GoesSum known deep y)
more_local n inner known deep prime law y =
    local_loop _ Sum Sum Sum (λ y i. joins i) (joined inner known) (λ y e. e) (λ y t. Ok (y, t)) (more_at inner known) (λ y. Unit {0}) (JoinedSum known deep) (GoesSum known deep) (more_loop inner known)
    (record {
      items = λ n y good. joined_local n inner known deep prime law y;
      takes = λ y e tokens g. g.1;
      keeps = λ y e tokens good g. tt;
      stops = λ n y good. local_done y (sym (append-nil (sum_tokens y)), λ v. v);
      more = λ y e a x b g l. (l.0 ∙ ap (λ (z : List Token). z ++ b) g.0.0 ∙ append_assoc (sum_tokens y) a b, λ v. l.1 (g.0.1 v));
    }) y tt

-- A sum is read, or refused, by its tokens, and those before a refusal begin a valid one.
sum_local : {P : ReadKind → List Token → Type 0} {n : ℕ} {W : Token → Type 0} (inner : Place → Result (Sum × Place) Refusal) (known : Declarations) (deep : ℕ) → 1 < known.prime
    → InnerLocal P inner known deep → Local P Sum n W (sum_at inner known) (SpellsSum known deep)
unfolding sum_at
sum_local {P} {n} inner known deep prime law =
    local_then _ (first_local inner known deep prime law) (λ y a l.
    local_to (λ x b g. (g.0 ∙ ap (λ (z : List Token). z ++ b) l.0, g.1 l.1)) (more_local n inner known deep prime law y))

-- the ) behind a sum in parentheses
abbrev closing : Sum × Place → Result (Sum × Place) Refusal
closing s = mark_at 41 whats.Operator s.1 >>= λ after. Ok (s.0, after)

-- the operand that a sum in parentheses is
abbrev wrapped : Sum × Place → Result (Operand × Place) Refusal
wrapped s = Ok (inside s.0, s.1)

-- the ) behind a sum, and the operand that it makes
abbrev closing_wrapped : Sum × Place → Result (Operand × Place) Refusal
closing_wrapped s = mark_at 41 whats.Operator s.1 >>= λ after. Ok (inside s.0, after)

-- A sum is closed and then an operand, or both in one step.
closed_bind : (r : Result (Sum × Place) Refusal) → (r >>= closing >>= wrapped) ≡ (r >>= closing_wrapped)
closed_bind (Ok s) = bind_assoc (mark_at 41 whats.Operator s.1) (λ after. Ok (s.0, after)) wrapped
closed_bind (Err d) = refl

-- A sum in parentheses is read, or refused, by its tokens, with as many open as it may have.
inner_local : {P : ReadKind → List Token → Type 0} (deep : ℕ) (known : Declarations) → 1 < known.prime → InnerLocal P (inner_at deep known) known deep
unfolding inner_at operand_tokens
inner_local zero known prime n = local_refuse TooDeep (number nil, one (word nil), (refl, refl))
inner_local (suc deep) known prime n =
    local_same (λ t placed. closed_bind (sum_at (inner_at deep known) known (next t.rest)))
    (local_behind (mark 40) (λ i w. mark_is 40 i w)
    (local_then _ (sum_local (inner_at deep known) known deep prime (inner_local deep known prime)) (λ s a l.
    local_mark 41 whats.Operator (local_done (inside s) (ap (λ (z : List Token). mark 40 ∷ (z ++ one (mark 41))) l.0, (deep, refl, l.1))))))

-- a whole expression
pub expression_local : {P : ReadKind → List Token → Type 0} {n : ℕ} {W : Token → Type 0} (known : Declarations) → 1 < known.prime → Local P Sum n W (expression_at known) (SpellsSum known 32)
unfolding expression_at
expression_local known prime = sum_local (inner_at 32 known) known 32 prime (inner_local 32 known prime)
