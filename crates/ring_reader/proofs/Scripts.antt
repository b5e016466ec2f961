-- The loop over statements: what it has read, with its names, values and commands, and what it still reads.
use Rattle.std.proofs.Common.{◌≡◌, ℕ, zero, suc, ◌+◌, ◌<◌, ◌≤◌, ◌++◌, ◌&&◌, true, false, List, [], ◌∷◌, length, map, nat_le, Result, Ok, refl, sym, ap, subst, ◌∙◌, arith}
use Rattle.std.specs.Prelude.{All}
use Rattle.std.proofs.lemmas.List.{map-append, length-append, append-nil}
use mathlib.Core.List.{append_assoc}
use Rattle.script_grammar.specs.declared.refusal.Refusal.{Refusal}
use Rattle.script_grammar.specs.declared.script.Command.{Command}
use Rattle.script_grammar.specs.Tokens.{Place}
use Rattle.script_grammar.specs.Words.{is_the_end}
use Rattle.script_grammar.specs.Trees.{Statement, remark, poly, again, ideal, command, command_std}
use Rattle.script_grammar.specs.Steps.{◌>>=◌}
use Rattle.script_grammar.specs.Expressions.{Declarations}
use Rattle.script_grammar.specs.Script.{after, commands_in, statement_at, statements_at}
use Rattle.script_grammar.specs.Meaning.{Values, Named, values_after, commands_of, statements_meaning}
use Rattle.sparse_poly.specs.Poly.{Poly, HasDegreeAtMost}
use Rattle.expression_reader.specs.declared.names.NamedPoly.{NamedPoly}
use Rattle.expression_reader.specs.declared.names.NamedIdeal.{NamedIdeal}
use Rattle.ring_reader.specs.declared.effect.Effect.{Effect}
use Rattle.ring_reader.specs.declared.effect.Effect.TheVariants as effects
use Rattle.expression_reader.specs.declared.stop.Stop.{Stop}
use Rattle.expression_reader.specs.Gives.{Fails, meant}
use Rattle.expression_reader.specs.Generators.{in_ring_of}
use Rattle.ring_reader.specs.Effects.{effect_of, IsSoundEffect}
use Rattle.ring_reader.specs.After.{polys_after, ideals_after, commands_after, commands_asked}
use Rattle.expression_reader.specs.NamesView.{declared_poly, declared_ideal, declared_with, values_with}
use Rattle.ring_reader.specs.RingView.{RingValue}
use Rattle.ring_reader.specs.Parts.{no_names, no_values}
use Rattle.ring_reader.specs.Coherent.{IsCommandIn}
use Rattle.expression_reader.specs.Sound.{IsValue}
use Rattle.sparse_poly.specs.Ideal.{IsGenerator}
use Rattle.expression_reader.proofs.Loops.{meant_ok, fails_meant, fails_on}
use Rattle.expression_reader.proofs.Handed.{All-push}
use Rattle.ring_reader.proofs.Statements.{terms_of_ring}

-- ---- many statements
abbrev pub values_after_all : Values → List Statement → Values
values_after_all v [] = v
values_after_all v (s ∷ statements) = values_after_all (values_after v s) statements

-- The values behind one more statement are those that it leaves behind those before.
pub values_after_more : (v : Values) (done : List Statement) (s : Statement) → values_after_all v (done ++ s ∷ []) ≡ values_after (values_after_all v done) s
values_after_more v [] s = refl
values_after_more v (d ∷ done) s = values_after_more (values_after v d) done s

-- One more statement asks its commands behind those before.
pub meaning_more : (v : Values) (done : List Statement) (s : Statement) → statements_meaning v (done ++ s ∷ []) ≡ statements_meaning v done ++ commands_of (values_after_all v done) s
meaning_more v [] s = append-nil (commands_of v s)
meaning_more v (d ∷ done) s =
    ap (λ (l : List Command). commands_of v d ++ l) (meaning_more (values_after v d) done s)
    ∙ sym (append_assoc (commands_of v d) (statements_meaning (values_after v d) done) (commands_of (values_after_all (values_after v d) done) s))

-- ---- one statement
known_after : (ring : List ℕ) (p : ℕ) (letters : List ℕ) (d : ℕ) (polys : List NamedPoly) (ideals : List NamedIdeal) (v : Values) (s : Statement)
    → declared_with ring p letters (polys_after polys (effect_of v s)) (ideals_after ideals (effect_of v s)) ≡ after (declared_with ring p letters polys ideals) s
known_after ring p letters d polys ideals v (poly name sum) =
    ap (λ (l : List (List ℕ)). record { ring = ring; prime = p; letters = letters; polys = l; ideals = map (λ (i : NamedIdeal). i.name) ideals }) (map-append (λ (f : NamedPoly). f.name) polys _)
known_after ring p letters d polys ideals v (again name other) =
    ap (λ (l : List (List ℕ)). record { ring = ring; prime = p; letters = letters; polys = map (λ (f : NamedPoly). f.name) polys; ideals = l }) (map-append (λ (i : NamedIdeal). i.name) ideals _)
known_after ring p letters d polys ideals v (ideal name ms) =
    ap (λ (l : List (List ℕ)). record { ring = ring; prime = p; letters = letters; polys = map (λ (f : NamedPoly). f.name) polys; ideals = l }) (map-append (λ (i : NamedIdeal). i.name) ideals _)
known_after ring p letters d polys ideals v (remark r) = refl
known_after ring p letters d polys ideals v (command w name) = refl
known_after ring p letters d polys ideals v (command_std w name) = refl

-- One more ideal of the code is one more of the grammar.
ideals_grow : (v : Values) (ideals : List NamedIdeal) (name : List ℕ) (gens : List Poly)
    → map declared_ideal (ideals ++ record { name = name; gens = in_ring_of v gens } ∷ []) ≡ map declared_ideal ideals ++ record { name = name; value = gens } ∷ []
ideals_grow v ideals name gens =
    map-append declared_ideal ideals _ ∙ ap (λ (g : List Poly). map declared_ideal ideals ++ record { name = name; value = g } ∷ []) (terms_of_ring v gens)

-- What a statement declares in the code is what it declares in the grammar.
values_grow : (p : ℕ) (letters : List ℕ) (d : ℕ) (polys : List NamedPoly) (ideals : List NamedIdeal) (s : Statement)
    → values_with p letters d (polys_after polys (effect_of (values_with p letters d polys ideals) s)) (ideals_after ideals (effect_of (values_with p letters d polys ideals) s)) ≡ values_after (values_with p letters d polys ideals) s
unfolding values_after
values_grow p letters d polys ideals (poly name sum) =
    ap (λ (l : List (Named Poly)). record { p = p; letters = letters; d = d; polys = l; ideals = map declared_ideal ideals }) (map-append declared_poly polys _)
values_grow p letters d polys ideals (again name other) =
    ap (λ (l : List (Named (List Poly))). record { p = p; letters = letters; d = d; polys = map declared_poly polys; ideals = l }) (ideals_grow (values_with p letters d polys ideals) ideals name _)
values_grow p letters d polys ideals (ideal name ms) =
    ap (λ (l : List (Named (List Poly))). record { p = p; letters = letters; d = d; polys = map declared_poly polys; ideals = l }) (ideals_grow (values_with p letters d polys ideals) ideals name _)
values_grow p letters d polys ideals (remark r) = refl
values_grow p letters d polys ideals (command w name) = refl
values_grow p letters d polys ideals (command_std w name) = refl

-- What a statement asks in the code is what it asks in the grammar.
commands_grow : (v : Values) (commands : List Command) (s : Statement) → commands_after commands (effect_of v s) ≡ commands ++ commands_of v s
unfolding commands_of
commands_grow v commands (remark r) = sym (append-nil commands)
commands_grow v commands (poly name sum) = sym (append-nil commands)
commands_grow v commands (again name other) = sym (append-nil commands)
commands_grow v commands (ideal name ms) = sym (append-nil commands)
commands_grow v commands (command w name) = refl
commands_grow v commands (command_std w name) = refl

-- A statement asks as many commands as the grammar counts.
count_grow : (v : Values) (commands : List Command) (s : Statement) → length (commands_after commands (effect_of v s)) ≡ length commands + commands_in s
count_grow v commands (remark r) = omega arith
count_grow v commands (poly name sum) = omega arith
count_grow v commands (again name other) = omega arith
count_grow v commands (ideal name ms) = omega arith
count_grow v commands (command w name) = length-append commands _
count_grow v commands (command_std w name) = length-append commands _

-- what is declared stays sound
pub sound_polys : (p n d : ℕ) (polys : List NamedPoly) (e : Effect) → All (λ (f : NamedPoly). IsValue p n f.value) polys → IsSoundEffect p n d e → All (λ (f : NamedPoly). IsValue p n f.value) (polys_after polys e)
sound_polys p n d polys effects.Nothing all sound = all
sound_polys p n d polys (effects.Poly f) all sound = All-push (λ (g : NamedPoly). IsValue p n g.value) polys f all sound.0
sound_polys p n d polys (effects.Ideal i) all sound = all
sound_polys p n d polys (effects.Command c) all sound = all

-- Polynomials of low degree stay so with what a statement declares.
pub low_polys : (p n d : ℕ) (polys : List NamedPoly) (e : Effect) → All (λ (f : NamedPoly). HasDegreeAtMost (d + 1) f.value.terms) polys → IsSoundEffect p n d e → All (λ (f : NamedPoly). HasDegreeAtMost (d + 1) f.value.terms) (polys_after polys e)
low_polys p n d polys effects.Nothing all sound = all
low_polys p n d polys (effects.Poly f) all sound = All-push (λ (g : NamedPoly). HasDegreeAtMost (d + 1) g.value.terms) polys f all sound.1
low_polys p n d polys (effects.Ideal i) all sound = all
low_polys p n d polys (effects.Command c) all sound = all

-- Ideals of the ring stay so with what a statement declares.
pub sound_ideals : (p n d : ℕ) (ideals : List NamedIdeal) (e : Effect) → All (λ (i : NamedIdeal). All (IsGenerator p n d) i.gens) ideals → IsSoundEffect p n d e → All (λ (i : NamedIdeal). All (IsGenerator p n d) i.gens) (ideals_after ideals e)
sound_ideals p n d ideals effects.Nothing all sound = all
sound_ideals p n d ideals (effects.Poly f) all sound = all
sound_ideals p n d ideals (effects.Ideal i) all sound = All-push (λ (j : NamedIdeal). All (IsGenerator p n d) j.gens) ideals i all sound.0
sound_ideals p n d ideals (effects.Command c) all sound = all

-- where each declared ideal has at most 64 generators, so has each one behind a sound statement
pub few_ideals : (p n d : ℕ) (ideals : List NamedIdeal) (e : Effect) → All (λ (i : NamedIdeal). length i.gens ≤ 64) ideals → IsSoundEffect p n d e → All (λ (i : NamedIdeal). length i.gens ≤ 64) (ideals_after ideals e)
few_ideals p n d ideals effects.Nothing all sound = all
few_ideals p n d ideals (effects.Poly f) all sound = all
few_ideals p n d ideals (effects.Ideal i) all sound = All-push (λ (j : NamedIdeal). length j.gens ≤ 64) ideals i all sound.1
few_ideals p n d ideals (effects.Command c) all sound = all

-- what is asked belongs to the ring, and is counted
pub sound_commands : (p n d : ℕ) (commands : List Command) (e : Effect) → All (IsCommandIn p n d) commands → IsSoundEffect p n d e → All (IsCommandIn p n d) (commands_after commands e)
sound_commands p n d commands effects.Nothing all sound = all
sound_commands p n d commands (effects.Poly f) all sound = all
sound_commands p n d commands (effects.Ideal i) all sound = all
sound_commands p n d commands (effects.Command c) all sound = All-push (IsCommandIn p n d) commands c all sound

-- What a statement asks makes the commands longer by as many.
pub asked_count : (commands : List Command) (e : Effect) → length (commands_after commands e) ≡ length commands + commands_asked e
asked_count commands effects.Nothing = omega arith
asked_count commands (effects.Poly f) = omega arith
asked_count commands (effects.Ideal i) = omega arith
asked_count commands (effects.Command c) = length-append commands (c ∷ [])

-- ---- the loop
abbrev pub statements_from : RingValue → Place → Result (List Statement) Refusal
statements_from r t = statements_at (suc t.left) (no_names r) 0 [] t

pub record ScriptSoFar (r : RingValue) (d : ℕ) (whole : Result (List Statement) Refusal) (polys : List NamedPoly) (ideals : List NamedIdeal) (commands : List Command) (t : Place) : Type 0 where
  pub turns : ℕ
  pub done : List Statement
  pub enough : t.left < turns
  pub values : values_with r.prime r.letters d polys ideals ≡ values_after_all (no_values r d) done
  pub commands_are : commands ≡ statements_meaning (no_values r d) done
  pub reads : statements_at turns (declared_with r.name r.prime r.letters polys ideals) (length commands) done t ≡ whole

-- Before the first statement nothing is declared and nothing asked.
pub script_begins : (r : RingValue) (d : ℕ) (t : Place) → ScriptSoFar r d (statements_from r t) [] [] [] t
script_begins r d t = record { turns = suc t.left; done = []; enough = omega arith; values = refl; commands_are = refl; reads = refl }

-- Where the statements aren't over, one more is read.
statements_step : (known : Declarations) (n count : ℕ) (done : List Statement) (t : Place) → (nat_le 1 count && is_the_end t.token) ≡ false
    → statements_at (suc n) known count done t ≡ (statement_at known count t >>= λ s. statements_at n (after known s.0) (count + commands_in s.0) (done ++ s.0 ∷ []) s.1)
unfolding statements_at
statements_step known n count done t over = rw over refl

-- The statements go on behind one, where the loop of the grammar has turns left.
script_goes-at : (r : RingValue) (d : ℕ) (whole : Result (List Statement) Refusal) (polys : List NamedPoly) (ideals : List NamedIdeal) (commands : List Command) (t u : Place) (s : Statement)
    → (nat_le 1 (length commands) && is_the_end t.token) ≡ false → u.left < t.left
    → statement_at (declared_with r.name r.prime r.letters polys ideals) (length commands) t ≡ Ok (s, u)
    → (n : ℕ) (done : List Statement) → t.left < n → values_with r.prime r.letters d polys ideals ≡ values_after_all (no_values r d) done
    → commands ≡ statements_meaning (no_values r d) done → statements_at n (declared_with r.name r.prime r.letters polys ideals) (length commands) done t ≡ whole
    → let e = effect_of (values_with r.prime r.letters d polys ideals) s in ScriptSoFar r d whole (polys_after polys e) (ideals_after ideals e) (commands_after commands e) u
script_goes-at r d whole polys ideals commands t u s over shorter read zero done enough values commands_are reads = absurd (omega (arith, enough))
script_goes-at r d whole polys ideals commands t u s over shorter read (suc n) done enough values commands_are reads =
    let v = values_with r.prime r.letters d polys ideals in
    let known = declared_with r.name r.prime r.letters polys ideals in
    let step = statements_step known n (length commands) done t over
    ∙ ap (λ (x : Result (Statement × Place) Refusal). x >>= λ y. statements_at n (after known y.0) (length commands + commands_in y.0) (done ++ y.0 ∷ []) y.1) read in
    record {
      turns = n;
      done = done ++ s ∷ [];
      enough = omega (arith, shorter, enough);
      values = values_grow r.prime r.letters d polys ideals s ∙ ap (λ w. values_after w s) values ∙ sym (values_after_more (no_values r d) done s);
      commands_are = commands_grow v commands s ∙ ap (λ (l : List Command). l ++ commands_of v s) commands_are
          ∙ ap (λ w. statements_meaning (no_values r d) done ++ commands_of w s) values ∙ sym (meaning_more (no_values r d) done s);
      reads = ap (λ k. statements_at n k (length (commands_after commands (effect_of v s))) (done ++ s ∷ []) u) (known_after r.name r.prime r.letters d polys ideals v s)
          ∙ ap (λ k. statements_at n (after known s) k (done ++ s ∷ []) u) (count_grow v commands s) ∙ sym step ∙ reads;
    }

-- The statements go on behind one.
pub script_goes : (r : RingValue) (d : ℕ) (whole : Result (List Statement) Refusal) (polys : List NamedPoly) (ideals : List NamedIdeal) (commands : List Command) (t u : Place) (e : Effect)
    → (nat_le 1 (length commands) && is_the_end t.token) ≡ false → u.left < t.left
    → meant (effect_of (values_with r.prime r.letters d polys ideals)) (statement_at (declared_with r.name r.prime r.letters polys ideals) (length commands) t) ≡ Ok (e, u)
    → ScriptSoFar r d whole polys ideals commands t → ScriptSoFar r d whole (polys_after polys e) (ideals_after ideals e) (commands_after commands e) u
script_goes r d whole polys ideals commands t u e over shorter read s =
    let m = meant_ok (effect_of (values_with r.prime r.letters d polys ideals)) (statement_at (declared_with r.name r.prime r.letters polys ideals) (length commands) t) e u read in
    subst (λ x. ScriptSoFar r d whole (polys_after polys x) (ideals_after ideals x) (commands_after commands x) u) (sym m.2)
    (script_goes-at r d whole polys ideals commands t u m.0 over shorter m.1 s.turns s.done s.enough s.values s.commands_are s.reads)

-- What refuses a statement refuses them all, where the loop of the grammar has turns left.
script_fails-at : (r : RingValue) (d : ℕ) (whole : Result (List Statement) Refusal) (polys : List NamedPoly) (ideals : List NamedIdeal) (commands : List Command) (t : Place) (stop : Stop)
    → (nat_le 1 (length commands) && is_the_end t.token) ≡ false
    → Fails stop (meant (effect_of (values_with r.prime r.letters d polys ideals)) (statement_at (declared_with r.name r.prime r.letters polys ideals) (length commands) t))
    → (n : ℕ) (done : List Statement) → t.left < n → statements_at n (declared_with r.name r.prime r.letters polys ideals) (length commands) done t ≡ whole
    → Fails stop (whole >>= λ statements. Ok (statements_meaning (no_values r d) statements))
script_fails-at r d whole polys ideals commands t stop over h zero done enough reads = absurd (omega (arith, enough))
script_fails-at r d whole polys ideals commands t stop over h (suc n) done enough reads =
    let known = declared_with r.name r.prime r.letters polys ideals in
    let f = λ (y : Statement × Place). statements_at n (after known y.0) (length commands + commands_in y.0) (done ++ y.0 ∷ []) y.1 in
    let read = statement_at known (length commands) t in
    let step : (read >>= f) ≡ whole = sym (statements_step known n (length commands) done t over) ∙ reads in
    fails_on (λ statements. Ok (statements_meaning (no_values r d) statements)) stop whole
    (subst (λ w. Fails stop w) step (fails_on f stop read (fails_meant (effect_of (values_with r.prime r.letters d polys ideals)) stop read h)))

-- What refuses a statement refuses them all.
pub script_fails : (r : RingValue) (d : ℕ) (whole : Result (List Statement) Refusal) (polys : List NamedPoly) (ideals : List NamedIdeal) (commands : List Command) (t : Place) (stop : Stop)
    → (nat_le 1 (length commands) && is_the_end t.token) ≡ false
    → Fails stop (meant (effect_of (values_with r.prime r.letters d polys ideals)) (statement_at (declared_with r.name r.prime r.letters polys ideals) (length commands) t))
    → ScriptSoFar r d whole polys ideals commands t → Fails stop (whole >>= λ statements. Ok (statements_meaning (no_values r d) statements))
script_fails r d whole polys ideals commands t stop over h s = script_fails-at r d whole polys ideals commands t stop over h s.turns s.done s.enough s.reads

-- The statements end where the script is over, whatever turns the loop of the grammar has left.
script_ends-at : (r : RingValue) (d : ℕ) (whole : Result (List Statement) Refusal) (polys : List NamedPoly) (ideals : List NamedIdeal) (commands : List Command) (t : Place)
    → (nat_le 1 (length commands) && is_the_end t.token) ≡ true
    → (n : ℕ) (done : List Statement) → t.left < n → commands ≡ statements_meaning (no_values r d) done → statements_at n (declared_with r.name r.prime r.letters polys ideals) (length commands) done t ≡ whole
    → (whole >>= λ statements. Ok (statements_meaning (no_values r d) statements)) ≡ Ok commands
unfolding statements_at
script_ends-at r d whole polys ideals commands t over zero done enough commands_are reads = absurd (omega (arith, enough))
script_ends-at r d whole polys ideals commands t over (suc n) done enough commands_are reads =
    let step : statements_at (suc n) (declared_with r.name r.prime r.letters polys ideals) (length commands) done t ≡ Ok done = rw over refl in
    ap (λ (w : Result (List Statement) Refusal). w >>= λ statements. Ok (statements_meaning (no_values r d) statements)) (sym reads ∙ step)
    ∙ ap (λ (l : List Command). Ok l) (sym commands_are)

-- The statements end where the script is over.
pub script_ends : (r : RingValue) (d : ℕ) (whole : Result (List Statement) Refusal) (polys : List NamedPoly) (ideals : List NamedIdeal) (commands : List Command) (t : Place)
    → (nat_le 1 (length commands) && is_the_end t.token) ≡ true → ScriptSoFar r d whole polys ideals commands t
    → (whole >>= λ statements. Ok (statements_meaning (no_values r d) statements)) ≡ Ok commands
script_ends r d whole polys ideals commands t over s = script_ends-at r d whole polys ideals commands t over s.turns s.done s.enough s.commands_are s.reads

-- ---- the same, by what the code knows
pub script_goes_by : (r : RingValue) (d : ℕ) (whole : Result (List Statement) Refusal) (polys ps : List NamedPoly) (ideals is : List NamedIdeal) (commands : List Command) (t u : Place) (e : Effect) (p : ℕ) (letters : List ℕ) (count tested : ℕ)
    → p ≡ r.prime → letters ≡ r.letters → ps ≡ polys → is ≡ ideals → count ≡ length commands → tested ≡ length commands
    → (nat_le 1 tested && is_the_end t.token) ≡ false → u.left < t.left
    → meant (effect_of (values_with p letters d ps is)) (statement_at (declared_with r.name p letters ps is) count t) ≡ Ok (e, u)
    → ScriptSoFar r d whole polys ideals commands t → ScriptSoFar r d whole (polys_after polys e) (ideals_after ideals e) (commands_after commands e) u
script_goes_by r d whole polys ps ideals is commands t u e p letters count tested p_is letters_is ps_is is_is count_is tested_is over shorter read s =
    script_goes r d whole polys ideals commands t u e (rw tested_is at over) shorter (rw (p_is, letters_is, ps_is, is_is, count_is) at read) s

-- What refuses a statement refuses them all, by what the code says of it.
pub script_fails_by : (r : RingValue) (d : ℕ) (whole : Result (List Statement) Refusal) (polys ps : List NamedPoly) (ideals is : List NamedIdeal) (commands : List Command) (t : Place) (stop : Stop) (p : ℕ) (letters : List ℕ) (count tested : ℕ)
    → p ≡ r.prime → letters ≡ r.letters → ps ≡ polys → is ≡ ideals → count ≡ length commands → tested ≡ length commands
    → (nat_le 1 tested && is_the_end t.token) ≡ false
    → Fails stop (meant (effect_of (values_with p letters d ps is)) (statement_at (declared_with r.name p letters ps is) count t))
    → ScriptSoFar r d whole polys ideals commands t → Fails stop (whole >>= λ statements. Ok (statements_meaning (no_values r d) statements))
script_fails_by r d whole polys ps ideals is commands t stop p letters count tested p_is letters_is ps_is is_is count_is tested_is over h s =
    script_fails r d whole polys ideals commands t stop (rw tested_is at over) (rw (p_is, letters_is, ps_is, is_is, count_is) at h) s
