-- The statements up to the end, and the whole tree.
-- The loop keeps the place behind what it read, which the definitions drop at the end; so it is a loop of LocalLoops.
use Rattle.std.proofs.Common.{◌≡◌, ℕ, zero, suc, ◌+◌, ◌<◌, ◌≤◌, Bool, true, false, cond, not, ◌&&◌, List, [], ◌∷◌, ◌++◌, Result, Ok, Err, refl, sym, ap, subst, ◌∙◌, arith, append_assoc}
use Rattle.std.specs.Prelude.{codes, nat_le}
use Rattle.std.specs.List.{flat_map}
use Rattle.std.proofs.lemmas.Bool.{leb-true}
use Rattle.std.proofs.lemmas.List.{append-nil}
use Rattle.prime_field.specs.Decimal.{value_of}
use Rattle.script_grammar.specs.declared.refusal.Refusal.{Refusal}
use Rattle.script_grammar.specs.declared.refusal.What.TheVariants as whats
use Rattle.script_grammar.specs.declared.refusal.ReadKind.TheVariants.{Expected, MissingNoether}
use Rattle.script_grammar.specs.declared.script.Word.TheVariants.{Std}
use Rattle.script_grammar.specs.Tokens.{Token, Place, next, word, text, mark, bad, end, cut}
use Rattle.script_grammar.specs.Words.{is_the_word, is_the_end}
use Rattle.script_grammar.specs.Trees.{Remark, Ring, ring_tokens, Monomial, noether_tokens, Statement, remark, poly, again, ideal, command, command_std, statement_tokens, Tree, tree_tokens}
use Rattle.script_grammar.specs.Steps.{◌>>=◌, refused, wanted}
use Rattle.script_grammar.specs.Expressions.{Declarations}
use Rattle.script_grammar.specs.Statements.{begins_remark, remark_at, remarks_at, ring_at, letters_of, noether_at, poly_at, ideal_at}
use Rattle.script_grammar.specs.Script.{begins_later, command_of, command_from, after, commands_in, statement_at, statements_at, tree_at, ring_part, noether_part}
use Rattle.script_grammar.specs.Formed.{FormedRing, FormedMonomial, FormedStatements, IsFormed}
use Rattle.script_grammar.specs.First.{IsLate}
use Rattle.script_grammar.specs.Places.{is_last}
use Rattle.script_grammar.proofs.Steps.{word_is}
use Rattle.script_grammar.proofs.ByTokens.{Reader, Any, Local, local_done, local_refuse, local_if}
use Rattle.script_grammar.proofs.ByTokensInTurn.{local_then, local_map, local_behind}
use Rattle.script_grammar.proofs.LoopsByTokens.{NotEmpty, IsLoop, local_loop}
use Rattle.script_grammar.proofs.RingByTokens.{a_name, remark_some, remarks_local, SpellsRing, ring_local}
use Rattle.script_grammar.proofs.NoetherByTokens.{SpellsNoether, noether_local}
use Rattle.script_grammar.proofs.CommandsByTokens.{SpellsStatement, statement_local}

-- what was read: the names that are declared, how many commands, and the statements
pub record Progress : Type 0 where
  pub known : Declarations
  pub count : ℕ
  pub done : List Statement

-- what was read, with one more statement
abbrev pub advanced : Progress → Statement → Progress
advanced y s = record { known = after y.known s; count = y.count + commands_in s; done = y.done ++ s ∷ [] }

-- the loop, with the place behind it
pub statements_read : ℕ → Progress → Reader (List Statement)
statements_read zero y t = wanted t whats.Statement
statements_read (suc n) y t = cond (nat_le 1 y.count && is_the_end t.token) (Ok (y.done, t)) (statement_at y.known y.count t >>= λ s. statements_read n (advanced y s.0) s.1)

-- what was read, without the place behind it
abbrev pub just : {A : Type 0} → A × Place → Result A Refusal
just r = Ok r.0

-- The loop over statements is that with the place behind it, without it.
statements_is : (n : ℕ) (y : Progress) (t : Place) → statements_at n y.known y.count y.done t ≡ (statements_read n y t >>= just)
unfolding statements_at statements_read
statements_is zero y t = refl
statements_is (suc n) y t = by_end (nat_le 1 y.count && is_the_end t.token) (statement_at y.known y.count t) (λ s. statements_is n (advanced y s.0) s.1)
  where
    by_end : (b : Bool) (r : Result (Statement × Place) Refusal)
        → ((s : Statement × Place) → statements_at n (after y.known s.0) (y.count + commands_in s.0) (y.done ++ s.0 ∷ []) s.1 ≡ (statements_read n (advanced y s.0) s.1 >>= just))
        → cond b (Ok y.done) (r >>= λ s. statements_at n (after y.known s.0) (y.count + commands_in s.0) (y.done ++ s.0 ∷ []) s.1) ≡ (cond b (Ok (y.done, t)) (r >>= λ s. statements_read n (advanced y s.0) s.1) >>= just)
    by_end true r same = refl
    by_end false (Ok s) same = same s
    by_end false (Err d) same = refl

-- ---- the loop is one of LoopsByTokens: at the end no statement begins
last_refused : (A B C : Result (Statement × Place) Refusal) (known : Declarations) (count : ℕ) (t : Place) (i : Token) → is_last i ≡ true
    → cond (begins_remark i) A (cond (is_the_word (codes "poly") i) B (cond (is_the_word (codes "ideal") i) C (command_from known count t (command_of i)))) ≡ wanted t whats.Statement
last_refused A B C known count t end h = refl
last_refused A B C known count t cut h = refl
last_refused A B C known count t bad h = absurd cc
last_refused A B C known count t (word w) h = absurd cc
last_refused A B C known count t (text w) h = absurd cc
last_refused A B C known count t (mark m) h = absurd cc

-- At the end no statement begins.
last_statement : (known : Declarations) (count : ℕ) (t : Place) → is_last t.token ≡ true → statement_at known count t ≡ wanted t whats.Statement
unfolding statement_at
last_statement known count t h = last_refused (remark_at t >>= λ r. Ok (remark r.0, r.1)) (poly_at known (next t.rest)) (ideal_at known (next t.rest)) known count t t.token h

-- what ends the statements: the end behind a command
abbrev pub stopped : Progress → Reader (List Statement)
stopped y t = cond (nat_le 1 y.count && is_the_end t.token) (Ok (y.done, t)) (wanted t whats.Statement)

-- What isn't so together with another isn't so.
no_and : {A : Type 0} (b : Bool) (x y : A) → cond (b && false) x y ≡ y
no_and true x y = refl
no_and false x y = refl

-- One turn of the loop over statements stops at the end, and goes on elsewhere.
turn_is : (b : Bool) (t : Place) (z : Result (List Statement × Place) Refusal) (r : Result (Statement × Place) Refusal) (on : Statement × Place → Result (List Statement × Place) Refusal) (i : Token)
    → (is_last i ≡ true → r ≡ wanted t whats.Statement)
    → cond (b && is_the_end i) z (r >>= on) ≡ cond (not (is_last i)) (r >>= on) (cond (b && is_the_end i) z (wanted t whats.Statement))
turn_is b t z r on end h = ap (λ (x : Result (Statement × Place) Refusal). cond (b && true) z (x >>= on)) (h refl)
turn_is b t z r on cut h = ap (λ (x : Result (Statement × Place) Refusal). cond (b && false) z (x >>= on)) (h refl)
turn_is b t z r on bad h = no_and b z (r >>= on)
turn_is b t z r on (word w) h = no_and b z (r >>= on)
turn_is b t z r on (text w) h = no_and b z (r >>= on)
turn_is b t z r on (mark m) h = no_and b z (r >>= on)

-- the next statement
abbrev pub statement_item : Progress → Reader Statement
statement_item y t = statement_at y.known y.count t

-- the loop over statements, with a turn at least
abbrev pub read_more : ℕ → Progress → Reader (List Statement)
read_more n y t = statements_read (suc n) y t

-- Statements are read by a loop, up to the end.
pub statements_loop : IsLoop Progress Statement (List Statement) (λ y i. not (is_last i)) statement_item advanced stopped read_more
unfolding statements_read
statements_loop = record {
  step = λ n y t. turn_is (nat_le 1 y.count) t (Ok (y.done, t)) (statement_at y.known y.count t) (λ s. statements_read (suc n) (advanced y s.0) s.1) t.token (last_statement y.known y.count t);
  base = λ y t h.
      turn_is (nat_le 1 y.count) t (Ok (y.done, t)) (statement_at y.known y.count t) (λ s. statements_read zero (advanced y s.0) s.1) t.token (last_statement y.known y.count t)
      ∙ ap (λ (b : Bool). cond b (statement_at y.known y.count t >>= λ s. statements_read zero (advanced y s.0) s.1) (stopped y t)) h;
  over = λ y i h. ap not h;
}

-- No statement changes the characteristic.
pub prime_kept : (known : Declarations) (s : Statement) → known.prime ≡ (after known s).prime
prime_kept known (remark r) = refl
prime_kept known (poly name sum) = refl
prime_kept known (again name other) = refl
prime_kept known (ideal name members) = refl
prime_kept known (command w name) = refl
prime_kept known (command_std w name) = refl

-- A statement has tokens.
pub statement_some : (s : Statement) → NotEmpty (statement_tokens s)
statement_some (remark r) = remark_some r
statement_some (poly name sum) = tt
statement_some (again name other) = tt
statement_some (ideal name members) = tt
statement_some (command w name) = tt
statement_some (command_std w name) = tt

-- behind statements, up to the end
abbrev GoesStatements : Progress → List Statement → List Token → Type 0
GoesStatements y x tokens = (made : List Statement) × (x ≡ y.done ++ made) × (flat_map statement_tokens made ≡ tokens) × FormedStatements y.count made

-- The end of the statements is read, or refused, by its token.
stopped_local : {n : ℕ} {W : Token → Type 0} (y : Progress) → Local IsLate (List Statement) n W (stopped y) (GoesStatements y)
stopped_local {n} {W} y = by_count (nat_le 1 y.count) (λ h. leb-true 1 y.count h)
  where
    some : (x : List Statement) × (tokens : List Token) × GoesStatements y x tokens
    some = (y.done ++ command Std a_name ∷ [], flat_map statement_tokens (command Std a_name ∷ []), (command Std a_name ∷ [], refl, refl, (refl, omega arith)))

    by_count : (b : Bool) → (b ≡ true → 1 ≤ y.count) → Local IsLate (List Statement) n W (λ t. cond (b && is_the_end t.token) (Ok (y.done, t)) (wanted t whats.Statement)) (GoesStatements y)
    by_count true h = local_if is_the_end (local_done y.done ([], sym (append-nil y.done), refl, h refl)) (local_refuse (Expected whats.Statement) some)
    by_count false h = local_refuse (Expected whats.Statement) some

-- The loop over statements reads, or refuses, by the tokens.
statements_local : {n : ℕ} {W : Token → Type 0} (y : Progress) → 1 < y.known.prime → Local IsLate (List Statement) n W (λ t. statements_read (suc t.left) y t) (GoesStatements y)
statements_local y prime =
    local_loop _ Progress Statement (List Statement) (λ y i. not (is_last i)) statement_item advanced stopped read_more (λ y. 1 < y.known.prime) (λ y. SpellsStatement) GoesStatements statements_loop
    (record {
      items = λ n y good. statement_local y.known y.count good;
      takes = λ y s tokens g. subst NotEmpty g.0 (statement_some s);
      keeps = λ y s tokens good g. subst (λ (p : ℕ). 1 < p) (prime_kept y.known s) good;
      stops = λ n y good. stopped_local y;
      more = λ y s a x b g l. (
        s ∷ l.0,
        l.1 ∙ append_assoc y.done (s ∷ []) l.0,
        ap (λ (z : List Token). z ++ flat_map statement_tokens l.0) g.0 ∙ ap (λ (z : List Token). a ++ z) l.2,
        (g.1, l.3),
      );
    }) y prime

-- ---- the tree
-- what is known behind the ring, with no command and no statement
abbrev pub start : Ring → Progress
start r = record { known = record { ring = r.name; prime = value_of r.prime; letters = letters_of r.variables; polys = []; ideals = [] }; count = 0; done = [] }

-- the tree of its parts
abbrev pub finished : List Remark → Ring → List Remark → Monomial → List Statement → Tree
finished before ring between noether statements = record { before = before; ring = ring; between = between; noether = noether; statements = statements }

-- the tree, with the place behind it
unfoldable pub tree_read : Reader Tree
tree_read t = do
  before ← remarks_at t.left [] t
  ring ← ring_part before.1
  between ← remarks_at ring.1.left [] ring.1
  noether ← noether_part (letters_of ring.0.variables) between.1
  statements ← statements_read (suc noether.1.left) (start ring.0) noether.1
  Ok (finished before.0 ring.0 between.0 noether.0 statements.0, statements.1)

-- A step that is two steps behind what was read is two steps from the beginning.
bind_on : {A B C : Type 0} (r : Result A Refusal) (f : A → Result C Refusal) (g : A → Result B Refusal) (h : B → Result C Refusal) → ((x : A) → f x ≡ (g x >>= h)) → (r >>= f) ≡ (r >>= g >>= h)
bind_on (Ok x) f g h same = same x
bind_on (Err d) f g h same = refl

-- A tree is made from its statements before or after the place behind is left out.
end_is : (made : List Statement → Tree) (r : Result (List Statement × Place) Refusal) → (r >>= just >>= λ s. Ok (made s)) ≡ ((r >>= λ s. Ok (made s.0, s.1)) >>= just)
end_is made (Ok x) = refl
end_is made (Err d) = refl

-- Reading the tree is reading it with the place behind it, without that.
pub tree_is : (t : Place) → tree_at t ≡ (tree_read t >>= just)
unfolding tree_at tree_read
tree_is t =
    bind_on (remarks_at t.left [] t) _ _ just (λ before.
    bind_on (ring_part before.1) _ _ just (λ ring.
    bind_on (remarks_at ring.1.left [] ring.1) _ _ just (λ between.
    bind_on (noether_part (letters_of ring.0.variables) between.1) _ _ just (λ noether.
    let made : List Statement → Tree = finished before.0 ring.0 between.0 noether.0 in
    ap (λ (r : Result (List Statement) Refusal). r >>= λ s. Ok (made s)) (statements_is (suc noether.1.left) (start ring.0) noether.1)
    ∙ end_is made (statements_read (suc noether.1.left) (start ring.0) noether.1)))))

abbrev WholeRing : Ring → List Token → Type 0
WholeRing r tokens = (ring_tokens r ≡ tokens) × FormedRing r × (1 < value_of r.prime)

-- The ring statement with its word is read, or refused, by its tokens.
ring_part_local : {n : ℕ} {W : Token → Type 0} → Local IsLate Ring n W ring_part WholeRing
ring_part_local {n} =
    let law : Local IsLate Ring n Any ring_at SpellsRing = ring_local in
    let some : (r : Ring) × (tokens : List Token) × WholeRing r tokens = let s = law.some in (s.0, word (codes "ring") ∷ s.1, s.2) in
    local_if (is_the_word (codes "ring")) (local_behind (word (codes "ring")) (λ i w. word_is (codes "ring") i w.1) law) (local_refuse (Expected whats.Ring) some)

abbrev WholeNoether : Monomial → List Token → Type 0
WholeNoether m tokens = (noether_tokens m ≡ tokens) × FormedMonomial m

-- The noether statement with its word is read, or refused, by its tokens.
noether_part_local : {n : ℕ} {W : Token → Type 0} (letters : List ℕ) → Local IsLate Monomial n W (noether_part letters) WholeNoether
noether_part_local {n} letters =
    let law : Local IsLate Monomial n Any (noether_at letters) SpellsNoether = noether_local letters in
    let some : (m : Monomial) × (tokens : List Token) × WholeNoether m tokens = let s = law.some in (s.0, word (codes "noether") ∷ s.1, s.2) in
    local_if (is_the_word (codes "noether")) (local_behind (word (codes "noether")) (λ i w. word_is (codes "noether") i w.1) law)
    (local_if begins_later (local_refuse MissingNoether some) (local_refuse (Expected whats.Noether) some))

abbrev pub SpellsShape : Tree → List Token → Type 0
SpellsShape t tokens = (tree_tokens t ≡ tokens) × IsFormed t

-- A script is read, or refused, by its tokens, and those before a refusal begin the shape of one.
pub tree_local : {n : ℕ} {W : Token → Type 0} → Local IsLate Tree n W tree_read SpellsShape
unfolding tree_read
tree_local =
    local_then _ remarks_local (λ before a l.
    local_then _ ring_part_local (λ ring b m.
    local_then _ remarks_local (λ between c o.
    local_then _ (noether_part_local (letters_of ring.variables)) (λ noether d p.
    local_map (finished before ring between noether) (statements_local (start ring) m.2) (λ statements e q.
    let same : flat_map statement_tokens statements ≡ e = ap (flat_map statement_tokens) q.1 ∙ q.2 in
    (rw (← l, ← m.0, ← o, ← p.0, ← same) refl, record { ring = m.1; noether = p.1; statements = subst (FormedStatements 0) (sym q.1) q.3 }))))))
