-- The loop over variables, and the letters that it has read.
use Rattle.std.proofs.Common.{◌≡◌, ◌≢◌, ℕ, zero, suc, ◌<◌, ◌≤◌, ◌++◌, ◌||◌, ◌&&◌, nat_le, true, false, cond, Bool, List, [], ◌∷◌, length, get_or, inl, inr, Result, Ok, Err, refl, sym, ap, subst, ◌∙◌, arith}
use Rattle.std.specs.Prelude.{◌==◌}
use Rattle.std.specs.Char.{IsAsciiAlphabetic}
use Rattle.std.proofs.lemmas.Bool.{leb-true, and_parts, eqb-false, eq-eqb}
use Rattle.std.proofs.lemmas.List.Folds.{list_any_at}
use Rattle.std.proofs.lemmas.List.{length-append}
use Rattle.std.proofs.lemmas.List.Elements.{All-append, All-cons, All-nil}
use Rattle.std.proofs.lemmas.List.Quantifiers.{all_pairs_push}
use Rattle.script_grammar.specs.declared.refusal.Refusal.{Refusal}
use Rattle.sparse_poly.specs.Letters.{AreLetters}
use Rattle.script_grammar.specs.Tokens.{is_letter, Place, next}
use Rattle.script_grammar.specs.Words.{has_letter, is_the_mark}
use Rattle.script_grammar.specs.declared.refusal.What.TheVariants as whats
use Rattle.script_grammar.specs.declared.refusal.ReadKind.TheVariants.{Expected}
use Rattle.script_grammar.specs.Steps.{◌>>=◌, wanted, kind_at}
use Rattle.script_grammar.specs.Statements.{listed_at, variable_at, variables_at, tail_of, letters_of, letters_at, letter_of, listed_letters}
use Rattle.expression_reader.specs.declared.stop.Stop.{Stop}
use Rattle.expression_reader.specs.Gives.{Fails, Gives, meant}

-- what the loop still reads makes the whole
pub record ListedSoFar (ring : List ℕ) (whole : Result (List ℕ × Place) Refusal) (letters : List ℕ) (t : Place) : Type 0 where
  pub turns : ℕ
  pub enough : t.left < turns
  pub reads : variables_at turns ring letters t ≡ whole
  pub are : AreLetters letters

-- ---- letters
within : (a z b : ℕ) → (nat_le a b && nat_le b z) ≡ true → (a ≤ b) × (b ≤ z)
within a z b h = let both = and_parts (nat_le a b) (nat_le b z) h in (leb-true a b both.0, leb-true b z both.1)

-- What is a large or a small letter is alphabetic.
letter_alphabetic-by : (b : ℕ) (large small : Bool) → (large || small) ≡ true → (large ≡ true → IsAsciiAlphabetic b) → (small ≡ true → IsAsciiAlphabetic b) → IsAsciiAlphabetic b
letter_alphabetic-by b true small h f g = f refl
letter_alphabetic-by b false small h f g = g h

-- A letter is alphabetic.
pub letter_alphabetic : (b : ℕ) → is_letter b ≡ true → IsAsciiAlphabetic b
letter_alphabetic b h =
    letter_alphabetic-by b (nat_le 65 b && nat_le b 90) (nat_le 97 b && nat_le b 122) h (λ e. inl (within 65 90 b e)) (λ e. inr (within 97 122 b e))

-- A letter that isn't among some differs from each.
has_letter_at : (letters : List ℕ) (x : ℕ) → has_letter letters x ≡ false → (k : ℕ) (d : ℕ) → k < length letters → get_or letters k d ≢ x
has_letter_at letters x h k d low = λ e.
    let same : (get_or letters k d == x) ≡ true = eq-eqb (get_or letters k d) x e in
    let found = list_any_at (λ l. l == x) letters k d low same in
    cc

-- Letters with one more that is free are letters.
pub letters_push : (letters : List ℕ) (x : ℕ) → AreLetters letters → is_letter x ≡ true → has_letter letters x ≡ false → (length letters == 8) ≡ false → AreLetters (letters ++ x ∷ [])
letters_push letters x l h fresh few = record {
  some = omega (arith, length-append letters (x ∷ []));
  few = omega (arith, length-append letters (x ∷ []), eqb-false (length letters) 8 few, l.few);
  letters = All-append IsAsciiAlphabetic letters (x ∷ []) l.letters (All-cons IsAsciiAlphabetic x [] (letter_alphabetic x h) (All-nil IsAsciiAlphabetic));
  different = all_pairs_push (λ a b. a ≢ b) letters x l.different (has_letter_at letters x fresh);
}

-- ---- the loop
listed_goes-at : (ring : List ℕ) (whole : Result (List ℕ × Place) Refusal) (letters : List ℕ) (t : Place) (x : ℕ) (u : Place)
    → is_the_mark 44 t.token ≡ true → u.left < t.left → variable_at ring letters (next t.rest) ≡ Ok (x, u) → AreLetters (letters ++ x ∷ [])
    → (n : ℕ) → t.left < n → variables_at n ring letters t ≡ whole → ListedSoFar ring whole (letters ++ x ∷ []) u
unfolding variables_at
listed_goes-at ring whole letters t x u here shorter e are zero enough reads = absurd (omega arith)
listed_goes-at ring whole letters t x u here shorter e are (suc n) enough reads =
    let one : variables_at (suc n) ring letters t ≡ variables_at n ring (letters ++ x ∷ []) u = rw here (ap (λ (r : Result (ℕ × Place) Refusal). r >>= λ l. variables_at n ring (letters ++ l.0 ∷ []) l.1) e) in
    record { turns = n; enough = omega arith; reads = sym one ∙ reads; are = are }

-- Letters in parentheses go on behind a comma.
pub listed_goes : (ring : List ℕ) (whole : Result (List ℕ × Place) Refusal) (letters : List ℕ) (t start : Place) (x : ℕ) (u : Place) (made : List ℕ)
    → is_the_mark 44 t.token ≡ true → u.left < t.left → start ≡ next t.rest → variable_at ring letters start ≡ Ok (x, u)
    → is_letter x ≡ true → has_letter letters x ≡ false → (length letters == 8) ≡ false → made ≡ letters ++ x ∷ []
    → ListedSoFar ring whole letters t → ListedSoFar ring whole made u
listed_goes ring whole letters t start x u made here shorter starts e h fresh few makes s =
    let at_next = subst (λ (p : Place). variable_at ring letters p ≡ Ok (x, u)) starts e in
    subst (λ (l : List ℕ). ListedSoFar ring whole l u) (sym makes)
    (listed_goes-at ring whole letters t x u here shorter at_next (letters_push letters x s.are h fresh few) s.turns s.enough s.reads)

-- What refuses the letter behind a comma refuses them all, where the loop of the grammar has turns left.
listed_fails-at : (ring : List ℕ) (whole : Result (List ℕ × Place) Refusal) (letters : List ℕ) (t : Place) (f : Refusal)
    → is_the_mark 44 t.token ≡ true → variable_at ring letters (next t.rest) ≡ Err f → (n : ℕ) → t.left < n → variables_at n ring letters t ≡ whole → whole ≡ Err f
unfolding variables_at
listed_fails-at ring whole letters t f here e zero enough reads = absurd (omega arith)
listed_fails-at ring whole letters t f here e (suc n) enough reads =
    let one : variables_at (suc n) ring letters t ≡ Err f = rw here (ap (λ (r : Result (ℕ × Place) Refusal). r >>= λ l. variables_at n ring (letters ++ l.0 ∷ []) l.1) e) in
    sym reads ∙ one

-- a refused letter
pub listed_fails : (ring : List ℕ) (whole : Result (List ℕ × Place) Refusal) (letters : List ℕ) (t start : Place) (f : Refusal)
    → is_the_mark 44 t.token ≡ true → start ≡ next t.rest → variable_at ring letters start ≡ Err f → ListedSoFar ring whole letters t → whole ≡ Err f
listed_fails ring whole letters t start f here starts e s =
    listed_fails-at ring whole letters t f here (subst (λ (p : Place). variable_at ring letters p ≡ Err f) starts e) s.turns s.enough s.reads

-- The ) ends the letters, where the loop of the grammar has turns left.
listed_ends-at : (ring : List ℕ) (whole : Result (List ℕ × Place) Refusal) (letters : List ℕ) (t : Place)
    → is_the_mark 44 t.token ≡ false → is_the_mark 41 t.token ≡ true → (n : ℕ) → t.left < n → variables_at n ring letters t ≡ whole → whole ≡ Ok (letters, next t.rest)
unfolding variables_at
listed_ends-at ring whole letters t no_comma here zero enough reads = absurd (omega arith)
listed_ends-at ring whole letters t no_comma here (suc n) enough reads =
    let one : variables_at (suc n) ring letters t ≡ Ok (letters, next t.rest) = rw (no_comma, here) refl in
    sym reads ∙ one

-- the ) behind the letters
pub listed_ends : (ring : List ℕ) (whole : Result (List ℕ × Place) Refusal) (letters : List ℕ) (t after : Place)
    → is_the_mark 44 t.token ≡ false → is_the_mark 41 t.token ≡ true → after ≡ next t.rest → ListedSoFar ring whole letters t → whole ≡ Ok (letters, after)
listed_ends ring whole letters t after no_comma here ends s =
    listed_ends-at ring whole letters t no_comma here s.turns s.enough s.reads ∙ ap (λ (p : Place). Ok (letters, p)) (sym ends)

-- What is neither a comma nor the ) is refused, where the loop of the grammar has turns left.
listed_stops-at : (ring : List ℕ) (whole : Result (List ℕ × Place) Refusal) (letters : List ℕ) (t : Place)
    → is_the_mark 44 t.token ≡ false → is_the_mark 41 t.token ≡ false → (n : ℕ) → t.left < n → variables_at n ring letters t ≡ whole → whole ≡ wanted t whats.Comma
unfolding variables_at
listed_stops-at ring whole letters t no_comma no_close zero enough reads = absurd (omega arith)
listed_stops-at ring whole letters t no_comma no_close (suc n) enough reads =
    let one : variables_at (suc n) ring letters t ≡ wanted t whats.Comma = rw (no_comma, no_close) refl in
    sym reads ∙ one

-- neither a comma nor a )
pub listed_stops : (ring : List ℕ) (whole : Result (List ℕ × Place) Refusal) (letters : List ℕ) (t : Place) (f : Refusal)
    → is_the_mark 44 t.token ≡ false → is_the_mark 41 t.token ≡ false → f ≡ record { left = t.left; kind = kind_at t.token (Expected whats.Comma) } → ListedSoFar ring whole letters t → whole ≡ Err f
listed_stops ring whole letters t f no_comma no_close refuses s =
    listed_stops-at ring whole letters t no_comma no_close s.turns s.enough s.reads ∙ ap (λ (x : Refusal). Err x) (sym refuses)

-- ---- the whole list
-- the first letter and those behind it
abbrev whole_list : List ℕ × Place → Result (List ℕ × Place) Refusal
whole_list all = Ok (letter_of all.0 ∷ tail_of all.0, all.1)

-- Letters of which there are some are the first one and those behind it, whichever way the loop goes.
front_kept-by : (comma close : Bool) (r : Result (ℕ × Place) Refusal) (go : ℕ × Place → Result (List ℕ × Place) Refusal) (here : List ℕ × Place) (stop : Refusal) → here.0 ≡ letter_of here.0 ∷ tail_of here.0
    → ((y : ℕ × Place) → (go y >>= whole_list) ≡ go y) → (cond comma (r >>= go) (cond close (Ok here) (Err stop)) >>= whole_list) ≡ cond comma (r >>= go) (cond close (Ok here) (Err stop))
front_kept-by true close (Ok y) go here stop e kept = kept y
front_kept-by true close (Err f) go here stop e kept = refl
front_kept-by false true r go here stop e kept = ap (λ (k : List ℕ). Ok (k, here.1)) (sym e)
front_kept-by false false r go here stop e kept = refl

-- The letters that a loop reads are the first one and those behind it.
front_kept : (n : ℕ) (ring : List ℕ) (l : ℕ) (letters : List ℕ) (t : Place) → (variables_at n ring (l ∷ letters) t >>= whole_list) ≡ variables_at n ring (l ∷ letters) t
unfolding variables_at
front_kept zero ring l letters t = refl
front_kept (suc n) ring l letters t =
    front_kept-by (is_the_mark 44 t.token) (is_the_mark 41 t.token) (variable_at ring (l ∷ letters) (next t.rest))
    (λ y. variables_at n ring (l ∷ (letters ++ y.0 ∷ [])) y.1) (l ∷ letters, next t.rest) (record { left = t.left; kind = kind_at t.token (Expected whats.Comma) }) refl
    (λ y. front_kept n ring l (letters ++ y.0 ∷ []) y.1)

-- Letters in parentheses are the letters that are listed, from the first one on.
letters_listed-by : (ring : List ℕ) (r : Result (ℕ × Place) Refusal)
    → meant letters_of (r >>= (λ first. variables_at (suc first.1.left) ring (first.0 ∷ []) first.1) >>= λ all. Ok (listed_letters all.0, all.1)) ≡ (r >>= λ first. variables_at (suc first.1.left) ring (first.0 ∷ []) first.1)
letters_listed-by ring (Ok x) = twice (variables_at (suc x.1.left) ring (x.0 ∷ []) x.1) ∙ front_kept (suc x.1.left) ring x.0 [] x.1
  where
    twice : (r : Result (List ℕ × Place) Refusal) → meant letters_of (r >>= λ all. Ok (listed_letters all.0, all.1)) ≡ (r >>= whole_list)
    twice (Ok all) = refl
    twice (Err e) = refl
letters_listed-by ring (Err e) = refl

-- Behind ( the variables are the letters that are listed.
pub letters_listed : (ring : List ℕ) (t start : Place) → is_the_mark 40 t.token ≡ true → start ≡ next t.rest → meant letters_of (letters_at ring t) ≡ listed_at ring start
unfolding letters_at
letters_listed ring t start here starts =
    rw (here, starts) (letters_listed-by ring (variable_at ring [] (next t.rest)))

-- what is given of one is given of the same
pub gives_same : {X Y : Type 0} (view : X → Y) (r : Result X Stop) (read other : Result Y Refusal) → other ≡ read → Gives view r read → Gives view r other
gives_same view r read other e g = subst (λ (x : Result _ Refusal). Gives view r x) (sym e) g

-- what fails where one is read fails where the same is read
pub fails_same : {Y : Type 0} (e : Stop) (read other : Result Y Refusal) → other ≡ read → Fails e read → Fails e other
fails_same e read other same f = subst (Fails e) (sym same) f
