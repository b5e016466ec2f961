-- Where tokens stand: each takes bytes, and only the end takes none.
-- Skipping leaves no more bytes than there were; a token is cut off in front of what is left; so down along the tokens that stand.
use Rattle.std.proofs.Common.{◌≡◌, ℕ, zero, suc, ◌+◌, ◌-◌, ◌<◌, ◌≤◌, Bool, true, false, cond, ◌&&◌, List, [], ◌∷◌, length, Option, Some, None, refl, sym, subst, arith, eqb, ap, ◌∙◌}
use Rattle.std.specs.Prelude.{IfSome}
use Rattle.std.proofs.lemmas.List.{length-drop}
use Rattle.script_grammar.specs.Tokens.{Layout, blanks, line, opened, block, closed, skip, is_blank, begins, is_word_byte, is_mark, word_len, text_len, Token, Place, next, front, front_if, string, mark, word, text, bad, end, cut}
use Rattle.script_grammar.specs.Words.{is_word, is_the_end}
use Rattle.script_grammar.specs.Valid.{Stand}
use Rattle.script_grammar.specs.Places.{is_last, Placed}

Within : ℕ → Option (List ℕ) → Type 0
Within n r = IfSome r (λ bytes. length bytes ≤ n)

-- What is within a number of bytes is within more.
within_more : (n m : ℕ) (r : Option (List ℕ)) → n ≤ m → Within n r → Within m r
unfolding Within
within_more n m None le h = tt
within_more n m (Some bytes) le h = omega arith

-- What both branches of a test are within, the test is within.
within_cond : (n : ℕ) (b : Bool) (x y : Option (List ℕ)) → Within n x → Within n y → Within n (cond b x y)
within_cond n true x y p q = p
within_cond n false x y p q = q

-- Skipping leaves no more bytes than there were.
skip-within : (l : Layout) (bytes : List ℕ) → Within (length bytes) (skip l bytes)
unfolding skip Within
skip-within blanks [] = omega arith
skip-within blanks (b ∷ rest) =
    let here : (m : Layout) → Within (suc (length rest)) (skip m rest) = λ m. within_more (length rest) (suc (length rest)) (skip m rest) (omega arith) (skip-within m rest) in
    within_cond (suc (length rest)) (is_blank b) _ _ (here blanks) (within_cond (suc (length rest)) (eqb b 47 && begins 47 rest) _ _ (here line) (within_cond (suc (length rest)) (eqb b 47 && begins 42 rest) _ _ (here opened) (omega arith)))
skip-within line [] = omega arith
skip-within line (b ∷ rest) =
    let here : (m : Layout) → Within (suc (length rest)) (skip m rest) = λ m. within_more (length rest) (suc (length rest)) (skip m rest) (omega arith) (skip-within m rest) in
    within_cond (suc (length rest)) (eqb b 10) _ _ (here blanks) (here line)
skip-within opened [] = tt
skip-within opened (b ∷ rest) = within_more (length rest) (suc (length rest)) (skip block rest) (omega arith) (skip-within block rest)
skip-within block [] = tt
skip-within block (b ∷ rest) =
    let here : (m : Layout) → Within (suc (length rest)) (skip m rest) = λ m. within_more (length rest) (suc (length rest)) (skip m rest) (omega arith) (skip-within m rest) in
    within_cond (suc (length rest)) (eqb b 42 && begins 47 rest) _ _ (here closed) (here block)
skip-within closed [] = tt
skip-within closed (b ∷ rest) = within_more (length rest) (suc (length rest)) (skip blanks rest) (omega arith) (skip-within blanks rest)

-- a token of at most n bytes and what is behind it
pub record IsNext (n : ℕ) (t : Place) : Type 0 where
  pub within : t.left ≤ n
  pub shorter : length t.rest ≤ t.left - 1
  pub ends : t.left ≡ 0 → is_last t.token ≡ true
  pub last : is_last t.token ≡ true → t.left ≡ 0

-- A test between two next places is one.
next_cond : (n : ℕ) (b : Bool) (x y : Place) → (b ≡ true → IsNext n x) → IsNext n y → IsNext n (cond b x y)
next_cond n true x y p q = p refl
next_cond n false x y p q = q

-- false isn't true.
no_over : false ≡ true → ⊥
no_over e = cc

-- A string in front takes a byte at least.
string_is : (n : ℕ) (rest : List ℕ) (k : Option ℕ) → length rest < n → IsNext n (string n rest k)
string_is n rest None lt = record { within = omega arith; shorter = omega arith; ends = λ _. refl; last = λ _. refl }
string_is n rest (Some k) lt = record { within = omega arith; shorter = omega (arith, length-drop (k + 1) rest); ends = λ e. absurd (omega arith); last = λ e. absurd (no_over e) }

-- A word in front takes a byte at least.
word_some : (b : ℕ) (rest : List ℕ) → is_word_byte b ≡ true → 1 ≤ word_len (b ∷ rest)
unfolding word_len
word_some b rest h = subst (λ (d : Bool). 1 ≤ cond d (suc (word_len rest)) 0) (sym h) (omega arith)

-- What is in front takes a byte, or is the end.
front_is : (bytes : List ℕ) → IsNext (length bytes) (front bytes)
unfolding front
front_is [] = record { within = omega arith; shorter = omega arith; ends = λ _. refl; last = λ _. refl }
front_is (b ∷ rest) =
    let n = suc (length rest) in
    next_cond n (is_word_byte b) _ _ (λ h. record { within = omega arith; shorter = omega (arith, length-drop (word_len (b ∷ rest)) (b ∷ rest), word_some b rest h); ends = λ e. absurd (omega arith); last = λ e. absurd (no_over e) })
    (next_cond n (is_mark b) _ _ (λ _. record { within = omega arith; shorter = omega arith; ends = λ e. absurd (omega arith); last = λ e. absurd (no_over e) })
    (next_cond n (eqb b 34) _ _ (λ _. string_is n rest (text_len rest) (omega arith))
    (record { within = omega arith; shorter = omega arith; ends = λ e. absurd (omega arith); last = λ e. absurd (no_over e) })))

-- What is next in some bytes is next in more.
more_room : (n m : ℕ) (t : Place) → n ≤ m → IsNext n t → IsNext m t
more_room n m t le h = record { within = omega arith; shorter = h.shorter; ends = h.ends; last = h.last }

-- What is in front behind what is skipped is next.
front_if_is : (n : ℕ) (r : Option (List ℕ)) → Within n r → IsNext n (front_if r)
unfolding Within
front_if_is n None h = record { within = omega arith; shorter = omega arith; ends = λ _. refl; last = λ _. refl }
front_if_is n (Some bytes) h = more_room (length bytes) n (front bytes) h (front_is bytes)

-- The next place takes a byte or is the end, within the bytes there are.
pub next_is : (bytes : List ℕ) → IsNext (length bytes) (next bytes)
unfolding next
next_is bytes = front_if_is (length bytes) (skip blanks bytes) (skip-within blanks bytes)

-- Each place that next gives is placed.
pub next_placed : (bytes : List ℕ) → Placed (next bytes)
next_placed bytes = let n = next_is bytes in record { shorter = n.shorter; ends = n.ends; last = n.last }

-- what stands behind tokens is placed too, and no longer than what stood before them
pub stand_placed : (t : Place) (tokens : List Token) (u : Place) → Placed t → Stand t tokens u → (u.left ≤ t.left) × Placed u
stand_placed t [] u h p = subst (λ (x : Place). (x.left ≤ t.left) × Placed x) p (omega arith, h)
stand_placed t (i ∷ tokens) u h p =
    let n = next_is t.rest in
    let r = stand_placed (next t.rest) tokens u (next_placed t.rest) p.1 in
    (omega (arith, h.shorter, n.within), r.1)

-- Where only the end leaves nothing, another token leaves a byte.
some_left-at : (n : ℕ) (i : Token) → (n ≡ 0 → is_last i ≡ true) → is_last i ≡ false → 0 < n
some_left-at zero i ends here = absurd (no_over (sym here ∙ ends refl))
some_left-at (suc n) i ends here = omega arith

-- behind a token that isn't the last one less is left
pub stand_less : (t : Place) (token : Token) (tokens : List Token) (u : Place) → Placed t → is_last t.token ≡ false → Stand t (token ∷ tokens) u → (u.left < t.left) × Placed u
stand_less t token tokens u h some p =
    let n = next_is t.rest in
    let r = stand_placed (next t.rest) tokens u (next_placed t.rest) p.1 in
    let left = some_left-at t.left t.token h.ends some in
    (omega (arith, h.shorter, n.within, r.0, left), r.1)

-- so behind a mark
pub behind_mark : (t : Place) (m : ℕ) (tokens : List Token) (u : Place) → Placed t → t.token ≡ mark m → Stand (next t.rest) tokens u → (u.left < t.left) × Placed u
behind_mark t m tokens u h here p = stand_less t t.token tokens u h (ap is_last here) (refl, p)

-- and behind a word
abbrev pub begins_with_word : List Token → Bool
begins_with_word [] = false
begins_with_word (i ∷ tokens) = is_word i

-- A word isn't the end.
word_no_last : (i : Token) → is_word i ≡ true → is_last i ≡ false
word_no_last (word w) h = refl
word_no_last (text w) h = absurd cc
word_no_last (mark m) h = absurd cc
word_no_last bad h = absurd cc
word_no_last end h = absurd cc
word_no_last cut h = absurd cc

-- Behind tokens that begin with a word less is left.
pub behind_word : (t : Place) (tokens : List Token) (u : Place) → Placed t → begins_with_word tokens ≡ true → Stand t tokens u → (u.left < t.left) × Placed u × (is_word t.token ≡ true)
behind_word t [] u h begins p = absurd cc
behind_word t (i ∷ tokens) u h begins p =
    let here : is_word t.token ≡ true = ap is_word p.0 ∙ begins in
    let r = stand_less t i tokens u h (word_no_last t.token here) p in
    (r.0, r.1, here)

-- A word isn't the end of the input.
pub word_no_end : (i : Token) → is_word i ≡ true → is_the_end i ≡ false
word_no_end (word w) h = refl
word_no_end (text w) h = absurd cc
word_no_end (mark m) h = absurd cc
word_no_end bad h = absurd cc
word_no_end end h = absurd cc
word_no_end cut h = absurd cc
