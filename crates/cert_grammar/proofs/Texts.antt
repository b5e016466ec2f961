-- The lines of a text are those that it was made of, and a text is that of its lines.
use Rattle.std.proofs.Common.{◌≡◌, ℕ, Bool, true, false, List, [], ◌∷◌, ◌++◌, refl, sym, ◌∙◌, ap, append_assoc, arith}
use Rattle.std.specs.Prelude.{◌&&◌, not, ◌==◌, if◌then◌else◌}
use Rattle.cert_grammar.specs.Lines.{Word, Line, line_text, text, is_plain, IsLine, AreLines, in_front, word_in_front, with_byte, lines_of}
use Rattle.cert_grammar.proofs.Tools.{and_true}

-- what is not so is not so
not_true : (b : Bool) → not b ≡ true → b ≡ false
not_true true e = absurd (cc)
not_true false e = refl

-- the text of a line with one byte more in front
front_byte : (b : ℕ) (w : Word) (ws : List Word) → line_text ((b ∷ w) ∷ ws) ≡ b ∷ line_text (w ∷ ws)
front_byte b w [] = refl
front_byte b w (v ∷ ws) = refl

-- ---- from lines to their text and back
-- a byte that is no blank and no end goes on with the word
plain_byte : (b : ℕ) (w : Word) (ws : List Word) (ls : List Line) → (b == 10) ≡ false → (b == 32) ≡ false → (rest : List ℕ) → lines_of rest ≡ (w ∷ ws) ∷ ls → lines_of (b ∷ rest) ≡ ((b ∷ w) ∷ ws) ∷ ls
plain_byte b w ws ls n10 n32 rest e =
    ap (λ c. if c then ([] ∷ []) ∷ lines_of rest else with_byte b (lines_of rest)) n10
    ∙ ap (with_byte b) e
    ∙ ap (λ c. (if c then word_in_front (w ∷ ws) else in_front b (w ∷ ws)) ∷ ls) n32

-- a line is taken off its text, word by word
line_again : (w : Word) (ws : List Word) (rest : List ℕ) → IsLine (w ∷ ws) → lines_of (line_text (w ∷ ws) ++ rest) ≡ (w ∷ ws) ∷ lines_of rest
line_again [] [] rest h = refl
line_again [] (v ∷ ws) rest h = ap (with_byte 32) (line_again v ws rest h.1)
line_again (b ∷ w) ws rest h =
    let p : (not (b == 32) ≡ true) × ((not (b == 10) && is_plain w) ≡ true) = and_true (not (b == 32)) (not (b == 10) && is_plain w) h.0 in
    let q : (not (b == 10) ≡ true) × (is_plain w ≡ true) = and_true (not (b == 10)) (is_plain w) p.1 in
    ap (λ (z : List ℕ). lines_of (z ++ rest)) (front_byte b w ws)
    ∙ plain_byte b w ws (lines_of rest) (not_true (b == 10) q.0) (not_true (b == 32) p.0) (line_text (w ∷ ws) ++ rest) (line_again w ws rest (q.1, h.1))

-- a line is taken off its text
pub one_line_again : (l : Line) (rest : List ℕ) → IsLine l → lines_of (line_text l ++ rest) ≡ l ∷ lines_of rest
one_line_again [] rest h = elim h [ ]
one_line_again (w ∷ ws) rest h = line_again w ws rest h

-- lines are taken off their text
pub lines_again : (ls : List Line) (rest : List ℕ) → AreLines ls → lines_of (text ls ++ rest) ≡ ls ++ lines_of rest
lines_again [] rest h = refl
lines_again (l ∷ ls) rest h =
    ap lines_of (append_assoc (line_text l) (text ls) rest) ∙ one_line_again l (text ls ++ rest) h.0 ∙ ap (λ (z : List Line). l ∷ z) (lines_again ls rest h.1)

-- ---- from a text to its lines and back
-- the bytes begin with these lines
pub record BeginsWith (bytes : List ℕ) (good after : List Line) : Type 0 where
  pub rest : List ℕ
  pub split : bytes ≡ text good ++ rest
  pub behind : lines_of rest ≡ after

-- the bytes begin with a line
pub record BeginsWithLine (bytes : List ℕ) (l : Line) (after : List Line) : Type 0 where
  pub rest : List ℕ
  pub split : bytes ≡ line_text l ++ rest
  pub behind : lines_of rest ≡ after

-- numbers that pass the test are equal
eqb_is : (m n : ℕ) → (m == n) ≡ true → m ≡ n
eqb_is m n e = grind arith

-- a first line with a word stands in the bytes
pub one_line_there : (bytes : List ℕ) (w : Word) (ws : List Word) (after : List Line) → lines_of bytes ≡ (w ∷ ws) ∷ after → BeginsWithLine bytes (w ∷ ws) after
one_line_there [] w ws after e = absurd (cc)
one_line_there (b ∷ bytes) w ws after e = go (one_line_there bytes) (b == 10) refl e
  where
    go : ((v : Word) (vs : List Word) (rest : List Line) → lines_of bytes ≡ (v ∷ vs) ∷ rest → BeginsWithLine bytes (v ∷ vs) rest) → (c : Bool) → (b == 10) ≡ c →
        (if c then ([] ∷ []) ∷ lines_of bytes else with_byte b (lines_of bytes)) ≡ (w ∷ ws) ∷ after → BeginsWithLine (b ∷ bytes) (w ∷ ws) after
    go again true was p =
        let q : [] ∷ [] ≡ w ∷ ws = cc in
        let r : lines_of bytes ≡ after = cc in
        record { rest = bytes; split = ap (λ z. z ∷ bytes) (eqb_is b 10 was) ∙ ap (λ (z : Line). line_text z ++ bytes) q; behind = r }
    go again false was p = front (lines_of bytes) refl p
      where
        front : (ls : List Line) → lines_of bytes ≡ ls → with_byte b ls ≡ (w ∷ ws) ∷ after → BeginsWithLine (b ∷ bytes) (w ∷ ws) after
        front [] is p = absurd (let q : [] ≡ w ∷ ws = cc in cc)
        front ([] ∷ ls) is p = absurd (nothing (b == 32) p)
          where
            nothing : (c : Bool) → (if c then word_in_front [] else in_front b []) ∷ ls ≡ (w ∷ ws) ∷ after → ⊥
            nothing true p = let q : [] ≡ w ∷ ws = cc in cc
            nothing false p = let q : [] ≡ w ∷ ws = cc in cc
        front ((v ∷ vs) ∷ ls) is p = by (b == 32) refl p
          where
            there : BeginsWithLine bytes (v ∷ vs) ls
            there = again v vs ls is

            by : (c : Bool) → (b == 32) ≡ c → (if c then word_in_front (v ∷ vs) else in_front b (v ∷ vs)) ∷ ls ≡ (w ∷ ws) ∷ after → BeginsWithLine (b ∷ bytes) (w ∷ ws) after
            by true is32 p =
                let q : [] ∷ v ∷ vs ≡ w ∷ ws = cc in
                let r : ls ≡ after = cc in
                record { rest = there.rest; split = ap (λ z. z ∷ bytes) (eqb_is b 32 is32) ∙ ap (λ (z : List ℕ). 32 ∷ z) there.split ∙ ap (λ (z : Line). line_text z ++ there.rest) q; behind = there.behind ∙ r }
            by false is32 p =
                let q : (b ∷ v) ∷ vs ≡ w ∷ ws = cc in
                let r : ls ≡ after = cc in
                record { rest = there.rest; split = ap (λ (z : List ℕ). b ∷ z) there.split ∙ ap (λ (z : List ℕ). z ++ there.rest) (sym (front_byte b v vs)) ∙ ap (λ (z : Line). line_text z ++ there.rest) q; behind = there.behind ∙ r }

-- lines stand in the bytes
pub lines_there : (bytes : List ℕ) (good after : List Line) → AreLines good → lines_of bytes ≡ good ++ after → BeginsWith bytes good after
lines_there bytes [] after h e = record { rest = bytes; split = refl; behind = e }
lines_there bytes ([] ∷ good) after h e = elim h.0 [ ]
lines_there bytes ((w ∷ ws) ∷ good) after h e =
    let b : BeginsWithLine bytes (w ∷ ws) (good ++ after) = one_line_there bytes w ws (good ++ after) e in
    let r : BeginsWith b.rest good after = lines_there b.rest good after h.1 b.behind in
    record { rest = r.rest; split = b.split ∙ ap (λ (z : List ℕ). line_text (w ∷ ws) ++ z) r.split ∙ sym (append_assoc (line_text (w ∷ ws)) (text good) r.rest); behind = r.behind }

-- no lines, no bytes
pub no_lines : (bytes : List ℕ) → lines_of bytes ≡ [] → bytes ≡ []
no_lines [] e = refl
no_lines (b ∷ bytes) e = absurd (go (b == 10) (lines_of bytes) e)
  where
    go : (c : Bool) (ls : List Line) → (if c then ([] ∷ []) ∷ ls else with_byte b ls) ≡ [] → ⊥
    go true ls e = cc
    go false [] e = cc
    go false (l ∷ ls) e = cc
