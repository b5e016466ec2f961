-- A line is its first word and those behind it, a text its first line and those behind it, and a numeral is told by what is printed.
use Rattle.std.proofs.Common.{length-drop, ◌≡◌, ℕ, suc, ◌+◌, ◌-◌, ◌*◌, ◌<◌, ◌≤◌, Bool, true, false, List, [], ◌∷◌, length, take, drop, get_or, Option, Some, None, refl, sym, ◌∙◌, ap, subst, arith}
use Rattle.std.proofs.lemmas.Bool.{le-leb, lt-leb}
use Rattle.std.specs.Prelude.{◌==◌, ◌&&◌, not, nat_le, eqb, nat_lt, if◌then◌else◌, decimal}
use Rattle.std.proofs.Math.Seq.{drop-cons}
use Rattle.std.specs.Option.{option_map, is_some}
use Rattle.prime_field.specs.Decimal.{value_from, value_of}
use Rattle.script_grammar.specs.Words.{is_same}
use lib.Pointwise.{pointwise}
use Rattle.cert_grammar.specs.Lines.{Word, Line, in_front, word_in_front, with_byte, lines_of, words_of}
use Rattle.cert_text.specs.Cuts.{len_before, behind_cut, is_empty}
use Rattle.cert_text.specs.Gives.{uncons, IsUnended, at_end, without_end}
use Rattle.cert_text.specs.WordsLeft.{words_left}
use Rattle.cert_grammar.specs.Phrases.{numeral_of, keyword_at}

-- ---- equal bytes
-- comparing bytes one by one is comparing
pub pointwise_same : (v w : List ℕ) → pointwise eqb v w ≡ is_same v w
pointwise_same [] [] = refl
pointwise_same [] (b ∷ w) = refl
pointwise_same (a ∷ v) [] = refl
pointwise_same (a ∷ v) (b ∷ w) = ap (λ z. eqb a b && z) (pointwise_same v w)

-- ---- cuts
-- how many bytes stand before c, by the first byte
pub len_before-cons : (c b : ℕ) (bytes : List ℕ) → len_before c (b ∷ bytes) ≡ (if b == c then 0 else suc (len_before c bytes))
unfolding len_before
len_before-cons c b bytes = refl

-- none stand in no bytes
pub len_before-nil : (c : ℕ) → len_before c [] ≡ 0
unfolding len_before
len_before-nil c = refl

-- the cut behind one byte more
cut_more : (n b : ℕ) (bytes : List ℕ) → behind_cut (suc n) (b ∷ bytes) ≡ behind_cut n bytes
cut_more n b bytes =
    ap (λ k. if k then Some (drop (suc n + 1) (b ∷ bytes)) else None) (let p : nat_lt (suc n) (length (b ∷ bytes)) ≡ nat_lt n (length bytes) = grind arith in p)
    ∙ ap (λ j. if nat_lt n (length bytes) then Some (drop j (b ∷ bytes)) else None) (let p : suc n + 1 ≡ suc (n + 1) = omega arith in p)

-- behind the first byte
cut_here : (b : ℕ) (bytes : List ℕ) → behind_cut 0 (b ∷ bytes) ≡ Some bytes
cut_here b bytes = ap (λ k. if k then Some (drop (0 + 1) (b ∷ bytes)) else None) (let p : nat_lt 0 (length (b ∷ bytes)) ≡ true = grind arith in p)

-- a line is its first word and those behind it
pub words-cut : (bytes : List ℕ) → words_of bytes ≡ take (len_before 32 bytes) bytes ∷ words_left (behind_cut (len_before 32 bytes) bytes)
words-cut [] = ap (λ n. take n [] ∷ words_left (behind_cut n [])) (sym (len_before-nil 32))
words-cut (b ∷ bytes) = go (b == 32) refl (words-cut bytes)
  where
    go : (c : Bool) → (b == 32) ≡ c → words_of bytes ≡ take (len_before 32 bytes) bytes ∷ words_left (behind_cut (len_before 32 bytes) bytes) →
        words_of (b ∷ bytes) ≡ take (len_before 32 (b ∷ bytes)) (b ∷ bytes) ∷ words_left (behind_cut (len_before 32 (b ∷ bytes)) (b ∷ bytes))
    go true is e =
        ap (λ c. if c then [] ∷ words_of bytes else in_front b (words_of bytes)) is
        ∙ ap (λ (z : Option (List ℕ)). [] ∷ words_left z) (sym (cut_here b bytes))
        ∙ ap (λ n. take n (b ∷ bytes) ∷ words_left (behind_cut n (b ∷ bytes))) (sym (len_before-cons 32 b bytes ∙ ap (λ c. if c then 0 else suc (len_before 32 bytes)) is))
    go false is e =
        ap (λ c. if c then [] ∷ words_of bytes else in_front b (words_of bytes)) is
        ∙ ap (in_front b) e
        ∙ ap (λ z. (b ∷ take (len_before 32 bytes) bytes) ∷ words_left z) (sym (cut_more (len_before 32 bytes) b bytes))
        ∙ ap (λ n. take n (b ∷ bytes) ∷ words_left (behind_cut n (b ∷ bytes))) (sym (len_before-cons 32 b bytes ∙ ap (λ c. if c then 0 else suc (len_before 32 bytes)) is))

-- the next word of those that are left
pub next_told : {X : Type 0} (f : X → List ℕ) (ws : List Word) (left : Option X) (x : X) (front : List ℕ) (behind : Option (List ℕ)) → words_left (option_map f left) ≡ ws → left ≡ Some x →
    front ≡ take (len_before 32 (f x)) (f x) → behind ≡ behind_cut (len_before 32 (f x)) (f x) → Some (front, words_left behind) ≡ uncons ws
next_told f ws left x front behind e l p q =
    ap (λ (z : List ℕ). Some (z, words_left behind)) p ∙ ap (λ (z : Option (List ℕ)). Some (take (len_before 32 (f x)) (f x), words_left z)) q
    ∙ ap uncons (sym (words-cut (f x)) ∙ sym (ap (λ z. words_left (option_map f z)) l) ∙ e)

-- none is left
pub ended_told : {X : Type 0} (f : X → List ℕ) (ws : List Word) (left : Option X) (b : Bool) → words_left (option_map f left) ≡ ws → is_some left ≡ not b → b ≡ is_empty ws
ended_told f ws None b e h = not_same b h ∙ ap is_empty e
  where
    not_same : (b : Bool) → false ≡ not b → b ≡ true
    not_same true h = refl
    not_same false h = absurd (cc)
ended_told f ws (Some x) b e h = not_same b h ∙ ap is_empty (sym (words-cut (f x)) ∙ e)
  where
    not_same : (b : Bool) → true ≡ not b → b ≡ false
    not_same true h = absurd (cc)
    not_same false h = refl

-- bytes that have no end
abbrev pub unended : List ℕ → List Line
unended [] = []
unended (b ∷ bytes) = [] ∷ []

-- the first line and those behind it
abbrev pub lines_left : List ℕ → ℕ → Option (List ℕ) → List Line
lines_left bytes n None = unended bytes
lines_left bytes n (Some rest) = words_of (take n bytes) ∷ lines_of rest

-- a text is its first line and those behind it
pub lines-cut : (bytes : List ℕ) → lines_of bytes ≡ lines_left bytes (len_before 10 bytes) (behind_cut (len_before 10 bytes) bytes)
lines-cut [] = ap (λ n. lines_left [] n (behind_cut n [])) (sym (len_before-nil 10))
lines-cut (b ∷ bytes) = go (b == 10) refl (lines-cut bytes)
  where
    one_more : (b : ℕ) (bytes : List ℕ) (n : ℕ) (o : Option (List ℕ)) → with_byte b (lines_left bytes n o) ≡ lines_left (b ∷ bytes) (suc n) o
    one_more b [] n None = refl
    one_more b (c ∷ bytes) n None = with_none b (b == 32)
      where
        with_none : (b : ℕ) (k : Bool) → (if k then word_in_front [] else in_front b []) ∷ [] ≡ [] ∷ []
        with_none b true = refl
        with_none b false = refl
    one_more b bytes n (Some rest) = some (b == 32) (words_of (take n bytes)) (nonempty (take n bytes))
      where
        some : (k : Bool) (l : Line) → (w : Word) × (ws : List Word) × (l ≡ w ∷ ws) → (if k then word_in_front l else in_front b l) ∷ lines_of rest ≡ (if k then [] ∷ l else in_front b l) ∷ lines_of rest
        some true l h = ap (λ z. word_in_front z ∷ lines_of rest) h.2 ∙ ap (λ z. ([] ∷ z) ∷ lines_of rest) (sym h.2)
        some false l h = refl

        nonempty : (bytes : List ℕ) → (w : Word) × (ws : List Word) × (words_of bytes ≡ w ∷ ws)
        nonempty bytes = (take (len_before 32 bytes) bytes, words_left (behind_cut (len_before 32 bytes) bytes), words-cut bytes)

    go : (c : Bool) → (b == 10) ≡ c → lines_of bytes ≡ lines_left bytes (len_before 10 bytes) (behind_cut (len_before 10 bytes) bytes) →
        lines_of (b ∷ bytes) ≡ lines_left (b ∷ bytes) (len_before 10 (b ∷ bytes)) (behind_cut (len_before 10 (b ∷ bytes)) (b ∷ bytes))
    go true is e =
        ap (λ c. if c then ([] ∷ []) ∷ lines_of bytes else with_byte b (lines_of bytes)) is
        ∙ ap (lines_left (b ∷ bytes) 0) (sym (cut_here b bytes))
        ∙ ap (λ n. lines_left (b ∷ bytes) n (behind_cut n (b ∷ bytes))) (sym (len_before-cons 10 b bytes ∙ ap (λ c. if c then 0 else suc (len_before 10 bytes)) is))
    go false is e =
        ap (λ c. if c then ([] ∷ []) ∷ lines_of bytes else with_byte b (lines_of bytes)) is
        ∙ ap (with_byte b) e
        ∙ one_more b bytes (len_before 10 bytes) (behind_cut (len_before 10 bytes) bytes)
        ∙ ap (lines_left (b ∷ bytes) (suc (len_before 10 bytes))) (sym (cut_more (len_before 10 bytes) b bytes))
        ∙ ap (λ n. lines_left (b ∷ bytes) n (behind_cut n (b ∷ bytes))) (sym (len_before-cons 10 b bytes ∙ ap (λ c. if c then 0 else suc (len_before 10 bytes)) is))

-- the next line of those that are left
pub front_some : {X : Type 0} (f : X → List ℕ) (ls : List Line) (bytes front : List ℕ) (behind : Option X) (x : X) → lines_of bytes ≡ ls → front ≡ take (len_before 10 bytes) bytes →
    option_map f behind ≡ behind_cut (len_before 10 bytes) bytes → behind ≡ Some x → ls ≡ words_of front ∷ lines_of (f x)
front_some f ls bytes front behind x e p q is =
    sym e ∙ lines-cut bytes ∙ ap (lines_left bytes (len_before 10 bytes)) (sym q ∙ ap (option_map f) is) ∙ ap (λ z. words_of z ∷ lines_of (f x)) (sym p)

-- where no whole line is left, the bytes have no end of a line
pub front_none : {X : Type 0} (f : X → List ℕ) (ls : List Line) (bytes : List ℕ) (behind : Option X) → lines_of bytes ≡ ls →
    option_map f behind ≡ behind_cut (len_before 10 bytes) bytes → behind ≡ None → IsUnended ls
front_none f ls bytes behind e q is = subst IsUnended (sym (lines-cut bytes ∙ ap (lines_left bytes (len_before 10 bytes)) (sym q ∙ ap (option_map f) is)) ∙ e) (none bytes)
  where
    none : (bytes : List ℕ) → IsUnended (unended bytes)
    none [] = at_end
    none (b ∷ bytes) = without_end

-- ---- numerals
-- a numeral that goes on has no smaller value
grows : (v : ℕ) (ds : List ℕ) → v ≤ value_from v ds
grows v [] = omega arith
grows v (c ∷ ds) = omega (arith, grows (10 * v + (c - 48)) ds)

-- a numeral whose first digits have a value above the limit is refused
pub numeral_high : (limit v i : ℕ) (w : List ℕ) → value_from v (drop i w) ≡ value_of w → i < length w → limit < 10 * v + (get_or w i 0 - 48) → numeral_of (λ n. nat_le n limit) w ≡ None
numeral_high limit v i w e h high =
    ap (λ b. if b && is_same w (decimal (value_of w)) then Some (value_of w) else None)
    (lt-leb (value_of w) limit (omega (arith, high, grows (10 * v + (get_or w i 0 - 48)) (drop (suc i) w), sym e ∙ ap (value_from v) (drop-cons w i 0 h))))

-- a numeral is told by what is printed
pub numeral_told : (limit v : ℕ) (w : List ℕ) (b : Bool) → v ≡ value_of w → v ≤ limit → pointwise eqb w (decimal v) ≡ b → numeral_of (λ n. nat_le n limit) w ≡ (if b then Some v else None)
numeral_told limit v w b e h s =
    ap (λ n. if nat_le n limit && is_same w (decimal n) then Some n else None) (sym e)
    ∙ ap (λ k. if k && is_same w (decimal v) then Some v else None) (le-leb v limit h)
    ∙ ap (λ k. if k then Some v else None) (sym (pointwise_same w (decimal v)) ∙ s)

-- ---- counting
-- no more lines than bytes
pub count_few : (bytes : List ℕ) → length (lines_of bytes) ≤ length bytes
count_few [] = omega arith
count_few (b ∷ bytes) = go (b == 10) (lines_of bytes) (count_few bytes)
  where
    go : (c : Bool) (ls : List Line) → length ls ≤ length bytes → length (if c then ([] ∷ []) ∷ ls else with_byte b ls) ≤ length (b ∷ bytes)
    go true ls h = omega arith
    go false [] h = omega arith
    go false (l ∷ ls) h = omega arith

-- a line less
pub count_some : {X : Type 0} (f : X → List ℕ) (bytes : List ℕ) (behind : Option X) (x : X) → option_map f behind ≡ behind_cut (len_before 10 bytes) bytes → behind ≡ Some x →
    length (lines_of bytes) ≡ 1 + length (lines_of (f x))
count_some f bytes behind x q is =
    ap (λ (z : List Line). length z) (front_some f (lines_of bytes) bytes (take (len_before 10 bytes) bytes) behind x refl refl q is) ∙ (let p : suc (length (lines_of (f x))) ≡ 1 + length (lines_of (f x)) = omega arith in p)

-- bytes without an end are one line
pub count_none : {X : Type 0} (f : X → List ℕ) (bytes : List ℕ) (behind : Option X) → 0 < length bytes → option_map f behind ≡ behind_cut (len_before 10 bytes) bytes → behind ≡ None →
    length (lines_of bytes) ≡ 1
count_none f [] behind h q is = absurd (omega arith)
count_none f (b ∷ bytes) behind h q is =
    ap (λ (z : List Line). length z) (lines-cut (b ∷ bytes) ∙ ap (lines_left (b ∷ bytes) (len_before 10 (b ∷ bytes))) (sym q ∙ ap (option_map f) is))

-- what stands behind a line is shorter
pub shorter_behind : {X : Type 0} (f : X → List ℕ) (bytes : List ℕ) (behind : Option X) (x : X) → option_map f behind ≡ behind_cut (len_before 10 bytes) bytes → behind ≡ Some x → length (f x) < length bytes
shorter_behind f bytes behind x q is = go (nat_lt n (length bytes)) refl (sym (ap (option_map f) is) ∙ q)
  where
    n : ℕ
    n = len_before 10 bytes

    go : (c : Bool) → nat_lt n (length bytes) ≡ c → Some (f x) ≡ (if c then Some (drop (n + 1) bytes) else None) → length (f x) < length bytes
    go true lt e =
        let p : f x ≡ drop (n + 1) bytes = cc in
        let q : n < length bytes = below n (length bytes) lt in
        omega (arith, ap (λ (z : List ℕ). length z) p, length-drop (n + 1) bytes)
      where
        below : (m k : ℕ) → nat_lt m k ≡ true → m < k
        below m k h = grind arith
    go false lt e = absurd (cc)

-- ---- keywords
-- the words behind a keyword
pub keyword_told : (k : List ℕ) (ws : List Word) (w : Word) (rest : List Word) (b : Bool) → Some (w, rest) ≡ uncons ws → is_same w k ≡ b → keyword_at k ws ≡ (if b then Some rest else None)
keyword_told k [] w rest b e s = absurd (cc)
keyword_told k (v ∷ ws) w rest b e s =
    let both_same : (w, rest) ≡ (v, ws) = cc in
    let p : w ≡ v = ap (λ (z : Word × List Word). z.0) both_same in
    let q : rest ≡ ws = ap (λ (z : Word × List Word). z.1) both_same in
    ap (λ (z : Word). if is_same z k then Some ws else None) (sym p) ∙ ap (λ (z : List Word). if is_same w k then Some z else None) (sym q) ∙ ap (λ c. if c then Some rest else None) s
