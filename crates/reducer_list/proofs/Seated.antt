-- What the parts of a board and of a seat say of each other.
-- By the values that contracts see of both.
use Rattle.std.proofs.Common.{◌≡◌, ◌≢◌, ℕ, suc, ◌+◌, ◌*◌, ◌<◌, ◌≤◌, List, [], ◌∷◌, length, sym, ap, ◌∙◌, subst, arith}
use Rattle.reducer_list.specs.View.{Setting, Board, Sitting, top}
use Rattle.reducer_list.specs.Rule.{body, table_words}
use Rattle.reducer_list.specs.Calls.{IsAt}
use Rattle.reducer_list.proofs.Bodies.{inside}

-- a seat belongs to a board where what contracts see of them does
pub placed : (b now : Board) (s seated : Sitting) → b ≡ now → s ≡ seated → IsAt now seated → IsAt b s
placed b now s seated e f h = (ap (λ (x : Sitting). x.table) f ∙ h.0 ∙ sym (ap (λ (x : Board). x.table) e), ap (λ (x : Sitting). x.view.setting) f ∙ h.1 ∙ sym (ap (λ (x : Board). x.setting) e))

-- a seat with a chunk has a number
pub has_number : (c : ℕ) (l cs ns : List ℕ) → cs ≡ c ∷ l → length cs ≡ length ns → ns ≢ []
has_number c l cs ns is same none = let a : length cs ≡ suc (length l) = ap length is in let b : length ns ≡ 0 = ap length none in omega arith

-- a table has words
pub some_words : (p : Setting) (n : ℕ) → n ≡ table_words p → 1 < n
some_words p n e = let z : ℕ = (top p + p.workers) * (top p + 8) in let e' : n ≡ top p + 3 + z = e in omega arith

-- a head is among the words
pub head_within : (p : Setting) (i n : ℕ) → i ≤ top p → n ≡ table_words p → 2 + i < n
head_within p i n le e = let z : ℕ = (top p + p.workers) * (top p + 8) in let e' : n ≡ top p + 3 + z = e in omega (arith, le)

-- where a word of a body stands, and that it is among the words
pub body_within : (p : Setting) (n chunk k words : ℕ) → n ≡ top p → words ≡ table_words p → chunk < top p + p.workers → k < top p + 8
    → (body p chunk + k ≡ n + 3 + chunk * (n + 8) + k) × (body p chunk + k < words)
body_within p n chunk k words is size less small = ((λ t. sym is t + 3 + chunk * (sym is t + 8) + k), subst (λ (m : ℕ). body p chunk + k < m) (sym size) (inside p chunk k less small))
