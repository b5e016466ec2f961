-- Words are letters and digits, which are ASCII.
-- Each byte that counts for a word's length is one of them.
use Rattle.std.proofs.Common.{◌≡◌, ℕ, suc, ◌+◌, ◌-◌, ◌<◌, ◌≤◌, Bool, true, false, cond, List, [], ◌∷◌, length, take, drop, get_or, refl, sym, ap, subst, ◌∙◌, arith}
use Rattle.std.proofs.lemmas.Bool.Decides.{nat_tests}
use Rattle.std.proofs.lemmas.List.{take_all}
use Rattle.std.proofs.lemmas.List.Elements.{All-nil, All-cons}
use Rattle.std.proofs.lemmas.Str.Ascii.{IsAscii-from_all}
use Rattle.std.specs.Prelude.{All}
use Rattle.std.specs.Str.{IsAscii}
use Rattle.script_grammar.specs.Tokens.{is_word_byte, word_len}

-- a byte of a word is below 128
below_128 : (b : ℕ) → is_word_byte b ≡ true → b < 128
below_128 b h = grind (arith, nat_tests)

-- and so are all that a word takes
all_below_128 : (bytes : List ℕ) → All (λ b. b < 128) (take (word_len bytes) bytes)
unfolding word_len
all_below_128 [] = All-nil (λ b. b < 128)
all_below_128 (b ∷ rest) = go (is_word_byte b) refl (all_below_128 rest)
  where
    go : (t : Bool) → is_word_byte b ≡ t → All (λ c. c < 128) (take (word_len rest) rest) → All (λ c. c < 128) (take (cond t (suc (word_len rest)) 0) (b ∷ rest))
    go true h all = All-cons (λ c. c < 128) b (take (word_len rest) rest) (below_128 b h) all
    go false h all = All-nil (λ c. c < 128)

-- the word that the bytes begin with
pub word_ascii : (bytes : List ℕ) → IsAscii (take (word_len bytes) bytes)
word_ascii bytes = IsAscii-from_all (take (word_len bytes) bytes) (all_below_128 bytes)

-- the same by its first byte and the number of those behind it
pub word_ascii_by : (n : ℕ) (bytes word : List ℕ) → 1 ≤ length bytes → is_word_byte (get_or bytes 0 0) ≡ true → n ≡ word_len (take (length bytes - 1) (drop 1 bytes)) → word ≡ take (n + 1) bytes → IsAscii word
unfolding word_len
word_ascii_by n [] word some first count is = absurd (omega arith)
word_ascii_by n (b ∷ rest) word some first count is =
    let all = take_all (suc (length rest) - 1) rest (omega arith) in
    let long : word_len (b ∷ rest) ≡ n + 1 = ap (λ t. cond t (suc (word_len rest)) 0) first ∙ omega (arith, count ∙ ap word_len all) in
    subst IsAscii (ap (λ k. take k (b ∷ rest)) long ∙ sym is) (word_ascii (b ∷ rest))
