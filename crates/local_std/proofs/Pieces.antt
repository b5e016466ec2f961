-- Bytes that are put together of tokens, with blanks in front of some, spell these tokens.
-- Tokens that are known are tested by computing, up to bytes that need not be known; a word of digits is one by its digits.
use Rattle.std.proofs.Common.{◌≡◌, ℕ, ◌≤◌, List, [], ◌∷◌, ◌++◌, length, Bool, true, false, ◌&&◌, not, nat_le, ◌==◌, refl, sym, ap}
use Rattle.std.specs.List.{list_all}
use Rattle.std.proofs.lemmas.Bool.{and_parts, leb-true, not-true}
use Rattle.script_grammar.specs.Tokens.{Token, word, text, mark, bad, end, cut, is_blank, is_mark, begins}
use Rattle.script_grammar.specs.Spelling.{Gap, blank, gaps_bytes, ValidGaps, all_word, begins_word, no_quote, token_bytes, ValidItem, Spells}
use Rattle.script_grammar.specs.Ends.{SpellsAll}

-- a token with the blanks in front of it
pub record Piece : Type 0 where
  pub blanks : List ℕ
  pub token : Token

-- the bytes of pieces, and those behind them
abbrev pub bytes_of : List Piece → List ℕ → List ℕ
bytes_of [] rest = rest
bytes_of (q ∷ qs) rest = q.blanks ++ (token_bytes q.token ++ bytes_of qs rest)

-- their tokens, and those behind them
abbrev pub tokens_of : List Piece → List Token → List Token
tokens_of [] rest = rest
tokens_of (q ∷ qs) rest = q.token ∷ tokens_of qs rest

-- ---- tests
-- a token with these bytes behind it
abbrev pub is_item : Token → List ℕ → Bool
is_item (word w) rest = nat_le 1 (length w) && (all_word w && not (begins_word rest))
is_item (text s) rest = no_quote s
is_item (mark m) rest = is_mark m && (not (m == 47 && begins 47 rest) && not (m == 47 && begins 42 rest))
is_item bad rest = false
is_item end rest = false
is_item cut rest = false

-- these pieces are what the bytes in front of the rest are spelled by
abbrev pub are_pieces : List Piece → List ℕ → Bool
are_pieces [] rest = true
are_pieces (q ∷ qs) rest = list_all is_blank q.blanks && (is_item q.token (bytes_of qs rest) && are_pieces qs rest)

-- ---- what the tests tell
-- a token that passes stands there
item_is : (token : Token) (rest : List ℕ) → is_item token rest ≡ true → ValidItem token rest
item_is (word w) rest h =
    let p = and_parts (nat_le 1 (length w)) (all_word w && not (begins_word rest)) h in
    let q = and_parts (all_word w) (not (begins_word rest)) p.1 in
    (leb-true 1 (length w) p.0, q.0, not-true (begins_word rest) q.1)
item_is (text s) rest h = h
item_is (mark m) rest h =
    let p = and_parts (is_mark m) (not (m == 47 && begins 47 rest) && not (m == 47 && begins 42 rest)) h in
    let q = and_parts (not (m == 47 && begins 47 rest)) (not (m == 47 && begins 42 rest)) p.1 in
    (p.0, not-true (m == 47 && begins 47 rest) q.0, not-true (m == 47 && begins 42 rest) q.1)
item_is bad rest h = absurd cc
item_is end rest h = absurd cc
item_is cut rest h = absurd cc

-- blanks are gaps
gaps_of : List ℕ → List Gap
gaps_of [] = []
gaps_of (b ∷ bs) = blank b ∷ gaps_of bs

-- blanks are gaps
gaps_valid : (bs : List ℕ) → list_all is_blank bs ≡ true → ValidGaps (gaps_of bs)
unfolding gaps_of
gaps_valid [] h = tt
gaps_valid (b ∷ bs) h = let p = and_parts (is_blank b) (list_all is_blank bs) h in (p.0, gaps_valid bs p.1)

-- and these gaps are spelled by them
gaps_are : (bs : List ℕ) → gaps_bytes (gaps_of bs) ≡ bs
unfolding gaps_of
gaps_are [] = refl
gaps_are (b ∷ bs) = ap (λ (l : List ℕ). b ∷ l) (gaps_are bs)

-- ---- what is spelled
-- a token behind blanks is spelled, where it may stand before the rest
token_spelled : (bs : List ℕ) (token : Token) (rest : List ℕ) → list_all is_blank bs ≡ true → ValidItem token rest → Spells (bs ++ (token_bytes token ++ rest)) token rest
token_spelled bs token rest blanks item = (gaps_of bs, gaps_valid bs blanks, ap (λ (l : List ℕ). l ++ (token_bytes token ++ rest)) (sym (gaps_are bs)), item)

-- pieces that pass are spelled in front of what is spelled behind them
pub pieces_spelled : (qs : List Piece) (rest : List ℕ) (tokens : List Token) → are_pieces qs rest ≡ true → SpellsAll rest tokens → SpellsAll (bytes_of qs rest) (tokens_of qs tokens)
pieces_spelled [] rest tokens h s = s
pieces_spelled (q ∷ qs) rest tokens h s =
    let p = and_parts (list_all is_blank q.blanks) (is_item q.token (bytes_of qs rest) && are_pieces qs rest) h in
    let r = and_parts (is_item q.token (bytes_of qs rest)) (are_pieces qs rest) p.1 in
    (bytes_of qs rest, token_spelled q.blanks q.token (bytes_of qs rest) p.0 (item_is q.token (bytes_of qs rest) r.0), pieces_spelled qs rest tokens r.1 s)

-- so is a word, where the bytes behind don't go on with it
pub word_spelled : (w rest : List ℕ) (tokens : List Token) → 1 ≤ length w → all_word w ≡ true → begins_word rest ≡ false → SpellsAll rest tokens → SpellsAll (w ++ rest) (word w ∷ tokens)
word_spelled w rest tokens some all none s = (rest, token_spelled [] (word w) rest refl (some, all, none), s)
