-- What is spelled is the next token, and so are the end, what isn't closed, and a byte of no token.
-- Each gap in front is skipped, by cases on what kind it is; then the token itself is read, by cases on it.
use Rattle.std.proofs.Common.{◌≡◌, ℕ, suc, ◌+◌, Bool, true, false, cond, not, ◌&&◌, eqb, List, [], ◌∷◌, ◌++◌, length, drop, Some, None, refl, sym, ap, ◌∙◌, ◌⊎◌, inl, inr, arith, append_assoc}
use Rattle.std.proofs.lemmas.Bool.{and_parts, not-true}
use Rattle.std.proofs.lemmas.Bool.Decides.{nat_tests}
use Rattle.std.proofs.lemmas.List.{take_at, drop_at, length-append}
use Rattle.std.specs.Option.{option_map}
use Rattle.script_grammar.specs.Tokens.{blanks, line, opened, block, closed, skip, is_blank, begins, is_word_byte, is_mark, word_len, text_len, Token, next, front, front_if, string, word, text, mark, bad, end, cut, the_end, cut_off}
use Rattle.script_grammar.specs.Spelling.{Gap, blank, note, remark, gap_bytes, no_newline, no_close, ValidGap, gaps_bytes, ValidGaps, all_word, begins_word, no_quote, token_bytes, ValidItem, Spells}
use Rattle.script_grammar.specs.Places.{found_token}
use Rattle.script_grammar.specs.Ends.{IsLastLine, SpellsEnd, IsOpenRemark, IsOpenText, SpellsCut, IsBadByte, SpellsBad, found_bad}

-- ---- gaps are skipped

-- A comment up to the line's end is skipped.
skip_note : (body more : List ℕ) → no_newline body ≡ true → skip line (body ++ 10 ∷ more) ≡ skip blanks more
unfolding skip
skip_note [] more h = refl
skip_note (b ∷ body) more h =
    let p = and_parts (not (eqb b 10)) (no_newline body) h in
    ap (λ (c : Bool). cond c (skip blanks (body ++ 10 ∷ more)) (skip line (body ++ 10 ∷ more))) (not-true (eqb b 10) p.0) ∙ skip_note body more p.1

-- */ doesn't begin within the body, nor with its last byte
begins_body : (b : ℕ) (body more : List ℕ) → (eqb b 42 && begins 47 body) ≡ false → (eqb b 42 && begins 47 (body ++ 42 ∷ 47 ∷ more)) ≡ false
begins_body b [] more h = and_off (eqb b 42)
  where
    and_off : (c : Bool) → (c && eqb 47 42) ≡ false
    and_off true = refl
    and_off false = refl
begins_body b (c ∷ body) more h = h

-- A comment up to */ is skipped.
skip_remark : (body more : List ℕ) → no_close body ≡ true → skip block (body ++ 42 ∷ 47 ∷ more) ≡ skip blanks more
unfolding skip
skip_remark [] more h = refl
skip_remark (b ∷ body) more h =
    let p = and_parts (not (eqb b 42 && begins 47 body)) (no_close body) h in
    ap (λ (c : Bool). cond c (skip closed (body ++ 42 ∷ 47 ∷ more)) (skip block (body ++ 42 ∷ 47 ∷ more))) (begins_body b body more (not-true (eqb b 42 && begins 47 body) p.0)) ∙ skip_remark body more p.1

-- One blank or comment is skipped.
skip_gap : (g : Gap) (more : List ℕ) → ValidGap g → skip blanks (gap_bytes g ++ more) ≡ skip blanks more
unfolding skip
skip_gap (blank b) more h = rw h refl
skip_gap (note body) more h = ap (skip line) (append_assoc (47 ∷ body) (10 ∷ []) more) ∙ skip_note body more h
skip_gap (remark body) more h = ap (λ (x : List ℕ). skip opened (42 ∷ x)) (append_assoc body (42 ∷ 47 ∷ []) more) ∙ skip_remark body more h

-- Blanks and comments are skipped.
skip_gaps : (gaps : List Gap) (more : List ℕ) → ValidGaps gaps → skip blanks (gaps_bytes gaps ++ more) ≡ skip blanks more
skip_gaps [] more h = refl
skip_gaps (g ∷ gaps) more h = ap (skip blanks) (append_assoc (gap_bytes g) (gaps_bytes gaps) more) ∙ skip_gap g (gaps_bytes gaps ++ more) h.0 ∙ skip_gaps gaps more h.1

-- ---- the token is read

-- A letter or a digit is no blank.
word_not_blank : (b : ℕ) → is_word_byte b ≡ true → is_blank b ≡ false
word_not_blank b h = grind (arith, nat_tests)

-- A letter or a digit is no /.
word_no_slash : (b : ℕ) → is_word_byte b ≡ true → eqb b 47 ≡ false
word_no_slash b h = grind (arith, nat_tests)

-- A mark is no blank.
mark_not_blank : (b : ℕ) → is_mark b ≡ true → is_blank b ≡ false
mark_not_blank b h = grind (arith, nat_tests)

-- A mark is no letter and no digit.
mark_no_word : (b : ℕ) → is_mark b ≡ true → is_word_byte b ≡ false
mark_no_word b h = grind (arith, nat_tests)

-- A word ends where no letter or digit goes on.
word_run : (w rest : List ℕ) → all_word w ≡ true → begins_word rest ≡ false → word_len (w ++ rest) ≡ length w
unfolding word_len
word_run [] [] h k = refl
word_run [] (b ∷ rest) h k = rw k refl
word_run (b ∷ w) rest h k = let p = and_parts (is_word_byte b) (all_word w) h in rw p.0 (ap suc (word_run w rest p.1 k))

-- A string ends at the first ".
text_run : (s rest : List ℕ) → no_quote s ≡ true → text_len (s ++ 34 ∷ rest) ≡ Some (length s)
unfolding text_len
text_run [] rest h = refl
text_run (b ∷ s) rest h =
    let p = and_parts (not (eqb b 34)) (no_quote s) h in
    ap (λ (c : Bool). cond c (Some 0) (option_map (λ n. suc n) (text_len (s ++ 34 ∷ rest)))) (not-true (eqb b 34) p.0) ∙ ap (option_map (λ n. suc n)) (text_run s rest p.1)

-- Skipping stops at a byte that is no blank and begins no comment.
stops_here : (b : ℕ) (rest : List ℕ) → is_blank b ≡ false → (eqb b 47 && begins 47 rest) ≡ false → (eqb b 47 && begins 42 rest) ≡ false → skip blanks (b ∷ rest) ≡ Some (b ∷ rest)
unfolding skip
stops_here b rest p q r = rw (p, q, r) refl

-- Where the first test fails, both don't hold.
and_off : (c d : Bool) → c ≡ false → (c && d) ≡ false
and_off true d e = absurd cc
and_off false d e = refl

-- A word in front is the token in front.
front_word : (b : ℕ) (w rest : List ℕ) → all_word (b ∷ w) ≡ true → begins_word rest ≡ false → front ((b ∷ w) ++ rest) ≡ found_token (word (b ∷ w)) rest
unfolding front
front_word b w rest h k =
    let p = and_parts (is_word_byte b) (all_word w) h in
    let n : word_len (b ∷ (w ++ rest)) ≡ suc (length w) = word_run (b ∷ w) rest h k in
    rw (p.0, n, take_at (b ∷ w) rest (suc (length w)) refl, drop_at (b ∷ w) rest (suc (length w)) refl) refl

-- A mark in front is the token in front.
front_mark : (m : ℕ) (rest : List ℕ) → is_mark m ≡ true → front (m ∷ rest) ≡ found_token (mark m) rest
unfolding front
front_mark m rest h = rw (mark_no_word m h, h) refl

-- A string in front is the token in front.
front_text : (s rest : List ℕ) → no_quote s ≡ true → front (34 ∷ ((s ++ 34 ∷ []) ++ rest)) ≡ found_token (text s) rest
unfolding front
front_text s rest h =
    let same : (s ++ 34 ∷ []) ++ rest ≡ s ++ 34 ∷ rest = append_assoc s (34 ∷ []) rest in
    let whole : List ℕ = s ++ 34 ∷ rest in
    let n : text_len whole ≡ Some (length s) = text_run s rest h in
    let back : drop (length s + 1) whole ≡ rest = ap (λ (x : List ℕ). drop (length s + 1) x) (sym same) ∙ drop_at (s ++ 34 ∷ []) rest (length s + 1) (length-append s (34 ∷ [])) in
    let a : front (34 ∷ whole) ≡ string (suc (length whole)) whole (Some (length s)) = ap (string (suc (length whole)) whole) n in
    let b : string (suc (length whole)) whole (Some (length s)) ≡ record { token = text s; left = suc (length whole); rest = rest } = rw (take_at s (34 ∷ rest) (length s) refl, back) refl in
    ap (λ (x : List ℕ). front (34 ∷ x)) same ∙ a ∙ b ∙ ap (λ (x : List ℕ). record { token = text s; left = suc (length x); rest = rest }) (sym same)

-- A token that is spelled in front is the one that is read.
token_next : (token : Token) (rest : List ℕ) → ValidItem token rest → front_if (skip blanks (token_bytes token ++ rest)) ≡ found_token token rest
token_next (word []) rest h = absurd (omega (arith, h.0))
token_next (word (b ∷ w)) rest h =
    let p = and_parts (is_word_byte b) (all_word w) h.1 in
    let slash = word_no_slash b p.0 in
    ap front_if (stops_here b (w ++ rest) (word_not_blank b p.0) (and_off (eqb b 47) (begins 47 (w ++ rest)) slash) (and_off (eqb b 47) (begins 42 (w ++ rest)) slash)) ∙ front_word b w rest h.1 h.2
token_next (text s) rest h = ap front_if (stops_here 34 ((s ++ 34 ∷ []) ++ rest) refl refl refl) ∙ front_text s rest h
token_next (mark m) rest h = ap front_if (stops_here m rest (mark_not_blank m h.0) h.1 h.2) ∙ front_mark m rest h.0
token_next bad rest h = absurd h
token_next end rest h = absurd h
token_next cut rest h = absurd h

-- what is spelled is the next token
pub spelled_next : (bytes : List ℕ) (token : Token) (rest : List ℕ) → Spells bytes token rest → next bytes ≡ found_token token rest
unfolding next
spelled_next bytes token rest s =
    ap (λ (x : List ℕ). front_if (skip blanks x)) s.2 ∙ ap front_if (skip_gaps s.0 (token_bytes token ++ rest) s.1) ∙ token_next token rest s.3

-- ---- the end, what isn't closed, and bytes of no token

-- A comment in the last line is skipped up to the end.
skip_last_line : (body : List ℕ) → no_newline body ≡ true → skip line body ≡ Some []
unfolding skip
skip_last_line [] h = refl
skip_last_line (b ∷ body) h =
    let p = and_parts (not (eqb b 10)) (no_newline body) h in
    ap (λ (c : Bool). cond c (skip blanks body) (skip line body)) (not-true (eqb b 10) p.0) ∙ skip_last_line body p.1

-- Behind /* without */ no token comes.
skip_open_remark : (body : List ℕ) → no_close body ≡ true → skip block body ≡ None
unfolding skip
skip_open_remark [] h = refl
skip_open_remark (b ∷ body) h =
    let p = and_parts (not (eqb b 42 && begins 47 body)) (no_close body) h in
    ap (λ (c : Bool). cond c (skip closed body) (skip block body)) (not-true (eqb b 42 && begins 47 body) p.0) ∙ skip_open_remark body p.1

-- A string without its " has no end.
text_unclosed : (body : List ℕ) → no_quote body ≡ true → text_len body ≡ None
unfolding text_len
text_unclosed [] h = refl
text_unclosed (b ∷ body) h =
    let p = and_parts (not (eqb b 34)) (no_quote body) h in
    ap (λ (c : Bool). cond c (Some 0) (option_map (λ n. suc n) (text_len body))) (not-true (eqb b 34) p.0) ∙ ap (option_map (λ n. suc n)) (text_unclosed body p.1)

-- A last line without tokens is skipped up to the end.
last_line_skipped : (last : List ℕ) → IsLastLine last → skip blanks last ≡ Some []
unfolding skip
last_line_skipped last (inl e) = ap (skip blanks) e
last_line_skipped last (inr s) = ap (skip blanks) s.2 ∙ skip_last_line s.0 s.1

-- A comment that isn't closed cuts the input off.
open_remark_skipped : (last : List ℕ) → IsOpenRemark last → skip blanks last ≡ None
unfolding skip
open_remark_skipped last s = ap (skip blanks) s.2 ∙ skip_open_remark s.0 s.1

-- Without bytes the end stands in front.
front_end : front [] ≡ the_end
unfolding front
front_end = refl

-- A string that isn't closed is cut off.
front_open_text : (body : List ℕ) → no_quote body ≡ true → front (34 ∷ body) ≡ cut_off
unfolding front
front_open_text body h = ap (string (suc (length body)) body) (text_unclosed body h)

-- What is no mark is no /.
no_mark_no_slash : (b : ℕ) → is_mark b ≡ false → eqb b 47 ≡ false
no_mark_no_slash b h = grind (arith, nat_tests)

-- A byte of no token in front is a bad one.
front_bad : (b : ℕ) (rest : List ℕ) → IsBadByte b → front (b ∷ rest) ≡ found_bad b rest
unfolding front
front_bad b rest h =
    let no_word = h.1 in
    let no_mark = h.2 in
    let no_text = h.3 in
    rw (no_word, no_mark, no_text) refl

-- what begins behind the gaps
next_behind : (bytes : List ℕ) (gaps : List Gap) (last : List ℕ) → ValidGaps gaps → bytes ≡ gaps_bytes gaps ++ last → next bytes ≡ front_if (skip blanks last)
unfolding next
next_behind bytes gaps last valid split = ap (λ (x : List ℕ). front_if (skip blanks x)) split ∙ ap front_if (skip_gaps gaps last valid)

-- Where blanks and comments alone are spelled, the end is next.
pub end_next : (bytes : List ℕ) → SpellsEnd bytes → next bytes ≡ the_end
end_next bytes s = next_behind bytes s.0 s.1 s.2 s.3 ∙ ap front_if (last_line_skipped s.1 s.4) ∙ front_end

-- A comment or a string that isn't closed is cut off.
cut_next-at : (last : List ℕ) → IsOpenRemark last ⊎ IsOpenText last → front_if (skip blanks last) ≡ cut_off
cut_next-at last (inl s) = ap front_if (open_remark_skipped last s)
cut_next-at last (inr s) = ap (λ (x : List ℕ). front_if (skip blanks x)) s.2 ∙ ap front_if (stops_here 34 s.0 refl refl refl) ∙ front_open_text s.0 s.1

-- Where a comment or string isn't closed behind blanks and comments, the input is cut off there.
pub cut_next : (bytes : List ℕ) → SpellsCut bytes → next bytes ≡ cut_off
cut_next bytes s = next_behind bytes s.0 s.1 s.2 s.3 ∙ cut_next-at s.1 s.4

-- A byte of no token behind blanks and comments is next as a bad one.
pub bad_next : (bytes : List ℕ) (b : ℕ) (rest : List ℕ) → SpellsBad bytes b rest → next bytes ≡ found_bad b rest
bad_next bytes b rest s =
    let slash = no_mark_no_slash b s.3.2 in
    next_behind bytes s.0 (b ∷ rest) s.1 s.2
    ∙ ap front_if (stops_here b rest s.3.0 (and_off (eqb b 47) (begins 47 rest) slash) (and_off (eqb b 47) (begins 42 rest) slash))
    ∙ front_bad b rest s.3
