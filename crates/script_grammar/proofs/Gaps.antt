-- What is skipped is gaps: blanks and comments.
-- By induction on the bytes, with one case for each way to stand between tokens: either gaps end before a stop, or the input ends in a comment.
use Rattle.std.proofs.Common.{◌≡◌, ℕ, Bool, true, false, cond, not, ◌&&◌, eqb, List, [], ◌∷◌, ◌++◌, Option, Some, None, refl, sym, ap, ◌∙◌, ◌⊎◌, inl, inr, append_assoc}
use Rattle.std.proofs.lemmas.Bool.{and_parts, and_from, eqb-true}
use Rattle.script_grammar.specs.Tokens.{Layout, blanks, line, opened, block, closed, skip, is_blank, begins}
use Rattle.script_grammar.specs.Spelling.{Gap, blank, note, remark, no_newline, no_close, gaps_bytes, ValidGaps}

-- what is behind the first gaps, by where one stands
Behind : Layout → List ℕ → List ℕ → Type 0
Behind blanks bytes rest = (gaps : List Gap) × ValidGaps gaps × (bytes ≡ gaps_bytes gaps ++ rest)
Behind line bytes rest = (body : List ℕ) × (gaps : List Gap) × (no_newline body ≡ true) × ValidGaps gaps × (bytes ≡ body ++ 10 ∷ (gaps_bytes gaps ++ rest))
Behind opened bytes rest = (b : ℕ) × (body : List ℕ) × (gaps : List Gap) × (no_close body ≡ true) × ValidGaps gaps × (bytes ≡ b ∷ (body ++ 42 ∷ 47 ∷ (gaps_bytes gaps ++ rest)))
Behind block bytes rest = (body : List ℕ) × (gaps : List Gap) × (no_close body ≡ true) × ValidGaps gaps × (bytes ≡ body ++ 42 ∷ 47 ∷ (gaps_bytes gaps ++ rest))
Behind closed bytes rest = (b : ℕ) × (gaps : List Gap) × ValidGaps gaps × (bytes ≡ b ∷ (gaps_bytes gaps ++ rest))

-- A / with c behind it is what two tests say.
both_are : (b c : ℕ) (bytes : List ℕ) → (eqb b 47 && begins c bytes) ≡ true → (b ≡ 47) × (begins c bytes ≡ true)
both_are b c bytes h = let p = and_parts (eqb b 47) (begins c bytes) h in (eqb-true b 47 p.0, p.1)

-- a note, of which the second / stands in front of the body
note_from : (body : List ℕ) (gaps : List Gap) (bytes rest : List ℕ) → begins 47 bytes ≡ true → no_newline body ≡ true → ValidGaps gaps → bytes ≡ body ++ 10 ∷ (gaps_bytes gaps ++ rest)
    → (all : List Gap) × ValidGaps all × (47 ∷ bytes ≡ gaps_bytes all ++ rest)
note_from [] gaps bytes rest h clean valid e = absurd (never_so (sym h ∙ ap (begins 47) e))
  where
    never_so : true ≡ false → ⊥
    never_so k = cc
note_from (c ∷ body) gaps bytes rest h clean valid e =
    let same : 47 ≡ c = eqb-true 47 c (sym (ap (begins 47) e) ∙ h) in
    let p = and_parts (not (eqb c 10)) (no_newline body) clean in (
      note body ∷ gaps,
      (p.1, valid),
      ap (λ (x : List ℕ). 47 ∷ x) (e ∙ ap (λ (k : ℕ). k ∷ (body ++ 10 ∷ (gaps_bytes gaps ++ rest))) (sym same))
          ∙ ap (λ (x : List ℕ). 47 ∷ 47 ∷ x) (sym (append_assoc body (10 ∷ []) (gaps_bytes gaps ++ rest)) ∙ sym (append_assoc (body ++ 10 ∷ []) (gaps_bytes gaps) rest)),
    )

-- // and what is behind its first byte
line_gap : (b : ℕ) (bytes rest : List ℕ) → (eqb b 47 && begins 47 bytes) ≡ true → Behind line bytes rest → Behind blanks (b ∷ bytes) rest
unfolding Behind
line_gap b bytes rest h s =
    let p = both_are b 47 bytes h in
    let n = note_from s.0 s.1 bytes rest p.1 s.2 s.3 s.4 in
    (n.0, n.1, ap (λ (k : ℕ). k ∷ bytes) p.0 ∙ n.2)

-- A comment that begins with /* is a gap before what stands behind it.
block_gap : (b : ℕ) (bytes rest : List ℕ) → (eqb b 47 && begins 42 bytes) ≡ true → Behind opened bytes rest → Behind blanks (b ∷ bytes) rest
unfolding Behind
block_gap b bytes rest h s =
    let p = both_are b 42 bytes h in
    let star : 42 ≡ s.0 = eqb-true 42 s.0 (sym (ap (begins 42) s.5) ∙ p.1) in (
      remark s.1 ∷ s.2,
      (s.3, s.4),
      ap (λ (k : ℕ). k ∷ bytes) p.0 ∙ ap (λ (x : List ℕ). 47 ∷ x) (s.5 ∙ ap (λ (k : ℕ). k ∷ (s.1 ++ 42 ∷ 47 ∷ (gaps_bytes s.2 ++ rest))) (sym star))
          ∙ ap (λ (x : List ℕ). 47 ∷ 42 ∷ x) (sym (append_assoc s.1 (42 ∷ 47 ∷ []) (gaps_bytes s.2 ++ rest)) ∙ sym (append_assoc (s.1 ++ 42 ∷ 47 ∷ []) (gaps_bytes s.2) rest)),
    )

-- What is false isn't so.
pub false_not : (c : Bool) → c ≡ false → not c ≡ true
false_not true e = sym e
false_not false e = refl

-- where */ doesn't begin with the bytes, it doesn't begin with the body
no_close_on : (b : ℕ) (body more bytes : List ℕ) → bytes ≡ body ++ more → (eqb b 42 && begins 47 bytes) ≡ false → (eqb b 42 && begins 47 body) ≡ false
no_close_on b [] more bytes e h = and_none (eqb b 42)
  where
    and_none : (c : Bool) → (c && false) ≡ false
    and_none true = refl
    and_none false = refl
no_close_on b (c ∷ body) more bytes e h = sym (ap (λ (x : List ℕ). eqb b 42 && begins 47 x) e) ∙ h

-- ---- one more byte in front

-- Behind a blank goes on what goes on behind it.
behind_blank : (b : ℕ) (bytes rest : List ℕ) → is_blank b ≡ true → Behind blanks bytes rest → Behind blanks (b ∷ bytes) rest
unfolding Behind
behind_blank b bytes rest h s = (blank b ∷ s.0, (h, s.1), ap (λ (x : List ℕ). b ∷ x) s.2)

-- A newline ends a comment up to the line's end.
behind_newline : (b : ℕ) (bytes rest : List ℕ) → eqb b 10 ≡ true → Behind blanks bytes rest → Behind line (b ∷ bytes) rest
unfolding Behind
behind_newline b bytes rest h s = ([], s.0, refl, s.1, ap (λ (k : ℕ). k ∷ bytes) (eqb-true b 10 h) ∙ ap (λ (x : List ℕ). 10 ∷ x) s.2)

-- In a comment up to the line's end any byte but a newline goes on.
behind_line : (b : ℕ) (bytes rest : List ℕ) → eqb b 10 ≡ false → Behind line bytes rest → Behind line (b ∷ bytes) rest
unfolding Behind
behind_line b bytes rest h s = (b ∷ s.0, s.1, and_from (not (eqb b 10)) (no_newline s.0) (false_not (eqb b 10) h) s.2, s.3, ap (λ (x : List ℕ). b ∷ x) s.4)

-- Behind the first byte of /* the comment begins.
behind_opened : (b : ℕ) (bytes rest : List ℕ) → Behind block bytes rest → Behind opened (b ∷ bytes) rest
unfolding Behind
behind_opened b bytes rest s = (b, s.0, s.1, s.2, s.3, ap (λ (x : List ℕ). b ∷ x) s.4)

-- The bytes */ end a comment.
behind_close : (b : ℕ) (bytes rest : List ℕ) → (eqb b 42 && begins 47 bytes) ≡ true → Behind closed bytes rest → Behind block (b ∷ bytes) rest
unfolding Behind
behind_close b bytes rest h s =
    let p = and_parts (eqb b 42) (begins 47 bytes) h in
    let slash : 47 ≡ s.0 = eqb-true 47 s.0 (sym (ap (begins 47) s.3) ∙ p.1) in
    ([], s.1, refl, s.2, ap (λ (k : ℕ). k ∷ bytes) (eqb-true b 42 p.0) ∙ ap (λ (x : List ℕ). 42 ∷ x) (s.3 ∙ ap (λ (k : ℕ). k ∷ (gaps_bytes s.1 ++ rest)) (sym slash)))

-- In a comment any byte that doesn't begin */ goes on.
behind_block : (b : ℕ) (bytes rest : List ℕ) → (eqb b 42 && begins 47 bytes) ≡ false → Behind block bytes rest → Behind block (b ∷ bytes) rest
unfolding Behind
behind_block b bytes rest h s =
    let on : not (eqb b 42 && begins 47 s.0) ≡ true = false_not (eqb b 42 && begins 47 s.0) (no_close_on b s.0 (42 ∷ 47 ∷ (gaps_bytes s.1 ++ rest)) bytes s.4 h) in
    (b ∷ s.0, s.1, and_from (not (eqb b 42 && begins 47 s.0)) (no_close s.0) on s.2, s.3, ap (λ (x : List ℕ). b ∷ x) s.4)

-- Behind the first byte of */ blanks go on.
behind_closed : (b : ℕ) (bytes rest : List ℕ) → Behind blanks bytes rest → Behind closed (b ∷ bytes) rest
unfolding Behind
behind_closed b bytes rest s = (b, s.0, s.1, ap (λ (x : List ℕ). b ∷ x) s.2)

-- ---- where skipping ends

-- at the end, at a token, in a comment of the last line, or in a comment that isn't closed
pub data Stop (last : List ℕ) (o : Option (List ℕ)) : Type 0 where
  at_end : last ≡ [] → o ≡ Some [] → Stop last o
  at_token : (r : ℕ) (rest : List ℕ) → last ≡ r ∷ rest → o ≡ Some (r ∷ rest) → is_blank r ≡ false → (eqb r 47 && begins 47 rest) ≡ false → (eqb r 47 && begins 42 rest) ≡ false → Stop last o
  in_note : (body : List ℕ) → no_newline body ≡ true → last ≡ 47 ∷ 47 ∷ body → o ≡ Some [] → Stop last o
  in_remark : (body : List ℕ) → no_close body ≡ true → last ≡ 47 ∷ 42 ∷ body → o ≡ None → Stop last o

-- the bytes end within the comment where one stands
Open : Layout → List ℕ → Option (List ℕ) → Type 0
Open blanks bytes o = ⊥
Open line bytes o = (no_newline bytes ≡ true) × (o ≡ Some [])
Open opened bytes o = ((bytes ≡ []) ⊎ (c : ℕ) × (body : List ℕ) × (bytes ≡ c ∷ body) × (no_close body ≡ true)) × (o ≡ None)
Open block bytes o = (no_close bytes ≡ true) × (o ≡ None)
Open closed bytes o = (bytes ≡ []) × (o ≡ None)

abbrev Skipped : Layout → List ℕ → Option (List ℕ) → Type 0
Skipped m bytes o = ((last : List ℕ) × Behind m bytes last × Stop last o) ⊎ Open m bytes o

-- What both branches of a test skip, the test skips.
skipped_cond : (m : Layout) (bytes : List ℕ) (b : Bool) (x y : Option (List ℕ)) → (b ≡ true → Skipped m bytes x) → (b ≡ false → Skipped m bytes y) → Skipped m bytes (cond b x y)
skipped_cond m bytes true x y p q = p refl
skipped_cond m bytes false x y p q = q refl

-- A blank is skipped with what is skipped behind it.
skipped_blank : (b : ℕ) (bytes : List ℕ) (o : Option (List ℕ)) → is_blank b ≡ true → Skipped blanks bytes o → Skipped blanks (b ∷ bytes) o
unfolding Open
skipped_blank b bytes o h (inl s) = inl (s.0, behind_blank b bytes s.0 h s.1, s.2)
skipped_blank b bytes o h (inr e) = absurd e

-- No byte begins nothing.
not_begun : (b : ℕ) → begins b [] ≡ true → ⊥
not_begun b h = cc

-- Bytes that begin with b are b and others.
begins_behind : (b : ℕ) (bytes : List ℕ) → begins b bytes ≡ true → (body : List ℕ) × (bytes ≡ b ∷ body)
begins_behind b [] h = absurd cc
begins_behind b (c ∷ body) h = (body, ap (λ (k : ℕ). k ∷ body) (sym (eqb-true b c h)))

-- A comment up to the line's end is skipped with what is behind it.
skipped_note : (b : ℕ) (bytes : List ℕ) (o : Option (List ℕ)) → (eqb b 47 && begins 47 bytes) ≡ true → Skipped line bytes o → Skipped blanks (b ∷ bytes) o
unfolding Open Behind
skipped_note b bytes o h (inl s) = inl (s.0, line_gap b bytes s.0 h s.1, s.2)
skipped_note b bytes o h (inr e) =
    let p = both_are b 47 bytes h in
    let n = begins_behind 47 bytes p.1 in
    let clean = and_parts (not (eqb 47 10)) (no_newline n.0) (sym (ap no_newline n.1) ∙ e.0) in
    inl (b ∷ bytes, ([], tt, refl), in_note n.0 clean.1 (ap (λ (k : ℕ). k ∷ bytes) p.0 ∙ ap (λ (x : List ℕ). 47 ∷ x) n.1) e.1)

-- A comment up to */ is skipped with what is behind it.
skipped_remark : (b : ℕ) (bytes : List ℕ) (o : Option (List ℕ)) → (eqb b 47 && begins 42 bytes) ≡ true → Skipped opened bytes o → Skipped blanks (b ∷ bytes) o
unfolding Open Behind
skipped_remark b bytes o h (inl s) = inl (s.0, block_gap b bytes s.0 h s.1, s.2)
skipped_remark b bytes o h (inr e) =
    let p = both_are b 42 bytes h in
    elim e.0 [
      | inl none ↦ absurd (not_begun 42 (sym (ap (begins 42) none) ∙ p.1))
      | inr s ↦
          let star : 42 ≡ s.0 = eqb-true 42 s.0 (sym (ap (begins 42) s.2) ∙ p.1) in
          inl (b ∷ bytes, ([], tt, refl), in_remark s.1 s.3 (ap (λ (k : ℕ). k ∷ bytes) p.0 ∙ ap (λ (x : List ℕ). 47 ∷ x) (s.2 ∙ ap (λ (k : ℕ). k ∷ s.1) (sym star))) e.1)
    ]

-- The newline that ends a comment is skipped with what is behind it.
skipped_newline : (b : ℕ) (bytes : List ℕ) (o : Option (List ℕ)) → eqb b 10 ≡ true → Skipped blanks bytes o → Skipped line (b ∷ bytes) o
unfolding Open
skipped_newline b bytes o h (inl s) = inl (s.0, behind_newline b bytes s.0 h s.1, s.2)
skipped_newline b bytes o h (inr e) = absurd e

-- A byte of a comment up to the line's end is skipped with what is behind it.
skipped_line : (b : ℕ) (bytes : List ℕ) (o : Option (List ℕ)) → eqb b 10 ≡ false → Skipped line bytes o → Skipped line (b ∷ bytes) o
unfolding Open
skipped_line b bytes o h (inl s) = inl (s.0, behind_line b bytes s.0 h s.1, s.2)
skipped_line b bytes o h (inr e) = inr (and_from (not (eqb b 10)) (no_newline bytes) (false_not (eqb b 10) h) e.0, e.1)

-- The second byte of /* is skipped with what is behind it.
skipped_opened : (b : ℕ) (bytes : List ℕ) (o : Option (List ℕ)) → Skipped block bytes o → Skipped opened (b ∷ bytes) o
unfolding Open
skipped_opened b bytes o (inl s) = inl (s.0, behind_opened b bytes s.0 s.1, s.2)
skipped_opened b bytes o (inr e) = inr (inr (b, bytes, refl, e.0), e.1)

-- The first byte of */ is skipped with what is behind it.
skipped_close : (b : ℕ) (bytes : List ℕ) (o : Option (List ℕ)) → (eqb b 42 && begins 47 bytes) ≡ true → Skipped closed bytes o → Skipped block (b ∷ bytes) o
unfolding Open
skipped_close b bytes o h (inl s) = inl (s.0, behind_close b bytes s.0 h s.1, s.2)
skipped_close b bytes o h (inr e) =
    let p = and_parts (eqb b 42) (begins 47 bytes) h in
    absurd (not_begun 47 (sym (ap (begins 47) e.0) ∙ p.1))

-- A byte of a comment up to */ is skipped with what is behind it.
skipped_block : (b : ℕ) (bytes : List ℕ) (o : Option (List ℕ)) → (eqb b 42 && begins 47 bytes) ≡ false → Skipped block bytes o → Skipped block (b ∷ bytes) o
unfolding Open
skipped_block b bytes o h (inl s) = inl (s.0, behind_block b bytes s.0 h s.1, s.2)
skipped_block b bytes o h (inr e) = inr (and_from (not (eqb b 42 && begins 47 bytes)) (no_close bytes) (false_not (eqb b 42 && begins 47 bytes) h) e.0, e.1)

-- The second byte of */ is skipped with what is behind it.
skipped_closed : (b : ℕ) (bytes : List ℕ) (o : Option (List ℕ)) → Skipped blanks bytes o → Skipped closed (b ∷ bytes) o
unfolding Open
skipped_closed b bytes o (inl s) = inl (s.0, behind_closed b bytes s.0 s.1, s.2)
skipped_closed b bytes o (inr e) = absurd e

-- What is skipped is a gap, or the input ends in a comment.
skip_is : (m : Layout) (bytes : List ℕ) → Skipped m bytes (skip m bytes)
unfolding skip Open Behind
skip_is blanks [] = inl ([], ([], tt, refl), at_end refl refl)
skip_is blanks (b ∷ bytes) =
    skipped_cond blanks (b ∷ bytes) (is_blank b) _ _ (λ h. skipped_blank b bytes _ h (skip_is blanks bytes)) (λ no_blank.
    skipped_cond blanks (b ∷ bytes) (eqb b 47 && begins 47 bytes) _ _ (λ h. skipped_note b bytes _ h (skip_is line bytes)) (λ no_note.
    skipped_cond blanks (b ∷ bytes) (eqb b 47 && begins 42 bytes) _ _ (λ h. skipped_remark b bytes _ h (skip_is opened bytes)) (λ no_remark.
    inl (b ∷ bytes, ([], tt, refl), at_token b bytes refl refl no_blank no_note no_remark))))
skip_is line [] = inr (refl, refl)
skip_is line (b ∷ bytes) = skipped_cond line (b ∷ bytes) (eqb b 10) _ _ (λ h. skipped_newline b bytes _ h (skip_is blanks bytes)) (λ h. skipped_line b bytes _ h (skip_is line bytes))
skip_is opened [] = inr (inl refl, refl)
skip_is opened (b ∷ bytes) = skipped_opened b bytes _ (skip_is block bytes)
skip_is block [] = inr (refl, refl)
skip_is block (b ∷ bytes) = skipped_cond block (b ∷ bytes) (eqb b 42 && begins 47 bytes) _ _ (λ h. skipped_close b bytes _ h (skip_is closed bytes)) (λ h. skipped_block b bytes _ h (skip_is block bytes))
skip_is closed [] = inr (refl, refl)
skip_is closed (b ∷ bytes) = skipped_closed b bytes _ (skip_is blanks bytes)

-- gaps, and behind them what makes skipping stop
abbrev pub StopsBehind : List ℕ → Option (List ℕ) → Type 0
StopsBehind bytes o = (gaps : List Gap) × (last : List ℕ) × ValidGaps gaps × (bytes ≡ gaps_bytes gaps ++ last) × Stop last o

-- From blanks on, skipping stops behind gaps, at a token, the end or a comment that isn't closed.
pub skip_blanks_is : (bytes : List ℕ) → StopsBehind bytes (skip blanks bytes)
unfolding Open Behind
skip_blanks_is bytes = from_skipped (skip blanks bytes) (skip_is blanks bytes)
  where
    from_skipped : (o : Option (List ℕ)) → Skipped blanks bytes o → StopsBehind bytes o
    from_skipped o (inl s) = (s.1.0, s.0, s.1.1, s.1.2, s.2)
    from_skipped o (inr e) = absurd e
