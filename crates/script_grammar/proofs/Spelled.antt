-- The next token is spelled, and so is the end, what isn't closed, and a byte of no token.
-- Where skipping stops, the place is told apart by the first byte there, case by case as the reading of a token has it.
use Rattle.std.proofs.Common.{◌≡◌, ℕ, zero, suc, ◌+◌, ◌≤◌, Bool, true, false, cond, not, ◌&&◌, eqb, List, [], ◌∷◌, ◌++◌, length, take, drop, Option, Some, None, refl, sym, ap, subst, ◌∙◌, inl, inr, arith, append_assoc, add-one}
use Rattle.std.proofs.lemmas.Bool.{and_from, eqb-true}
use Rattle.std.proofs.lemmas.List.{take-append-drop}
use Rattle.std.specs.Option.{option_map}
use Rattle.script_grammar.specs.Tokens.{blanks, skip, begins, is_word_byte, is_mark, word_len, text_len, Token, Place, next, front, front_if, string, word, bad, end, cut}
use Rattle.script_grammar.specs.Spelling.{Gap, gaps_bytes, ValidGaps, all_word, begins_word, no_quote, token_bytes, ValidItem, Spells}
use Rattle.script_grammar.specs.Places.{IsToken}
use Rattle.script_grammar.specs.Ends.{IsOpenText, SpellsEnd, SpellsCut, SpellsBad}
use Rattle.script_grammar.proofs.Steps.{chosen}
use Rattle.script_grammar.proofs.Gaps.{false_not, Stop, at_end, at_token, in_note, in_remark, skip_blanks_is}

-- The letters and digits in front are all such, and none goes on.
word_front : (bytes : List ℕ) → (all_word (take (word_len bytes) bytes) ≡ true) × (begins_word (drop (word_len bytes) bytes) ≡ false)
unfolding word_len
word_front [] = (refl, refl)
word_front (b ∷ bytes) = word_front-at b bytes (is_word_byte b) refl (word_front bytes)
  where
    word_front-at : (b : ℕ) (bytes : List ℕ) (c : Bool) → is_word_byte b ≡ c → (all_word (take (word_len bytes) bytes) ≡ true) × (begins_word (drop (word_len bytes) bytes) ≡ false)
        → (all_word (take (cond c (suc (word_len bytes)) 0) (b ∷ bytes)) ≡ true) × (begins_word (drop (cond c (suc (word_len bytes)) 0) (b ∷ bytes)) ≡ false)
    word_front-at b bytes true e h = (and_from (is_word_byte b) (all_word (take (word_len bytes) bytes)) e h.0, h.1)
    word_front-at b bytes false e h = (refl, e)

-- 0 is no successor.
nought : (n : ℕ) → Some 0 ≡ Some (suc n) → ⊥
nought n e = let same : 0 ≡ suc n = cc in absurd (omega (arith, same))

-- Successors that are the same are of the same.
some_suc : (k n : ℕ) → Some (suc k) ≡ Some (suc n) → k ≡ n
some_suc k n e = let same : suc k ≡ suc n = cc in omega (arith, same)

-- Up to the first " there is none, and then it stands.
text_front : (bytes : List ℕ) (n : ℕ) → text_len bytes ≡ Some n → (no_quote (take n bytes) ≡ true) × (bytes ≡ take n bytes ++ 34 ∷ drop (suc n) bytes)
unfolding text_len
text_front [] n e = absurd cc
text_front (b ∷ bytes) n e =
    elim (chosen (eqb b 34) (Some 0) (option_map (λ k. suc k) (text_len bytes)) (Some n) e) [
      | inl yea ↦ text_now b bytes n (eqb-true b 34 yea.0) yea.1
      | inr nay ↦ text_later b bytes n nay.0 (text_len bytes) refl nay.1 (text_front bytes)
    ]
  where
    text_now : (b : ℕ) (bytes : List ℕ) (n : ℕ) → b ≡ 34 → Some 0 ≡ Some n → (no_quote (take n (b ∷ bytes)) ≡ true) × (b ∷ bytes ≡ take n (b ∷ bytes) ++ 34 ∷ drop (suc n) (b ∷ bytes))
    text_now b bytes zero q e = (refl, ap (λ (k : ℕ). k ∷ bytes) q)
    text_now b bytes (suc n) q e = absurd (nought n e)

    text_later : (b : ℕ) (bytes : List ℕ) (n : ℕ) → eqb b 34 ≡ false → (o : Option ℕ) → text_len bytes ≡ o → option_map (λ k. suc k) o ≡ Some n → ((k : ℕ) → text_len bytes ≡ Some k → (no_quote (take k bytes) ≡ true) × (bytes ≡ take k bytes ++ 34 ∷ drop (suc k) bytes))
        → (no_quote (take n (b ∷ bytes)) ≡ true) × (b ∷ bytes ≡ take n (b ∷ bytes) ++ 34 ∷ drop (suc n) (b ∷ bytes))
    text_later b bytes n q None is e law = absurd cc
    text_later b bytes zero q (Some k) is e law = absurd (nought k (sym e))
    text_later b bytes (suc n) q (Some k) is e law =
        let same = some_suc k n e in
        let h = law n (is ∙ ap (λ (j : ℕ). Some j) same) in
        (and_from (not (eqb b 34)) (no_quote (take n bytes)) (false_not (eqb b 34) q) h.0, ap (λ (x : List ℕ). b ∷ x) h.1)

abbrev FrontSpelled : List ℕ → Place → Type 0
FrontSpelled bytes n = (bytes ≡ token_bytes n.token ++ n.rest) × ValidItem n.token n.rest

-- A letter or digit in front makes a word longer by one.
word_some : (b : ℕ) (bytes : List ℕ) → is_word_byte b ≡ true → word_len (b ∷ bytes) ≡ suc (word_len bytes)
unfolding word_len
word_some b bytes h = rw h refl

-- The word in front is spelled there.
word_spelled : (b : ℕ) (bytes : List ℕ) → is_word_byte b ≡ true → FrontSpelled (b ∷ bytes) (record { token = word (take (word_len (b ∷ bytes)) (b ∷ bytes)); left = length (b ∷ bytes); rest = drop (word_len (b ∷ bytes)) (b ∷ bytes) })
word_spelled b bytes h =
    let f = word_front (b ∷ bytes) in
    let k = word_some b bytes h in
    (sym (take-append-drop (word_len (b ∷ bytes)) (b ∷ bytes)), (subst (λ (n : ℕ). 1 ≤ length (take n (b ∷ bytes))) (sym k) (omega arith), f.0, f.1))

-- Where no successor is given, nothing is.
map_none : (o : Option ℕ) → option_map (λ n. suc n) o ≡ None → o ≡ None
map_none None e = refl
map_none (Some n) e = absurd cc

-- Where no " is found, there is none.
text_open : (bytes : List ℕ) → text_len bytes ≡ None → no_quote bytes ≡ true
unfolding text_len
text_open [] e = refl
text_open (b ∷ bytes) e =
    elim (chosen (eqb b 34) (Some 0) (option_map (λ n. suc n) (text_len bytes)) None e) [
      | inl yea ↦ absurd (some_none 0 yea.1)
      | inr nay ↦ and_from (not (eqb b 34)) (no_quote bytes) (false_not (eqb b 34) nay.0) (text_open bytes (map_none (text_len bytes) nay.1))
    ]
  where
    some_none : (n : ℕ) → Some n ≡ None → ⊥
    some_none n h = cc

-- what stands at the first byte
data FrontIs (b : ℕ) (bytes : List ℕ) (n : Place) : Type 0 where
  a_token : FrontSpelled (b ∷ bytes) n → FrontIs b bytes n
  an_open_text : IsOpenText (b ∷ bytes) → n.token ≡ cut → FrontIs b bytes n
  a_bad_byte : is_word_byte b ≡ false → is_mark b ≡ false → eqb b 34 ≡ false → n.token ≡ bad → n.rest ≡ bytes → FrontIs b bytes n

-- What both branches of a test are, the test is.
front_cond : (b : ℕ) (bytes : List ℕ) (c : Bool) (x y : Place) → (c ≡ true → FrontIs b bytes x) → (c ≡ false → FrontIs b bytes y) → FrontIs b bytes (cond c x y)
front_cond b bytes true x y p q = p refl
front_cond b bytes false x y p q = q refl

-- Behind a " stands a string, or one that isn't closed.
string_is : (b : ℕ) (bytes : List ℕ) (o : Option ℕ) → eqb b 34 ≡ true → text_len bytes ≡ o → FrontIs b bytes (string (length (b ∷ bytes)) bytes o)
string_is b bytes None q is = an_open_text (bytes, text_open bytes is, ap (λ (k : ℕ). k ∷ bytes) (eqb-true b 34 q)) refl
string_is b bytes (Some n) q is =
    let f = text_front bytes n is in
    a_token (ap (λ (k : ℕ). k ∷ bytes) (eqb-true b 34 q) ∙ ap (λ (x : List ℕ). 34 ∷ x) (f.1 ∙ ap (λ (j : ℕ). take n bytes ++ 34 ∷ drop j bytes) (sym (add-one n)) ∙ sym (append_assoc (take n bytes) (34 ∷ []) (drop (n + 1) bytes))), f.0)

-- What is in front, where no comment begins, is a token, the end, a string that isn't closed, or a bad byte.
front_is : (b : ℕ) (bytes : List ℕ) → (eqb b 47 && begins 47 bytes) ≡ false → (eqb b 47 && begins 42 bytes) ≡ false → FrontIs b bytes (front (b ∷ bytes))
unfolding front
front_is b bytes no_note no_remark =
    front_cond b bytes (is_word_byte b) _ _ (λ h. a_token (word_spelled b bytes h)) (λ no_word.
    front_cond b bytes (is_mark b) _ _ (λ h. a_token (refl, (h, no_note, no_remark))) (λ no_mark.
    front_cond b bytes (eqb b 34) _ _ (λ h. string_is b bytes (text_len bytes) h refl) (λ no_text.
    a_bad_byte no_word no_mark no_text refl refl)))

-- what the next token is
data NextIs (bytes : List ℕ) (n : Place) : Type 0 where
  spelled : Spells bytes n.token n.rest → NextIs bytes n
  ended : SpellsEnd bytes → n.token ≡ end → NextIs bytes n
  unclosed : SpellsCut bytes → n.token ≡ cut → NextIs bytes n
  no_token : (b : ℕ) → SpellsBad bytes b n.rest → n.token ≡ bad → NextIs bytes n

-- Without bytes the token is the end.
end_token : (front []).token ≡ end
unfolding front
end_token = refl

-- What is in front behind gaps is next.
next_is-at : (bytes : List ℕ) (gaps : List Gap) (last : List ℕ) (o : Option (List ℕ)) → ValidGaps gaps → bytes ≡ gaps_bytes gaps ++ last → Stop last o → NextIs bytes (front_if o)
next_is-at bytes gaps last o valid split (at_end e is) = ended (gaps, last, valid, split, inl e) (ap (λ (x : Option (List ℕ)). (front_if x).token) is ∙ end_token)
next_is-at bytes gaps last o valid split (in_note body clean e is) = ended (gaps, last, valid, split, inr (body, clean, e)) (ap (λ (x : Option (List ℕ)). (front_if x).token) is ∙ end_token)
next_is-at bytes gaps last o valid split (in_remark body clean e is) = unclosed (gaps, last, valid, split, inl (body, clean, e)) (ap (λ (x : Option (List ℕ)). (front_if x).token) is)
next_is-at bytes gaps last o valid split (at_token r rest e is no_blank no_note no_remark) =
    let here : bytes ≡ gaps_bytes gaps ++ r ∷ rest = split ∙ ap (λ (x : List ℕ). gaps_bytes gaps ++ x) e in
    subst (λ (x : Option (List ℕ)). NextIs bytes (front_if x)) (sym is) (at-front here (front (r ∷ rest)) (front_is r rest no_note no_remark))
  where
    at-front : bytes ≡ gaps_bytes gaps ++ r ∷ rest → (n : Place) → FrontIs r rest n → NextIs bytes n
    at-front here n (a_token f) = spelled (gaps, valid, here ∙ ap (λ (x : List ℕ). gaps_bytes gaps ++ x) f.0, f.1)
    at-front here n (an_open_text t k) = unclosed (gaps, r ∷ rest, valid, here, inr t) k
    at-front here n (a_bad_byte no_word no_mark no_text k behind) =
        no_token r (gaps, valid, here ∙ ap (λ (x : List ℕ). gaps_bytes gaps ++ r ∷ x) (sym behind), (no_blank, no_word, no_mark, no_text)) k

-- What is next is a token, the end, what is cut off, or a bad byte, each as it is spelled.
next_kind : (bytes : List ℕ) → NextIs bytes (next bytes)
unfolding next
next_kind bytes = let s = skip_blanks_is bytes in next_is-at bytes s.0 s.1 (skip blanks bytes) s.2 s.3 s.4

-- the next token is spelled
pub next_spelled : (bytes : List ℕ) → IsToken (next bytes).token → Spells bytes (next bytes).token (next bytes).rest
next_spelled bytes h =
    elim (next_kind bytes) [
      | spelled s ↦ s
      | ended s e ↦ absurd (subst IsToken e h)
      | unclosed s e ↦ absurd (subst IsToken e h)
      | no_token b s e ↦ absurd (subst IsToken e h)
    ]

-- A token that is no valid one isn't spelled.
no_valid : (token : Token) (rest : List ℕ) (other : Token) → token ≡ other → (ValidItem other rest → ⊥) → ValidItem token rest → ⊥
no_valid token rest other e h v = h (subst (λ (i : Token). ValidItem i rest) e v)

-- Where the end is next, blanks and comments alone are spelled.
pub end_spelled : (bytes : List ℕ) → (next bytes).token ≡ end → SpellsEnd bytes
end_spelled bytes h =
    elim (next_kind bytes) [
      | spelled s ↦ absurd (no_valid (next bytes).token (next bytes).rest end h (λ v. v) s.3)
      | ended s e ↦ s
      | unclosed s e ↦ absurd (other (sym h ∙ e))
      | no_token b s e ↦ absurd (another (sym h ∙ e))
    ]
  where
    other : end ≡ cut → ⊥
    other e = cc

    another : end ≡ bad → ⊥
    another e = cc

-- Where the input is cut off, a comment or a string isn't closed.
pub cut_spelled : (bytes : List ℕ) → (next bytes).token ≡ cut → SpellsCut bytes
cut_spelled bytes h =
    elim (next_kind bytes) [
      | spelled s ↦ absurd (no_valid (next bytes).token (next bytes).rest cut h (λ v. v) s.3)
      | ended s e ↦ absurd (other (sym h ∙ e))
      | unclosed s e ↦ s
      | no_token b s e ↦ absurd (another (sym h ∙ e))
    ]
  where
    other : cut ≡ end → ⊥
    other e = cc

    another : cut ≡ bad → ⊥
    another e = cc

-- Where a bad byte is next, a byte of no token is spelled behind blanks and comments.
pub bad_spelled : (bytes : List ℕ) → (next bytes).token ≡ bad → (b : ℕ) × SpellsBad bytes b (next bytes).rest
bad_spelled bytes h =
    elim (next_kind bytes) [
      | spelled s ↦ absurd (no_valid (next bytes).token (next bytes).rest bad h (λ v. v) s.3)
      | ended s e ↦ absurd (other (sym h ∙ e))
      | unclosed s e ↦ absurd (another (sym h ∙ e))
      | no_token b s e ↦ (b, s)
    ]
  where
    other : bad ≡ end → ⊥
    other e = cc

    another : bad ≡ cut → ⊥
    another e = cc
