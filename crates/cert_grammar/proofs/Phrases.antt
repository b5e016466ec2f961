-- What is read of a line, word by word, is spelled so, and what is spelled so is read. Each way of putting phrases
-- together keeps both, so they hold of each line.
use Rattle.std.proofs.Common.{◌≡◌, ℕ, zero, suc, ◌+◌, ◌<◌, ◌^◌, ◌%◌, Bool, true, false, List, [], ◌∷◌, ◌++◌, length, map, Option, Some, None, refl, sym, ◌∙◌, ap, subst, append_assoc, arith, rules}
use Rattle.script_grammar.proofs.Steps.{same_is, same_refl}
use Rattle.std.specs.Prelude.{option_and_then, ◌&&◌, not, ◌==◌, if◌then◌else◌, decimal}
use Rattle.std.specs.Option.{option_map}
use Rattle.std.specs.List.{AllByRecursion}
use Rattle.std.proofs.lemmas.List.{append-nil}
use Rattle.std.proofs.lemmas.Fmt.{decimal_by_steps, digits_value-decimal}
use Rattle.std.proofs.lemmas.Str.Parse.{IsNumeralModel, numerals_by_fold}
use Rattle.prime_field.specs.Decimal.{AreDigits, value_from, value_of}
use Rattle.script_grammar.specs.Words.{is_same}
use Rattle.cert_grammar.specs.Lines.{Word, Line, is_plain, IsPlain, IsLine}
use Rattle.cert_grammar.specs.Phrases.{Phrase, one_word, behind_word, both_words, words_times, ended, whole, numeral_of}
use Rattle.cert_grammar.proofs.Tools.{then_some, map_some, if_some, and_true}
use Rattle.cert_grammar.proofs.Forms.{IsLineForm}

-- ---- words
-- what holds of a word and its reading
pub record IsWordForm {A : Type 0} (Is : A → Type 0) (word : A → Word) (of : Word → Option A) : Type 0 where
  pub plain : (a : A) → Is a → IsPlain (word a)
  pub only : (a : A) → Is a → of (word a) ≡ Some a
  pub found : (w : Word) (a : A) → of w ≡ Some a → Is a × (w ≡ word a)

-- ---- numerals
-- values of numerals are told by folding their digits
own : IsNumeralModel AreDigits value_of
own = numerals_by_fold _ (search rules) value_from (search rules)

-- plain bytes and plain bytes are plain
plain-append : (v w : Word) → is_plain v ≡ true → is_plain w ≡ true → is_plain (v ++ w) ≡ true
plain-append [] w h k = k
plain-append (b ∷ v) w h k =
    let p : (not (b == 32) ≡ true) × ((not (b == 10) && is_plain v) ≡ true) = and_true (not (b == 32)) (not (b == 10) && is_plain v) h in
    let q : (not (b == 10) ≡ true) × (is_plain v ≡ true) = and_true (not (b == 10)) (is_plain v) p.1 in
    ap (λ z. z && (not (b == 10) && is_plain (v ++ w))) p.0 ∙ ap (λ z. z && is_plain (v ++ w)) q.0 ∙ plain-append v w q.1 k

-- a digit is plain
digit_plain : (d : ℕ) → is_plain ((48 + d) ∷ []) ≡ true
digit_plain d =
    ap (λ z. not z && (not (48 + d == 10) && true)) (let p : (48 + d == 32) ≡ false = grind arith in p)
    ∙ ap (λ z. not z && true) (let p : (48 + d == 10) ≡ false = grind arith in p)

-- a numeral is plain
pub decimal_plain : (n : ℕ) → n < 2 ^ 64 → is_plain (decimal n) ≡ true
decimal_plain = decimal_by_steps (λ n ds. is_plain ds ≡ true) (λ n h. digit_plain n) (λ n ds h k. plain-append ds ((48 + n % 10) ∷ []) k (digit_plain (n % 10)))

-- a numeral is a word
pub numeral_form : (test : ℕ → Bool) → ((n : ℕ) → test n ≡ true → n < 2 ^ 64) → IsWordForm (λ n. test n ≡ true) decimal (numeral_of test)
numeral_form test low = record { plain = λ n h. decimal_plain n (low n h); only = only; found = found }
  where
    only : (n : ℕ) → test n ≡ true → numeral_of test (decimal n) ≡ Some n
    only n h =
        ap (λ m. if test m && is_same (decimal n) (decimal m) then Some m else None) (digits_value-decimal own n (low n h))
        ∙ ap (λ b. if b && is_same (decimal n) (decimal n) then Some n else None) h
        ∙ ap (λ b. if b then Some n else None) (same_refl (decimal n))

    found : (w : Word) (n : ℕ) → numeral_of test w ≡ Some n → (test n ≡ true) × (w ≡ decimal n)
    found w n e =
        let p : ((test (value_of w) && is_same w (decimal (value_of w))) ≡ true) × (value_of w ≡ n) = if_some (test (value_of w) && is_same w (decimal (value_of w))) (value_of w) n e in
        let q : (test (value_of w) ≡ true) × (is_same w (decimal (value_of w)) ≡ true) = and_true (test (value_of w)) (is_same w (decimal (value_of w))) p.0 in
        (subst (λ (z : ℕ). test z ≡ true) p.1 q.0, same_is w (decimal (value_of w)) q.1 ∙ ap decimal p.1)

-- ---- phrases
-- what holds of words and their reading
pub record IsPhrase {A : Type 0} (Is : A → Type 0) (text : A → List Word) (of : Phrase A) : Type 0 where
  pub plain : (a : A) → Is a → AllByRecursion IsPlain (text a)
  pub only : (a : A) (rest : List Word) → Is a → of (text a ++ rest) ≡ Some (a, rest)
  pub found : (ws : List Word) (x : A × List Word) → of ws ≡ Some x → Is x.0 × (ws ≡ text x.0 ++ x.1)

-- a word is a phrase
pub one_word_phrase : {A : Type 0} (Is : A → Type 0) (word : A → Word) (of : Word → Option A) → IsWordForm Is word of → IsPhrase Is (λ a. word a ∷ []) (one_word of)
one_word_phrase {A} Is word of F = record {
  plain = λ a h. (F.plain a h, tt);
  only = λ a rest h. ap (option_map (λ (z : A). (z, rest))) (F.only a h);
  found = found;
}
  where
    found : (ws : List Word) (x : A × List Word) → one_word of ws ≡ Some x → Is x.0 × (ws ≡ word x.0 ∷ x.1)
    found [] x e = absurd (cc)
    found (w ∷ ws) x e =
        let q : (a : A) × (of w ≡ Some a) × ((a, ws) ≡ x) = map_some (λ (z : A). (z, ws)) (of w) x e in
        let f : Is q.0 × (w ≡ word q.0) = F.found w q.0 q.1 in
        subst (λ (z : A × List Word). Is z.0 × (w ∷ ws ≡ word z.0 ∷ z.1)) q.2 (f.0, ap (λ (z : Word). z ∷ ws) f.1)

-- a phrase behind a given word is a phrase
pub behind_word_phrase : {A : Type 0} (k : Word) (Is : A → Type 0) (text : A → List Word) (of : Phrase A) → IsPlain k → IsPhrase Is text of → IsPhrase Is (λ a. k ∷ text a) (behind_word k of)
behind_word_phrase {A} k Is text of k_is F = record {
  plain = λ a h. (k_is, F.plain a h);
  only = λ a rest h. ap (λ b. option_and_then of (if b then Some (text a ++ rest) else None)) (same_refl k) ∙ F.only a rest h;
  found = found;
}
  where
    found : (ws : List Word) (x : A × List Word) → behind_word k of ws ≡ Some x → Is x.0 × (ws ≡ k ∷ text x.0 ++ x.1)
    found [] x e = absurd (cc)
    found (w ∷ ws) x e = go (is_same w k) refl e
      where
        go : (b : Bool) → is_same w k ≡ b → option_and_then of (if b then Some ws else None) ≡ Some x → Is x.0 × (w ∷ ws ≡ k ∷ text x.0 ++ x.1)
        go true was p = ((F.found ws x p).0, ap (λ (z : Word). z ∷ ws) (same_is w k was) ∙ ap (λ (z : List Word). k ∷ z) (F.found ws x p).1)
        go false was p = absurd (cc)

-- plain words and plain words are plain
all-append : (a b : List Word) → AllByRecursion IsPlain a → AllByRecursion IsPlain b → AllByRecursion IsPlain (a ++ b)
all-append [] b h k = k
all-append (w ∷ a) b h k = (h.0, all-append a b h.1 k)

-- two phrases, the second hanging on the first, are a phrase
pub both_words_phrase : {A B : Type 0} (IsA : A → Type 0) (textA : A → List Word) (ofA : Phrase A) (IsB : A → B → Type 0) (textB : A → B → List Word) (ofB : A → Phrase B) →
    IsPhrase IsA textA ofA → ((a : A) → IsA a → IsPhrase (IsB a) (textB a) (ofB a)) →
    IsPhrase {A = A × B} (λ t. IsA t.0 × IsB t.0 t.1) (λ t. textA t.0 ++ textB t.0 t.1) (both_words ofA ofB)
both_words_phrase {A} {B} IsA textA ofA IsB textB ofB F G = record {
  plain = λ t h. all-append (textA t.0) (textB t.0 t.1) (F.plain t.0 h.0) ((G t.0 h.0).plain t.1 h.1);
  only = λ t rest h.
      ap (both_words ofA ofB) (append_assoc (textA t.0) (textB t.0 t.1) rest)
      ∙ ap (option_and_then (λ x. option_map (λ (y : B × List Word). ((x.0, y.0), y.1)) (ofB x.0 x.1))) (F.only t.0 (textB t.0 t.1 ++ rest) h.0)
      ∙ ap (option_map (λ (y : B × List Word). ((t.0, y.0), y.1))) ((G t.0 h.0).only t.1 rest h.1);
  found = found;
}
  where
    found : (ws : List Word) (y : (A × B) × List Word) → both_words ofA ofB ws ≡ Some y → (IsA y.0.0 × IsB y.0.0 y.0.1) × (ws ≡ (textA y.0.0 ++ textB y.0.0 y.0.1) ++ y.1)
    found ws y e =
        let r : (x : A × List Word) × (ofA ws ≡ Some x) × (option_map (λ (z : B × List Word). ((x.0, z.0), z.1)) (ofB x.0 x.1) ≡ Some y) = then_some _ (ofA ws) y e in
        let a : A = r.0.0 in
        let f : IsA a × (ws ≡ textA a ++ r.0.1) = F.found ws r.0 r.1 in
        let s : (z : B × List Word) × (ofB a r.0.1 ≡ Some z) × (((a, z.0), z.1) ≡ y) = map_some _ (ofB a r.0.1) y r.2 in
        let g : IsB a s.0.0 × (r.0.1 ≡ textB a s.0.0 ++ s.0.1) = (G a f.0).found r.0.1 s.0 s.1 in
        subst (λ (z : (A × B) × List Word). (IsA z.0.0 × IsB z.0.0 z.0.1) × (ws ≡ (textA z.0.0 ++ textB z.0.0 z.0.1) ++ z.1)) s.2
        ((f.0, g.0), f.1 ∙ ap (λ (z : List Word). textA a ++ z) g.1 ∙ sym (append_assoc (textA a) (textB a s.0.0) s.0.1))

-- so many words
pub words_times_phrase : {A : Type 0} (Is : A → Type 0) (word : A → Word) (of : Word → Option A) → IsWordForm Is word of → (n : ℕ) →
    IsPhrase (λ xs. (length xs ≡ n) × AllByRecursion Is xs) (map word) (words_times (one_word of) n)
words_times_phrase {A} Is word of F n = record { plain = λ xs h. all xs h.1; only = only n; found = found n }
  where
    all : (xs : List A) → AllByRecursion Is xs → AllByRecursion IsPlain (map word xs)
    all [] h = tt
    all (x ∷ xs) h = (F.plain x h.0, all xs h.1)

    W : IsPhrase Is (λ a. word a ∷ []) (one_word of)
    W = one_word_phrase Is word of F

    only : (n : ℕ) (xs : List A) (rest : List Word) → (length xs ≡ n) × AllByRecursion Is xs → words_times (one_word of) n (map word xs ++ rest) ≡ Some (xs, rest)
    only zero [] rest h = refl
    only zero (x ∷ xs) rest h = absurd (omega (arith, h.0))
    only (suc n) [] rest h = absurd (omega (arith, h.0))
    only (suc n) (x ∷ xs) rest h =
        ap (option_and_then (λ y. option_map (λ (z : List A × List Word). (y.0 ∷ z.0, z.1)) (words_times (one_word of) n y.1))) (W.only x (map word xs ++ rest) h.1.0)
        ∙ ap (option_map (λ (z : List A × List Word). (x ∷ z.0, z.1))) (only n xs rest (let q : length xs ≡ n = omega (arith, h.0) in q, h.1.1))

    found : (n : ℕ) (ws : List Word) (x : List A × List Word) → words_times (one_word of) n ws ≡ Some x →
        ((length x.0 ≡ n) × AllByRecursion Is x.0) × (ws ≡ map word x.0 ++ x.1)
    found zero ws x e = let q : ([], ws) ≡ x = cc in
        subst (λ (z : List A × List Word). ((length z.0 ≡ 0) × AllByRecursion Is z.0) × (ws ≡ map word z.0 ++ z.1)) q ((refl, tt), refl)
    found (suc n) ws x e =
        let r : (y : A × List Word) × (one_word of ws ≡ Some y) × (option_map (λ (z : List A × List Word). (y.0 ∷ z.0, z.1)) (words_times (one_word of) n y.1) ≡ Some x) = then_some _ (one_word of ws) x e in
        let f : Is r.0.0 × (ws ≡ word r.0.0 ∷ r.0.1) = W.found ws r.0 r.1 in
        let s : (z : List A × List Word) × (words_times (one_word of) n r.0.1 ≡ Some z) × ((r.0.0 ∷ z.0, z.1) ≡ x) = map_some _ (words_times (one_word of) n r.0.1) x r.2 in
        let g : ((length s.0.0 ≡ n) × AllByRecursion Is s.0.0) × (r.0.1 ≡ map word s.0.0 ++ s.0.1) = found n r.0.1 s.0 s.1 in
        subst (λ (z : List A × List Word). ((length z.0 ≡ suc n) × AllByRecursion Is z.0) × (ws ≡ map word z.0 ++ z.1)) s.2
        ((let q : length (r.0.0 ∷ s.0.0) ≡ suc n = omega (arith, g.0.0) in q, (f.0, g.0.1)), f.1 ∙ ap (λ (z : List Word). word r.0.0 ∷ z) g.1)

-- ---- lines
-- the phrase, and no more
pub whole_line : {A : Type 0} (Is : A → Type 0) (text : A → List Word) (of : Phrase A) → ((a : A) → Is a → IsLine (text a)) → IsPhrase Is text of → IsLineForm Is text (whole of)
whole_line {A} Is text of plain F = record {
  plain = plain;
  only = λ a h. ap (whole of) (sym (append-nil (text a))) ∙ ap (option_and_then ended) (F.only a [] h);
  found = λ l a e. let r : (x : A × List Word) × (of l ≡ Some x) × (ended x ≡ Some a) = then_some ended (of l) a e in
      go l r.0 a r.1 r.2;
}
  where
    go : (l : Line) (x : A × List Word) (a : A) → of l ≡ Some x → ended x ≡ Some a → Is a × (l ≡ text a)
    go l (b, []) a e p = let q : b ≡ a = cc in
        subst (λ (z : A). Is z × (l ≡ text z)) q ((F.found l (b, []) e).0, (F.found l (b, []) e).1 ∙ append-nil (text b))
    go l (b, w ∷ ws) a e p = absurd (cc)

-- a line seen as something else
pub mapped_line : {A T : Type 0} (f : A → T) (g : T → A) (IsA : A → Type 0) (lineA : A → Line) (of : Line → Option A) (Is : T → Type 0) (line : T → Line) →
    ((t : T) → Is t → IsA (g t) × (line t ≡ lineA (g t)) × (t ≡ f (g t))) → ((a : A) → IsA a → Is (f a) × (line (f a) ≡ lineA a)) →
    IsLineForm IsA lineA of → IsLineForm Is line (λ l. option_map f (of l))
mapped_line {A} {T} f g IsA lineA of Is line to from F = record {
  plain = λ t h. subst IsLine (sym (to t h).1) (F.plain (g t) (to t h).0);
  only = λ t h. ap (λ (l : Line). option_map f (of l)) (to t h).1 ∙ ap (option_map f) (F.only (g t) (to t h).0) ∙ ap (λ (z : T). Some z) (sym (to t h).2);
  found = λ l t e. let q : (a : A) × (of l ≡ Some a) × (f a ≡ t) = map_some f (of l) t e in
      subst (λ (z : T). Is z × (l ≡ line z)) q.2 ((from q.0 (F.found l q.0 q.1).0).0, (F.found l q.0 q.1).1 ∙ sym (from q.0 (F.found l q.0 q.1).0).1);
}
