-- The forms of the lines of a certificate, of its parts and of the whole.
use Rattle.std.proofs.Common.{◌≡◌, ℕ, ◌<◌, ◌≤◌, ◌^◌, Bool, true, false, List, [], ◌∷◌, length, map, Option, Some, None, refl, sym, ◌∙◌, ap, subst, ◌⊎◌, inl, inr, ⊎_elim, arith, codes}
use Rattle.std.proofs.lemmas.Bool.{leb-true}
use Rattle.script_grammar.proofs.Steps.{same_is, same_refl}
use Rattle.std.specs.Prelude.{option_and_then, ◌&&◌, not, ◌==◌, nat_le, if◌then◌else◌, decimal}
use Rattle.std.specs.Option.{option_map}
use Rattle.std.specs.List.{AllByRecursion, list_all, list_any}
use Rattle.std.specs.Char.{is_ascii_alphabetic}
use Rattle.script_grammar.specs.Words.{is_same}
use Rattle.cert_grammar.specs.Lines.{Word, Line, is_plain, IsPlain, IsLine, same_line}
use Rattle.sparse_poly.specs.Poly.{Polynomial}
use Rattle.cert_grammar.specs.Words.{Ring, IsNonzeroOf, IsMonoOf, IsTopOf, poly_word, mono_word, nonzero_of_word, mono_of_word, top_of_word, are_different, are_letters, is_degree}
use Rattle.entry_code.specs.declared.item.Item.{Item}
use Rattle.entry_code.specs.declared.item.Item.TheVariants.{Generator, Pair}
use Rattle.entry_code.specs.declared.reading.Reading.{Reading}
use Rattle.cert_grammar.specs.declared.entry.Step.{Step}
use Rattle.cert_grammar.specs.declared.entry.Step.TheVariants.{OneMore, Last}
use Rattle.cert_grammar.specs.Cert.{numbered, vars_line, item_line, read_line, poly_line, corner_word, corner_line, stair_line, is_number, IsNumber, IsItem, IsReading, IsCorner}
use Rattle.cert_grammar.specs.Phrases.{Phrase, one_word, behind_word, both_words, words_times, ended, whole, numeral_of, number_at}
use Rattle.cert_grammar.specs.Reading.{numbered_of, bytes_of, if_letters, vars_of, alone_of, generator_of, pair_of, first_of_two, item_of, reading_of, poly_of, fits_of, small_of, verdict_of, corner_word_of, corner_of, stair_of, step_of}
use Rattle.cert_grammar.proofs.Tools.{then_some, map_some, if_some, and_true}
use Rattle.cert_grammar.proofs.RingWords.{IsSound, one_poly, no_mono, nonzero_word_form, mono_word_form, top_word_form}
use Rattle.cert_grammar.proofs.Forms.{Refused, IsForm, IsLineForm, one_line, done_form, then_form, same_form, mapped_form, both_form, behind_form, followed_form, cons_form, AreSoMany, times_form}
use Rattle.cert_grammar.proofs.Phrases.{IsWordForm, numeral_form, IsPhrase, one_word_phrase, behind_word_phrase, both_words_phrase, words_times_phrase, whole_line, mapped_line}

-- ---- tests
-- a number of a certificate is below 2^64
number_low : (n : ℕ) → is_number n ≡ true → n < 2 ^ 64
number_low n h = let q : n ≤ 65535 = leb-true n 65535 h in omega arith

-- a number that is at most a small one
pub below_low : (k : ℕ) → k ≤ 65535 → (n : ℕ) → nat_le n k ≡ true → n < 2 ^ 64
below_low k small n h = let q : n ≤ k = leb-true n k h in omega arith

-- a degree is below 2^64
pub degree_low : (n d : ℕ) → is_degree n d ≡ true → d < 2 ^ 64
degree_low n d h = let q : d ≤ 255 = leb-true d 255 (and_true (nat_le d 255) _ (and_true (nat_le 1 d) _ h).1).0 in omega arith

-- a letter is neither a blank nor an end of a line
letter_plain : (v : ℕ) → is_ascii_alphabetic v ≡ true → is_plain (v ∷ []) ≡ true
letter_plain v h =
    ap (λ z. not z && (not (v == 10) && true)) (no_blank v h) ∙ ap (λ z. not z && true) (no_end v h)
  where
    no_blank : (b : ℕ) → is_ascii_alphabetic b ≡ true → (b == 32) ≡ false
    no_blank b h = grind arith

    no_end : (b : ℕ) → is_ascii_alphabetic b ≡ true → (b == 10) ≡ false
    no_end b h = grind arith

-- ---- lines
-- a word and a number
pub numbered_line : (word : Word) → IsPlain word → (test : ℕ → Bool) → ((n : ℕ) → test n ≡ true → n < 2 ^ 64) → IsLineForm (λ n. test n ≡ true) (numbered word) (numbered_of word test)
numbered_line word plain test low =
    let P : IsPhrase (λ n. test n ≡ true) (λ n. word ∷ decimal n ∷ []) (behind_word word (one_word (numeral_of test))) =
    behind_word_phrase word (λ n. test n ≡ true) (λ n. decimal n ∷ []) (one_word (numeral_of test)) plain (one_word_phrase (λ n. test n ≡ true) decimal (numeral_of test) (numeral_form test low)) in
    whole_line (λ n. test n ≡ true) (numbered word) (behind_word word (one_word (numeral_of test))) P.plain P

-- a numeral is a phrase
number_phrase : IsPhrase IsNumber (λ n. decimal n ∷ []) number_at
number_phrase = one_word_phrase IsNumber decimal (numeral_of is_number) (numeral_form is_number number_low)

-- two numerals are a phrase
two_numbers : IsPhrase {A = ℕ × ℕ} (λ t. IsNumber t.0 × IsNumber t.1) (λ t. decimal t.0 ∷ decimal t.1 ∷ []) (both_words number_at (λ _. number_at))
two_numbers = both_words_phrase IsNumber (λ n. decimal n ∷ []) number_at (λ _. IsNumber) (λ _ n. decimal n ∷ []) (λ _. number_at) number_phrase (λ a h. number_phrase)

-- one form or another, where no line of the second is one of the first
either_line : {A : Type 0} (Is1 Is2 Is : A → Type 0) (line : A → Line) (of1 of2 : Line → Option A) → IsLineForm Is1 line of1 → IsLineForm Is2 line of2 →
    ((a : A) → Is a → Is1 a ⊎ Is2 a) → ((a : A) → Is1 a → Is a) → ((a : A) → Is2 a → Is a) → ((a : A) → Is2 a → of1 (line a) ≡ None) →
    IsLineForm Is line (λ l. first_of_two (of1 l) (of2 l))
either_line {A} Is1 Is2 Is line of1 of2 F G to from1 from2 apart = record {
  plain = λ a h. ⊎_elim (F.plain a) (G.plain a) (to a h);
  only = λ a h. ⊎_elim
      (λ (k : Is1 a). ap (λ (z : Option A). first_of_two z (of2 (line a))) (F.only a k))
      (λ (k : Is2 a). ap (λ (z : Option A). first_of_two z (of2 (line a))) (apart a k) ∙ G.only a k)
      (to a h);
  found = λ l a e. go l a (of1 l) refl e;
}
  where
    go : (l : Line) (a : A) (o : Option A) → of1 l ≡ o → first_of_two o (of2 l) ≡ Some a → Is a × (l ≡ line a)
    go l a (Some b) was e = let q : of1 l ≡ Some a = cc in (from1 a (F.found l a q).0, (F.found l a q).1)
    go l a None was e = (from2 a (G.found l a e).0, (G.found l a e).1)

-- ---- the letters
-- letters are words
different_plain : (before vs : List ℕ) → are_different before vs ≡ true → AllByRecursion IsPlain (map (λ v. v ∷ []) vs)
different_plain before [] h = tt
different_plain before (v ∷ vs) h =
    let p : (is_ascii_alphabetic v ≡ true) × ((not (list_any (λ u. Rattle.std.specs.Prelude.eqb u v) before) && are_different (v ∷ before) vs) ≡ true) = and_true (is_ascii_alphabetic v) _ h in
    (letter_plain v p.0, different_plain (v ∷ before) vs (and_true _ (are_different (v ∷ before) vs) p.1).1)

-- letters are read back from their words
bytes_again : (vs : List ℕ) → bytes_of (map (λ v. v ∷ []) vs) ≡ Some vs
bytes_again [] = refl
bytes_again (v ∷ vs) = ap (option_map (λ (z : List ℕ). v ∷ z)) (bytes_again vs)

-- words that are read as letters are those of the letters
bytes_found : (ws : List Word) (vs : List ℕ) → bytes_of ws ≡ Some vs → ws ≡ map (λ v. v ∷ []) vs
bytes_found [] vs e = let q : [] ≡ vs = cc in ap (map (λ v. v ∷ [])) q
bytes_found ([] ∷ ws) vs e = absurd (cc)
bytes_found ((v ∷ []) ∷ ws) vs e =
    let q : (us : List ℕ) × (bytes_of ws ≡ Some us) × (v ∷ us ≡ vs) = map_some (λ (z : List ℕ). v ∷ z) (bytes_of ws) vs e in
    ap (λ (z : List Word). (v ∷ []) ∷ z) (bytes_found ws q.0 q.1) ∙ ap (map (λ v. v ∷ [])) q.2
bytes_found ((v ∷ b ∷ w) ∷ ws) vs e = absurd (cc)

-- the line of the variables
pub vars_form : IsLineForm (λ letters. are_letters letters ≡ true) vars_line vars_of
vars_form = record { plain = plain; only = only; found = found }
  where
    plain : (letters : List ℕ) → are_letters letters ≡ true → IsLine (vars_line letters)
    plain letters h = (refl, different_plain [] letters (and_true (nat_le (length letters) 8) (are_different [] letters) (and_true (nat_le 1 (length letters)) _ h).1).1)

    only : (letters : List ℕ) → are_letters letters ≡ true → vars_of (vars_line letters) ≡ Some letters
    only letters h = ap (option_and_then if_letters) (bytes_again letters) ∙ ap (λ b. if b then Some letters else None) h

    found : (l : Line) (letters : List ℕ) → vars_of l ≡ Some letters → (are_letters letters ≡ true) × (l ≡ vars_line letters)
    found [] letters e = absurd (cc)
    found (w ∷ ws) letters e = go (is_same w (codes "vars")) refl e
      where
        go : (b : Bool) → is_same w (codes "vars") ≡ b → (if b then option_and_then if_letters (bytes_of ws) else None) ≡ Some letters → (are_letters letters ≡ true) × (w ∷ ws ≡ vars_line letters)
        go false was p = absurd (cc)
        go true was p =
            let r : (vs : List ℕ) × (bytes_of ws ≡ Some vs) × (if_letters vs ≡ Some letters) = then_some if_letters (bytes_of ws) letters p in
            let q : (are_letters r.0 ≡ true) × (r.0 ≡ letters) = if_some (are_letters r.0) r.0 letters r.2 in (
              subst (λ (z : List ℕ). are_letters z ≡ true) q.1 q.0,
              ap (λ (z : Word). z ∷ ws) (same_is w (codes "vars") was) ∙ ap (λ (z : List Word). codes "vars" ∷ z) (bytes_found ws r.0 r.1 ∙ ap (map (λ v. v ∷ [])) q.1),
            )

-- ---- entries
-- a generator whose number is one
abbrev pub IsGenerator : Item → Type 0
IsGenerator (Generator g) = IsNumber g
IsGenerator (Pair a b) = ⊥

-- a pair whose numbers are
abbrev pub IsPair : Item → Type 0
IsPair (Generator g) = ⊥
IsPair (Pair a b) = IsNumber a × IsNumber b

-- the line of a generator
generator_line : (i : ℕ) → IsPlain (decimal i) → IsLineForm IsGenerator (item_line i) (generator_of i)
generator_line i plain =
    let P : IsPhrase IsNumber (λ g. codes "entry" ∷ decimal i ∷ codes "gen" ∷ decimal g ∷ []) (behind_word (codes "entry") (behind_word (decimal i) (behind_word (codes "gen") number_at))) =
    behind_word_phrase (codes "entry") IsNumber _ _ refl (behind_word_phrase (decimal i) IsNumber _ _ plain (behind_word_phrase (codes "gen") IsNumber _ _ refl number_phrase)) in
    mapped_line (λ g. Generator g) number_in IsNumber (λ g. codes "entry" ∷ decimal i ∷ codes "gen" ∷ decimal g ∷ []) (whole (behind_word (codes "entry") (behind_word (decimal i) (behind_word (codes "gen") number_at))))
    IsGenerator (item_line i) to (λ g h. (h, refl)) (whole_line IsNumber _ _ P.plain P)
  where
    number_in : Item → ℕ
    number_in (Generator g) = g
    number_in (Pair a b) = a

    to : (x : Item) → IsGenerator x → IsNumber (number_in x) × (item_line i x ≡ codes "entry" ∷ decimal i ∷ codes "gen" ∷ decimal (number_in x) ∷ []) × (x ≡ Generator (number_in x))
    to (Generator g) h = (h, refl, refl)
    to (Pair a b) h = elim h [ ]

-- the line of a pair
pair_line : (i : ℕ) → IsPlain (decimal i) → IsLineForm IsPair (item_line i) (pair_of i)
pair_line i plain =
    let IsTwo : ℕ × ℕ → Type 0 = λ t. IsNumber t.0 × IsNumber t.1 in
    let P : IsPhrase IsTwo (λ t. codes "entry" ∷ decimal i ∷ codes "pair" ∷ decimal t.0 ∷ decimal t.1 ∷ []) (behind_word (codes "entry") (behind_word (decimal i) (behind_word (codes "pair") (both_words number_at (λ _. number_at))))) =
    behind_word_phrase (codes "entry") IsTwo _ _ refl (behind_word_phrase (decimal i) IsTwo _ _ plain (behind_word_phrase (codes "pair") IsTwo _ _ refl two_numbers)) in
    mapped_line (λ (t : ℕ × ℕ). Pair t.0 t.1) numbers_in IsTwo (λ t. codes "entry" ∷ decimal i ∷ codes "pair" ∷ decimal t.0 ∷ decimal t.1 ∷ []) (whole (behind_word (codes "entry") (behind_word (decimal i) (behind_word (codes "pair") (both_words number_at (λ _. number_at))))))
    IsPair (item_line i) to (λ t h. (h, refl)) (whole_line IsTwo _ _ P.plain P)
  where
    numbers_in : Item → ℕ × ℕ
    numbers_in (Generator g) = (g, g)
    numbers_in (Pair a b) = (a, b)

    to : (x : Item) → IsPair x → (IsNumber (numbers_in x).0 × IsNumber (numbers_in x).1) × (item_line i x ≡ codes "entry" ∷ decimal i ∷ codes "pair" ∷ decimal (numbers_in x).0 ∷ decimal (numbers_in x).1 ∷ []) × (x ≡ Pair (numbers_in x).0 (numbers_in x).1)
    to (Generator g) h = elim h [ ]
    to (Pair a b) h = (h, refl, refl)

-- the first line of an entry
pub item_form : (i : ℕ) → IsPlain (decimal i) → IsLineForm IsItem (item_line i) (item_of i)
item_form i plain = either_line IsGenerator IsPair IsItem (item_line i) (generator_of i) (pair_of i) (generator_line i plain) (pair_line i plain) to from1 from2 apart
  where
    to : (x : Item) → IsItem x → IsGenerator x ⊎ IsPair x
    to (Generator g) h = inl h
    to (Pair a b) h = inr h

    from1 : (x : Item) → IsGenerator x → IsItem x
    from1 (Generator g) h = h
    from1 (Pair a b) h = elim h [ ]

    from2 : (x : Item) → IsPair x → IsItem x
    from2 (Generator g) h = elim h [ ]
    from2 (Pair a b) h = h

    apart : (x : Item) → IsPair x → generator_of i (item_line i x) ≡ None
    apart (Generator g) h = elim h [ ]
    apart (Pair a b) h =
        ap (λ c. option_map (λ g. Generator g) (option_and_then ended (option_and_then (behind_word (codes "gen") number_at) (if c then Some (codes "pair" ∷ decimal a ∷ decimal b ∷ []) else None)))) (same_refl (decimal i))

-- the line of a reading
pub reading_form : IsLineForm IsReading read_line reading_of
reading_form =
    let IsTwo : ℕ × ℕ → Type 0 = λ t. IsNumber t.0 × IsNumber t.1 in
    let P : IsPhrase IsTwo (λ t. codes "read" ∷ decimal t.0 ∷ decimal t.1 ∷ []) (behind_word (codes "read") (both_words number_at (λ _. number_at))) =
    behind_word_phrase (codes "read") IsTwo _ _ refl two_numbers in
    mapped_line (λ (t : ℕ × ℕ). record { known = t.0; corner = t.1 }) (λ (r : Reading). (r.known, r.corner)) IsTwo (λ t. codes "read" ∷ decimal t.0 ∷ decimal t.1 ∷ []) (whole (behind_word (codes "read") (both_words number_at (λ _. number_at))))
    IsReading read_line (λ r h. ((h.known, h.corner), refl, refl)) (λ t h. (record { known = h.0; corner = h.1 }, refl)) (whole_line IsTwo _ _ P.plain P)

-- a word in front of one that is told
labelled_line : {A : Type 0} (k : Word) → IsPlain k → (Is : A → Type 0) (word : A → Word) (of : Word → Option A) → IsWordForm Is word of → IsLineForm Is (λ a. k ∷ word a ∷ []) (whole (behind_word k (one_word of)))
labelled_line k k_is Is word of F =
    let P : IsPhrase Is (λ a. k ∷ word a ∷ []) (behind_word k (one_word of)) =
    behind_word_phrase k Is (λ a. word a ∷ []) (one_word of) k_is (one_word_phrase Is word of F) in
    whole_line Is (λ a. k ∷ word a ∷ []) (behind_word k (one_word of)) P.plain P

-- the line of an entry's polynomial
poly_form : (r : Ring) → IsSound r → IsLineForm (IsNonzeroOf r) (poly_line r) (poly_of r)
poly_form r R = labelled_line (codes "poly") refl (IsNonzeroOf r) (poly_word r) (nonzero_of_word r) (nonzero_word_form r R)

-- a line of one word
pub alone_form : {A : Type 0} (Is : A → Type 0) (word : A → Word) (of : Word → Option A) → IsWordForm Is word of → IsLineForm Is (λ a. word a ∷ []) (alone_of of)
alone_form Is word of F =
    let P : IsPhrase Is (λ a. word a ∷ []) (one_word of) = one_word_phrase Is word of F in
    whole_line Is (λ a. word a ∷ []) (one_word of) P.plain P

-- a line behind an entry's first reading
abbrev pub IsStep : Ring → Step → Type 0
IsStep r (OneMore x) = IsReading x
IsStep r (Last f) = IsNonzeroOf r f

-- its line
abbrev pub step_line : Ring → Step → Line
step_line r (OneMore x) = read_line x
step_line r (Last f) = poly_line r f

-- the line of a step
pub step_form : (r : Ring) → IsSound r → IsLineForm (IsStep r) (step_line r) (step_of r)
step_form r R =
    either_line IsLast IsMore (IsStep r) (step_line r) (λ l. option_map Last (poly_of r l)) (λ l. option_map OneMore (reading_of l))
    (mapped_line (λ f. Last f) poly_in_step (IsNonzeroOf r) (poly_line r) (poly_of r) IsLast (step_line r) to_last (λ f h. (h, refl)) (poly_form r R))
    (mapped_line (λ x. OneMore x) reading_in IsReading read_line reading_of IsMore (step_line r) to_more (λ x h. (h, refl)) reading_form)
    to from1 from2 apart
  where
    IsLast : Step → Type 0
    IsLast = λ s. elim s [ OneMore x ↦ ⊥ | Last f ↦ IsNonzeroOf r f ]

    IsMore : Step → Type 0
    IsMore = λ s. elim s [ OneMore x ↦ IsReading x | Last f ↦ ⊥ ]

    poly_in_step : Step → Polynomial
    poly_in_step (OneMore x) = one_poly r
    poly_in_step (Last f) = f

    reading_in : Step → Reading
    reading_in (OneMore x) = x
    reading_in (Last f) = record { known = 0; corner = 0 }

    to_last : (s : Step) → IsLast s → IsNonzeroOf r (poly_in_step s) × (step_line r s ≡ poly_line r (poly_in_step s)) × (s ≡ Last (poly_in_step s))
    to_last (OneMore x) h = elim h [ ]
    to_last (Last f) h = (h, refl, refl)

    to_more : (s : Step) → IsMore s → IsReading (reading_in s) × (step_line r s ≡ read_line (reading_in s)) × (s ≡ OneMore (reading_in s))
    to_more (OneMore x) h = (h, refl, refl)
    to_more (Last f) h = elim h [ ]

    to : (s : Step) → IsStep r s → IsLast s ⊎ IsMore s
    to (OneMore x) h = inr h
    to (Last f) h = inl h

    from1 : (s : Step) → IsLast s → IsStep r s
    from1 (OneMore x) h = elim h [ ]
    from1 (Last f) h = h

    from2 : (s : Step) → IsMore s → IsStep r s
    from2 (OneMore x) h = h
    from2 (Last f) h = elim h [ ]

    apart : (s : Step) → IsMore s → option_map Last (poly_of r (step_line r s)) ≡ None
    apart (OneMore x) h = refl
    apart (Last f) h = elim h [ ]

-- ---- the verdict
-- the line that says whether the degree fits
abbrev pub verdict_line : Ring → Option (List ℕ) → Line
verdict_line r None = codes "fits" ∷ []
verdict_line r (Some m) = codes "too" ∷ codes "small" ∷ mono_word r m ∷ []

-- what it may say
abbrev pub IsVerdictLine : Ring → Option (List ℕ) → Type 0
IsVerdictLine r None = Unit {0}
IsVerdictLine r (Some m) = IsTopOf r m

-- the line of a degree that fits
fits_form : (r : Ring) → IsLineForm (λ o. o ≡ None) (verdict_line r) fits_of
fits_form r = record {
  plain = λ o e. subst (λ (z : Option (List ℕ)). IsLine (verdict_line r z)) (sym e) (refl, tt);
  only = λ o e. subst (λ (z : Option (List ℕ)). fits_of (verdict_line r z) ≡ Some z) (sym e) refl;
  found = λ l o e. let q : (same_line l (codes "fits" ∷ []) ≡ true) × (None ≡ o) = if_some (same_line l (codes "fits" ∷ [])) None o e in
      (sym q.1, Rattle.cert_grammar.proofs.Forms.same_line_true l (codes "fits" ∷ []) q.0 ∙ ap (verdict_line r) q.1);
}

-- what it says where the degree is too small
abbrev pub IsSmall : Ring → Option (List ℕ) → Type 0
IsSmall r None = ⊥
IsSmall r (Some m) = IsTopOf r m

-- the line of a degree that is too small
small_form : (r : Ring) → IsSound r → IsLineForm (IsSmall r) (verdict_line r) (small_of r)
small_form r R =
    let P : IsPhrase (IsTopOf r) (λ m. codes "too" ∷ codes "small" ∷ mono_word r m ∷ []) (behind_word (codes "too") (behind_word (codes "small") (one_word (top_of_word r)))) =
    behind_word_phrase (codes "too") (IsTopOf r) _ _ refl (behind_word_phrase (codes "small") (IsTopOf r) _ _ refl (one_word_phrase (IsTopOf r) (mono_word r) (top_of_word r) (top_word_form r R))) in
    mapped_line (λ m. Some m) mono_in (IsTopOf r) (λ m. codes "too" ∷ codes "small" ∷ mono_word r m ∷ []) (whole (behind_word (codes "too") (behind_word (codes "small") (one_word (top_of_word r)))))
    (IsSmall r) (verdict_line r) to (λ m h. (h, refl)) (whole_line (IsTopOf r) _ _ P.plain P)
  where
    mono_in : Option (List ℕ) → List ℕ
    mono_in None = []
    mono_in (Some m) = m

    to : (o : Option (List ℕ)) → IsSmall r o → IsTopOf r (mono_in o) × (verdict_line r o ≡ codes "too" ∷ codes "small" ∷ mono_word r (mono_in o) ∷ []) × (o ≡ Some (mono_in o))
    to None h = elim h [ ]
    to (Some m) h = (h, refl, refl)

-- the line of the verdict
pub verdict_line_form : (r : Ring) → IsSound r → IsLineForm (IsVerdictLine r) (verdict_line r) (verdict_of r)
verdict_line_form r R = either_line (λ o. o ≡ None) (IsSmall r) (IsVerdictLine r) (verdict_line r) fits_of (small_of r) (fits_form r) (small_form r R) to from1 from2 apart
  where
    to : (o : Option (List ℕ)) → IsVerdictLine r o → (o ≡ None) ⊎ IsSmall r o
    to None h = inl refl
    to (Some m) h = inr h

    from1 : (o : Option (List ℕ)) → o ≡ None → IsVerdictLine r o
    from1 o e = subst (IsVerdictLine r) (sym e) tt

    from2 : (o : Option (List ℕ)) → IsSmall r o → IsVerdictLine r o
    from2 None h = elim h [ ]
    from2 (Some m) h = h

    apart : (o : Option (List ℕ)) → IsSmall r o → fits_of (verdict_line r o) ≡ None
    apart None h = elim h [ ]
    apart (Some m) h = refl

-- ---- behind fits
-- a monomial or none
corner_word_form : (r : Ring) → IsSound r → IsWordForm (IsCorner r) (corner_word r) (corner_word_of r)
corner_word_form r R = record { plain = plain; only = only; found = found }
  where
    M : IsWordForm (IsMonoOf r) (mono_word r) (mono_of_word r)
    M = mono_word_form r R

    plain : (o : Option (List ℕ)) → IsCorner r o → IsPlain (corner_word r o)
    plain None h = refl
    plain (Some m) h = M.plain m h

    not_none : (m : List ℕ) → is_same (mono_word r m) (codes "none") ≡ false
    not_none m = go (is_same (mono_word r m) (codes "none")) refl
      where
        go : (b : Bool) → is_same (mono_word r m) (codes "none") ≡ b → is_same (mono_word r m) (codes "none") ≡ false
        go true e = absurd (no_mono r.letters m (same_is (mono_word r m) (codes "none") e))
        go false e = e

    only : (o : Option (List ℕ)) → IsCorner r o → corner_word_of r (corner_word r o) ≡ Some o
    only None h = refl
    only (Some m) h =
        ap (λ b. if b then Some None else option_map (λ z. Some z) (mono_of_word r (mono_word r m))) (not_none m)
        ∙ ap (option_map (λ z. Some z)) (M.only m h)

    found : (w : Word) (o : Option (List ℕ)) → corner_word_of r w ≡ Some o → IsCorner r o × (w ≡ corner_word r o)
    found w o e = go (is_same w (codes "none")) refl e
      where
        go : (b : Bool) → is_same w (codes "none") ≡ b → (if b then Some None else option_map (λ m. Some m) (mono_of_word r w)) ≡ Some o → IsCorner r o × (w ≡ corner_word r o)
        go true was p = let q : None ≡ o = cc in (subst (IsCorner r) q tt, same_is w (codes "none") was ∙ ap (corner_word r) q)
        go false was p =
            let s : (m : List ℕ) × (mono_of_word r w ≡ Some m) × (Some m ≡ o) = map_some (λ (m : List ℕ). Some m) (mono_of_word r w) o p in
            let q : IsMonoOf r s.0 × (w ≡ mono_word r s.0) = M.found w s.0 s.1 in
            (subst (IsCorner r) s.2 q.0, q.1 ∙ ap (corner_word r) s.2)

-- the line of the corner
pub corner_form : (r : Ring) → IsSound r → IsLineForm (IsCorner r) (corner_line r) (corner_of r)
corner_form r R =
    let P : IsPhrase (IsCorner r) (corner_line r) (behind_word (codes "corner") (one_word (corner_word_of r))) =
    behind_word_phrase (codes "corner") (IsCorner r) _ _ refl (one_word_phrase (IsCorner r) (corner_word r) (corner_word_of r) (corner_word_form r R)) in
    whole_line (IsCorner r) (corner_line r) _ P.plain P

-- what the line of the staircase may have
abbrev pub IsStair : Ring → List (List ℕ) → Type 0
IsStair r ms = IsNumber (length ms) × AllByRecursion (IsMonoOf r) ms

-- the line of the staircase
pub stair_form : (r : Ring) → IsSound r → IsLineForm (IsStair r) (stair_line r) (stair_of r)
stair_form r R =
    mapped_line (λ (t : ℕ × List (List ℕ)). t.1) (λ ms. (length ms, ms)) IsTwo line (whole phrase) (IsStair r) (stair_line r)
    (λ ms h. ((h.0, (refl, h.1)), refl, refl)) (λ t h. ((subst IsNumber (sym h.1.0) h.0, h.1.1), ap (λ n. codes "stair" ∷ decimal n ∷ map (mono_word r) t.1) h.1.0)) (whole_line IsTwo line phrase P.plain P)
  where
    IsTwo : ℕ × List (List ℕ) → Type 0
    IsTwo = λ t. IsNumber t.0 × ((length t.1 ≡ t.0) × AllByRecursion (IsMonoOf r) t.1)

    line : ℕ × List (List ℕ) → Line
    line = λ t. codes "stair" ∷ decimal t.0 ∷ map (mono_word r) t.1

    phrase : Phrase (ℕ × List (List ℕ))
    phrase = behind_word (codes "stair") (both_words number_at (words_times (one_word (mono_of_word r))))

    P : IsPhrase IsTwo line phrase
    P = behind_word_phrase (codes "stair") IsTwo _ _ refl
        (both_words_phrase IsNumber (λ n. decimal n ∷ []) number_at (λ n ms. (length ms ≡ n) × AllByRecursion (IsMonoOf r) ms) (λ n ms. map (mono_word r) ms) (words_times (one_word (mono_of_word r)))
        number_phrase (λ n h. words_times_phrase (IsMonoOf r) (mono_word r) (mono_of_word r) (mono_word_form r R) n))
