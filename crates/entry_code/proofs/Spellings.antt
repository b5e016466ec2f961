-- The words of an entry are told from others by their numbers, their item, their readings and their terms, each by itself.
-- An entry is what its words say, so what the words say has to be an entry.
use Rattle.std.proofs.Common.{◌≡◌, ℕ, zero, suc, ◌+◌, ◌^◌, ◌<◌, ◌≤◌, List, [], ◌∷◌, ◌++◌, length, map, take, drop, get_or, All, refl, sym, ap, ◌∙◌, subst, arith}
use Rattle.std.proofs.lemmas.List.{length-map, length-append, take-append-drop}
use Rattle.entry_code.specs.declared.reading.Reading.{Reading}
use Rattle.entry_code.specs.declared.term.Term.{Term}
use Rattle.entry_code.specs.Entry.{Entry}
use Rattle.entry_code.specs.Words.{reading_word, term_word, words_of, IsItem, IsReading, IsTerm, first_coef, IsSpellable, IsSpelling, reading_in, term_in, entry_in, AreRising, ArePassed}
use Rattle.entry_code.proofs.Spelled.{reading_again, term_again, item_again, reading_back, term_back, item_back}
use Rattle.entry_code.proofs.Rising.{ranks_rise, residues_rise, one_by_one, few_terms}

-- a list of readings is what their words say
readings_back : (ds : List Reading) → All IsReading ds → map reading_in (map reading_word ds) ≡ ds
readings_back [] h = refl
readings_back (d ∷ ds) h = λ i. reading_back d (h 0 d (omega arith)) i ∷ readings_back ds (λ k e l. h (suc k) e (omega arith)) i

-- a list of terms is what their words say
terms_back : (p : ℕ) (ts : List Term) → p ≤ 2 ^ 32 → All (IsTerm p) ts → map term_in (map term_word ts) ≡ ts
terms_back p [] few h = refl
terms_back p (t ∷ ts) few h = λ i. term_back p t few (h 0 t (omega arith)) i ∷ terms_back p ts few (λ k e l. h (suc k) e (omega arith)) i

-- words that say readings say a list of them
readings_said : (xs : List ℕ) → All (λ x. IsReading (reading_in x)) xs → All IsReading (map reading_in xs)
readings_said [] h = λ k d l. absurd (omega (arith, l))
readings_said (x ∷ xs) h = λ k d l. go k d l (λ j m. readings_said xs (λ i y n. h (suc i) y (omega arith)) j d m)
  where
    go : (k : ℕ) (d : Reading) → k < length (map reading_in (x ∷ xs)) → ((j : ℕ) → j < length (map reading_in xs) → IsReading (get_or (map reading_in xs) j d)) → IsReading (get_or (map reading_in (x ∷ xs)) k d)
    go zero d l rest = h 0 x (omega arith)
    go (suc k) d l rest = rest k (omega (arith, l))

-- and the other way round
said_readings : (xs : List ℕ) → All IsReading (map reading_in xs) → All (λ x. IsReading (reading_in x)) xs
said_readings [] h = λ k d l. absurd (omega (arith, l))
said_readings (x ∷ xs) h = λ k d l. go k d l (λ j m. said_readings xs (λ i y n. h (suc i) y (omega arith)) j d m)
  where
    go : (k d : ℕ) → k < length (x ∷ xs) → ((j : ℕ) → j < length xs → IsReading (reading_in (get_or xs j d))) → IsReading (reading_in (get_or (x ∷ xs) k d))
    go zero d l rest = h 0 (reading_in x) (omega arith)
    go (suc k) d l rest = rest k (omega (arith, l))

-- the words of the readings that words say are these words
readings_again : (xs : List ℕ) → map reading_word (map reading_in xs) ≡ xs
readings_again [] = refl
readings_again (x ∷ xs) = λ i. reading_again x i ∷ readings_again xs i

-- the words of the terms that words say are these words
terms_again : (xs : List ℕ) → map term_word (map term_in xs) ≡ xs
terms_again [] = refl
terms_again (x ∷ xs) = λ i. term_again x i ∷ terms_again xs i

module _ {A : Type 0} where
  -- the first of two lists
  take_front : (l m : List A) → take (length l) (l ++ m) ≡ l
  take_front [] m = refl
  take_front (x ∷ l) m = ap (λ (k : List A). x ∷ k) (take_front l m)

  -- the second of two lists
  drop_front : (l m : List A) → drop (length l) (l ++ m) ≡ m
  drop_front [] m = refl
  drop_front (x ∷ l) m = drop_front l m

  -- as many members are taken as the list has
  length_rest : (l : List A) (k : ℕ) → k ≤ length l → length (take k l) ≡ k
  length_rest l zero le = refl
  length_rest [] (suc k) le = absurd (omega arith)
  length_rest (x ∷ l) (suc k) le = ap suc (length_rest l k (omega arith))

  -- a list has as many members as its front and what is left behind it
  drop_rest : (l : List A) (k : ℕ) → k ≤ length l → k + length (drop k l) ≡ length l
  drop_rest l zero le = let z : 0 + length l ≡ length l = omega arith in z
  drop_rest [] (suc k) le = absurd (omega arith)
  drop_rest (x ∷ l) (suc k) le = let r = drop_rest l k (omega arith) in omega (arith, r)

-- the words are those of the entry that they say
pub spelled_again : (words : List ℕ) → 3 ≤ length words → length words ≡ 3 + get_or words 1 0 + get_or words 2 0 → words_of (entry_in words) ≡ words
spelled_again [] le e = absurd (omega arith)
spelled_again (a ∷ []) le e = absurd (omega arith)
spelled_again (a ∷ b ∷ []) le e = absurd (omega arith)
spelled_again (a ∷ b ∷ c ∷ rest) le e =
    let within : b ≤ length rest = omega (arith, e) in
    let reads : length (map reading_in (take b rest)) ≡ b = length-map (take b rest) reading_in ∙ length_rest rest b within in
    let left : length (drop b rest) ≡ c = omega (arith, e, drop_rest rest b within) in
    let terms : length (map term_in (drop b rest)) ≡ c = length-map (drop b rest) term_in ∙ left in
    let body : map reading_word (map reading_in (take b rest)) ++ map term_word (map term_in (drop b rest)) ≡ rest =
    (λ i. readings_again (take b rest) i ++ terms_again (drop b rest) i) ∙ take-append-drop b rest
    in
    λ i. item_again a i ∷ reads i ∷ terms i ∷ body i

-- an entry is what its words say
pub said_back : (p n : ℕ) (e : Entry) → p ≤ 2 ^ 32 → IsSpellable p n e → entry_in (words_of e) ≡ e
said_back p n e few h =
    let reads : map reading_in (take (length e.reads) (map reading_word e.reads ++ map term_word e.terms)) ≡ e.reads =
    ap (λ (k : ℕ). map reading_in (take k (map reading_word e.reads ++ map term_word e.terms))) (sym (length-map e.reads reading_word))
    ∙ ap (map reading_in) (take_front (map reading_word e.reads) (map term_word e.terms)) ∙ readings_back e.reads h.reads
    in
    let terms : map term_in (drop (length e.reads) (map reading_word e.reads ++ map term_word e.terms)) ≡ e.terms =
    ap (λ (k : ℕ). map term_in (drop k (map reading_word e.reads ++ map term_word e.terms))) (sym (length-map e.reads reading_word))
    ∙ ap (map term_in) (drop_front (map reading_word e.reads) (map term_word e.terms)) ∙ terms_back p e.terms few h.residues
    in
    λ i. record { item = item_back e.item h.item i; reads = reads i; terms = terms i }

-- two entries with the same words are one
pub one_spelling : (p n : ℕ) (e f : Entry) → p ≤ 2 ^ 32 → IsSpellable p n e → IsSpellable p n f → words_of e ≡ words_of f → e ≡ f
one_spelling p n e f few h k same = sym (said_back p n e few h) ∙ ap entry_in same ∙ said_back p n f few k

-- the coefficient of the first term that words say
first_said : (xs : List ℕ) → 0 < length xs → first_coef (map term_in xs) ≡ (term_in (get_or xs 0 0)).coef
first_said [] l = absurd (omega arith)
first_said (x ∷ xs) l = refl

-- the words of an entry have as many as it has readings and terms, and three more
pub count_words : (e : Entry) → length (words_of e) ≡ 3 + length e.reads + length e.terms
count_words e = omega (arith, length-append (map reading_word e.reads) (map term_word e.terms), length-map e.reads reading_word, length-map e.terms term_word)

-- words that pass the tests say an entry
pub checked_spellable : (p n : ℕ) (words : List ℕ) → ArePassed p n words → IsSpellable p n (entry_in words)
checked_spellable p n words c =
    let body : length (drop 3 words) ≡ get_or words 1 0 + get_or words 2 0 = omega (arith, drop_rest words 3 c.0.0, c.0.5) in
    let reads : length (map reading_in (take (get_or words 1 0) (drop 3 words))) ≡ get_or words 1 0 =
    length-map (take (get_or words 1 0) (drop 3 words)) reading_in ∙ length_rest (drop 3 words) (get_or words 1 0) (omega (arith, body))
    in
    let terms : 0 < length (drop (get_or words 1 0) (drop 3 words)) = omega (arith, c.0.3, body, drop_rest (drop 3 words) (get_or words 1 0) (omega (arith, body))) in
    record {
      item = c.1;
      some_reads = omega (arith, reads, c.0.1);
      few_reads = omega (arith, reads, c.0.2);
      reads = readings_said (take (get_or words 1 0) (drop 3 words)) c.2;
      ranks = ranks_rise p n (entry_in words).terms c.4;
      residues = residues_rise p n (entry_in words).terms c.4;
      monic = first_said (drop (get_or words 1 0) (drop 3 words)) terms ∙ c.3;
    }

-- so they are a spelling
pub checked_spelling : (p n : ℕ) (words : List ℕ) → ArePassed p n words → IsSpelling p n words
checked_spelling p n words c = (entry_in words, checked_spellable p n words c, spelled_again words c.0.0 c.0.5)

-- an entry that has words has terms
some_coef : (ts : List Term) → first_coef ts ≡ 1 → 0 < length ts
some_coef [] e = absurd (omega (arith, e))
some_coef (t ∷ ts) e = omega arith

-- the words of an entry pass the tests
pub words_checked : (p n : ℕ) (e : Entry) → p ≤ 2 ^ 32 → IsSpellable p n e → ArePassed p n (words_of e)
words_checked p n e few h =
    let back = said_back p n e few h in
    let rising : AreRising p n 0 e.terms = one_by_one p n 0 e.terms h.ranks h.residues (λ t is. omega arith) in
    let some = some_coef e.terms h.monic in
    let most = few_terms p n 0 e.terms (omega arith) rising in
    let terms : map term_in (drop (length e.reads) (map reading_word e.reads ++ map term_word e.terms)) ≡ e.terms = ap (λ (x : Entry). x.terms) back in
    let left : 0 < length (drop (length e.reads) (map reading_word e.reads ++ map term_word e.terms)) =
    omega (arith, some, length-map (drop (length e.reads) (map reading_word e.reads ++ map term_word e.terms)) term_in, ap length terms)
    in (
      (omega (arith, count_words e), h.some_reads, h.few_reads, some, omega (arith, most), count_words e),
      subst IsItem (sym (item_back e.item h.item)) h.item,
      said_readings (take (length e.reads) (map reading_word e.reads ++ map term_word e.terms)) (subst (All IsReading) (sym (ap (λ (x : Entry). x.reads) back)) h.reads),
      sym (first_said (drop (length e.reads) (map reading_word e.reads ++ map term_word e.terms)) left) ∙ ap first_coef terms ∙ h.monic,
      subst (AreRising p n 0) (sym terms) rising,
    )

-- a spelling passes the tests
pub spelling_checked : (p n : ℕ) (words : List ℕ) → p ≤ 2 ^ 32 → IsSpelling p n words → ArePassed p n words
spelling_checked p n words few s = subst (ArePassed p n) s.2 (words_checked p n s.0 few s.1)
