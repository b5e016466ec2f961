-- Reading from left to right finds the parts: the first one is found where there is one, and the others behind it.
-- What they give is put together kind by kind, which fails exactly where a kind comes twice.
use Rattle.std.proofs.Common.{◌≡◌, ◌⊎◌, inl, inr, ℕ, ◌<◌, ◌≤◌, suc, List, [], ◌∷◌, ◌++◌, length, codes, decimal, refl, sym, ap, ap₂, subst, ◌∙◌, arith, length-append, Some, None, Bor, append_assoc, map, IfNone, Bool, true, false, not, ◌==◌, All}
use Rattle.std.proofs.lemmas.List.{append_cancel_left, append-nil}
use Rattle.std.proofs.lemmas.List.Elements.{All-nil, All-head, All-tail, All-cons}
use Rattle.std.proofs.lemmas.Bool.{eqb-true, eqb-false}
use Rattle.std.specs.declared.option.Option.{Option}
use Rattle.std.specs.Option.{option_to_list}
use Rattle.local_std.specs.Bench.{max_bench}
use Rattle.local_std.specs.Words.{Form, joined, apart, Part, numeral, cert, workers, option_words, words_of, IsValue, IsPart, all_words, numerals, paths, counts, max_workers, workers_by, Request, name_of, Takes, IsLine, InGrammar, HasPath}
use Rattle.local_std.specs.declared.words.Given.{Given}
use Rattle.local_std.specs.View.{Kinds, kinds_of, kinds_in, together, AreOnce, Gives, AreParts}
use Rattle.local_std.proofs.Lines.{option_same, part_same, part_some, parts_same, one_line, numeral_no_option, numeral_value, cert_no_workers, workers_low}

-- ---- tests
-- a length that was tested is 0, or isn't
pub none_in : (n : ℕ) → true ≡ (n == 0) → n ≡ 0
none_in n h = eqb-true n 0 (sym h)

-- a length that was found not to be 0 is above 0
pub some_in : (n : ℕ) → false ≡ (n == 0) → 0 < n
some_in n h = let no = eqb-false n 0 (sym h) in omega (arith, no)

-- what was found to differ isn't equal
pub no_both : (b p : Bool) → b ≡ true → b ≡ not p → p ≡ true → ⊥
no_both b true t n e = cc (t, n)
no_both b false t n e = cc (e)

-- ---- options
-- a word that doesn't begin with the name is no option of it
pub unnamed : (word name : List ℕ) → ((tail : List ℕ) → word ≡ name ++ tail → ⊥) →
    (form : Form) (value : List ℕ) (rest behind : List (List ℕ)) → word ∷ rest ≡ option_words name form value ++ behind → ⊥
unnamed word name none joined value rest behind h = none (codes "=" ++ value) (cc (h))
unnamed word name none apart value rest behind h = let e : word ≡ name = cc (h) in none [] (e ∙ sym (append-nil name))

-- nor is one where neither nothing nor `=` stands behind it
pub unjoined : (word name tail : List ℕ) → word ≡ name ++ tail → 0 < length tail → ((value : List ℕ) → tail ≡ codes "=" ++ value → ⊥) →
    (form : Form) (value : List ℕ) (rest behind : List (List ℕ)) → word ∷ rest ≡ option_words name form value ++ behind → ⊥
unjoined word name tail is some none joined value rest behind h =
    let e : word ≡ name ++ (codes "=" ++ value) = cc (h) in
    none value (append_cancel_left name tail (codes "=" ++ value) (sym is ∙ e))
unjoined word name tail is some none apart value rest behind h =
    let e : word ≡ name = cc (h) in
    let l : length (name ++ tail) ≡ length name = ap length (sym is ∙ e) in
    omega (arith, l, length-append name tail, some)

-- where the name stands alone, the value is the next word
pub alone : (word name tail : List ℕ) → word ≡ name ++ tail → length tail ≡ 0 →
    (rest : List (List ℕ)) → ((value : List ℕ) (behind : List (List ℕ)) → IsValue apart value → rest ≡ value ∷ behind → ⊥) →
    (form : Form) (value : List ℕ) (behind : List (List ℕ)) → IsValue form value → word ∷ rest ≡ option_words name form value ++ behind → ⊥
alone word name tail is none rest unread joined value behind v h =
    let e : word ≡ name ++ (codes "=" ++ value) = cc (h) in
    let t : tail ≡ codes "=" ++ value = append_cancel_left name tail (codes "=" ++ value) (sym is ∙ e) in
    let l : length tail ≡ suc (length value) = ap length t in
    omega (arith, l, none)
alone word name tail is none rest unread apart value behind v h = unread value behind v (cc (h))

-- ---- the first part
module _ (word : List ℕ) (rest : List (List ℕ)) where
  -- an option without a path is no part
  pub no_path : (form : Form) (path : List ℕ) (behind : List (List ℕ)) → length path ≡ 0 → word ∷ rest ≡ option_words (codes "--cert") form path ++ behind →
      (part : Part) (others : List (List ℕ)) → IsPart part → word ∷ rest ≡ words_of part ++ others → ⊥
  no_path form path behind none is (numeral k) others a h = numeral_no_option k (codes "--cert") form path others behind refl a (sym h ∙ is)
  no_path form path behind none is (cert g other) others a h =
      let e = option_same (codes "--cert") form g path other behind others (sym is ∙ h) in
      omega (arith, ap length e.1, none, a.0)
  no_path form path behind none is (workers g count) others a h = cert_no_workers form g path (decimal count) behind others (sym is ∙ h)

  -- nor is one whose value is no number of workers
  pub no_count : (form : Form) (value : List ℕ) (behind : List (List ℕ)) → ((k : ℕ) → 1 ≤ k → k ≤ max_workers → value ≡ decimal k → ⊥) →
      word ∷ rest ≡ option_words (codes "--workers") form value ++ behind →
      (part : Part) (others : List (List ℕ)) → IsPart part → word ∷ rest ≡ words_of part ++ others → ⊥
  no_count form value behind none is (numeral k) others a h = numeral_no_option k (codes "--workers") form value others behind refl a (sym h ∙ is)
  no_count form value behind none is (cert g path) others a h = cert_no_workers g form path value others behind (sym h ∙ is)
  no_count form value behind none is (workers g count) others a h =
      let e = option_same (codes "--workers") form g value (decimal count) behind others (sym is ∙ h) in
      none count a.0 a.1 e.1

  -- a word that is none of these begins no part
  pub no_part : ((form : Form) (value : List ℕ) (behind : List (List ℕ)) → IsValue form value → word ∷ rest ≡ option_words (codes "--cert") form value ++ behind → ⊥) →
      ((form : Form) (value : List ℕ) (behind : List (List ℕ)) → IsValue form value → word ∷ rest ≡ option_words (codes "--workers") form value ++ behind → ⊥) →
      ((k : ℕ) → k ≤ max_bench → word ≡ decimal k → ⊥) →
      (part : Part) (others : List (List ℕ)) → IsPart part → word ∷ rest ≡ words_of part ++ others → ⊥
  no_part no_cert no_workers no_numeral (numeral k) others a h = no_numeral k a (cc (h))
  no_part no_cert no_workers no_numeral (cert form path) others a h = no_cert form path others a.1 h
  no_part no_cert no_workers no_numeral (workers form count) others a h = no_workers form (decimal count) others (numeral_value form count (omega (arith, a.1))) h

-- what one part gives
pub gives_cert : (form : Form) (path : Bor (List ℕ)) → 1 ≤ length path.now → IsValue form path.now → Gives (cert form path.now ∷ []) (record { number = None; cert = Some path; workers = None })
gives_cert form path some value = record { values = All-cons IsPart (cert form path.now) [] (some, value) (All-nil IsPart); kinds = refl }

-- a number of workers gives itself
pub gives_workers : (form : Form) (count : ℕ) → 1 ≤ count → count ≤ max_workers → Gives (workers form count ∷ []) (record { number = None; cert = None; workers = Some count })
gives_workers form count some low = record { values = All-cons IsPart (workers form count) [] (some, low) (All-nil IsPart); kinds = refl }

-- a numeral gives its number
pub gives_number : (k : ℕ) → k ≤ max_bench → Gives (numeral k ∷ []) (record { number = Some k; cert = None; workers = None })
gives_number k low = record { values = All-cons IsPart (numeral k) [] low (All-nil IsPart); kinds = refl }

-- ---- the others
-- what one part gives comes before what the others give
kinds_first : (part : Part) (parts : List Part) → kinds_of (part ∷ parts) ≡ together (kinds_of (part ∷ [])) (kinds_of parts)
kinds_first (numeral k) parts = refl
kinds_first (cert form path) parts = refl
kinds_first (workers form count) parts = refl

-- kinds are put together in any grouping
together_assoc : (a b c : Kinds) → together (together a b) c ≡ together a (together b c)
together_assoc a b c = let n = append_assoc a.numbers b.numbers c.numbers in let p = append_assoc a.paths b.paths c.paths in let w = append_assoc a.counts b.counts c.counts in cc (n, p, w)

-- a list that has at most one member with more behind it has at most one
fewer : {A : Type 0} (a b c : List A) → length (a ++ (b ++ c)) ≤ 1 → length (a ++ b) ≤ 1
fewer a b c few = omega (arith, few, length-append a (b ++ c), length-append b c, length-append a b)

-- what is said once with more behind it is said once
pub once_before : (a b c : Kinds) → AreOnce (together a (together b c)) → AreOnce (together a b)
once_before a b c once = record { numbers = fewer a.numbers b.numbers c.numbers once.numbers; paths = fewer a.paths b.paths c.paths once.paths; counts = fewer a.counts b.counts c.counts once.counts }

module _ (words rest : List (List ℕ)) (part : Part) (is_part : IsPart part) (first : words ≡ words_of part ++ rest) where
  -- the first part and those behind it are the parts
  pub parts_more : (parts : List Part) → AreParts rest parts → AreParts words (part ∷ parts)
  parts_more parts are = record {
    values = All-cons IsPart part parts is_part are.values;
    spelled = first ∙ ap (λ l. words_of part ++ l) are.spelled;
  }

  -- words that have parts have this one first
  pub parts_less : (parts : List Part) → AreParts words parts → (others : List Part) × (parts ≡ part ∷ others) × AreParts rest others
  parts_less [] are = absurd (part_some part rest (sym are.spelled ∙ first))
  parts_less (q ∷ qs) are =
      let e = part_same q part (all_words qs) rest (All-head IsPart q qs are.values) is_part (sym are.spelled ∙ first) in
      (qs, ap (λ x. x ∷ qs) e.0, record { values = All-tail IsPart q qs are.values; spelled = sym e.1 })

  module _ (before one : Kinds) (gives : one ≡ kinds_of (part ∷ [])) where
    -- what is given so far, with what the part gives and what the others give, is what all give
    pub kinds_on : (more : Kinds) (others : List Part) → more ≡ together before one → together more (kinds_of others) ≡ together before (kinds_of (part ∷ others))
    kinds_on more others m =
        ap (λ k. together k (kinds_of others)) m ∙ together_assoc before one (kinds_of others)
        ∙ ap (λ k. together before (together k (kinds_of others))) gives ∙ ap (together before) (sym (kinds_first part others))

    -- a kind that comes twice at once makes no parts
    pub none_twice : (AreOnce (together before one) → ⊥) → (parts : List Part) → AreParts words parts → AreOnce (together before (kinds_of parts)) → ⊥
    none_twice many parts are once =
        let (others, is, behind) = parts_less parts are in
        let e : together before (kinds_of parts) ≡ together before (together one (kinds_of others)) =
        ap (λ ps. together before (kinds_of ps)) is ∙ ap (together before) (kinds_first part others) ∙ ap (λ k. together before (together k (kinds_of others))) (sym gives) in
        many (once_before before one (kinds_of others) (subst AreOnce e once))

    -- where the words behind have no parts that go with what is given, these have none
    pub none_behind : (more : Kinds) → more ≡ together before one → ((others : List Part) → AreParts rest others → AreOnce (together more (kinds_of others)) → ⊥) →
        (parts : List Part) → AreParts words parts → AreOnce (together before (kinds_of parts)) → ⊥
    none_behind more m none parts are once =
        let (others, is, behind) = parts_less parts are in
        none others behind (subst AreOnce (ap (λ ps. together before (kinds_of ps)) is ∙ sym (kinds_on more others m)) once)

-- words of which none begins with a part, and which aren't none, have no parts
pub none_first : (words : List (List ℕ)) → (words ≡ [] → ⊥) → ((part : Part) (rest : List (List ℕ)) → IsPart part → words ≡ words_of part ++ rest → ⊥) → (parts : List Part) → AreParts words parts → ⊥
none_first words some none [] are = some are.spelled
none_first words some none (part ∷ parts) are = none part (all_words parts) (All-head IsPart part parts are.values) are.spelled

-- ---- all words
module _ (words rest : List (List ℕ)) (name : List ℕ) (first : words ≡ name ∷ rest) (parts : List Part) (are : AreParts rest parts) where
  -- the words of a request have these parts behind its name
  line_is : (r : Request) (others : List Part) → IsLine words r others → (name ≡ name_of r) × (parts ≡ others)
  line_is r others line =
      let e : name ∷ rest ≡ name_of r ∷ all_words others = sym first ∙ line.spelled in
      let w : rest ≡ all_words others = cc (e) in
      (cc (e), parts_same parts others are.values line.values (sym are.spelled ∙ w))

  -- so they are those of a request of this name that takes these parts, of which at most one is a path
  pub line_by : (r : Request) → name ≡ name_of r → Takes r parts → (given : Given) → Gives parts given → IsLine words r parts
  line_by r named takes given gives = record {
    spelled = first ∙ ap₂ (λ n ws. n ∷ ws) named are.spelled;
    values = are.values;
    takes = takes;
    few_paths = omega (arith, one given.cert, ap (λ k. length k.paths) gives.kinds);
    few_counts = omega (arith, single given.workers, ap (λ k. length k.counts) gives.kinds);
  }
    where
      one : (path : Option (Bor (List ℕ))) → length (map (λ p. p.now) (option_to_list path)) ≤ 1
      one None = omega arith
      one (Some path) = omega arith

      single : (count : Option ℕ) → length (option_to_list count) ≤ 1
      single None = omega arith
      single (Some count) = omega arith

  -- where no request has this name and takes what they give, the words ask for nothing
  pub no_request : (given : Given) → Gives parts given → ((r : Request) (others : List Part) → name ≡ name_of r → Gives others given → Takes r others → ⊥) → InGrammar words → ⊥
  no_request given gives none (r, asks) =
      let same = line_is r asks.0 asks.1 in
      none r asks.0 same.0 (subst (λ ps. Gives ps given) same.1 gives) asks.1.takes

-- words whose parts have no path have none
pub no_cert : (words : List (List ℕ)) (r : Request) (parts : List Part) → IsLine words r parts → (path : Option (Bor (List ℕ))) → map (λ p. p.now) (option_to_list path) ≡ paths parts →
    IfNone path ((other : List ℕ) → HasPath words other → ⊥)
no_cert words r parts line None is = λ other (q, others, has, one). let same = (one_line words r q parts others line has).1 in let e : [] ≡ other ∷ [] = is ∙ ap paths same ∙ one in cc (e)
no_cert words r parts line (Some p) is = tt

-- words whose parts have a number of workers have it within its bounds
pub counted : (parts : List Part) (given : Given) (count : ℕ) → All IsPart parts → kinds_in given ≡ kinds_of parts → given.workers ≡ Some count → (1 ≤ count) × (count ≤ max_workers)
counted parts given count values kinds is =
    let e : count ∷ [] ≡ counts parts = ap option_to_list (sym is) ∙ ap (λ k. k.counts) kinds in
    let same : workers_by (counts parts) ≡ count = ap workers_by (sym e) in
    subst (λ n. (1 ≤ n) × (n ≤ max_workers)) same (workers_low parts values)

-- where nothing is given there are no parts
pub nothing_given : (parts : List Part) (given : Given) → Gives parts given → given.number ≡ None → given.cert ≡ None → given.workers ≡ None → parts ≡ []
nothing_given parts given gives number path count = none parts
    (ap (λ k. k.numbers) (sym gives.kinds) ∙ ap option_to_list number)
    (ap (λ k. k.paths) (sym gives.kinds) ∙ ap (λ o. map (λ p. p.now) (option_to_list o)) path)
    (ap (λ k. k.counts) (sym gives.kinds) ∙ ap option_to_list count)
  where
    none : (ps : List Part) → numerals ps ≡ [] → paths ps ≡ [] → counts ps ≡ [] → ps ≡ []
    none [] n p w = refl
    none (numeral k ∷ ps) n p w = absurd (cc (n))
    none (cert form path ∷ ps) n p w = absurd (cc (p))
    none (workers form count ∷ ps) n p w = absurd (cc (w))
