-- A list of words has one reading. The first byte of a word tells an option from a numeral, and what stands behind the name of an
-- option its form; so the first part is one, and the words behind it are those of the others.
use Rattle.std.proofs.Common.{◌≡◌, ℕ, ◌+◌, ◌≤◌, zero, suc, List, [], ◌∷◌, ◌++◌, length, codes, decimal, All, refl, sym, ap, ap₂, ◌∙◌, arith, get_or, length-append, subst}
use Rattle.std.proofs.lemmas.List.{append_cancel_left}
use Rattle.std.proofs.lemmas.List.Elements.{All-head, All-tail}
use Rattle.std.proofs.lemmas.Fmt.{first_decimal, decimal_digit, decimal_injective}
use Rattle.local_std.specs.Bench.{max_bench}
use Rattle.local_std.specs.View.{IsNumbered}
use Rattle.local_std.specs.Words.{Form, joined, apart, Part, numeral, cert, workers, option_words, words_of, IsValue, IsPart, all_words, numerals, paths, counts, max_workers, workers_by, Request, solve, check, bench, name_of, Takes, IsLine, Asks, HasPath, HasWorkers}

-- ---- one part
-- a numeral begins with a digit
numeral_first : (k : ℕ) → k ≤ max_bench → 48 ≤ get_or (decimal k) 0 0
numeral_first zero low = let e : decimal 0 ≡ 48 ∷ [] = decimal_digit 0 (omega arith) in let f : get_or (decimal 0) 0 0 ≡ 48 = ap (λ l. get_or l 0 0) e in omega (arith, f)
numeral_first (suc k) low = omega (arith, first_decimal (suc k) (omega arith) (omega (arith, low)))

-- so it may be a value in a word of its own
pub numeral_value : (form : Form) (k : ℕ) → k ≤ max_bench → IsValue form (decimal k)
numeral_value joined k low = tt
numeral_value apart k low = λ rest e. let f : get_or (decimal k) 0 0 ≡ 45 = ap (λ l. get_or l 0 0) e in omega (arith, f, numeral_first k low)

-- and is no option
pub numeral_no_option : (k : ℕ) (name : List ℕ) (f : Form) (v : List ℕ) (r s : List (List ℕ)) → get_or name 0 0 ≡ 45 → k ≤ max_bench → decimal k ∷ r ≡ option_words name f v ++ s → ⊥
numeral_no_option k [] f v r s first low h = absurd (omega (arith, first))
numeral_no_option k (c ∷ name) joined v r s first low h =
    let e : decimal k ≡ c ∷ (name ++ (codes "=" ++ v)) = cc (h) in
    let f : get_or (decimal k) 0 0 ≡ c = ap (λ l. get_or l 0 0) e in
    omega (arith, f, first, numeral_first k low)
numeral_no_option k (c ∷ name) apart v r s first low h =
    let e : decimal k ≡ c ∷ name = cc (h) in
    let f : get_or (decimal k) 0 0 ≡ c = ap (λ l. get_or l 0 0) e in
    omega (arith, f, first, numeral_first k low)

-- the names of options tell them apart
pub cert_no_workers : (f g : Form) (path value : List ℕ) (r s : List (List ℕ)) → option_words (codes "--cert") f path ++ r ≡ option_words (codes "--workers") g value ++ s → ⊥
cert_no_workers f g path value r s h = let third : 99 ≡ 119 = third_of f path r ∙ ap (λ ws. get_or (get_or ws 0 []) 2 0) h ∙ sym (third_by g value s) in omega (arith, third)
  where
    third_of : (form : Form) (v : List ℕ) (behind : List (List ℕ)) → 99 ≡ get_or (get_or (option_words (codes "--cert") form v ++ behind) 0 []) 2 0
    third_of joined v behind = refl
    third_of apart v behind = refl

    third_by : (form : Form) (v : List ℕ) (behind : List (List ℕ)) → 119 ≡ get_or (get_or (option_words (codes "--workers") form v ++ behind) 0 []) 2 0
    third_by joined v behind = refl
    third_by apart v behind = refl

-- what an option of some name is spelled by tells its form, its value and the words behind it
pub option_same : (name : List ℕ) (f g : Form) (v w : List ℕ) (r s : List (List ℕ)) → option_words name f v ++ r ≡ option_words name g w ++ s → (f ≡ g) × (v ≡ w) × (r ≡ s)
option_same name joined joined v w r s h =
    let e : name ++ (codes "=" ++ v) ≡ name ++ (codes "=" ++ w) = cc (h) in
    let t : codes "=" ++ v ≡ codes "=" ++ w = append_cancel_left name _ _ e in
    (refl, cc (t), cc (h))
option_same name joined apart v w r s h =
    let e : name ++ (codes "=" ++ v) ≡ name = cc (h) in
    let l : length (name ++ (codes "=" ++ v)) ≡ length name = ap length e in
    let n : length (name ++ (codes "=" ++ v)) ≡ length name + suc (length v) = length-append name (codes "=" ++ v) in
    absurd (omega (arith, l, n))
option_same name apart joined v w r s h =
    let e : name ++ (codes "=" ++ w) ≡ name = cc (h) in
    let l : length (name ++ (codes "=" ++ w)) ≡ length name = ap length e in
    let n : length (name ++ (codes "=" ++ w)) ≡ length name + suc (length w) = length-append name (codes "=" ++ w) in
    absurd (omega (arith, l, n))
option_same name apart apart v w r s h = (refl, cc (h), cc (h))

-- what words begin with tells the part, and the words behind it
pub part_same : (p q : Part) (r s : List (List ℕ)) → IsPart p → IsPart q → words_of p ++ r ≡ words_of q ++ s → (p ≡ q) × (r ≡ s)
part_same (numeral k) (numeral j) r s a b h =
    let e : decimal k ≡ decimal j = cc (h) in
    (ap numeral (decimal_injective k j (omega (arith, a)) (omega (arith, b)) e), cc (h))
part_same (numeral k) (cert f path) r s a b h = absurd (numeral_no_option k (codes "--cert") f path r s refl a h)
part_same (numeral k) (workers f count) r s a b h = absurd (numeral_no_option k (codes "--workers") f (decimal count) r s refl a h)
part_same (cert f path) (numeral k) r s a b h = absurd (numeral_no_option k (codes "--cert") f path s r refl b (sym h))
part_same (cert f path) (cert g other) r s a b h = let e = option_same (codes "--cert") f g path other r s h in (ap₂ cert e.0 e.1, e.2)
part_same (cert f path) (workers g count) r s a b h = absurd (cert_no_workers f g path (decimal count) r s h)
part_same (workers f count) (numeral k) r s a b h = absurd (numeral_no_option k (codes "--workers") f (decimal count) s r refl b (sym h))
part_same (workers f count) (cert g path) r s a b h = absurd (cert_no_workers g f path (decimal count) s r (sym h))
part_same (workers f count) (workers g other) r s a b h =
    let e = option_same (codes "--workers") f g (decimal count) (decimal other) r s h in
    (ap₂ workers e.0 (decimal_injective count other (omega (arith, a.1)) (omega (arith, b.1)) e.1), e.2)

-- a part has words
pub part_some : (p : Part) (r : List (List ℕ)) → [] ≡ words_of p ++ r → ⊥
part_some (numeral k) r h = cc (h)
part_some (cert joined path) r h = cc (h)
part_some (cert apart path) r h = cc (h)
part_some (workers joined count) r h = cc (h)
part_some (workers apart count) r h = cc (h)

-- ---- several parts
-- words that are spelled by parts are spelled by these alone
pub parts_same : (ps qs : List Part) → All IsPart ps → All IsPart qs → all_words ps ≡ all_words qs → ps ≡ qs
parts_same [] [] a b h = refl
parts_same [] (q ∷ qs) a b h = absurd (part_some q (all_words qs) h)
parts_same (p ∷ ps) [] a b h = absurd (part_some p (all_words ps) (sym h))
parts_same (p ∷ ps) (q ∷ qs) a b h =
    let e = part_same p q (all_words ps) (all_words qs) (All-head IsPart p ps a) (All-head IsPart q qs b) h in
    ap₂ (λ x xs. x ∷ xs) e.0 (parts_same ps qs (All-tail IsPart p ps a) (All-tail IsPart q qs b) e.1)

-- requests of one name that take the same parts are one
request_same : (r q : Request) (ps : List Part) → name_of r ≡ name_of q → Takes r ps → Takes q ps → r ≡ q
request_same solve solve ps n a b = refl
request_same solve check ps n a b = let first : 115 ≡ 99 = ap (λ l. get_or l 0 0) n in absurd (omega (arith, first))
request_same solve (bench k) ps n a b = let first : 115 ≡ 98 = ap (λ l. get_or l 0 0) n in absurd (omega (arith, first))
request_same check solve ps n a b = let first : 99 ≡ 115 = ap (λ l. get_or l 0 0) n in absurd (omega (arith, first))
request_same check check ps n a b = refl
request_same check (bench k) ps n a b = let first : 99 ≡ 98 = ap (λ l. get_or l 0 0) n in absurd (omega (arith, first))
request_same (bench k) solve ps n a b = let first : 98 ≡ 115 = ap (λ l. get_or l 0 0) n in absurd (omega (arith, first))
request_same (bench k) check ps n a b = let first : 98 ≡ 99 = ap (λ l. get_or l 0 0) n in absurd (omega (arith, first))
request_same (bench k) (bench j) ps n a b = let e : k ∷ [] ≡ j ∷ [] = sym a ∙ b in ap bench (cc (e))

-- a list of words is that of one request, with one list of parts
pub one_line : (words : List (List ℕ)) (r q : Request) (ps qs : List Part) → IsLine words r ps → IsLine words q qs → (r ≡ q) × (ps ≡ qs)
one_line words r q ps qs a b =
    let e : name_of r ∷ all_words ps ≡ name_of q ∷ all_words qs = sym a.spelled ∙ b.spelled in
    let n : name_of r ≡ name_of q = cc (e) in
    let w : all_words ps ≡ all_words qs = cc (e) in
    let same = parts_same ps qs a.values b.values w in
    (request_same r q ps n a.takes (subst (Takes q) (sym same) b.takes), same)

-- ---- the number of a bench
-- numerals are numbers of the bench
numeral_low : (ps : List Part) → All IsPart ps → (k : ℕ) → numerals ps ≡ k ∷ [] → k ≤ max_bench
numeral_low [] a k e = absurd (cc (e))
numeral_low (numeral j ∷ ps) a k e = let same : j ≡ k = cc (e) in let low : j ≤ max_bench = All-head IsPart (numeral j) ps a in subst (λ n. n ≤ max_bench) same low
numeral_low (cert f path ∷ ps) a k e = numeral_low ps (All-tail IsPart (cert f path) ps a) k e
numeral_low (workers f count ∷ ps) a k e = numeral_low ps (All-tail IsPart (workers f count) ps a) k e

-- so is that of a request that takes them
pub numbered_by : (r : Request) (ps : List Part) → All IsPart ps → Takes r ps → IsNumbered r
numbered_by solve ps a t = tt
numbered_by check ps a t = tt
numbered_by (bench k) ps a t = numeral_low ps a k t

-- a list of words asks for one request at most
pub one_request : (words : List (List ℕ)) (r q : Request) → Asks words r → Asks words q → r ≡ q
one_request words r q (ps, a) (qs, b) = (one_line words r q ps qs a b).0

-- and names one path at most
pub one_path : (words : List (List ℕ)) (path other : List ℕ) → HasPath words path → HasPath words other → path ≡ other
one_path words path other (r, ps, a, x) (q, qs, b, y) =
    let same = (one_line words r q ps qs a b).1 in
    let e : path ∷ [] ≡ other ∷ [] = sym x ∙ ap paths same ∙ y in
    cc (e)

-- ---- the number of workers
-- it is within its bounds
pub workers_low : (ps : List Part) → All IsPart ps → (1 ≤ workers_by (counts ps)) × (workers_by (counts ps) ≤ max_workers)
workers_low [] a = (omega arith, omega arith)
workers_low (numeral k ∷ ps) a = workers_low ps (All-tail IsPart (numeral k) ps a)
workers_low (cert f path ∷ ps) a = workers_low ps (All-tail IsPart (cert f path) ps a)
workers_low (workers f count ∷ ps) a = All-head IsPart (workers f count) ps a

-- a list of words asks for one number of workers at most
pub one_count : (words : List (List ℕ)) (count other : ℕ) → HasWorkers words count → HasWorkers words other → count ≡ other
one_count words count other (r, ps, a, x) (q, qs, b, y) = x ∙ ap (λ p. workers_by (counts p)) (one_line words r q ps qs a b).1 ∙ sym y
