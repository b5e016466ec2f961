-- Reading a verdict, a staircase and the numbers of a ring.
use Rattle.std.proofs.Common.{◌≡◌, ℕ, zero, suc, get_or, rules, ◌+◌, ◌-◌, ◌<◌, ◌≤◌, Bool, true, false, List, [], ◌∷◌, ◌++◌, length, Option, Some, None, refl, sym, ◌∙◌, ap, subst, append_assoc, arith, codes}
use Rattle.std.proofs.lemmas.Bool.{le-leb}
use Rattle.std.specs.Prelude.{option_and_then, ◌&&◌, ◌||◌, ◌↔◌, eqb, IsSome, IfSome, if◌then◌else◌, nat_le, decimal}
use Rattle.std.specs.Option.{option_map}
use Rattle.std.specs.List.{list_any}
use Rattle.std.proofs.lemmas.Map.Views.{Contains-from_any, list_any-from_Contains}
use Rattle.prime_field.specs.Prime.{table, InTable}
use Rattle.local_order.proofs.Count.{count_by_products-is}
use Rattle.std.proofs.lemmas.List.{append-nil}
use Rattle.prime_field.specs.Decimal.{value_of}
use Rattle.script_grammar.specs.Words.{is_same}
use Rattle.cert_grammar.specs.Lines.{Word, Line, same_line}
use Rattle.cert_text.specs.Gives.{uncons, with_words}
use Rattle.cert_grammar.specs.Phrases.{one_word, behind_word, both_words, words_times, keyword_at, ended, whole, numeral_of, number_at}
use Rattle.cert_grammar.specs.Words.{Ring, mono_of_word, top_of_word, is_degree}
use Rattle.local_order.specs.Count.{count_by_products, monomial_count}
use Rattle.cert_grammar.specs.Reading.{numbered_of, small_of, stair_of}
use Rattle.cert_text.proofs.LineReads.{behind_of}

-- ---- words, so many
-- so many words that are read as one is
abbrev pub monos : {A : Type 0} → (Word → Option A) → ℕ → List Word → Option (List A × List Word)
monos of n ws = words_times (one_word of) n ws

-- one more is read
word_more : {A : Type 0} (of : Word → Option A) (n : ℕ) (ms : List A) (a : A) (w : Word) (rest : List Word) → of w ≡ Some a → with_words (ms ++ a ∷ []) (monos of n rest) ≡ with_words ms (monos of (suc n) (w ∷ rest))
word_more {A} of n ms a w rest h = go (monos of n rest) ∙ sym (ap (λ (o : Option A). with_words ms (option_and_then (λ (x : A × List Word). option_map (λ (y : List A × List Word). (x.0 ∷ y.0, y.1)) (monos of n x.1)) (option_map (λ a. (a, rest)) o))) h)
  where
    go : (o : Option (List A × List Word)) → with_words (ms ++ a ∷ []) o ≡ with_words ms (option_map (λ y. (a ∷ y.0, y.1)) o)
    go None = refl
    go (Some x) = ap (λ (z : List A). Some (z, x.1)) (append_assoc ms (a ∷ []) x.0)

-- a monomial more
pub monos_more : {A : Type 0} (of : Word → Option A) (count i : ℕ) (ms : List A) (a : A) (w : Word) (left rest : List Word) → i < count → Some (w, rest) ≡ uncons left → of w ≡ Some a →
    with_words (ms ++ a ∷ []) (monos of (count - (i + 1)) rest) ≡ with_words ms (monos of (count - i) left)
monos_more of count i ms a w [] rest h e t = absurd (cc)
monos_more of count i ms a w (v ∷ vs) rest h e t =
    let both : ◌≡◌ {A = Word × List Word} (w, rest) (v, vs) = cc in
    let n : ℕ = count - suc i in
    ap (λ k. with_words (ms ++ a ∷ []) (monos of k rest)) (let p : count - (i + 1) ≡ n = omega arith in p)
    ∙ word_more of n ms a w rest t
    ∙ ap (λ (z : Word × List Word). with_words ms (monos of (suc n) (z.0 ∷ z.1))) both
    ∙ ap (λ k. with_words ms (monos of k (v ∷ vs))) (let p : suc n ≡ count - i = omega arith in p)

-- no word is left
pub monos_ended : {A : Type 0} (of : Word → Option A) (count i : ℕ) (ms : List A) (left : List Word) (all : Option (List A × List Word)) → i < count → uncons left ≡ None → with_words ms (monos of (count - i) left) ≡ all → None ≡ all
monos_ended of count i ms (v ∷ vs) all h e a = absurd (cc)
monos_ended of count i ms [] all h e a =
    let n : ℕ = count - suc i in
    ap (λ k. with_words ms (monos of k [])) (let p : suc n ≡ count - i = omega arith in p) ∙ a

-- the next word is no monomial
pub monos_other : {A : Type 0} (of : Word → Option A) (count i : ℕ) (ms : List A) (w : Word) (left rest : List Word) (all : Option (List A × List Word)) → i < count → Some (w, rest) ≡ uncons left → of w ≡ None →
    with_words ms (monos of (count - i) left) ≡ all → None ≡ all
monos_other of count i ms w [] rest all h e t a = absurd (cc)
monos_other {A} of count i ms w (v ∷ vs) rest all h e t a =
    let both : ◌≡◌ {A = Word × List Word} (w, rest) (v, vs) = cc in
    let n : ℕ = count - suc i in
    sym (ap (λ (o : Option A). with_words ms (option_and_then (λ (x : A × List Word). option_map (λ (y : List A × List Word). (x.0 ∷ y.0, y.1)) (monos of n x.1)) (option_map (λ a. (a, rest)) o))) t)
    ∙ ap (λ (z : Word × List Word). with_words ms (monos of (suc n) (z.0 ∷ z.1))) both
    ∙ ap (λ k. with_words ms (monos of k (v ∷ vs))) (let p : suc n ≡ count - i = omega arith in p) ∙ a

-- all were read
pub monos_end : {A : Type 0} (of : Word → Option A) (count i : ℕ) (ms : List A) (left : List Word) → count ≤ i → with_words ms (monos of (count - i) left) ≡ Some (ms, left)
monos_end {A} of count i ms left h =
    ap (λ k. with_words ms (monos of k left)) (let p : count - i ≡ 0 = omega arith in p) ∙ ap (λ (z : List A). Some (z, left)) (append-nil ms)

-- ---- the line of a staircase
-- the monomials behind their number
abbrev pub stair_behind : Ring → Option (ℕ × List Word) → Option (List (List ℕ))
stair_behind r None = None
stair_behind r (Some x) = option_and_then ended (monos (mono_of_word r) x.0 x.1)

-- the line of a staircase is told by its number and the words behind
pub stair_told : (r : Ring) (l : Line) → stair_of r l ≡ stair_behind r (option_and_then number_at (keyword_at (codes "stair") l))
stair_told r l = go (keyword_at (codes "stair") l)
  where
    last : (n : ℕ) (o : Option (List (List ℕ) × List Word)) → option_map {T = ℕ × List (List ℕ)} (λ x. x.1) (option_and_then ended (option_map (λ y. ((n, y.0), y.1)) o)) ≡ option_and_then ended o
    last n None = refl
    last n (Some (ms, [])) = refl
    last n (Some (ms, w ∷ ws)) = refl

    inner : (o : Option (ℕ × List Word)) →
        option_map {T = ℕ × List (List ℕ)} (λ x. x.1) (option_and_then ended (option_and_then (λ x. option_map (λ y. ((x.0, y.0), y.1)) (monos (mono_of_word r) x.0 x.1)) o)) ≡ stair_behind r o
    inner None = refl
    inner (Some x) = last x.0 (monos (mono_of_word r) x.0 x.1)

    go : (o : Option (List Word)) →
        option_map {T = ℕ × List (List ℕ)} (λ x. x.1) (option_and_then ended (option_and_then (both_words number_at (words_times (one_word (mono_of_word r)))) o)) ≡ stair_behind r (option_and_then number_at o)
    go None = refl
    go (Some ws) = inner (number_at ws)

-- ---- the line of a verdict
-- this word stands there
abbrev pub is_word : Word → Option Word → Bool
is_word k None = false
is_word k (Some w) = is_same w k

-- a line of one given word is told by its word
pub one_given : (k : Word) (l : Line) → same_line l (k ∷ []) ≡ is_word k (whole (one_word (λ w. Some w)) l)
one_given k [] = refl
one_given k (w ∷ []) = go (is_same w k)
  where
    go : (b : Bool) → (b && true) ≡ b
    go true = refl
    go false = refl
one_given k (w ∷ v ∷ ws) = go (is_same w k)
  where
    go : (b : Bool) → (b && false) ≡ false
    go true = refl
    go false = refl

-- the line of a degree that is too small, by the word behind it
pub small_told : (r : Ring) (l : Line) (o : Option Word) → whole (behind_word (codes "too") (behind_word (codes "small") (one_word (λ w. Some w)))) l ≡ o →
    small_of r l ≡ option_and_then (λ w. option_map (λ m. Some m) (top_of_word r w)) o
small_told r l o e = go (keyword_at (codes "too") l) ∙ ap (option_and_then (λ w. option_map (λ m. Some m) (top_of_word r w))) e
  where
    mapped : (o : Option Word) → option_map (λ m. Some m) (option_and_then (top_of_word r) o) ≡ option_and_then (λ w. option_map (λ m. Some m) (top_of_word r w)) o
    mapped None = refl
    mapped (Some w) = refl

    go : (o : Option (List Word)) → option_map (λ m. Some m) (option_and_then ended (option_and_then (behind_word (codes "small") (one_word (top_of_word r))) o))
        ≡ option_and_then (λ w. option_map (λ m. Some m) (top_of_word r w)) (option_and_then ended (option_and_then (behind_word (codes "small") (one_word (λ w. Some w))) o))
    go None = refl
    go (Some ws) = ap (option_map (λ m. Some m)) (behind_of (codes "small") (top_of_word r) ws) ∙ mapped (whole (behind_word (codes "small") (one_word (λ w. Some w))) ws)

-- ---- a number that passes one more test
-- a numeral under two tests is one under the first that passes the second
filter : (test : ℕ → Bool) (k : ℕ) (t : ℕ → Bool) → ((n : ℕ) → test n ≡ (nat_le n k && t n)) → (w : Word) → numeral_of test w ≡ option_and_then (λ n. if t n then Some n else None) (numeral_of (λ n. nat_le n k) w)
filter test k t h w = ap (λ b. if b && is_same w (decimal (value_of w)) then Some (value_of w) else None) (h (value_of w)) ∙ go (nat_le (value_of w) k) (t (value_of w)) refl (is_same w (decimal (value_of w)))
  where
    go : (a b : Bool) → t (value_of w) ≡ b → (c : Bool) → (if (a && b) && c then Some (value_of w) else None) ≡ option_and_then (λ n. if t n then Some n else None) (if a && c then Some (value_of w) else None)
    go true true is true = sym (ap (λ z. if z then Some (value_of w) else None) is)
    go true false is true = sym (ap (λ z. if z then Some (value_of w) else None) is)
    go true true is false = refl
    go true false is false = refl
    go false b is c = refl

-- the same of a line of a word and a number
pub numbered_filter : (word : Word) (test : ℕ → Bool) (k : ℕ) (t : ℕ → Bool) → ((n : ℕ) → test n ≡ (nat_le n k && t n)) → (l : Line) → numbered_of word test l ≡ option_and_then (λ n. if t n then Some n else None) (numbered_of word (λ n. nat_le n k) l)
numbered_filter word test k t h l =
    behind_of word (numeral_of test) l
    ∙ go (whole (behind_word word (one_word (λ w. Some w))) l)
    ∙ ap (option_and_then (λ n. if t n then Some n else None)) (sym (behind_of word (numeral_of (λ n. nat_le n k)) l))
  where
    go : (o : Option Word) → option_and_then (numeral_of test) o ≡ option_and_then (λ n. if t n then Some n else None) (option_and_then (numeral_of (λ n. nat_le n k)) o)
    go None = refl
    go (Some w) = filter test k t h w

-- the degree is at most 255
pub degree_filter : (n d : ℕ) → is_degree n d ≡ (nat_le d 255 && is_degree n d)
degree_filter n d = go (nat_le 1 d) (nat_le d 255) (nat_le (count_by_products n d) 4096)
  where
    go : (a b c : Bool) → (a && (b && c)) ≡ (b && (a && (b && c)))
    go true true c = refl
    go true false c = refl
    go false true c = refl
    go false false c = refl

-- the degree is tested by the number of monomials
pub degree_told : (n d k : ℕ) → (d ≡ 0 → ⊥) → d ≤ 255 → k ≡ monomial_count n d → nat_le k 4096 ≡ is_degree n d
degree_told n d k some low e =
    ap (λ z. nat_le z 4096) (e ∙ sym (count_by_products-is n d))
    ∙ sym (ap (λ b. b && (nat_le d 255 && nat_le (count_by_products n d) 4096)) (le-leb 1 d (positive d some)) ∙ ap (λ b. b && nat_le (count_by_products n d) 4096) (le-leb d 255 low))
  where
    positive : (d : ℕ) → (d ≡ 0 → ⊥) → 1 ≤ d
    positive d h = grind arith

-- ---- the field
-- what stands in a list is found there
member_any : (xs : List ℕ) (p k : ℕ) → k < length xs → get_or xs k 0 ≡ p → list_any (λ q. eqb q p) xs ≡ true
member_any [] p k h e = absurd (omega arith)
member_any (x ∷ xs) p zero h e = ap (λ b. b || list_any (λ q. eqb q p) xs) (let t : eqb x p ≡ true = grind arith in t)
member_any (x ∷ xs) p (suc k) h e = or_true (eqb x p) (list_any (λ q. eqb q p) xs) (member_any xs p k (omega (arith, h)) e)
  where
    or_true : (a b : Bool) → b ≡ true → (a || b) ≡ true
    or_true true b h = refl
    or_true false b h = h

-- a field is made exactly for the characteristics of the table
pub field_told : (r : Option ℕ) (p : ℕ) → (IsSome r ↔ InTable p) → IfSome r (λ f. f ≡ p) → r ≡ (if list_any (λ q. eqb q p) table then Some p else None)
field_told None p h v = go (list_any (λ q. eqb q p) table) refl
  where
    eqb_is : (x y : ℕ) → eqb y x ≡ true → x ≡ y
    eqb_is x y e = grind arith

    go : (b : Bool) → list_any (λ q. eqb q p) table ≡ b → None ≡ (if list_any (λ q. eqb q p) table then Some p else None)
    go true e = let s : IsSome {T = ℕ} None = h.1 (Contains-from_any {eq = λ a b. eqb b a} eqb_is p table e) in absurd (cc)
    go false e = sym (ap (λ b. if b then Some p else None) e)
field_told (Some f) p h v =
    ap (λ z. Some z) v ∙ sym (ap (λ b. if b then Some p else None) (in_any (h.0 refl)))
  where
    in_any : InTable p → list_any (λ q. eqb q p) table ≡ true
    in_any c = list_any-from_Contains {eq = λ a b. eqb b a} (search rules) p table c

-- a characteristic is above 0
pub field_some : (r : Option ℕ) (p : ℕ) → (IsSome r ↔ InTable p) → IfSome r (λ f. f ≡ p) → IfSome r (λ f. 0 < f)
field_some None p h v = tt
field_some (Some zero) p h v = let e : list_any (λ q. eqb q 0) table ≡ true = list_any-from_Contains {eq = λ a b. eqb b a} (search rules) 0 table (subst InTable (sym v) (h.0 refl)) in absurd (cc)
field_some (Some (suc f)) p h v = omega arith
