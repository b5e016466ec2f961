-- Each word says what it was made of, and is made of what it says.
-- By division with remainder by 2^16 and 2^32.
use Rattle.std.proofs.Common.{◌≡◌, ℕ, zero, suc, ◌+◌, ◌-◌, ◌*◌, ◌/◌, ◌%◌, ◌^◌, ◌<◌, ◌≤◌, Bool, true, false, List, [], ◌∷◌, ◌++◌, length, map, get_or, Some, refl, sym, ap, ◌∙◌, arith}
use Rattle.std.specs.Prelude.{nat_lt, if◌then◌else◌}
use Rattle.std.specs.List.{slice_get}
use Rattle.std.proofs.lemmas.Bool.{lt-ltb, le-ltb, ltb-false}
use Rattle.std.proofs.lemmas.Nat.{div-add-mod', div-mul-add, mod-mul-add}
use Rattle.entry_code.specs.declared.item.Item.{Item}
use Rattle.entry_code.specs.declared.item.Item.TheVariants.{Generator, Pair}
use Rattle.entry_code.specs.declared.reading.Reading.{Reading}
use Rattle.entry_code.specs.declared.term.Term.{Term}
use Rattle.entry_code.specs.Entry.{Entry}
use Rattle.entry_code.specs.Words.{item_word, reading_word, term_word, words_of, IsItem, IsReading, IsTerm, item_in, reading_in, term_in}

-- a word is that of the reading that it says
pub reading_again : (x : ℕ) → reading_word (reading_in x) ≡ x
reading_again x = div-add-mod' x (2 ^ 16)

-- a word is that of the term that it says
pub term_again : (x : ℕ) → term_word (term_in x) ≡ x
term_again x = div-add-mod' x (2 ^ 32)

-- a word is that of the item that it says
pub item_again : (x : ℕ) → item_word (item_in x) ≡ x
item_again x = go (nat_lt x (2 ^ 32)) refl
  where
    go : (b : Bool) → nat_lt x (2 ^ 32) ≡ b → item_word (if b then Generator x else Pair ((x - 2 ^ 32) / 2 ^ 16) ((x - 2 ^ 32) % 2 ^ 16)) ≡ x
    go true e = refl
    go false e = omega (arith, div-add-mod' (x - 2 ^ 32) (2 ^ 16), ltb-false x (2 ^ 32) e)

-- a reading is what its word says
pub reading_back : (d : Reading) → IsReading d → reading_in (reading_word d) ≡ d
reading_back d h =
    let small : d.corner < 2 ^ 16 = omega (arith, h.1) in
    λ i. record { known = div-mul-add d.known (2 ^ 16) d.corner small i; corner = mod-mul-add d.known (2 ^ 16) d.corner small i }

-- a term is what its word says
pub term_back : (p : ℕ) (t : Term) → p ≤ 2 ^ 32 → IsTerm p t → term_in (term_word t) ≡ t
term_back p t few h =
    let small : t.coef < 2 ^ 32 = omega (arith, h.1) in
    λ i. record { rank = div-mul-add t.rank (2 ^ 32) t.coef small i; coef = mod-mul-add t.rank (2 ^ 32) t.coef small i }

-- an item is what its word says
pub item_back : (x : Item) → IsItem x → item_in (item_word x) ≡ x
item_back (Generator g) h =
    let few : nat_lt g (2 ^ 32) ≡ true = lt-ltb g (2 ^ 32) (omega (arith, h)) in
    ap (λ b. if b then Generator g else Pair ((g - 2 ^ 32) / 2 ^ 16) ((g - 2 ^ 32) % 2 ^ 16)) few
item_back (Pair i j) h =
    let x : ℕ = 2 ^ 32 + i * 2 ^ 16 + j in
    let small : j < 2 ^ 16 = omega (arith, h.1) in
    let many : nat_lt x (2 ^ 32) ≡ false = le-ltb x (2 ^ 32) (omega arith) in
    let pair : x - 2 ^ 32 ≡ i * 2 ^ 16 + j = omega arith in
    ap (λ b. if b then Generator x else Pair ((x - 2 ^ 32) / 2 ^ 16) ((x - 2 ^ 32) % 2 ^ 16)) many
    ∙ (λ t. Pair ((pair t) / 2 ^ 16) ((pair t) % 2 ^ 16))
    ∙ (λ t. Pair (div-mul-add i (2 ^ 16) j small t) (mod-mul-add i (2 ^ 16) j small t))

module _ {A : Type 0} where
  -- the words of a list, with others behind them
  pub front : (f : A → ℕ) (l : List A) (m : List ℕ) (k : ℕ) (x : A) → slice_get l k ≡ Some x → f x ≡ get_or (map f l ++ m) k 0
  front f [] m k x e = absurd (cc e)
  front f (y ∷ l) m zero x e = let z : y ≡ x = cc e in ap f (sym z)
  front f (y ∷ l) m (suc k) x e = front f l m k x e

  -- the words of a list alone
  pub alone : (f : A → ℕ) (l : List A) (k : ℕ) (x : A) → slice_get l k ≡ Some x → f x ≡ get_or (map f l) k 0
  alone f [] k x e = absurd (cc e)
  alone f (y ∷ l) zero x e = let z : y ≡ x = cc e in ap f (sym z)
  alone f (y ∷ l) (suc k) x e = alone f l k x e

  -- the words behind those of a list
  pub behind : (f : A → ℕ) (l : List A) (m : List ℕ) (k : ℕ) → get_or m k 0 ≡ get_or (map f l ++ m) (length l + k) 0
  behind f [] m k = ap (λ n. get_or m n 0) (let z : k ≡ 0 + k = omega arith in z)
  behind f (y ∷ l) m k = behind f l m k ∙ ap (λ n. get_or (f y ∷ (map f l ++ m)) n 0) (let z : suc (length l + k) ≡ suc (length l) + k = omega arith in z)

-- the word of a reading at its place
pub word_of_reading : (e : Entry) (place : ℕ) (d : Reading) → 3 ≤ place → slice_get e.reads (place - 3) ≡ Some d → reading_word d ≡ get_or (words_of e) place 0
word_of_reading e place d le at =
    front reading_word e.reads (map term_word e.terms) (place - 3) d at
    ∙ ap (λ n. get_or (words_of e) n 0) (let z : suc (suc (suc (place - 3))) ≡ place = omega (arith, le) in z)

-- the word of a term at its place
pub word_of_term : (e : Entry) (place k : ℕ) (t : Term) → 3 + length e.reads + k ≡ place → slice_get e.terms k ≡ Some t → term_word t ≡ get_or (words_of e) place 0
word_of_term e place k t is at =
    alone term_word e.terms k t at
    ∙ behind reading_word e.reads (map term_word e.terms) k
    ∙ ap (λ n. get_or (words_of e) n 0) (let z : suc (suc (suc (length e.reads + k))) ≡ place = omega (arith, is) in z)
