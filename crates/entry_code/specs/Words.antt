-- The words of an entry, by which threads share it in a table. Ours.
use Rattle.std.specs.Prelude.{◌≡◌, ℕ, suc, ◌+◌, ◌*◌, ◌^◌, ◌/◌, ◌%◌, ◌-◌, ◌<◌, ◌≤◌, List, [], ◌∷◌, ◌++◌, map, take, drop, length, get_or, All, ⊤, if◌then◌else◌, nat_lt}
use Rattle.local_order.specs.Limits.{max_generators, max_monomials}
use Rattle.entry_code.specs.declared.item.Item.{Item}
use Rattle.entry_code.specs.declared.item.Item.TheVariants.{Generator, Pair}
use Rattle.entry_code.specs.declared.reading.Reading.{Reading}
use Rattle.entry_code.specs.declared.term.Term.{Term}
use Rattle.entry_code.specs.Entry.{Entry}
use Rattle.entry_code.specs.Terms.{HasRisingRanks}

-- a generator is its number; a pair has a bit of its own and 16 bits for each number
abbrev pub item_word : Item → ℕ
item_word (Generator g) = g
item_word (Pair i j) = 2 ^ 32 + i * 2 ^ 16 + j

-- 16 bits for the corner
abbrev pub reading_word : Reading → ℕ
reading_word d = d.known * 2 ^ 16 + d.corner

-- 32 bits for the coefficient
abbrev pub term_word : Term → ℕ
term_word t = t.rank * 2 ^ 32 + t.coef

-- the item, the numbers of readings and of terms, the readings and the terms
abbrev pub words_of : Entry → List ℕ
words_of e = item_word e.item ∷ length e.reads ∷ length e.terms ∷ (map reading_word e.reads ++ map term_word e.terms)

-- the number of a generator, or two numbers of entries, the first being the lesser
abbrev pub IsItem : Item → Type 0
IsItem (Generator g) = g < max_generators
IsItem (Pair i j) = (i < j) × (j < max_monomials)

-- both numbers are at most that of monomials
abbrev pub IsReading : Reading → Type 0
IsReading d = (d.known ≤ max_monomials) × (d.corner ≤ max_monomials)

-- the coefficient is a residue modulo p, and not 0
abbrev pub IsTerm : ℕ → Term → Type 0
IsTerm p t = (1 ≤ t.coef) × (t.coef < p)

-- the coefficient of the first term
abbrev pub first_coef : List Term → ℕ
first_coef [] = 0
first_coef (t ∷ ts) = t.coef

-- an entry of a ring modulo p with n monomials: it has readings, at most n, and terms, whose ranks rise; it is monic
pub record IsSpellable (p n : ℕ) (e : Entry) : Type 0 where
  pub item : IsItem e.item
  pub some_reads : 1 ≤ length e.reads
  pub few_reads : length e.reads ≤ n
  pub reads : All IsReading e.reads
  pub ranks : HasRisingRanks n e.terms
  pub residues : All (IsTerm p) e.terms
  pub monic : first_coef e.terms ≡ 1

-- the words are those of such an entry
abbrev pub IsSpelling : ℕ → ℕ → List ℕ → Type 0
IsSpelling p n words = (e : Entry) × IsSpellable p n e × (words_of e ≡ words)

-- what a word says of an item
abbrev pub item_in : ℕ → Item
item_in x = if nat_lt x (2 ^ 32) then Generator x else Pair ((x - 2 ^ 32) / 2 ^ 16) ((x - 2 ^ 32) % 2 ^ 16)

-- what a word says of a reading
abbrev pub reading_in : ℕ → Reading
reading_in x = record { known = x / 2 ^ 16; corner = x % 2 ^ 16 }

-- what a word says of a term
abbrev pub term_in : ℕ → Term
term_in x = record { rank = x / 2 ^ 32; coef = x % 2 ^ 32 }

-- what words say of an entry
abbrev pub entry_in : List ℕ → Entry
entry_in words = record {
  item = item_in (get_or words 0 0);
  reads = map reading_in (take (get_or words 1 0) (drop 3 words));
  terms = map term_in (drop (get_or words 1 0) (drop 3 words));
}

-- terms with residues but not 0 as coefficients, and with ranks that rise from `least` on and are below n
abbrev pub AreRising : ℕ → ℕ → ℕ → List Term → Type 0
AreRising p n least [] = ⊤
AreRising p n least (t ∷ ts) = (least ≤ t.rank) × (t.rank < n) × IsTerm p t × AreRising p n (suc t.rank) ts

-- the second word and the third are the numbers of readings and of terms, at least 1 and at most n each
abbrev pub HasCounts : ℕ → List ℕ → Type 0
HasCounts n words =
    (3 ≤ length words) × (1 ≤ get_or words 1 0) × (get_or words 1 0 ≤ n) × (1 ≤ get_or words 2 0) × (get_or words 2 0 ≤ n)
    × (length words ≡ 3 + get_or words 1 0 + get_or words 2 0)

-- what the words of an entry pass, part by part
abbrev pub ArePassed : ℕ → ℕ → List ℕ → Type 0
ArePassed p n words =
    HasCounts n words
    × IsItem (item_in (get_or words 0 0))
    × All (λ x. IsReading (reading_in x)) (take (get_or words 1 0) (drop 3 words))
    × ((term_in (get_or (drop (get_or words 1 0) (drop 3 words)) 0 0)).coef ≡ 1)
    × AreRising p n 0 (map term_in (drop (get_or words 1 0) (drop 3 words)))
