-- What a certificate is, and the one text of each.
use Rattle.std.specs.Prelude.{◌≡◌, ℕ, ◌≤◌, suc, List, [], ◌∷◌, ◌++◌, length, map, Option, Some, None, Bool, true, nat_le, codes, decimal}
use Rattle.std.specs.List.{AllByRecursion}
use Rattle.local_order.specs.Limits.{max_monomials, max_generators}
use Rattle.cert_grammar.specs.Limits.{max_number, max_blocks}
use Rattle.sparse_poly.specs.Poly.{Polynomial}
use Rattle.cert_grammar.specs.Lines.{Word, Line, text}
use Rattle.entry_code.specs.declared.item.Item.{Item}
use Rattle.entry_code.specs.declared.item.Item.TheVariants.{Generator, Pair}
use Rattle.entry_code.specs.declared.reading.Reading.{Reading}
use Rattle.cert_grammar.specs.Entries.{Entry}
use Rattle.cert_grammar.specs.Entries.{Fitting}
use Rattle.cert_grammar.specs.declared.block.Verdict.{Verdict}
use Rattle.cert_grammar.specs.declared.block.Verdict.TheVariants.{Fits, TooSmall}
use Rattle.cert_grammar.specs.Blocks.{Block}
use Rattle.cert_grammar.specs.Words.{Ring, IsPolyOf, IsNonzeroOf, IsMonoOf, IsTopOf, poly_word, mono_word, is_prime, are_letters, is_degree}

-- ---- lines
abbrev pub head_line : Line
head_line = codes "lstd-cert" ∷ codes "1" ∷ []

-- a word and a number
abbrev pub numbered : Word → ℕ → Line
numbered word n = word ∷ decimal n ∷ []

abbrev pub vars_line : List ℕ → Line
vars_line letters = codes "vars" ∷ map (λ v. v ∷ []) letters

abbrev pub item_line : ℕ → Item → Line
item_line i (Generator g) = codes "entry" ∷ decimal i ∷ codes "gen" ∷ decimal g ∷ []
item_line i (Pair a b) = codes "entry" ∷ decimal i ∷ codes "pair" ∷ decimal a ∷ decimal b ∷ []

abbrev pub read_line : Reading → Line
read_line r = codes "read" ∷ decimal r.known ∷ decimal r.corner ∷ []

abbrev pub poly_line : Ring → Polynomial → Line
poly_line r f = codes "poly" ∷ poly_word r f ∷ []

-- a monomial, or none
abbrev pub corner_word : Ring → Option (List ℕ) → Word
corner_word r None = codes "none"
corner_word r (Some m) = mono_word r m

abbrev pub corner_line : Ring → Option (List ℕ) → Line
corner_line r o = codes "corner" ∷ corner_word r o ∷ []

abbrev pub stair_line : Ring → List (List ℕ) → Line
stair_line r stair = codes "stair" ∷ decimal (length stair) ∷ map (mono_word r) stair

-- ---- several lines
-- those of the members, one after the other, numbered from i on
abbrev pub in_turn : {A : Type 0} → (ℕ → A → List Line) → ℕ → List A → List Line
in_turn f i [] = []
in_turn f i (x ∷ xs) = f i x ++ in_turn f (suc i) xs

-- how many there are, and then those
abbrev pub counted : {A : Type 0} → Word → (ℕ → A → List Line) → List A → List Line
counted word f xs = numbered word (length xs) ∷ in_turn f 0 xs

-- a line of one word
abbrev pub alone : {A : Type 0} → (A → Word) → ℕ → A → List Line
alone word i a = (word a ∷ []) ∷ []

abbrev pub reads_lines : Ring → List Reading → Polynomial → List Line
reads_lines r [] f = poly_line r f ∷ []
reads_lines r (x ∷ xs) f = read_line x ∷ reads_lines r xs f

abbrev pub entry_lines : Ring → ℕ → Entry → List Line
entry_lines r i x = item_line i x.item ∷ reads_lines r x.reads x.poly

abbrev pub fitting_lines : Ring → Fitting → List Line
fitting_lines r f = counted (codes "basis") (alone (poly_word r)) f.basis ++ corner_line r f.corner ∷ stair_line r f.stair ∷ []

abbrev pub verdict_lines : Ring → Verdict → List Line
verdict_lines r (Fits f) = (codes "fits" ∷ []) ∷ fitting_lines r f
verdict_lines r (TooSmall m) = (codes "too" ∷ codes "small" ∷ mono_word r m ∷ []) ∷ []

abbrev pub block_lines : ℕ → Block → List Line
block_lines b x =
    numbered (codes "block") b
    ∷ numbered (codes "p") x.ring.p
    ∷ vars_line x.ring.letters
    ∷ numbered (codes "D") x.ring.d
    ∷ (counted (codes "gens") (alone (poly_word x.ring)) x.gens
    ++ (counted (codes "entries") (entry_lines x.ring) x.entries
    ++ (verdict_lines x.ring x.verdict
    ++ numbered (codes "end") b ∷ [])))

-- blocks from the b-th on, and the last line
abbrev pub blocks_lines : ℕ → List Block → List Line
blocks_lines b [] = numbered (codes "done") b ∷ []
blocks_lines b (x ∷ xs) = block_lines (suc b) x ++ blocks_lines (suc b) xs

abbrev pub cert_lines : List Block → List Line
cert_lines blocks = head_line ∷ blocks_lines 0 blocks

abbrev pub cert_text : List Block → List ℕ
cert_text blocks = text (cert_lines blocks)

-- ---- ranges
-- where nothing else is said
abbrev pub is_number : ℕ → Bool
is_number n = nat_le n max_number

abbrev pub IsNumber : ℕ → Type 0
IsNumber n = is_number n ≡ true

abbrev pub IsItem : Item → Type 0
IsItem (Generator g) = IsNumber g
IsItem (Pair a b) = IsNumber a × IsNumber b

pub record IsReading (r : Reading) : Type 0 where
  pub known : IsNumber r.known
  pub corner : IsNumber r.corner

pub record IsEntry (r : Ring) (x : Entry) : Type 0 where
  pub item : IsItem x.item
  pub some : 1 ≤ length x.reads
  pub reads : AllByRecursion IsReading x.reads
  pub poly : IsNonzeroOf r x.poly

abbrev pub IsCorner : Ring → Option (List ℕ) → Type 0
IsCorner r None = Unit {0}
IsCorner r (Some m) = IsMonoOf r m

pub record IsFitting (r : Ring) (f : Fitting) : Type 0 where
  pub few : nat_le (length f.basis) max_monomials ≡ true
  pub basis : AllByRecursion (IsNonzeroOf r) f.basis
  pub corner : IsCorner r f.corner
  pub few_stairs : IsNumber (length f.stair)
  pub stair : AllByRecursion (IsMonoOf r) f.stair

abbrev pub IsVerdict : Ring → Verdict → Type 0
IsVerdict r (Fits f) = IsFitting r f
IsVerdict r (TooSmall m) = IsTopOf r m

pub record IsRing (r : Ring) : Type 0 where
  pub p : is_prime r.p ≡ true
  pub letters : are_letters r.letters ≡ true
  pub d : is_degree (length r.letters) r.d ≡ true

pub record IsBlock (x : Block) : Type 0 where
  pub ring : IsRing x.ring
  pub few_gens : nat_le (length x.gens) max_generators ≡ true
  pub gens : AllByRecursion (IsPolyOf x.ring) x.gens
  pub few_entries : nat_le (length x.entries) max_monomials ≡ true
  pub entries : AllByRecursion (IsEntry x.ring) x.entries
  pub verdict : IsVerdict x.ring x.verdict

pub record IsCert (blocks : List Block) : Type 0 where
  pub some : 1 ≤ length blocks
  pub few : length blocks ≤ max_blocks
  pub each : AllByRecursion IsBlock blocks
