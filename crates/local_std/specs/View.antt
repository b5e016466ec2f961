-- What the program's values stand for.
use Rattle.std.specs.Prelude.{◌≡◌, ℕ, ◌≤◌, ◌⊎◌, List, ◌++◌, length, map, take, All}
use Rattle.std.specs.Option.{option_to_list}
use Rattle.local_std.specs.declared.outcome.Status.{Status}
use Rattle.local_std.specs.declared.outcome.Status.TheVariants.{WriteFault}
use Rattle.local_std.specs.declared.words.Request.{Request as Asked}
use Rattle.local_std.specs.declared.words.Request.TheVariants.{Solve, Check, Bench}
use Rattle.local_std.specs.Bench.{max_bench}
use Rattle.local_std.specs.declared.words.Given.{Given}
use Rattle.local_std.specs.Words.{Request, solve, check, bench, Part, IsPart, all_words, numerals, paths, counts}
use Rattle.local_std.specs.Lent.{Lent, HasFailed, HasGained}

-- the text was written, or the sink failed in it
abbrev pub Wrote : {K : Type 0} → Status → List ℕ → Lent K → Status → Type 0
Wrote status text sink result =
    ((result ≡ status) × HasGained sink text)
    ⊎ ((result ≡ WriteFault) × HasFailed sink × (n : ℕ) × HasGained sink (take n text))

abbrev pub request_in : Asked → Request
request_in Solve = solve
request_in Check = check
request_in (Bench k) = bench k

-- the number of a bench is one of the bench
abbrev pub IsNumbered : Request → Type 0
IsNumbered solve = Unit {0}
IsNumbered check = Unit {0}
IsNumbered (bench k) = k ≤ max_bench

-- what parts give, kind by kind: the number of a bench, the path of a certificate, the number of workers
pub record Kinds : Type 0 where
  pub numbers : List ℕ
  pub paths : List (List ℕ)
  pub counts : List ℕ

abbrev pub kinds_of : List Part → Kinds
kinds_of parts = record { numbers = numerals parts; paths = paths parts; counts = counts parts }

abbrev pub kinds_in : Given → Kinds
kinds_in given = record { numbers = option_to_list given.number; paths = map (λ path. path.now) (option_to_list given.cert); counts = option_to_list given.workers }

-- both
abbrev pub together : Kinds → Kinds → Kinds
together a b = record { numbers = a.numbers ++ b.numbers; paths = a.paths ++ b.paths; counts = a.counts ++ b.counts }

-- no kind comes twice
pub record AreOnce (kinds : Kinds) : Type 0 where
  pub numbers : length kinds.numbers ≤ 1
  pub paths : length kinds.paths ≤ 1
  pub counts : length kinds.counts ≤ 1

-- these parts give this
pub record Gives (parts : List Part) (given : Given) : Type 0 where
  pub values : All IsPart parts
  pub kinds : kinds_in given ≡ kinds_of parts

-- the words are spelled by these parts
pub record AreParts (words : List (List ℕ)) (parts : List Part) : Type 0 where
  pub values : All IsPart parts
  pub spelled : words ≡ all_words parts
