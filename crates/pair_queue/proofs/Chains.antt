-- Searches for the first lead that divides, as the program and as the definition make them.
-- A loop that ends at the first lead that divides finds what `find` does; then each case of `skip` is unfolded.
use Rattle.std.proofs.Common.{◌≡◌, ℕ, ◌<◌, ◌↔◌, List, length, get_or, Bool, true, false, All, IsTrue, [], Some, None, refl, sym, ◌∙◌, ap, ap₂, arith}
use Rattle.std.proofs.lemmas.List.{get_or_read}
use Rattle.local_order.specs.Mono.{mono_lcm, divides, Divides, coprime, IsCoprime}
use Rattle.local_order.proofs.Division.{coprime_iff, divides_iff}
use Rattle.mono_rank.specs.Rank.{mono_at}
use Rattle.mora_law.specs.declared.skip.Skip.TheVariants.{Product, Chain}
use Rattle.mora_law.specs.Skip.{chain, skip}
use Rattle.rank_algebra.proofs.Searches.{first_found, none_found}

-- answers that stand for one fact are one
pub one_answer : {A : Type 0} (a b : Bool) → IsTrue a ↔ A → IsTrue b ↔ A → a ≡ b
one_answer true true f g = cc
one_answer true false f g = absurd (let e : false ≡ true = g.1 (f.0 (λ i. true)) in cc)
one_answer false true f g = absurd (let e : false ≡ true = f.1 (g.0 (λ i. true)) in cc)
one_answer false false f g = cc

-- what is read at a place is the monomial there
pub mono_read : (ms : List (List ℕ)) (j : ℕ) (m : List ℕ) → j < length ms → m ≡ get_or ms j m → m ≡ mono_at ms j
mono_read ms j m l e = get_or_read ms j m l e []

-- whether the lead at a place divides, as the test tells
pub divides_is : (leads : List (List ℕ)) (m : List ℕ) (k : ℕ) (l : List ℕ) (r : Bool) → k < length leads → All (λ x. length x ≡ length m) leads → l ≡ get_or leads k l → IsTrue r ↔ Divides l m →
    divides (mono_at leads k) m ≡ r
divides_is leads m k l r within all e test =
    let read : l ≡ mono_at leads k = mono_read leads k l within e in
    ap (λ x. divides x m) (sym read) ∙ sym (one_answer r (divides l m) test (divides_iff l m (ap length read ∙ all k [] within)))

-- the first lead that divides is found
pub chain_found : (leads : List (List ℕ)) (m : List ℕ) (count k : ℕ) → k < count → divides (mono_at leads k) m ≡ true → ((j : ℕ) → j < k → divides (mono_at leads j) m ≡ false) → chain leads count m ≡ Some k
chain_found leads m count k l e before = first_found (λ j. divides (mono_at leads j) m) 0 count k (omega arith) (omega arith) e (λ j a b. before j b)

-- where none divides none is found
pub chain_none : (leads : List (List ℕ)) (m : List ℕ) (count : ℕ) → ((j : ℕ) → j < count → divides (mono_at leads j) m ≡ false) → chain leads count m ≡ None
chain_none leads m count none = none_found (λ j. divides (mono_at leads j) m) 0 count (λ j a b. none j (omega arith))

-- a and b are the leads i and j, with as many exponents
pub record AreRead (leads : List (List ℕ)) (i j : ℕ) (a b : List ℕ) : Type 0 where
  pub first : a ≡ mono_at leads i
  pub second : b ≡ mono_at leads j
  pub long : length a ≡ length b

-- what is read at the places i and j is
pub are_read : (leads : List (List ℕ)) (i j : ℕ) (a b : List ℕ) → i < j → j < length leads → All (λ l. length l ≡ length (mono_at leads i)) leads →
    a ≡ get_or leads i a → b ≡ get_or leads j b → AreRead leads i j a b
are_read leads i j a b l m all e f =
    let first : a ≡ mono_at leads i = mono_read leads i a (omega (arith, l, m)) e in
    let second : b ≡ mono_at leads j = mono_read leads j b m f in
    record { first = first; second = second; long = ap length first ∙ sym (ap length second ∙ all j [] m) }

-- whether they are coprime, as the test tells
pub coprime_is : (leads : List (List ℕ)) (i j : ℕ) (a b : List ℕ) (r : Bool) → AreRead leads i j a b → IsTrue r ↔ IsCoprime a b → r ≡ coprime (mono_at leads i) (mono_at leads j)
coprime_is leads i j a b r h e = one_answer r (coprime a b) e (coprime_iff a b h.long) ∙ ap₂ coprime h.first h.second

-- the first lead that divides their least common multiple
pub chain_of : (leads : List (List ℕ)) (i j : ℕ) (a b m : List ℕ) → AreRead leads i j a b → m ≡ mono_lcm a b → chain leads i (mono_lcm (mono_at leads i) (mono_at leads j)) ≡ chain leads i m
chain_of leads i j a b m h e = ap (chain leads i) (sym (e ∙ ap₂ mono_lcm h.first h.second))

-- coprime leads make a product
pub skip_product : (leads : List (List ℕ)) (i j : ℕ) → coprime (mono_at leads i) (mono_at leads j) ≡ true → skip leads i j ≡ Some Product
unfolding skip
skip_product leads i j e = rw e refl

-- with others the chain decides
pub skip_chain : (leads : List (List ℕ)) (i j k : ℕ) → coprime (mono_at leads i) (mono_at leads j) ≡ false → chain leads i (mono_lcm (mono_at leads i) (mono_at leads j)) ≡ Some k → skip leads i j ≡ Some (Chain k)
unfolding skip
skip_chain leads i j k e f = rw (e, f) refl

-- and where it finds none the pair isn't skipped
pub skip_none : (leads : List (List ℕ)) (i j : ℕ) → coprime (mono_at leads i) (mono_at leads j) ≡ false → chain leads i (mono_lcm (mono_at leads i) (mono_at leads j)) ≡ None → skip leads i j ≡ None
unfolding skip
skip_none leads i j e f = rw (e, f) refl
