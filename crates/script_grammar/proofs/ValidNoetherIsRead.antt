-- A valid noether monomial that stands there is read.
-- A factor by its kind, the product by induction on its factors, with as many turns left as bytes or more, and then the tests of its degree.
use Rattle.std.proofs.Common.{◌≡◌, ℕ, zero, suc, ◌<◌, ◌≤◌, Bool, true, false, cond, ◌&&◌, ◌||◌, eqb, List, [], ◌∷◌, length, Result, Ok, refl, ap, ◌∙◌, nat_lt, arith}
use Rattle.std.proofs.lemmas.Bool.{ne_eqb, eq-eqb, le-ltb, and_from, and_right, or_from}
use Rattle.std.specs.List.{list_any}
use Rattle.local_order.specs.Count.{monomial_count}
use Rattle.script_grammar.specs.declared.refusal.Refusal.{Refusal}
use Rattle.script_grammar.specs.Tokens.{Place, next, mark, is_letter}
use Rattle.script_grammar.specs.Words.{has_large, is_the_mark}
use Rattle.script_grammar.specs.Trees.{Factor, short_word, raised_letter, factor_tokens, Monomial, factor, product, monomial_tokens, one}
use Rattle.script_grammar.specs.Steps.{◌>>=◌}
use Rattle.script_grammar.specs.Statements.{factor_at, factors_at, degree_of, noether_at, monomial_at}
use Rattle.script_grammar.specs.Valid.{Stand, ValidFactor, ValidFactors, ValidNoether}
use Rattle.script_grammar.specs.Places.{Placed}
use Rattle.script_grammar.proofs.Steps.{Stand-split}
use Rattle.script_grammar.proofs.Places.{next_placed, stand_placed, behind_mark}
use Rattle.script_grammar.proofs.ReadNoetherIsValid.{noether_tail}
use Rattle.script_grammar.proofs.TokensAreRead.{not_mark}
use Rattle.script_grammar.proofs.StepsAreRead.{on_then, off_then, read_then, both_then, mark_then, exponent_then}

-- one letter without digits has exponent 1
one_letter_small : (w : List ℕ) → length w ≡ 1 → has_large w ≡ false
one_letter_small [] h = refl
one_letter_small (b ∷ c ∷ w) h = absurd (omega arith)
one_letter_small (b ∷ []) h = small-at (is_letter b)
  where
    small-at : (c : Bool) → list_any (λ (e : ℕ × ℕ). nat_lt 1000 e.1) (cond c ((b, 1) ∷ []) []) ≡ false
    small-at true = refl
    small-at false = refl

-- A valid factor that stands there is read, if no ^ goes on with it.
factor_again : (letters : List ℕ) (t : Place) (f : Factor) (u : Place) → ValidFactor letters f → Stand t (factor_tokens f) u → is_the_mark 94 u.token ≡ false → factor_at letters t ≡ Ok (f, u)
unfolding factor_at
factor_again letters t (short_word w) u valid p calm =
    let here = p.0 in
    let named = valid.0 in
    let short = valid.1 in
    let small = valid.2 in
    let quiet : is_the_mark 94 (next t.rest).token ≡ false = ap (λ (x : Place). is_the_mark 94 x.token) p.1 ∙ calm in
    rw (here, named, short, small) (off_then (eqb (length w) 1 && is_the_mark 94 (next t.rest).token) _ _ _ (and_right (eqb (length w) 1) _ quiet) (ap (λ (x : Place). Ok (short_word w, x)) p.1))
factor_again letters t (raised_letter w digits) u valid p calm =
    let here = p.0 in
    let named = valid.0 in
    let short = valid.2 in
    let small = one_letter_small w valid.1 in
    let up : is_the_mark 94 (next t.rest).token ≡ true = ap (is_the_mark 94) p.1.0 in
    rw (here, named, short, small) (on_then (eqb (length w) 1 && is_the_mark 94 (next t.rest).token) _ _ _ (and_from (eqb (length w) 1) _ (eq-eqb (length w) 1 valid.1) up)
    (exponent_then digits _ _ _ p.1.1.0 valid.3 valid.4 (ap (λ (x : Place). Ok (raised_letter w digits, x)) p.1.1.1)))

-- the loop over factors stands at u with this monomial
abbrev MonomialAt : List ℕ → Place → Monomial → Place → Type 0
MonomialAt letters t m u = (n : ℕ) × (u.left ≤ n) × (monomial_at letters t ≡ factors_at n letters m u)

-- A loop over factors takes one more factor behind a *.
factors_on : (letters : List ℕ) (whole : Result (Monomial × Place) Refusal) (n : ℕ) (m : Monomial) (f : Factor) (k u : Place)
    → k.token ≡ mark 42 → k.left ≤ n → u.left < k.left → whole ≡ factors_at n letters m k → factor_at letters (next k.rest) ≡ Ok (f, u) → (l : ℕ) × (u.left ≤ l) × (whole ≡ factors_at l letters (product m f) u)
unfolding factors_at
factors_on letters whole zero m f k u here room less so_far reads = absurd (omega arith)
factors_on letters whole (suc n) m f k u here room less so_far reads =
    let one_more : factors_at (suc n) letters m k ≡ factors_at n letters (product m f) u = on_then (is_the_mark 42 k.token) _ _ _ (ap (is_the_mark 42) here) (read_then _ _ (f, u) _ reads refl) in
    (n, omega arith, so_far ∙ one_more)

-- A valid monomial that stands there is read up to its end and beyond, as a loop goes.
monomial_goes : (letters : List ℕ) (t : Place) (m : Monomial) (u : Place) → Placed t → ValidFactors letters m → Stand t (monomial_tokens m) u → is_the_mark 94 u.token ≡ false → MonomialAt letters t m u
monomial_goes letters t (factor f) u placed valid p calm = (u.left, omega arith, read_then (factor_at letters t) _ (f, u) _ (factor_again letters t f u valid p calm) refl)
monomial_goes letters t (product m f) u placed valid p calm =
    let q = Stand-split t (monomial_tokens m) (mark 42 ∷ factor_tokens f) u p in
    let k = q.0 in
    let star = q.2 in
    let kept = stand_placed t (monomial_tokens m) k placed q.1 in
    let less = behind_mark k 42 (factor_tokens f) u kept.1 star.0 star.1 in
    let before = monomial_goes letters t m k placed valid.0 q.1 (not_mark 94 42 k star.0 refl) in
    factors_on letters (monomial_at letters t) before.0 m f k u star.0 before.1 less.0 before.2 (factor_again letters (next k.rest) f u valid.1 star.1 calm)

-- A loop over factors ends where no * stands.
factors_end : (letters : List ℕ) (n : ℕ) (m : Monomial) (u : Place) → is_the_mark 42 u.token ≡ false → factors_at n letters m u ≡ Ok (m, u)
unfolding factors_at
factors_end letters zero m u h = refl
factors_end letters (suc n) m u h = rw h refl

-- The valid noether statement is read from behind its word on.
pub noether_again : (letters : List ℕ) (t : Place) (m : Monomial) (u : Place) → ValidNoether letters m → Stand t (noether_tail m) u → noether_at letters t ≡ Ok (m, u)
unfolding noether_at
noether_again letters t m u valid p =
    let start = next t.rest in
    let q = Stand-split start (monomial_tokens m) (one (mark 59)) u p.1 in
    let k = q.0 in
    let g = monomial_goes letters start m k (next_placed t.rest) valid.factors q.1 (not_mark 94 59 k q.2.0 refl) in
    let whole : monomial_at letters start ≡ Ok (m, k) = g.2 ∙ factors_end letters g.0 m k (not_mark 42 59 k q.2.0 refl) in
    let d = degree_of m in
    let some : eqb d 0 ≡ false = ne_eqb d 0 (λ e. absurd (omega (arith, valid.degree.0, e))) in
    mark_then _ _ _ _ _ p.0
    (read_then (monomial_at letters start) _ (m, k) _ whole
    (off_then (eqb d 0 || nat_lt 255 d) _ _ _ (or_from (eqb d 0) (nat_lt 255 d) some (le-ltb 255 d valid.degree.1))
    (off_then (nat_lt 4096 (monomial_count (length letters) d)) _ _ _ (le-ltb 4096 _ valid.count)
    (mark_then _ _ _ _ _ q.2.0 (ap (λ (x : Place). Ok (m, x)) q.2.1)))))
