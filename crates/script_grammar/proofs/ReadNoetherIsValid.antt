-- The noether monomial that is read stands there, and is valid.
-- A factor by the tests on its word, the product by induction on the turns of its loop, and then the tests of its degree.
use Rattle.std.proofs.Common.{◌≡◌, ℕ, zero, suc, ◌≤◌, not, ◌&&◌, ◌||◌, eqb, List, ◌∷◌, ◌++◌, length, Ok, refl, subst, inl, inr, nat_lt, arith}
use Rattle.std.proofs.lemmas.Bool.{eqb-true, eqb-false, ltb-false, and_parts, or_parts, not-false}
use Rattle.local_order.specs.Count.{monomial_count}
use Rattle.script_grammar.specs.Tokens.{Token, Place, next, mark}
use Rattle.script_grammar.specs.Words.{is_named, is_short, has_large, is_the_mark, is_word, word_of}
use Rattle.script_grammar.specs.Trees.{Factor, factor_tokens, Monomial, factor, product, monomial_tokens, one}
use Rattle.script_grammar.specs.Statements.{factor_at, factors_at, degree_of, noether_at}
use Rattle.script_grammar.specs.Valid.{Stand, ValidFactor, ValidFactors, ValidNoether}
use Rattle.script_grammar.proofs.Steps.{ok_is, bind_ok, chosen, went_on, mark_is, some_word_is, Stand-then}
use Rattle.script_grammar.proofs.StepsBehindRead.{mark_step, exponent_step}

abbrev FactorIs : List ℕ → Place → Factor × Place → Type 0
FactorIs letters t x = Stand t (factor_tokens x.0) x.1 × ValidFactor letters x.0

-- A factor that is read stands there, in variables of the ring and without an exponent above 1,000.
pub factor_found : (letters : List ℕ) (t : Place) (x : Factor × Place) → factor_at letters t ≡ Ok x → FactorIs letters t x
unfolding factor_at
factor_found letters t x e =
    let w = word_of t.token in
    let behind = next t.rest in
    let a = went_on (not (is_word t.token && is_named w)) _ _ x e in
    let b = went_on (not (is_short letters w)) _ _ x a.1 in
    let c = went_on (has_large w) _ _ x b.1 in
    let p = and_parts (is_word t.token) (is_named w) (not-false _ a.0) in
    let here = some_word_is t.token p.0 in
    let short = not-false _ b.0 in
    let branch = chosen (eqb (length w) 1 && is_the_mark 94 behind.token) _ _ _ c.1 in
    elim branch [
      | inl yea ↦
          let q = and_parts (eqb (length w) 1) (is_the_mark 94 behind.token) yea.0 in
          let n = exponent_step _ _ _ yea.1 in
          subst (λ (y : Factor × Place). FactorIs letters t y) (ok_is _ x n.4)
          ((here, (mark_is 94 behind.token q.1, (n.1, refl))), (p.1, eqb-true (length w) 1 q.0, short, n.2, n.3))
      | inr nay ↦ subst (λ (y : Factor × Place). FactorIs letters t y) (ok_is _ x nay.1) ((here, refl), (p.1, short, c.0))
    ]

abbrev MonomialIs : List ℕ → Place → Monomial × Place → Type 0
MonomialIs letters t x = Stand t (monomial_tokens x.0) x.1 × ValidFactors letters x.0

-- Factors that a loop reads are valid with those before.
pub factors_found : (letters : List ℕ) (start : Place) (n : ℕ) (m : Monomial) (t : Place) (x : Monomial × Place) → MonomialIs letters start (m, t) → factors_at n letters m t ≡ Ok x → MonomialIs letters start x
unfolding factors_at
factors_found letters start zero m t x so_far e = subst (λ (y : Monomial × Place). MonomialIs letters start y) (ok_is (m, t) x e) so_far
factors_found letters start (suc n) m t x so_far e =
    let branch = chosen (is_the_mark 42 t.token) _ _ _ e in
    elim branch [
      | inl yea ↦
          let a = bind_ok _ _ _ yea.1 in
          let f = factor_found letters (next t.rest) a.0 a.1 in
          factors_found letters start n (product m a.0.0) a.0.1 x (Stand-then start (monomial_tokens m) t (mark 42 ∷ factor_tokens a.0.0) a.0.1 so_far.0 (mark_is 42 t.token yea.0, f.0), (so_far.1, f.1)) a.2
      | inr nay ↦ subst (λ (y : Monomial × Place). MonomialIs letters start y) (ok_is (m, t) x nay.1) so_far
    ]

-- the tokens behind the word noether
abbrev pub noether_tail : Monomial → List Token
noether_tail m = mark 61 ∷ (monomial_tokens m ++ one (mark 59))

-- The noether statement that is read stands there, and its monomial has a degree from 1 to 255 and at most 4,096 monomials.
pub noether_found : (letters : List ℕ) (t : Place) (x : Monomial × Place) → noether_at letters t ≡ Ok x → Stand t (noether_tail x.0) x.1 × ValidNoether letters x.0
unfolding noether_at
noether_found letters t x e =
    let equals = mark_step _ _ _ _ _ e in
    let start = next t.rest in
    let all = bind_ok _ _ _ equals.1 in
    let first = bind_ok (factor_at letters start) _ all.0 all.1 in
    let f = factor_found letters start first.0 first.1 in
    let m = factors_found letters start _ (factor first.0.0) first.0.1 all.0 f first.2 in
    let d = degree_of all.0.0 in
    let degree = went_on (eqb d 0 || nat_lt 255 d) _ _ x all.2 in
    let count = went_on (nat_lt 4096 (monomial_count (length letters) d)) _ _ x degree.1 in
    let after = mark_step _ _ _ _ _ count.1 in
    let p = or_parts (eqb d 0) (nat_lt 255 d) degree.0 in
    let some : 1 ≤ d = omega (arith, eqb-false d 0 p.0) in
    subst (λ (y : Monomial × Place). Stand t (noether_tail y.0) y.1 × ValidNoether letters y.0) (ok_is _ x after.1) (
      (equals.0, Stand-then start (monomial_tokens all.0.0) all.0.1 (one (mark 59)) _ m.0 (after.0, refl)),
      record { factors = m.1; degree = (some, ltb-false 255 d p.1); count = ltb-false 4096 _ count.0 },
    )
