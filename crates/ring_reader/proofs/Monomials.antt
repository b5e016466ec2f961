-- The loop over factors of the noether monomial.
use Rattle.std.proofs.Common.{◌≡◌, ℕ, zero, suc, ◌+◌, ◌<◌, ◌≤◌, min, true, false, List, Result, Ok, Err, refl, sym, ap, subst, ◌∙◌, arith}
use Rattle.script_grammar.specs.declared.refusal.Refusal.{Refusal}
use Rattle.script_grammar.specs.Tokens.{Place, next}
use Rattle.script_grammar.specs.Words.{is_the_mark}
use Rattle.script_grammar.specs.Trees.{Factor, Monomial, product}
use Rattle.script_grammar.specs.Steps.{◌>>=◌}
use Rattle.script_grammar.specs.Statements.{factor_at, factors_at, factor_degree, degree_of}
use Rattle.std.specs.Result.{IsErrAnd}
use Rattle.std.proofs.lemmas.Result.{err_from_is_err_and}
use Rattle.script_tokens.specs.Reads.{ReadsAs}
use Rattle.expression_reader.specs.Gives.{meant}
use Rattle.ring_reader.specs.Capped.{capped}
use Rattle.expression_reader.proofs.Loops.{meant_ok}

-- the loop has read the monomial, and what it still reads makes the whole
pub record MonomialSoFar (letters : List ℕ) (whole : Result (Monomial × Place) Refusal) (degree : ℕ) (t : Place) : Type 0 where
  pub turns : ℕ
  pub monomial : Monomial
  pub enough : t.left ≤ turns
  pub degree_is : degree ≡ capped (degree_of monomial)
  pub reads : factors_at turns letters monomial t ≡ whole

-- ---- the loop over factors
-- a refusal stays the same, whatever is made of what is read
refused_meant : {A B : Type 0} (f : A → B) (e : Refusal) (r : Result (A × Place) Refusal) → meant f r ≡ Err e → r ≡ Err e
refused_meant f e (Ok x) h = absurd cc
refused_meant f e (Err x) h = cc

-- What failed with a refusal reads that refusal.
pub reads_failed : {X Y : Type 0} (view : X → Y) (r : Result X Refusal) (e : Refusal) (read : Result Y Refusal) → IsErrAnd r (λ x. x ≡ e) → read ≡ Err e → ReadsAs view r read
reads_failed view r e read h f = let p = err_from_is_err_and r h in rw (p.1, p.2) f

-- The sum of capped degrees, capped, is the capped sum.
capped_sum : (a b : ℕ) → min (capped a + capped b) 256 ≡ capped (a + b)
capped_sum a b = omega arith

-- A monomial goes on behind *, where the loop of the grammar has turns left.
monomial_goes-at : (letters : List ℕ) (whole : Result (Monomial × Place) Refusal) (d : ℕ) (t : Place) (more : ℕ) (u : Place)
    → is_the_mark 42 t.token ≡ true → u.left < t.left → meant (λ f. capped (factor_degree f)) (factor_at letters (next t.rest)) ≡ Ok (more, u)
    → (n : ℕ) (m : Monomial) → t.left ≤ n → d ≡ capped (degree_of m) → factors_at n letters m t ≡ whole → MonomialSoFar letters whole (min (d + more) 256) u
unfolding factors_at
monomial_goes-at letters whole d t more u here shorter e zero m enough degree_is reads = absurd (omega arith)
monomial_goes-at letters whole d t more u here shorter e (suc n) m enough degree_is reads =
    let f = meant_ok (λ f. capped (factor_degree f)) (factor_at letters (next t.rest)) more u e in
    let one : factors_at (suc n) letters m t ≡ factors_at n letters (product m f.0) u = rw here (ap (λ (r : Result (Factor × Place) Refusal). r >>= λ y. factors_at n letters (product m y.0) y.1) f.1) in
    record { turns = n; monomial = product m f.0; enough = omega arith; degree_is = ap (λ k. min (k + more) 256) degree_is ∙ ap (λ k. min (capped (degree_of m) + k) 256) f.2 ∙ capped_sum (degree_of m) (factor_degree f.0); reads = sym one ∙ reads }

-- A monomial goes on behind *.
pub monomial_goes : (letters : List ℕ) (whole : Result (Monomial × Place) Refusal) (d : ℕ) (t start : Place) (more : ℕ) (u : Place) (made : ℕ)
    → is_the_mark 42 t.token ≡ true → u.left < t.left → start ≡ next t.rest → meant (λ f. capped (factor_degree f)) (factor_at letters start) ≡ Ok (more, u) → made ≡ min (d + more) 256
    → MonomialSoFar letters whole d t → MonomialSoFar letters whole made u
monomial_goes letters whole d t start more u made here shorter starts e makes s =
    let at_next = subst (λ (p : Place). meant (λ f. capped (factor_degree f)) (factor_at letters p) ≡ Ok (more, u)) starts e in
    subst (λ (k : ℕ). MonomialSoFar letters whole k u) (sym makes)
    (monomial_goes-at letters whole d t more u here shorter at_next s.turns s.monomial s.enough s.degree_is s.reads)

-- What refuses the factor behind * refuses the monomial, where the loop of the grammar has turns left.
monomial_fails-at : (letters : List ℕ) (whole : Result (Monomial × Place) Refusal) (t : Place) (e : Refusal)
    → is_the_mark 42 t.token ≡ true → 0 < t.left → factor_at letters (next t.rest) ≡ Err e
    → (n : ℕ) (m : Monomial) → t.left ≤ n → factors_at n letters m t ≡ whole → whole ≡ Err e
unfolding factors_at
monomial_fails-at letters whole t e here some h zero m enough reads = absurd (omega arith)
monomial_fails-at letters whole t e here some h (suc n) m enough reads =
    let one : factors_at (suc n) letters m t ≡ Err e = rw here (ap (λ (r : Result (Factor × Place) Refusal). r >>= λ y. factors_at n letters (product m y.0) y.1) h) in
    sym reads ∙ one

-- a refused factor
pub monomial_fails : (letters : List ℕ) (whole : Result (Monomial × Place) Refusal) (d : ℕ) (t start : Place) (e : Refusal)
    → is_the_mark 42 t.token ≡ true → 0 < t.left → start ≡ next t.rest → meant (λ f. capped (factor_degree f)) (factor_at letters start) ≡ Err e
    → MonomialSoFar letters whole d t → meant (λ m. capped (degree_of m)) whole ≡ Err e
monomial_fails letters whole d t start e here some starts h s =
    let read = subst (λ (p : Place). factor_at letters p ≡ Err e) starts (refused_meant (λ f. capped (factor_degree f)) e (factor_at letters start) h) in
    ap (meant (λ m. capped (degree_of m))) (monomial_fails-at letters whole t e here some read s.turns s.monomial s.enough s.reads)

-- A monomial ends where no * stands, whatever turns the loop of the grammar has left.
monomial_ends-at : (letters : List ℕ) (whole : Result (Monomial × Place) Refusal) (t : Place)
    → is_the_mark 42 t.token ≡ false → (n : ℕ) (m : Monomial) → factors_at n letters m t ≡ whole → whole ≡ Ok (m, t)
unfolding factors_at
monomial_ends-at letters whole t here zero m reads = sym reads
monomial_ends-at letters whole t here (suc n) m reads =
    let one : factors_at (suc n) letters m t ≡ Ok (m, t) = rw here refl in
    sym reads ∙ one

-- no further factor
pub monomial_ends : (letters : List ℕ) (whole : Result (Monomial × Place) Refusal) (d : ℕ) (t : Place)
    → is_the_mark 42 t.token ≡ false → MonomialSoFar letters whole d t → meant (λ m. capped (degree_of m)) whole ≡ Ok (d, t)
monomial_ends letters whole d t here s =
    ap (meant (λ m. capped (degree_of m))) (monomial_ends-at letters whole t here s.turns s.monomial s.reads) ∙ ap (λ (k : ℕ). Ok (k, t)) (sym s.degree_is)
