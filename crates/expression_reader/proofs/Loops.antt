-- The loops over powers and over terms, by what the rest of them still reads.
use Rattle.std.proofs.Common.{◌≡◌, ℕ, zero, suc, ◌<◌, ◌≤◌, ◌++◌, true, false, cond, subst, ◌⊎◌, inl, inr, Result, Ok, Err, refl, sym, ap, ◌∙◌, arith}
use Rattle.script_grammar.specs.declared.refusal.Refusal.{Refusal}
use Rattle.sparse_poly.specs.Poly.{Poly, times as poly_times}
use Rattle.sparse_poly.specs.Canonical.{canonical}
use Rattle.script_grammar.specs.Tokens.{Place, next}
use Rattle.script_grammar.specs.Trees.{Power, Term, times, Sum, plus, minus}
use Rattle.script_grammar.specs.Steps.{◌>>=◌}
use Rattle.script_grammar.specs.Words.{is_the_mark}
use Rattle.script_grammar.specs.Expressions.{Declarations, power_at, times_at, term_at, more_at}
use Rattle.script_grammar.specs.Meaning.{Values, in_ring, opposite, power_value, term_value, sum_value}
use Rattle.script_grammar.proofs.Steps.{ok_is}
use Rattle.expression_reader.specs.declared.stop.Stop.{Stop}
use Rattle.expression_reader.specs.declared.stop.Stop.TheVariants as stops
use Rattle.expression_reader.specs.Gives.{Fails, meant}

-- the tree behind a value that was read
pub meant_ok : {A B : Type 0} (f : A → B) (r : Result (A × Place) Refusal) (v : B) (t : Place) → meant f r ≡ Ok (v, t) → (x : A) × (r ≡ Ok (x, t)) × (v ≡ f x)
meant_ok {A} {B} f (Ok x) v t e =
    let h = ok_is (f x.0, x.1) (v, t) e in
    (x.0, ap (λ (y : Place). Ok (x.0, y)) (ap (λ (p : B × Place). p.1) h), sym (ap (λ (p : B × Place). p.0) h))
meant_ok f (Err e) v t h = absurd cc

-- a refusal stays the same, whatever is made of what is read
pub fails_meant : {A B : Type 0} (f : A → B) (e : Stop) (r : Result (A × Place) Refusal) → Fails e (meant f r) → Fails e r
fails_meant f stops.Memory r h = tt
fails_meant f (stops.Refused d) (Ok x) h = absurd cc
fails_meant f (stops.Refused d) (Err x) h = cc

-- What fails in a first step fails in both.
pub fails_on : {A B : Type 0} (f : A → Result B Refusal) (e : Stop) (r : Result A Refusal) → Fails e r → Fails e (r >>= f)
fails_on f stops.Memory r h = tt
fails_on f (stops.Refused d) (Ok x) h = absurd cc
fails_on f (stops.Refused d) (Err x) h = cc

-- the loop over powers has read the tree, and what it still reads makes the whole
pub record TermSoFar (inner : Place → Result (Sum × Place) Refusal) (known : Declarations) (v : Values) (whole : Result (Term × Place) Refusal) (value : Poly) (t : Place) : Type 0 where
  pub turns : ℕ
  pub tree : Term
  pub enough : t.left ≤ turns
  pub value_is : value ≡ term_value v tree
  pub reads : times_at inner known turns tree t ≡ whole

-- A term goes on behind *, where the loop of the grammar has turns left.
term_goes_on-at : (inner : Place → Result (Sum × Place) Refusal) (known : Declarations) (v : Values) (whole : Result (Term × Place) Refusal) (value : Poly) (t : Place) (factor : Poly) (u : Place)
    → is_the_mark 42 t.token ≡ true → u.left < t.left → meant (power_value v) (power_at inner known (next t.rest)) ≡ Ok (factor, u) → (n : ℕ) (tree : Term) → t.left ≤ n → value ≡ term_value v tree → times_at inner known n tree t ≡ whole
    → TermSoFar inner known v whole (in_ring v (poly_times value factor)) u
unfolding times_at term_value
term_goes_on-at inner known v whole value t factor u here shorter e zero tree enough value_is reads = absurd (omega arith)
term_goes_on-at inner known v whole value t factor u here shorter e (suc n) tree enough value_is reads =
    let m = meant_ok (power_value v) (power_at inner known (next t.rest)) factor u e in
    let one : times_at inner known (suc n) tree t ≡ times_at inner known n (times tree m.0) u = rw here (ap (λ (r : Result (Power × Place) Refusal). r >>= λ y. times_at inner known n (times tree y.0) y.1) m.1) in
    record { turns = n; tree = times tree m.0; enough = omega arith; value_is = rw (← value_is, ← m.2) refl; reads = sym one ∙ reads }

-- A term goes on behind *.
pub term_goes_on : (inner : Place → Result (Sum × Place) Refusal) (known : Declarations) (v : Values) (whole : Result (Term × Place) Refusal) (value : Poly) (t : Place) (factor : Poly) (u : Place)
    → is_the_mark 42 t.token ≡ true → u.left < t.left → meant (power_value v) (power_at inner known (next t.rest)) ≡ Ok (factor, u) → TermSoFar inner known v whole value t
    → TermSoFar inner known v whole (in_ring v (poly_times value factor)) u
term_goes_on inner known v whole value t factor u here shorter e s = term_goes_on-at inner known v whole value t factor u here shorter e s.turns s.tree s.enough s.value_is s.reads

-- What refuses the power behind * refuses the term, where the loop of the grammar has turns left.
term_fails-at : (inner : Place → Result (Sum × Place) Refusal) (known : Declarations) (v : Values) (whole : Result (Term × Place) Refusal) (value : Poly) (t : Place) (e : Stop)
    → is_the_mark 42 t.token ≡ true → 0 < t.left → Fails e (meant (power_value v) (power_at inner known (next t.rest))) → (n : ℕ) (tree : Term) → t.left ≤ n → value ≡ term_value v tree → times_at inner known n tree t ≡ whole
    → Fails e (meant (term_value v) whole)
unfolding times_at
term_fails-at inner known v whole value t e here some h zero tree enough value_is reads = absurd (omega arith)
term_fails-at inner known v whole value t e here some h (suc n) tree enough value_is reads =
    let f = λ (y : Power × Place). times_at inner known n (times tree y.0) y.1 in
    let one : (power_at inner known (next t.rest) >>= f) ≡ whole = sym (ap (λ b. cond b (power_at inner known (next t.rest) >>= f) (Ok (tree, t))) here) ∙ reads in
    fails_on (λ x. Ok (term_value v x.0, x.1)) e whole (subst (λ w. Fails e w) one (fails_on f e (power_at inner known (next t.rest)) (fails_meant (power_value v) e (power_at inner known (next t.rest)) h)))

-- What refuses the power behind * refuses the term.
pub term_fails : (inner : Place → Result (Sum × Place) Refusal) (known : Declarations) (v : Values) (whole : Result (Term × Place) Refusal) (value : Poly) (t : Place) (e : Stop)
    → is_the_mark 42 t.token ≡ true → 0 < t.left → Fails e (meant (power_value v) (power_at inner known (next t.rest))) → TermSoFar inner known v whole value t
    → Fails e (meant (term_value v) whole)
term_fails inner known v whole value t e here some h s = term_fails-at inner known v whole value t e here some h s.turns s.tree s.enough s.value_is s.reads

-- A term ends where no * stands, whatever turns the loop of the grammar has left.
term_ends-at : (inner : Place → Result (Sum × Place) Refusal) (known : Declarations) (v : Values) (whole : Result (Term × Place) Refusal) (value : Poly) (t : Place)
    → is_the_mark 42 t.token ≡ false → (n : ℕ) (tree : Term) → t.left ≤ n → value ≡ term_value v tree → times_at inner known n tree t ≡ whole → meant (term_value v) whole ≡ Ok (value, t)
unfolding times_at
term_ends-at inner known v whole value t here zero tree enough value_is reads = rw (← reads, value_is) refl
term_ends-at inner known v whole value t here (suc n) tree enough value_is reads =
    let one : times_at inner known (suc n) tree t ≡ Ok (tree, t) = rw here refl in
    rw (← reads, one, value_is) refl

-- A term ends where no * stands.
pub term_ends : (inner : Place → Result (Sum × Place) Refusal) (known : Declarations) (v : Values) (whole : Result (Term × Place) Refusal) (value : Poly) (t : Place)
    → is_the_mark 42 t.token ≡ false → TermSoFar inner known v whole value t → meant (term_value v) whole ≡ Ok (value, t)
term_ends inner known v whole value t here s = term_ends-at inner known v whole value t here s.turns s.tree s.enough s.value_is s.reads

-- the same, by what the code knows
pub term_goes : (inner : Place → Result (Sum × Place) Refusal) (known : Declarations) (v : Values) (whole : Result (Term × Place) Refusal) (value : Poly) (t : Place) (factor : Poly) (u start : Place) (made : Poly)
    → is_the_mark 42 t.token ≡ true → u.left < t.left → start ≡ next t.rest → made ≡ in_ring v (poly_times value factor)
    → meant (power_value v) (power_at inner known start) ≡ Ok (factor, u) → TermSoFar inner known v whole value t → TermSoFar inner known v whole made u
term_goes inner known v whole value t factor u start made here shorter starts makes e s =
    let g = subst (λ (x : Place). meant (power_value v) (power_at inner known x) ≡ Ok (factor, u)) starts e in
    subst (λ (k : Poly). TermSoFar inner known v whole k u) (sym makes) (term_goes_on inner known v whole value t factor u here shorter g s)

-- the same for terms
pub record SumSoFar (inner : Place → Result (Sum × Place) Refusal) (known : Declarations) (v : Values) (whole : Result (Sum × Place) Refusal) (value : Poly) (t : Place) : Type 0 where
  pub turns : ℕ
  pub tree : Sum
  pub enough : t.left ≤ turns
  pub value_is : value ≡ sum_value v tree
  pub reads : more_at inner known turns tree t ≡ whole

-- A sum goes on behind +, where the loop of the grammar has turns left.
sum_adds-at : (inner : Place → Result (Sum × Place) Refusal) (known : Declarations) (v : Values) (whole : Result (Sum × Place) Refusal) (value : Poly) (t : Place) (other : Poly) (u : Place)
    → is_the_mark 43 t.token ≡ true → u.left < t.left → meant (term_value v) (term_at inner known (next t.rest)) ≡ Ok (other, u) → (n : ℕ) (tree : Sum) → t.left ≤ n → value ≡ sum_value v tree → more_at inner known n tree t ≡ whole
    → SumSoFar inner known v whole (canonical v.p (value ++ other)) u
unfolding more_at sum_value
sum_adds-at inner known v whole value t other u here shorter e zero tree enough value_is reads = absurd (omega arith)
sum_adds-at inner known v whole value t other u here shorter e (suc n) tree enough value_is reads =
    let m = meant_ok (term_value v) (term_at inner known (next t.rest)) other u e in
    let one : more_at inner known (suc n) tree t ≡ more_at inner known n (plus tree m.0) u = rw here (ap (λ (r : Result (Term × Place) Refusal). r >>= λ y. more_at inner known n (plus tree y.0) y.1) m.1) in
    record { turns = n; tree = plus tree m.0; enough = omega arith; value_is = rw (← value_is, ← m.2) refl; reads = sym one ∙ reads }

-- A sum goes on behind +.
pub sum_adds : (inner : Place → Result (Sum × Place) Refusal) (known : Declarations) (v : Values) (whole : Result (Sum × Place) Refusal) (value : Poly) (t : Place) (other : Poly) (u : Place)
    → is_the_mark 43 t.token ≡ true → u.left < t.left → meant (term_value v) (term_at inner known (next t.rest)) ≡ Ok (other, u) → SumSoFar inner known v whole value t
    → SumSoFar inner known v whole (canonical v.p (value ++ other)) u
sum_adds inner known v whole value t other u here shorter e s = sum_adds-at inner known v whole value t other u here shorter e s.turns s.tree s.enough s.value_is s.reads

-- A sum goes on behind -, where the loop of the grammar has turns left.
sum_subtracts-at : (inner : Place → Result (Sum × Place) Refusal) (known : Declarations) (v : Values) (whole : Result (Sum × Place) Refusal) (value : Poly) (t : Place) (other : Poly) (u : Place)
    → is_the_mark 43 t.token ≡ false → is_the_mark 45 t.token ≡ true → u.left < t.left → meant (term_value v) (term_at inner known (next t.rest)) ≡ Ok (other, u) → (n : ℕ) (tree : Sum) → t.left ≤ n → value ≡ sum_value v tree → more_at inner known n tree t ≡ whole
    → SumSoFar inner known v whole (canonical v.p (value ++ opposite v.p other)) u
unfolding more_at sum_value
sum_subtracts-at inner known v whole value t other u unlike here shorter e zero tree enough value_is reads = absurd (omega arith)
sum_subtracts-at inner known v whole value t other u unlike here shorter e (suc n) tree enough value_is reads =
    let m = meant_ok (term_value v) (term_at inner known (next t.rest)) other u e in
    let one : more_at inner known (suc n) tree t ≡ more_at inner known n (minus tree m.0) u = rw (unlike, here) (ap (λ (r : Result (Term × Place) Refusal). r >>= λ y. more_at inner known n (minus tree y.0) y.1) m.1) in
    record { turns = n; tree = minus tree m.0; enough = omega arith; value_is = rw (← value_is, ← m.2) refl; reads = sym one ∙ reads }

-- A sum goes on behind -.
pub sum_subtracts : (inner : Place → Result (Sum × Place) Refusal) (known : Declarations) (v : Values) (whole : Result (Sum × Place) Refusal) (value : Poly) (t : Place) (other : Poly) (u : Place)
    → is_the_mark 43 t.token ≡ false → is_the_mark 45 t.token ≡ true → u.left < t.left → meant (term_value v) (term_at inner known (next t.rest)) ≡ Ok (other, u) → SumSoFar inner known v whole value t
    → SumSoFar inner known v whole (canonical v.p (value ++ opposite v.p other)) u
sum_subtracts inner known v whole value t other u unlike here shorter e s = sum_subtracts-at inner known v whole value t other u unlike here shorter e s.turns s.tree s.enough s.value_is s.reads

-- What refuses the term behind + or - refuses the sum, where the loop of the grammar has turns left.
sum_fails-at : (inner : Place → Result (Sum × Place) Refusal) (known : Declarations) (v : Values) (whole : Result (Sum × Place) Refusal) (value : Poly) (t : Place) (e : Stop)
    → (is_the_mark 43 t.token ≡ true) ⊎ (is_the_mark 43 t.token ≡ false) × (is_the_mark 45 t.token ≡ true) → 0 < t.left → Fails e (meant (term_value v) (term_at inner known (next t.rest))) → (n : ℕ) (tree : Sum) → t.left ≤ n → value ≡ sum_value v tree → more_at inner known n tree t ≡ whole
    → Fails e (meant (sum_value v) whole)
unfolding more_at
sum_fails-at inner known v whole value t e here some h zero tree enough value_is reads = absurd (omega arith)
sum_fails-at inner known v whole value t e (inl here) some h (suc n) tree enough value_is reads =
    let f = λ (y : Term × Place). more_at inner known n (plus tree y.0) y.1 in
    let one : (term_at inner known (next t.rest) >>= f) ≡ more_at inner known (suc n) tree t = rw here refl in
    fails_on (λ x. Ok (sum_value v x.0, x.1)) e whole (subst (λ w. Fails e w) (one ∙ reads) (fails_on f e (term_at inner known (next t.rest)) (fails_meant (term_value v) e (term_at inner known (next t.rest)) h)))
sum_fails-at inner known v whole value t e (inr here) some h (suc n) tree enough value_is reads =
    let f = λ (y : Term × Place). more_at inner known n (minus tree y.0) y.1 in
    let one : (term_at inner known (next t.rest) >>= f) ≡ more_at inner known (suc n) tree t = rw (here.0, here.1) refl in
    fails_on (λ x. Ok (sum_value v x.0, x.1)) e whole (subst (λ w. Fails e w) (one ∙ reads) (fails_on f e (term_at inner known (next t.rest)) (fails_meant (term_value v) e (term_at inner known (next t.rest)) h)))

-- What refuses the term behind + or - refuses the sum.
pub sum_fails : (inner : Place → Result (Sum × Place) Refusal) (known : Declarations) (v : Values) (whole : Result (Sum × Place) Refusal) (value : Poly) (t : Place) (e : Stop)
    → (is_the_mark 43 t.token ≡ true) ⊎ (is_the_mark 43 t.token ≡ false) × (is_the_mark 45 t.token ≡ true) → 0 < t.left → Fails e (meant (term_value v) (term_at inner known (next t.rest))) → SumSoFar inner known v whole value t
    → Fails e (meant (sum_value v) whole)
sum_fails inner known v whole value t e which some h s = sum_fails-at inner known v whole value t e which some h s.turns s.tree s.enough s.value_is s.reads

-- A sum ends where neither + nor - stands, whatever turns the loop of the grammar has left.
sum_ends-at : (inner : Place → Result (Sum × Place) Refusal) (known : Declarations) (v : Values) (whole : Result (Sum × Place) Refusal) (value : Poly) (t : Place)
    → is_the_mark 43 t.token ≡ false → is_the_mark 45 t.token ≡ false → (n : ℕ) (tree : Sum) → t.left ≤ n → value ≡ sum_value v tree → more_at inner known n tree t ≡ whole → meant (sum_value v) whole ≡ Ok (value, t)
unfolding more_at
sum_ends-at inner known v whole value t no_plus no_minus zero tree enough value_is reads = rw (← reads, value_is) refl
sum_ends-at inner known v whole value t no_plus no_minus (suc n) tree enough value_is reads =
    let one : more_at inner known (suc n) tree t ≡ Ok (tree, t) = rw (no_plus, no_minus) refl in
    rw (← reads, one, value_is) refl

-- A sum ends where neither + nor - stands.
pub sum_ends : (inner : Place → Result (Sum × Place) Refusal) (known : Declarations) (v : Values) (whole : Result (Sum × Place) Refusal) (value : Poly) (t : Place)
    → is_the_mark 43 t.token ≡ false → is_the_mark 45 t.token ≡ false → SumSoFar inner known v whole value t → meant (sum_value v) whole ≡ Ok (value, t)
sum_ends inner known v whole value t no_plus no_minus s = sum_ends-at inner known v whole value t no_plus no_minus s.turns s.tree s.enough s.value_is s.reads

-- A sum goes on behind +, from the place where the term begins.
pub sum_adds_on : (inner : Place → Result (Sum × Place) Refusal) (known : Declarations) (v : Values) (whole : Result (Sum × Place) Refusal) (value : Poly) (t : Place) (other : Poly) (u start : Place) (made : Poly)
    → is_the_mark 43 t.token ≡ true → u.left < t.left → start ≡ next t.rest → made ≡ canonical v.p (value ++ other)
    → meant (term_value v) (term_at inner known start) ≡ Ok (other, u) → SumSoFar inner known v whole value t → SumSoFar inner known v whole made u
sum_adds_on inner known v whole value t other u start made here shorter starts makes e s =
    let g = subst (λ (x : Place). meant (term_value v) (term_at inner known x) ≡ Ok (other, u)) starts e in
    subst (λ (k : Poly). SumSoFar inner known v whole k u) (sym makes) (sum_adds inner known v whole value t other u here shorter g s)

-- A sum goes on behind -, from the place where the term begins.
pub sum_subtracts_on : (inner : Place → Result (Sum × Place) Refusal) (known : Declarations) (v : Values) (whole : Result (Sum × Place) Refusal) (value : Poly) (t : Place) (other : Poly) (u start : Place) (made : Poly)
    → is_the_mark 43 t.token ≡ false → is_the_mark 45 t.token ≡ true → u.left < t.left → start ≡ next t.rest → made ≡ canonical v.p (value ++ opposite v.p other)
    → meant (term_value v) (term_at inner known start) ≡ Ok (other, u) → SumSoFar inner known v whole value t → SumSoFar inner known v whole made u
sum_subtracts_on inner known v whole value t other u start made unlike here shorter starts makes e s =
    let g = subst (λ (x : Place). meant (term_value v) (term_at inner known x) ≡ Ok (other, u)) starts e in
    subst (λ (k : Poly). SumSoFar inner known v whole k u) (sym makes) (sum_subtracts inner known v whole value t other u unlike here shorter g s)

-- What refuses the term that begins behind + or - refuses the sum.
pub sum_fails_on : (inner : Place → Result (Sum × Place) Refusal) (known : Declarations) (v : Values) (whole : Result (Sum × Place) Refusal) (value : Poly) (t start : Place) (e : Stop)
    → (is_the_mark 43 t.token ≡ true) ⊎ (is_the_mark 43 t.token ≡ false) × (is_the_mark 45 t.token ≡ true) → 0 < t.left → start ≡ next t.rest → Fails e (meant (term_value v) (term_at inner known start)) → SumSoFar inner known v whole value t
    → Fails e (meant (sum_value v) whole)
sum_fails_on inner known v whole value t start e which some starts h s =
    sum_fails inner known v whole value t e which some (subst (λ (x : Place). Fails e (meant (term_value v) (term_at inner known x))) starts h) s

-- What refuses the power that begins behind * refuses the term.
pub term_fails_on : (inner : Place → Result (Sum × Place) Refusal) (known : Declarations) (v : Values) (whole : Result (Term × Place) Refusal) (value : Poly) (t start : Place) (e : Stop)
    → is_the_mark 42 t.token ≡ true → 0 < t.left → start ≡ next t.rest → Fails e (meant (power_value v) (power_at inner known start)) → TermSoFar inner known v whole value t
    → Fails e (meant (term_value v) whole)
term_fails_on inner known v whole value t start e here some starts h s =
    term_fails inner known v whole value t e here some (subst (λ (x : Place). Fails e (meant (power_value v) (power_at inner known x))) starts h) s
