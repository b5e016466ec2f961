-- What the loops of the reader keep: what was read so far, in front of what reading goes on with, is what is read.
use Rattle.std.proofs.Common.{◌≡◌, ℕ, suc, ◌+◌, ◌-◌, ◌<◌, ◌≤◌, List, [], ◌∷◌, ◌++◌, length, Option, Some, None, Result, Ok, Err, refl, sym, ◌∙◌, ap, append_assoc, arith}
use Rattle.std.proofs.lemmas.List.{append-nil}
use Rattle.sparse_poly.specs.Poly.{Polynomial}
use Rattle.cert_grammar.specs.Lines.{Line}
use Rattle.cert_grammar.specs.Words.{Ring}
use Rattle.entry_code.specs.declared.reading.Reading.{Reading}
use Rattle.cert_grammar.specs.declared.entry.Step.{Step}
use Rattle.cert_grammar.specs.declared.entry.Step.TheVariants.{OneMore, Last}
use Rattle.cert_text.specs.declared.stop.Stop.{Stop}
use Rattle.cert_text.specs.declared.stop.Stop.TheVariants.{Form, Memory}
use Rattle.cert_text.specs.Gives.{Stops, with_front, with_items}
use Rattle.cert_grammar.specs.Reading.{Read, ◌>>=◌, times_at, taken, line_at, step_of, reads_from, reads_at}
use Rattle.cert_grammar.proofs.Tools.{ok_same, err_same}
use Rattle.cert_grammar.proofs.Parts.{step_read, reads_step, reads_end}

-- readings in front of others
front_front : (rs : List Reading) (x : Reading) (z : Result ((List Reading × Polynomial) × List Line) (List Line)) → with_front (rs ++ x ∷ []) z ≡ with_front rs (z >>= reads_from x)
front_front rs x (Ok y) = ap (λ (z : List Reading). Ok ((z, y.0.1), y.1)) (append_assoc rs (x ∷ []) y.0.0)
front_front rs x (Err s) = refl

-- a line that was taken
pub record Took (r : Ring) (s : List Line) (step : Step) (t : List Line) : Type 0 where
  pub shorter : length t < length s
  pub reads : reads_at r s ≡ elim step [ Last f ↦ Ok (([], f), t) | OneMore x ↦ reads_at r t >>= reads_from x ]

-- a line that was taken tells what reading goes on with
pub took : (r : Ring) (s : List Line) (step : Step) (t : List Line) → line_at (step_of r) s ≡ Ok (step, t) → Took r s step t
took r [] step t e = absurd (cc)
took r (l ∷ ls) step t e = go (step_of r l) refl e
  where
    told : (a : Step) → step_of r l ≡ Some a → a ≡ step → ls ≡ t → Took r (l ∷ ls) step t
    told a is u v = record {
      shorter = let w : length ls ≡ length t = ap (λ (z : List Line). length z) v in omega (arith, w);
      reads = reads_step r l ls ∙ ap (step_read r l ls) is ∙ ap (λ (z : Step). step_read r l ls (Some z)) u
          ∙ ap (λ (z : List Line). elim step [ Last f ↦ Ok (([], f), z) | OneMore x ↦ reads_at r z >>= reads_from x ]) v;
    }

    go : (o : Option Step) → step_of r l ≡ o → taken l ls o ≡ Ok (step, t) → Took r (l ∷ ls) step t
    go None is p = absurd (cc)
    go (Some a) is p =
        let q : (a, ls) ≡ (step, t) = ok_same (taken l ls (Some a)) (a, ls) (step, t) refl p in
        told a is (ap (λ (z : Step × List Line). z.0) q) (ap (λ (z : Step × List Line). z.1) q)

-- a reading was taken
pub took_more : (r : Ring) (s t : List Line) (x : Reading) (rs : List Reading) (step : Step) → step ≡ OneMore x → line_at (step_of r) s ≡ Ok (step, t) → with_front (rs ++ x ∷ []) (reads_at r t) ≡ with_front rs (reads_at r s)
took_more r s t x rs step is e = front_front rs x (reads_at r t) ∙ ap (with_front rs) (sym (took r s (OneMore x) t (e ∙ ap (λ (z : Step). Ok (z, t)) is)).reads)

-- the polynomial was taken
pub took_last : (r : Ring) (s t : List Line) (f : Polynomial) (rs : List Reading) (step : Step) → step ≡ Last f → line_at (step_of r) s ≡ Ok (step, t) → with_front rs (reads_at r s) ≡ Ok ((rs, f), t)
took_last r s t f rs step is e = ap (with_front rs) (took r s (Last f) t (e ∙ ap (λ (z : Step). Ok (z, t)) is)).reads ∙ ap (λ (z : List Reading). Ok ((z, f), t)) (append-nil rs)

-- a line that is refused refuses the readings
pub took_none : (r : Ring) (s t : List Line) (rs : List Reading) → line_at (step_of r) s ≡ Err t → with_front rs (reads_at r s) ≡ Err t
took_none r [] t rs e = ap (with_front rs) (reads_end r) ∙ again
  where
    alike : [] ≡ t
    alike = err_same (line_at (step_of r) []) [] t refl e

    again : ◌≡◌ {A = Result ((List Reading × Polynomial) × List Line) (List Line)} (Err []) (Err t)
    again = ap (λ z. Err z) alike
took_none r (l ∷ ls) t rs e = go (step_of r l) refl e
  where
    go : (o : Option Step) → step_of r l ≡ o → taken l ls o ≡ Err t → with_front rs (reads_at r (l ∷ ls)) ≡ Err t
    go (Some a) is p = absurd (cc)
    go None is p =
        let q : l ∷ ls ≡ t = err_same (taken l ls None) (l ∷ ls) t refl p in
        ap (with_front rs) (reads_step r l ls ∙ ap (step_read r l ls) is) ∙ ap (λ z. Err z) q

-- where a line is refused, the readings are
pub took_stop : (r : Ring) (stop : Stop) (s t : List Line) (rs : List Reading) (all : Result ((List Reading × Polynomial) × List Line) (List Line)) →
    Stops stop t (line_at (step_of r) s) → with_front rs (reads_at r s) ≡ all → Stops stop t all
took_stop r Form s t rs all h e = sym e ∙ took_none r s t rs h
took_stop r Memory s t rs all h e = tt

-- ---- so many parts
-- members in front of others
pub cons_items : {A : Type 0} (xs : List A) (x : A) (z : Result (List A × List Line) (List Line)) → with_items (xs ++ x ∷ []) z ≡ with_items xs (z >>= λ y. Ok (x ∷ y.0, y.1))
cons_items xs x (Ok y) = ap (λ z. Ok (z, y.1)) (append_assoc xs (x ∷ []) y.0)
cons_items xs x (Err s) = refl

-- the first of so many
times_first : {A : Type 0} (F : ℕ → Read A) (n i : ℕ) (s t : List Line) (x : A) → F i s ≡ Ok (x, t) → times_at F (suc n) i s ≡ times_at F n (suc i) t >>= λ y. Ok (x ∷ y.0, y.1)
times_first F n i s t x e = ap (λ z. z >>= λ x. (times_at F n (suc i) x.1 >>= λ y. Ok (x.0 ∷ y.0, y.1))) e

-- one more was read
pub times_more : {A : Type 0} (F : ℕ → Read A) (count i : ℕ) (s t : List Line) (x : A) (xs : List A) → i < count → F i s ≡ Ok (x, t) →
    with_items (xs ++ x ∷ []) (times_at F (count - (i + 1)) (i + 1) t) ≡ with_items xs (times_at F (count - i) i s)
times_more F count i s t x xs h e =
    let n : ℕ = count - suc i in
    let p : count - (i + 1) ≡ n = omega arith in
    let q : i + 1 ≡ suc i = omega arith in
    let r : count - i ≡ suc n = omega arith in
    ap (λ k. with_items (xs ++ x ∷ []) (times_at F k (i + 1) t)) p
    ∙ ap (λ k. with_items (xs ++ x ∷ []) (times_at F n k t)) q
    ∙ cons_items xs x (times_at F n (suc i) t)
    ∙ ap (with_items xs) (sym (times_first F n i s t x e))
    ∙ ap (λ k. with_items xs (times_at F k i s)) (sym r)

-- where one is refused, all are
pub times_stop : {A : Type 0} (F : ℕ → Read A) (stop : Stop) (count i : ℕ) (s t : List Line) (xs : List A) (all : Result (List A × List Line) (List Line)) → i < count →
    Stops stop t (F i s) → with_items xs (times_at F (count - i) i s) ≡ all → Stops stop t all
times_stop F Memory count i s t xs all h k e = tt
times_stop F Form count i s t xs all h k e =
    let n : ℕ = count - suc i in
    let r : count - i ≡ suc n = omega arith in
    sym e ∙ ap (λ k. with_items xs (times_at F k i s)) r ∙ ap (λ z. with_items xs (z >>= λ x. (times_at F n (suc i) x.1 >>= λ y. Ok (x.0 ∷ y.0, y.1)))) k

-- all were read
pub times_end : {A : Type 0} (F : ℕ → Read A) (count i : ℕ) (s : List Line) (xs : List A) → count ≤ i → with_items xs (times_at F (count - i) i s) ≡ Ok (xs, s)
times_end F count i s xs h =
    let r : count - i ≡ 0 = omega arith in
    ap (λ k. with_items xs (times_at F k i s)) r ∙ ap (λ z. Ok (z, s)) (append-nil xs)
