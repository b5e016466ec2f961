-- The noether monomial, whose degree is tested at its first token, once all of it was read.
-- Factors, the loop over them, and the test as a late one.
use Rattle.std.proofs.Common.{◌≡◌, ℕ, Bool, true, false, cond, not, ◌&&◌, ◌||◌, eqb, List, [], ◌∷◌, ◌++◌, length, Option, Some, None, Result, Ok, refl, sym, ap, subst, ◌∙◌, nat_lt, append_assoc}
use Rattle.std.specs.Prelude.{codes}
use Rattle.std.proofs.lemmas.Bool.{and_parts, eqb-true}
use Rattle.std.proofs.lemmas.List.{append-nil}
use Rattle.local_order.specs.Count.{monomial_count}
use Rattle.script_grammar.specs.declared.refusal.Refusal.{Refusal}
use Rattle.script_grammar.specs.declared.refusal.ReadKind.{ReadKind}
use Rattle.script_grammar.specs.declared.refusal.What.TheVariants as whats
use Rattle.script_grammar.specs.declared.refusal.ReadKind.TheVariants.{Expected, UnknownName, ExponentTooLarge, NoetherDegree, TooManyMonomials}
use Rattle.script_grammar.specs.Tokens.{Token, Place, next, mark, word}
use Rattle.script_grammar.specs.Words.{is_named, is_short, has_large, is_the_mark, is_word, word_of}
use Rattle.script_grammar.specs.Trees.{Factor, short_word, raised_letter, factor_tokens, Monomial, factor, product, monomial_tokens, noether_tokens, one}
use Rattle.script_grammar.specs.Steps.{◌>>=◌, refused, mark_at, exponent_at}
use Rattle.script_grammar.specs.Statements.{factor_at, factors_at, degree_of, noether_at, monomial_at}
use Rattle.script_grammar.specs.Formed.{FormedFactor, FormedMonomial}
use Rattle.script_grammar.specs.First.{IsLate}
use Rattle.script_grammar.proofs.Steps.{mark_is}
use Rattle.script_grammar.proofs.ByTokens.{Reader, Local, local_done, local_refuse, local_to, local_same, local_next, local_cases, local_if}
use Rattle.script_grammar.proofs.ByTokensInTurn.{local_then, local_mark, local_map, local_behind, bind_assoc}
use Rattle.script_grammar.proofs.LoopsByTokens.{NotEmpty, IsLoop, local_loop}
use Rattle.script_grammar.proofs.LateRefusals.{LateAt, tested, late_test, late_split}
use Rattle.script_grammar.proofs.OperandsByTokens.{exponent_local}
use Rattle.script_grammar.proofs.ExpressionsByTokens.{no_mark}
use Rattle.script_grammar.proofs.RingByTokens.{a_name, name_spelled}

abbrev SpellsFactor : Factor → List Token → Type 0
SpellsFactor f tokens = (factor_tokens f ≡ tokens) × FormedFactor f

-- behind the word of a factor
abbrev raise : List ℕ → Reader Factor
raise w t = cond (eqb (length w) 1 && is_the_mark 94 t.token) (exponent_at (next t.rest) >>= λ n. Ok (raised_letter w n.0, n.1)) (Ok (short_word w, t))

-- What is read behind the word of a factor is told by the tokens.
raise_local : {n : ℕ} {W : Token → Type 0} (w : List ℕ) → is_named w ≡ true → Local IsLate Factor n W (raise w) (λ f b. SpellsFactor f (word w ∷ b))
raise_local w named =
    local_if (λ i. eqb (length w) 1 && is_the_mark 94 i)
    (local_next (λ t. exponent_at t >>= λ n. Ok (raised_letter w n.0, n.1)) (short_word w, [], (refl, named)) (λ i h.
    let p = and_parts (eqb (length w) 1) (is_the_mark 94 i) h.1 in
    local_map (raised_letter w) exponent_local (λ d b e.
    (ap (λ (z : List Token). word w ∷ mark 94 ∷ z) e.0 ∙ ap (λ (k : Token). word w ∷ k ∷ b) (sym (mark_is 94 i p.1)), (named, eqb-true (length w) 1 p.0, e.1)))))
    (local_done (short_word w) (refl, named))

-- A factor is read, or refused, by its tokens.
factor_local : {n : ℕ} {W : Token → Type 0} (letters : List ℕ) → Local IsLate Factor n W (factor_at letters) SpellsFactor
unfolding factor_at
factor_local letters =
    let some : (f : Factor) × (tokens : List Token) × SpellsFactor f tokens = (short_word a_name, one (word a_name), (refl, refl)) in
    local_if (λ i. not (is_word i && is_named (word_of i))) (local_refuse (Expected whats.Monomial) some)
    (local_if (λ i. not (is_short letters (word_of i))) (local_refuse UnknownName some)
    (local_if (λ i. has_large (word_of i)) (local_refuse ExponentTooLarge some)
    (local_cases (λ i t. raise (word_of i) (next t.rest)) some (λ i w.
    let s = name_spelled i w.0.0.1 in
    local_behind i (λ j same. same) (local_to (λ f b l. (l.0 ∙ ap (λ (z : List Token). z ++ b) s.0, l.1)) (raise_local (word_of i) s.1))))))

abbrev SpellsMonomial : Monomial → List Token → Type 0
SpellsMonomial m tokens = (monomial_tokens m ≡ tokens) × FormedMonomial m

-- behind a monomial
abbrev GoesMonomial : Monomial → Monomial → List Token → Type 0
GoesMonomial y x tokens = (monomial_tokens x ≡ monomial_tokens y ++ tokens) × (FormedMonomial y → FormedMonomial x)

abbrev StarFactor : Factor → List Token → Type 0
StarFactor f tokens = (mark 42 ∷ factor_tokens f ≡ tokens) × FormedFactor f

-- the loop over factors
abbrev pub factors_on : List ℕ → ℕ → Monomial → Reader Monomial
factors_on letters n m t = factors_at n letters m t

-- Factors behind * are read by a loop.
pub factors_loop : (letters : List ℕ) → IsLoop Monomial Factor Monomial (λ y i. is_the_mark 42 i) (λ y t. factor_at letters (next t.rest)) product (λ y t. Ok (y, t)) (factors_on letters)
unfolding factors_at
factors_loop letters = record { step = λ n y t. refl; base = λ y t h. refl; over = λ y i h. no_mark 42 i h }

-- The loop over factors reads, or refuses, by the tokens.
factors_local : {n : ℕ} {W : Token → Type 0} (letters : List ℕ) (y : Monomial) → Local IsLate Monomial n W (λ t. factors_on letters t.left y t) (GoesMonomial y)
factors_local letters y =
    local_loop _ Monomial Factor Monomial (λ y i. is_the_mark 42 i) (λ y t. factor_at letters (next t.rest)) product (λ y t. Ok (y, t)) (factors_on letters) (λ y. Unit {0}) (λ y. StarFactor) GoesMonomial (factors_loop letters)
    (record {
      items = λ n y good. local_behind (mark 42) (λ i w. mark_is 42 i w) (local_to (λ x a l. (ap (λ (z : List Token). mark 42 ∷ z) l.0, l.1)) (factor_local letters));
      takes = λ y f tokens g. subst NotEmpty g.0 tt;
      keeps = λ y f tokens good g. tt;
      stops = λ n y good. local_done y (sym (append-nil (monomial_tokens y)), λ v. v);
      more = λ y f a x b g l. (
        l.0 ∙ append_assoc (monomial_tokens y) (mark 42 ∷ factor_tokens f) b ∙ ap (λ (z : List Token). monomial_tokens y ++ (z ++ b)) g.0,
        λ v. l.1 (v, g.1),
      );
    }) y tt

-- The noether monomial is read, or refused, by its tokens.
monomial_local : {n : ℕ} {W : Token → Type 0} (letters : List ℕ) → Local IsLate Monomial n W (monomial_at letters) SpellsMonomial
monomial_local letters =
    local_then _ (factor_local letters) (λ f a l.
    local_to (λ x b g. (g.0 ∙ ap (λ (z : List Token). z ++ b) l.0, g.1 l.1)) (factors_local letters (factor f)))

-- the two tests of the degree
abbrev degree_test : List ℕ → Monomial → Option ReadKind
degree_test letters m =
    cond (eqb (degree_of m) 0 || nat_lt 255 (degree_of m)) (Some NoetherDegree)
    (cond (nat_lt 4096 (monomial_count (length letters) (degree_of m))) (Some (TooManyMonomials (monomial_count (length letters) (degree_of m)))) None)

-- the ; behind the monomial
abbrev finish : Monomial × Place → Result (Monomial × Place) Refusal
finish m = mark_at 59 whats.Operator m.1 >>= λ after. Ok (m.0, after)

-- the two tests of the degree, and then the ;
abbrev checked : List ℕ → Place → Monomial × Place → Result (Monomial × Place) Refusal
checked letters start m =
    cond (eqb (degree_of m.0) 0 || nat_lt 255 (degree_of m.0)) (refused start NoetherDegree)
    (cond (nat_lt 4096 (monomial_count (length letters) (degree_of m.0))) (refused start (TooManyMonomials (monomial_count (length letters) (degree_of m.0)))) (finish m))

-- Two tests before a step are one late test and the step.
check_split : (p q : Bool) (start : Place) (a b : ReadKind) (m : Monomial × Place)
    → cond p (refused start a) (cond q (refused start b) (finish m)) ≡ (tested start m (cond p (Some a) (cond q (Some b) None)) >>= finish)
check_split true q start a b m = refl
check_split false true start a b m = refl
check_split false false start a b m = refl

-- The tests of the degree are one late test of the monomial.
checked_split : (letters : List ℕ) (start : Place) → (monomial_at letters start >>= checked letters start) ≡ (monomial_at letters start >>= (λ y. tested start y (degree_test letters y.0)) >>= finish)
checked_split letters start =
    late_split start (monomial_at letters start) (degree_test letters) finish (checked letters start) (λ m.
    check_split (eqb (degree_of m.0) 0 || nat_lt 255 (degree_of m.0)) (nat_lt 4096 (monomial_count (length letters) (degree_of m.0))) start NoetherDegree (TooManyMonomials (monomial_count (length letters) (degree_of m.0))) m)

-- What the tests of the degree refuse is known behind the monomial.
late_kind : (p q : Bool) (n : ℕ) (m : Monomial) (kind : ReadKind) → cond p (Some NoetherDegree) (cond q (Some (TooManyMonomials n)) None) ≡ Some kind → IsLate kind (monomial_tokens m)
late_kind true q n m kind e = let same : NoetherDegree ≡ kind = cc in subst (λ (k : ReadKind). IsLate k (monomial_tokens m)) same (m, refl)
late_kind false true n m kind e = let same : TooManyMonomials n ≡ kind = cc in subst (λ (k : ReadKind). IsLate k (monomial_tokens m)) same (m, refl)
late_kind false false n m kind e = absurd cc

-- a monomial begins with a word
pub first_word : (m : Monomial) → (w : List ℕ) × (tokens : List Token) × (word w ∷ tokens ≡ monomial_tokens m)
first_word (factor (short_word w)) = (w, [], refl)
first_word (factor (raised_letter w digits)) = (w, mark 94 ∷ one (word digits), refl)
first_word (product m f) = let r = first_word m in (r.0, r.1 ++ (mark 42 ∷ factor_tokens f), ap (λ (z : List Token). z ++ (mark 42 ∷ factor_tokens f)) r.2)

-- The first token of a monomial is a word, so its refusal keeps its kind.
late_monomial : (m : Monomial) (kind : ReadKind) → IsLate kind (monomial_tokens m) → LateAt IsLate (monomial_tokens m) kind
late_monomial m kind h =
    let r = first_word m in
    subst (λ (z : List Token). LateAt IsLate z kind) r.2 (subst (IsLate kind) (sym r.2) h)

abbrev pub SpellsNoether : Monomial → List Token → Type 0
SpellsNoether m tokens = (noether_tokens m ≡ word (codes "noether") ∷ tokens) × FormedMonomial m

-- The noether statement is read, or refused, by its tokens.
pub noether_local : {n : ℕ} {W : Token → Type 0} (letters : List ℕ) → Local IsLate Monomial n W (noether_at letters) SpellsNoether
unfolding noether_at
noether_local letters =
    local_mark 61 whats.Equals (local_same (λ t placed. checked_split letters t)
    (local_then finish (late_test (degree_test letters) (monomial_local letters) (λ m tokens kind l e.
    subst (λ (z : List Token). LateAt IsLate z kind) l.0 (late_monomial m kind (late_kind (eqb (degree_of m) 0 || nat_lt 255 (degree_of m)) (nat_lt 4096 (monomial_count (length letters) (degree_of m))) (monomial_count (length letters) (degree_of m)) m kind e))))
    (λ m a l. local_mark 59 whats.Operator (local_done m (ap (λ (z : List Token). word (codes "noether") ∷ mark 61 ∷ (z ++ one (mark 59))) l.0, l.1)))))
