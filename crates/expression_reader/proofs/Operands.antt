-- Operands: words and sums in parentheses, by what the code knows of their parts.
use Rattle.std.proofs.Common.{◌≡◌, ℕ, suc, ◌-◌, true, false, ◌||◌, eqb, Bool, List, length, Result, Ok, Err, refl, sym, ap, ◌∙◌}
use Rattle.std.proofs.Math.Bool.{or-true, or-false}
use Rattle.script_grammar.specs.declared.refusal.Refusal.{Refusal}
use Rattle.script_grammar.specs.declared.refusal.What.TheVariants as whats
use Rattle.sparse_poly.specs.Poly.{Poly}
use Rattle.script_grammar.specs.Tokens.{Place, next}
use Rattle.script_grammar.specs.Trees.{named, Sum}
use Rattle.script_grammar.specs.Steps.{◌>>=◌, mark_at}
use Rattle.script_grammar.specs.Words.{is_numeral, is_one_of, keywords, is_short, has_large}
use Rattle.script_grammar.specs.Expressions.{Declarations, takes_exponent, word_operand_at, sum_at, inner_at}
use Rattle.script_grammar.specs.Meaning.{Values, in_ring, short_poly, value_in, operand_value, sum_value}
use Rattle.expression_reader.specs.Gives.{meant, operand_meaning}
use Rattle.expression_reader.proofs.Loops.{meant_ok}
use Rattle.expression_reader.proofs.Handed.{after_read}

-- the name of a polynomial
pub poly_operand : (known : Declarations) (v : Values) (w : List ℕ) (t : Place) (f : Poly)
    → is_one_of keywords w ≡ false → is_numeral w ≡ false → is_one_of known.polys w ≡ true → ((other : Poly) → value_in v.polys other w ≡ f)
    → meant (operand_meaning known v) (word_operand_at known w t) ≡ Ok ((f, true), next t.rest)
unfolding word_operand_at operand_value takes_exponent
poly_operand known v w t f no_keyword no_numeral is_poly value =
    let read : word_operand_at known w t ≡ Ok (named w, next t.rest) = rw (no_keyword, no_numeral, is_poly) refl in
    let takes : takes_exponent known (named w) ≡ true = ap (λ b. eqb (length w) 1 || b) is_poly ∙ or-true (eqb (length w) 1) in
    ap (meant (operand_meaning known v)) read ∙ rw (takes, value (in_ring v (short_poly v.letters w))) refl

-- a short monomial
pub short_operand : (known : Declarations) (v : Values) (w : List ℕ) (t : Place) (f : Poly)
    → is_one_of keywords w ≡ false → is_numeral w ≡ false → is_one_of known.polys w ≡ false → is_short known.letters w ≡ true → has_large w ≡ false
    → ((other : Poly) → value_in v.polys other w ≡ other) → f ≡ in_ring v (short_poly v.letters w)
    → meant (operand_meaning known v) (word_operand_at known w t) ≡ Ok ((f, eqb (length w) 1), next t.rest)
unfolding word_operand_at operand_value takes_exponent
short_operand known v w t f no_keyword no_numeral no_poly short small absent value =
    let read : word_operand_at known w t ≡ Ok (named w, next t.rest) = rw (no_keyword, no_numeral, no_poly, short, small) refl in
    let takes : takes_exponent known (named w) ≡ eqb (length w) 1 = ap (λ b. eqb (length w) 1 || b) no_poly ∙ or-false (eqb (length w) 1) in
    let is : operand_value v (named w) ≡ f = absent (in_ring v (short_poly v.letters w)) ∙ sym value in
    ap (meant (operand_meaning known v)) read ∙ ap (λ (x : Poly × Bool). Ok (x, next t.rest)) (rw (is, takes) refl)

-- ---- a sum in parentheses
inner_at_mark : (known : Declarations) (v : Values) (d : ℕ) (t start u : Place) (f : Poly) (mark : Result Place Refusal)
    → start ≡ next t.rest → meant (sum_value v) (sum_at (inner_at d known) known start) ≡ Ok (f, u) → mark_at 41 whats.Operator u ≡ mark
    → meant (sum_value v) (inner_at (suc d) known t) ≡ (mark >>= λ w. Ok (f, w))
unfolding inner_at
inner_at_mark known v d t start u f mark starts e closed =
    let m = meant_ok (sum_value v) (sum_at (inner_at d known) known start) f u e in
    let read = ap (sum_at (inner_at d known) known) (sym starts) ∙ m.1 in
    ap (λ (r : Result (Sum × Place) Refusal). meant (sum_value v) (r >>= λ s. mark_at 41 whats.Operator s.1 >>= λ after. Ok (s.0, after))) read
    ∙ ap (λ (r : Result Place Refusal). meant (sum_value v) (r >>= λ after. Ok (m.0, after))) closed
    ∙ after_read (sum_value v) m.0 f m.2 mark

-- What is read behind ( up to its ) is read in parentheses.
pub inner_reads : (known : Declarations) (v : Values) (deep : ℕ) (t start u w : Place) (f : Poly)
    → deep ≡ suc (deep - 1) → start ≡ next t.rest → meant (sum_value v) (sum_at (inner_at (deep - 1) known) known start) ≡ Ok (f, u) → mark_at 41 whats.Operator u ≡ Ok w
    → meant (sum_value v) (inner_at deep known t) ≡ Ok (f, w)
inner_reads known v deep t start u w f some starts e closed =
    ap (λ k. meant (sum_value v) (inner_at k known t)) some ∙ inner_at_mark known v (deep - 1) t start u f (Ok w) starts e closed

-- What refuses the ) behind a sum refuses the parentheses.
pub inner_refused : (known : Declarations) (v : Values) (deep : ℕ) (t start u : Place) (f : Poly) (x : Refusal)
    → deep ≡ suc (deep - 1) → start ≡ next t.rest → meant (sum_value v) (sum_at (inner_at (deep - 1) known) known start) ≡ Ok (f, u) → mark_at 41 whats.Operator u ≡ Err x
    → meant (sum_value v) (inner_at deep known t) ≡ Err x
inner_refused known v deep t start u f x some starts e closed =
    ap (λ k. meant (sum_value v) (inner_at k known t)) some ∙ inner_at_mark known v (deep - 1) t start u f (Err x) starts e closed
