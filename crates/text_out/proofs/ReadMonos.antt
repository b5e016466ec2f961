-- Reading a monomial: its exponents are read letter by letter,
-- and a text is that of no other monomial, since printed monomials are read back.
use Rattle.std.proofs.Common.{◌≡◌, ℕ, zero, suc, ◌+◌, ◌-◌, ◌<◌, ◌≤◌, Bool, true, false, List, [], ◌∷◌, ◌++◌, length, map, take, get_or, Option, Some, None, refl, sym, ◌∙◌, ap, subst, arith}
use Rattle.std.specs.Prelude.{All, IsSome, IfSome, IfNone, MatchOption, ◌↔◌, eqb, ◌≢◌}
use Rattle.std.specs.Option.{option_map}
use Rattle.std.specs.Cmp.Lexicographic.{pointwise}
use Rattle.std.proofs.lemmas.List.{take_all, take_more_set}
use Rattle.std.proofs.Math.ListN.{set}
use Rattle.local_order.specs.Limits.{max_exponent}
use Rattle.text_out.proofs.Numbers.{exponents_next}
use Rattle.std.proofs.lemmas.Slice.Eq.{strip_prefix_is}
use Rattle.std.proofs.lemmas.Bool.Decides.{Decides-eqb}
use denote.Ref.{Bor}
use Rattle.local_order.specs.Mono.{IsWithinLimits}
use Rattle.script_grammar.specs.Words.{is_same}
use Rattle.sparse_poly.specs.Letters.{AreLetters}
use Rattle.script_grammar.proofs.Steps.{same_refl, same_is}
use Rattle.text_out.specs.Texts.{mono_text}
use Rattle.text_out.specs.Reads.{exponent_in, exponents_in}
use Rattle.text_out.specs.Strips.{stripped}
use Rattle.text_out.proofs.Strips.{stripped_some}
use Rattle.text_out.proofs.PolyReads.{monomial_again}

-- ---- answers
-- a clause on no answer holds by what it says
pub none_by : {A : Type 0} (P : Type 0) (r : Option A) → P → IfNone r P
none_by P None h = h
none_by P (Some a) h = tt

-- a piece in front is stripped
strip_told : (piece text : List ℕ) (r : Option (Bor (List ℕ))) → MatchOption r ((rest : List ℕ) → text ≢ piece ++ rest) (λ x. text ≡ piece ++ x.now) → option_map (λ s. s.now) r ≡ stripped piece text
strip_told piece text None h = go (stripped piece text) refl
  where
    go : (o : Option (List ℕ)) → stripped piece text ≡ o → None ≡ stripped piece text
    go None e = sym e
    go (Some rest) e = absurd (h rest (Rattle.text_out.proofs.Strips.stripped_is piece text rest e))
strip_told piece text (Some x) h = sym (ap (stripped piece) h ∙ stripped_some piece x.now)

-- a prefix that is cut off is a piece that is stripped
pub prefix_told : (piece text : List ℕ) (r : Option (Bor (List ℕ))) →
    MatchOption r (pointwise eqb (take (length piece) text) piece ≡ false) (λ x. (pointwise eqb (take (length piece) text) piece ≡ true) × (x.now ≡ Rattle.std.proofs.Common.drop (length piece) text) × (length x.now + length piece ≡ length text)) →
    option_map (λ s. s.now) r ≡ stripped piece text
prefix_told piece text r h = strip_told piece text r (strip_prefix_is Decides-eqb text piece r h)

-- ---- exponents
-- each exponent is within the limit where all are
pub exponent_small : (letters text : List ℕ) (i : ℕ) → i < length letters → All (λ e. e ≤ max_exponent) (exponents_in letters text) → exponent_in (get_or letters i 0) text ≤ max_exponent
exponent_small letters text i within h = subst (λ e. e ≤ max_exponent) (at letters i within) (h i 0 (omega (arith, within, long letters)))
  where
    long : (vs : List ℕ) → length (exponents_in vs text) ≡ length vs
    long [] = refl
    long (v ∷ vs) = omega (arith, long vs)

    at : (vs : List ℕ) (i : ℕ) → i < length vs → get_or (exponents_in vs text) i 0 ≡ exponent_in (get_or vs i 0) text
    at [] i h = absurd (omega arith)
    at (v ∷ vs) zero h = refl
    at (v ∷ vs) (suc i) h = at vs i (omega (arith, h))

-- each letter has an exponent
pub exponents_long : (text letters : List ℕ) → length (exponents_in letters text) ≡ length letters
exponents_long text [] = refl
exponents_long text (v ∷ vs) = omega (arith, exponents_long text vs)

-- there is a monomial of exponents up to 1,000
pub new_none : (r : Option (List ℕ)) (letters text es : List ℕ) → (IsSome r ↔ IsWithinLimits es) → es ≡ exponents_in letters text → AreLetters letters →
    IfNone r (All (λ e. e ≤ max_exponent) (exponents_in letters text) → ⊥)
new_none (Some m) letters text es h e are = tt
new_none None letters text es h e are = λ small.
    let l : length es ≡ length letters = ap (λ (z : List ℕ). length z) e ∙ exponents_long text letters in
    let s : IsSome {T = List ℕ} None = h.1 (omega (arith, l, are.some), omega (arith, l, are.few), subst (λ (z : List ℕ). All (λ k. k ≤ max_exponent) z) (sym e) small) in absurd (cc)

-- behind the last letter all exponents are read
pub all_exponents : (letters text exps : List ℕ) (i n : ℕ) → n ≡ length letters → n ≤ i → i ≤ n → take i exps ≡ exponents_in (take i letters) text → take n exps ≡ exponents_in letters text
all_exponents letters text exps i n is end low h =
    let p : n ≡ i = omega (arith, end, low) in
    ap (λ k. take k exps) p ∙ h ∙ ap (λ (z : List ℕ). exponents_in z text) (take_all i letters (omega (arith, is, end)))

-- ---- the answer
-- a monomial whose exponents aren't those of the text has another text
pub no_mono : (letters text m : List ℕ) → AreLetters letters → (All (λ e. e ≤ max_exponent) (exponents_in letters text) → ⊥) → IsWithinLimits m → length m ≡ length letters → mono_text letters m ≡ text → ⊥
no_mono letters text m are large w l e =
    large (subst (λ (z : List ℕ). All (λ k. k ≤ max_exponent) z) (sym (ap (exponents_in letters) (sym e) ∙ monomial_again letters m are w.2 l)) w.2)

-- a monomial with the exponents and the text of a text has that text
pub found_mono : (letters text m : List ℕ) (b : Bool) → b ≡ is_same (mono_text letters m) text → b ≡ true → m ≡ exponents_in letters text → (length m ≡ length letters) × (mono_text letters m ≡ text)
found_mono letters text m b e is m_is = (ap (λ (z : List ℕ). length z) m_is ∙ exponents_long text letters, same_is (mono_text letters m) text (sym e ∙ is))

-- where the monomial of the exponents has another text, no monomial has the text
pub other_mono : (letters text m : List ℕ) (b : Bool) → AreLetters letters → b ≡ is_same (mono_text letters m) text → b ≡ false → m ≡ exponents_in letters text →
    (k : List ℕ) → IsWithinLimits k → length k ≡ length letters → mono_text letters k ≡ text → ⊥
other_mono letters text m b are e is m_is k w l t =
    let p : exponents_in letters text ≡ k = ap (exponents_in letters) (sym t) ∙ monomial_again letters k are w.2 l in
    let q : mono_text letters m ≡ text = ap (mono_text letters) (m_is ∙ p) ∙ t in
    let r : is_same text text ≡ false = sym (ap (λ (z : List ℕ). is_same z text) q) ∙ sym e ∙ is in
    let s : true ≡ false = sym (same_refl text) ∙ r in
    absurd (cc)

-- ---- the loop over the letters
-- an exponent above the limit is that of no monomial
pub too_large : (letters text : List ℕ) (i v : ℕ) → i < length letters → v ≡ get_or letters i 0 → max_exponent < exponent_in v text → All (λ e. e ≤ max_exponent) (exponents_in letters text) → ⊥
too_large letters text i v within v_is h small =
    omega (arith, exponent_small letters text i within small, subst (λ k. max_exponent < exponent_in k text) v_is h)

-- one more exponent is put at its place
pub one_more : (letters text exps : List ℕ) (i e v : ℕ) → i < length letters → i < length exps → v ≡ get_or letters i 0 → e ≡ exponent_in v text → take i exps ≡ exponents_in (take i letters) text →
    take (i + 1) (set exps i e) ≡ exponents_in (take (i + 1) letters) text
one_more letters text exps i e v within room v_is e_is h =
    take_more_set exps i e room
    ∙ ap (λ (z : List ℕ). z ++ e ∷ []) h
    ∙ ap (λ k. exponents_in (take i letters) text ++ k ∷ []) (e_is ∙ ap (λ k. exponent_in k text) v_is)
    ∙ sym (exponents_next letters text i within)

-- a monomial that was made is within the limits
pub new_limits : (r : Option (List ℕ)) (es : List ℕ) → (IsSome r ↔ IsWithinLimits es) → IfSome r (λ m. m ≡ es) → IfSome r (λ m. IsWithinLimits m)
new_limits None es h v = tt
new_limits (Some m) es h v = subst IsWithinLimits (sym v) (h.0 refl)
