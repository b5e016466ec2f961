-- The forms of the parts of a certificate, and of the whole.
use Rattle.std.proofs.Common.{◌≡◌, ℕ, zero, suc, ◌<◌, ◌≤◌, ◌^◌, ◌/◌, ◌%◌, Bool, true, false, List, [], ◌∷◌, ◌++◌, length, Option, Some, None, Result, Ok, Err, refl, sym, ◌∙◌, ap, subst, arith, codes}
use Rattle.std.proofs.lemmas.Bool.{leb-true}
use Rattle.std.specs.Prelude.{◌&&◌, not, ◌==◌, nat_le, if◌then◌else◌, decimal}
use Rattle.std.specs.Fmt.{digits, digits_onto, digit_glyph}
use Rattle.std.specs.List.{AllByRecursion}
use Rattle.cert_grammar.specs.Lines.{Word, Line, is_plain, IsPlain, IsLine, AreLines}
use Rattle.sparse_poly.specs.Poly.{Polynomial}
use Rattle.cert_grammar.specs.Words.{Ring, IsPolyOf, IsNonzeroOf, poly_word, poly_of_word, nonzero_of_word, is_prime, are_different, are_letters, is_degree}
use Rattle.entry_code.specs.declared.item.Item.{Item}
use Rattle.entry_code.specs.declared.item.Item.TheVariants.{Generator}
use Rattle.entry_code.specs.declared.reading.Reading.{Reading}
use Rattle.cert_grammar.specs.Entries.{Entry}
use Rattle.cert_grammar.specs.declared.entry.Step.{Step}
use Rattle.cert_grammar.specs.declared.entry.Step.TheVariants.{OneMore, Last}
use Rattle.cert_grammar.specs.Entries.{Fitting}
use Rattle.cert_grammar.specs.declared.block.Verdict.{Verdict}
use Rattle.cert_grammar.specs.declared.block.Verdict.TheVariants.{Fits, TooSmall}
use Rattle.cert_grammar.specs.Blocks.{Block}
use Rattle.cert_grammar.specs.Cert.{numbered, vars_line, item_line, read_line, corner_line, stair_line, in_turn, counted, alone, reads_lines, entry_lines, fitting_lines, verdict_lines, block_lines, IsItem, IsReading, IsEntry, IsCorner, IsFitting, IsVerdict, IsRing, IsBlock}
use Rattle.cert_grammar.specs.Reading.{Read, ◌>>=◌, line_at, followed, both, mapped, times_at, numbered_of, counted_at, vars_of, alone_of, item_of, reading_of, verdict_of, corner_of, stair_of, step_of, reads_from, reads_at, entry_from, entry_at, poly_alone, fitting_from, fitting_at, verdict_behind, verdict_at, ring_from, ring_at, block_from, block_at}
use Rattle.cert_grammar.proofs.Tools.{bind_ok, ok_same, err_same, err_ok, and_true}
use Rattle.cert_grammar.proofs.RingWords.{prime_low, IsSound, ring_sound, one_poly, one_nonzero, poly_word_form, nonzero_word_form}
use Rattle.cert_grammar.proofs.Phrases.{IsWordForm}
use Rattle.cert_grammar.proofs.Forms.{Refused, IsForm, IsLineForm, one_line, done_form, then_form, mapped_form, both_form, behind_form, followed_form, AreSoMany, times_form}
use Rattle.cert_grammar.proofs.Grammar.{below_low, degree_low, numbered_line, vars_form, item_form, reading_form, alone_form, IsStep, step_line, step_form, verdict_line, IsVerdictLine, verdict_line_form, corner_form, IsStair, stair_form}

-- ---- numerals
-- those of all numbers
pub numeral_plain : (n : ℕ) → is_plain (decimal n) ≡ true
unfolding digits
numeral_plain n = onto 64 n [] refl
  where
    glyph : (d : ℕ) (w : Word) → is_plain w ≡ true → is_plain (digit_glyph false d ∷ w) ≡ true
    glyph d w h =
        ap (λ z. not z && (not (digit_glyph false d == 10) && is_plain w)) (let p : (digit_glyph false d == 32) ≡ false = grind arith in p)
        ∙ ap (λ z. not z && is_plain w) (let p : (digit_glyph false d == 10) ≡ false = grind arith in p) ∙ h

    onto : (k n : ℕ) (w : Word) → is_plain w ≡ true → is_plain (digits_onto k 10 false n w) ≡ true
    onto zero n w h = h
    onto (suc k) n w h = go (onto k (n / 10) (digit_glyph false (n % 10) ∷ w) (glyph (n % 10) w h)) (n / 10 == 0)
      where
        go : is_plain (digits_onto k 10 false (n / 10) (digit_glyph false (n % 10) ∷ w)) ≡ true → (b : Bool) → is_plain (if b then digit_glyph false (n % 10) ∷ w else digits_onto k 10 false (n / 10) (digit_glyph false (n % 10) ∷ w)) ≡ true
        go more true = glyph (n % 10) w h
        go more false = more

-- a word and a number are a line
pub numbered_plain : (word : Word) (n : ℕ) → IsPlain word → IsLine (numbered word n)
numbered_plain word n h = (h, (numeral_plain n, tt))

-- ---- so many, with their number
-- so many as the test allows
abbrev pub AreCounted : {A : Type 0} → (ℕ → Bool) → (A → Type 0) → List A → Type 0
AreCounted test Is xs = (test (length xs) ≡ true) × AllByRecursion Is xs

-- a number and so many parts are a part
counted_form : {A : Type 0} (word : Word) → IsPlain word → (test : ℕ → Bool) → ((n : ℕ) → test n ≡ true → n < 2 ^ 64) → test 0 ≡ true → (Is : A → Type 0) (lines : ℕ → A → List Line) (read : ℕ → Read A) → ((i : ℕ) → IsForm Is (lines i) (read i)) →
    IsForm (AreCounted test Is) (counted word lines) (counted_at word test read)
counted_form word plain test low none Is lines read F =
    then_form (λ n. test n ≡ true) (λ n. numbered word n ∷ []) (line_at (numbered_of word test)) (AreSoMany Is) (λ n xs. in_turn lines 0 xs) (λ n. times_at read n 0) (AreCounted test Is) (counted word lines) length
    (one_line (λ n. test n ≡ true) (numbered word) (numbered_of word test) 0 none (numbered_line word plain test low))
    (λ n h. times_form Is lines read F n 0)
    (record {
      apart = λ xs h. (h.0, (refl, h.1), refl);
      joined = λ n xs h k. ((subst (λ (z : ℕ). test z ≡ true) (sym k.0) h, k.1), ap (λ z. numbered word z ∷ in_turn lines 0 xs) k.0);
    })

-- a line of one word, as a part
alone_part : {A : Type 0} (Is : A → Type 0) (word : A → Word) (of : Word → Option A) → IsWordForm Is word of → (a : A) → Is a → IsForm Is (λ a. (word a ∷ []) ∷ []) (line_at (alone_of of))
alone_part Is word of F a is = one_line Is (λ a. word a ∷ []) (alone_of of) a is (alone_form Is word of F)

-- ---- readings
-- readings, and a polynomial behind them
abbrev pub AreReads : Ring → List Reading × Polynomial → Type 0
AreReads r x = AllByRecursion IsReading x.0 × IsNonzeroOf r x.1

-- what is read behind a step
abbrev pub step_read : Ring → Line → List Line → Option Step → Result ((List Reading × Polynomial) × List Line) (List Line)
step_read r l ls o = elim o [ None ↦ Err (l ∷ ls) | Some step ↦ elim step [ Last f ↦ Ok (([], f), ls) | OneMore x ↦ reads_at r ls >>= reads_from x ] ]

-- reading goes on by the next line
pub reads_step : (r : Ring) (l : Line) (ls : List Line) → reads_at r (l ∷ ls) ≡ step_read r l ls (step_of r l)
unfolding reads_at
reads_step r l ls = refl

-- no reading is read of no lines
pub reads_end : (r : Ring) → reads_at r [] ≡ Err []
unfolding reads_at
reads_end r = refl

-- readings up to a polynomial are a part
reads_form : (r : Ring) → IsSound r → IsForm (AreReads r) (λ x. reads_lines r x.0 x.1) (reads_at r)
reads_form r R = record { some = ([], one_poly r); some_is = (tt, one); plain = λ x. plain x.0 x.1; only = λ x. only x.0 x.1; found = found; first = first }
  where
    one : IsNonzeroOf r (one_poly r)
    one = one_nonzero r R

    S : IsLineForm (IsStep r) (step_line r) (step_of r)
    S = step_form r R

    lines : List Reading × Polynomial → List Line
    lines = λ x. reads_lines r x.0 x.1

    plain : (rs : List Reading) (f : Polynomial) → AreReads r (rs, f) → AreLines (reads_lines r rs f)
    plain [] f h = (S.plain (Last f) h.1, tt)
    plain (x ∷ rs) f h = (S.plain (OneMore x) h.0.0, plain rs f (h.0.1, h.1))

    only : (rs : List Reading) (f : Polynomial) (rest : List Line) → AreReads r (rs, f) → reads_at r (reads_lines r rs f ++ rest) ≡ Ok ((rs, f), rest)
    only [] f rest h = reads_step r (step_line r (Last f)) rest ∙ ap (step_read r (step_line r (Last f)) rest) (S.only (Last f) h.1)
    only (x ∷ rs) f rest h =
        reads_step r (step_line r (OneMore x)) (reads_lines r rs f ++ rest)
        ∙ ap (step_read r (step_line r (OneMore x)) (reads_lines r rs f ++ rest)) (S.only (OneMore x) h.0.0)
        ∙ ap (λ z. z >>= reads_from x) (only rs f rest (h.0.1, h.1))

    found : (s : List Line) (y : (List Reading × Polynomial) × List Line) → reads_at r s ≡ Ok y → AreReads r y.0 × (s ≡ lines y.0 ++ y.1)
    found [] y e = absurd (err_ok (reads_at r []) [] y (reads_end r) e)
    found (l ∷ ls) y e = go (found ls) (step_of r l) refl (sym (reads_step r l ls) ∙ e)
      where
        go : ((z : (List Reading × Polynomial) × List Line) → reads_at r ls ≡ Ok z → AreReads r z.0 × (ls ≡ lines z.0 ++ z.1)) → (o : Option Step) → step_of r l ≡ o → step_read r l ls o ≡ Ok y → AreReads r y.0 × (l ∷ ls ≡ lines y.0 ++ y.1)
        go more None was p = absurd (cc)
        go more (Some (Last f)) was p =
            let q : (([], f), ls) ≡ y = cc in
            let g : IsStep r (Last f) × (l ≡ step_line r (Last f)) = S.found l (Last f) was in
            subst (λ (z : (List Reading × Polynomial) × List Line). AreReads r z.0 × (l ∷ ls ≡ lines z.0 ++ z.1)) q ((tt, g.0), ap (λ (z : Line). z ∷ ls) g.1)
        go more (Some (OneMore x)) was p =
            let b : (z : (List Reading × Polynomial) × List Line) × (reads_at r ls ≡ Ok z) × (reads_from x z ≡ Ok y) = bind_ok (reads_at r ls) (reads_from x) y p in
            let g : IsStep r (OneMore x) × (l ≡ step_line r (OneMore x)) = S.found l (OneMore x) was in
            let h : AreReads r b.0.0 × (ls ≡ lines b.0.0 ++ b.0.1) = more b.0 b.1 in
            let q : ((x ∷ b.0.0.0, b.0.0.1), b.0.1) ≡ y = ok_same (reads_from x b.0) _ y refl b.2 in
            subst (λ (z : (List Reading × Polynomial) × List Line). AreReads r z.0 × (l ∷ ls ≡ lines z.0 ++ z.1)) q
            (((g.0, h.0.0), h.0.1), ap (λ (z : Line). z ∷ ls) g.1 ∙ ap (λ (z : List Line). read_line x ∷ z) h.1)

    first : (s after : List Line) → reads_at r s ≡ Err after → Refused (AreReads r) lines (reads_at r) s after
    first [] after e =
        let q : [] ≡ after = err_same (reads_at r []) [] after (reads_end r) e in
        record { good = []; split = q; value = ([], one_poly r); is = (tt, one); more = lines ([], one_poly r); begun = refl; dead = λ l rest other p. absurd (let u : [] ≡ l ∷ rest = cc in cc) }
    first (l ∷ ls) after e = go (first ls after) (step_of r l) refl (sym (reads_step r l ls) ∙ e)
      where
        go : (reads_at r ls ≡ Err after → Refused (AreReads r) lines (reads_at r) ls after) → (o : Option Step) → step_of r l ≡ o → step_read r l ls o ≡ Err after → Refused (AreReads r) lines (reads_at r) (l ∷ ls) after
        go more None was p =
            let q : l ∷ ls ≡ after = cc in
            record {
              good = [];
              split = q;
              value = ([], one_poly r);
              is = (tt, one);
              more = lines ([], one_poly r);
              begun = refl;
              dead = λ k rest other u. let alike : k ≡ l = cc in reads_step r k other ∙ ap (step_read r k other) (ap (step_of r) alike ∙ was);
            }
        go more (Some (Last f)) was p = absurd (cc)
        go more (Some (OneMore x)) was p =
            let g : IsStep r (OneMore x) × (l ≡ step_line r (OneMore x)) = S.found l (OneMore x) was in
            let h : reads_at r ls ≡ Err after = inner (reads_at r ls) p in
            let R : Refused (AreReads r) lines (reads_at r) ls after = more h in
            record {
              good = l ∷ R.good;
              split = ap (λ (z : List Line). l ∷ z) R.split;
              value = (x ∷ R.value.0, R.value.1);
              is = ((g.0, R.is.0), R.is.1);
              more = R.more;
              begun = ap (λ (z : List Line). read_line x ∷ z) R.begun ∙ ap (λ (z : Line). z ∷ R.good ++ R.more) (sym g.1);
              dead = λ k rest other u.
                  reads_step r l (R.good ++ k ∷ other) ∙ ap (step_read r l (R.good ++ k ∷ other)) was ∙ ap (λ z. z >>= reads_from x) (R.dead k rest other u);
            }
          where
            inner : (z : Result ((List Reading × Polynomial) × List Line) (List Line)) → z >>= reads_from x ≡ Err after → z ≡ Err after
            inner (Ok y) e = absurd (cc)
            inner (Err t) e = e

-- ---- entries
-- a reading
some_reading : Reading
some_reading = record { known = 0; corner = 0 }

-- an entry is a part
entry_form : (r : Ring) → IsSound r → (i : ℕ) → IsForm (IsEntry r) (entry_lines r i) (entry_at r i)
entry_form r R i =
    mapped_form entry_from parts IsParts linesP (both (line_at (item_of i)) (λ _. both (line_at reading_of) (λ _. reads_at r))) (IsEntry r) (entry_lines r i) to
    (λ x h. (record { item = h.0; some = let q : 1 ≤ length (x.1.0 ∷ x.1.1.0) = omega arith in q; reads = (h.1.0, h.1.1.0); poly = h.1.1.1 }, refl))
    (both_form IsItem (λ x. item_line i x ∷ []) (line_at (item_of i)) (λ _ y. IsReading y.0 × AreReads r y.1) (λ _ y. read_line y.0 ∷ reads_lines r y.1.0 y.1.1) (λ _. both (line_at reading_of) (λ _. reads_at r))
    (one_line IsItem (item_line i) (item_of i) (Generator 0) refl (item_form i (numeral_plain i)))
    (λ _ _. both_form IsReading (λ x. read_line x ∷ []) (line_at reading_of) (λ _. AreReads r) (λ _ y. reads_lines r y.0 y.1) (λ _. reads_at r)
    (one_line IsReading read_line reading_of (record { known = 0; corner = 0 }) (record { known = refl; corner = refl }) reading_form) (λ _ _. reads_form r R)))
  where
    IsParts : Item × (Reading × (List Reading × Polynomial)) → Type 0
    IsParts = λ x. IsItem x.0 × (IsReading x.1.0 × AreReads r x.1.1)

    linesP : Item × (Reading × (List Reading × Polynomial)) → List Line
    linesP = λ x. item_line i x.0 ∷ read_line x.1.0 ∷ reads_lines r x.1.1.0 x.1.1.1

    front : List Reading → Reading
    front [] = record { known = 0; corner = 0 }
    front (x ∷ xs) = x

    behind_front : List Reading → List Reading
    behind_front [] = []
    behind_front (x ∷ xs) = xs

    parts : Entry → Item × (Reading × (List Reading × Polynomial))
    parts = λ x. (x.item, (front x.reads, (behind_front x.reads, x.poly)))

    to : (x : Entry) → IsEntry r x → IsParts (parts x) × (entry_lines r i x ≡ linesP (parts x)) × (x ≡ entry_from (parts x))
    to x h = go x.item x.reads x.poly h.item h.some h.reads h.poly
      where
        go : (item : Item) (reads : List Reading) (poly : Polynomial) → IsItem item → 1 ≤ length reads → AllByRecursion IsReading reads → IsNonzeroOf r poly →
            let y : Entry = record { item = item; reads = reads; poly = poly } in IsParts (parts y) × (entry_lines r i y ≡ linesP (parts y)) × (y ≡ entry_from (parts y))
        go item [] poly a b c d = absurd (omega arith)
        go item (x ∷ xs) poly a b c d = ((a, (c.0, (c.1, d))), refl, refl)

-- ---- the verdict
-- at most so many as there are monomials
abbrev pub small_count : ℕ → Bool
small_count s = nat_le s 4096

-- what stands behind fits is a part
fitting_form : (r : Ring) → IsSound r → IsForm (IsFitting r) (fitting_lines r) (fitting_at r)
fitting_form r R =
    mapped_form fitting_from (λ (f : Fitting). (f.basis, (f.corner, f.stair))) IsParts linesP
    (both (counted_at (codes "basis") small_count (poly_alone (nonzero_of_word r))) (λ _. both (line_at (corner_of r)) (λ _. line_at (stair_of r)))) (IsFitting r) (fitting_lines r)
    (λ f h. (((h.few, h.basis), (h.corner, (h.few_stairs, h.stair))), refl, refl))
    (λ x h. (record { few = h.0.0; basis = h.0.1; corner = h.1.0; few_stairs = h.1.1.0; stair = h.1.1.1 }, refl))
    (both_form (AreCounted small_count (IsNonzeroOf r)) (counted (codes "basis") (alone (poly_word r))) (counted_at (codes "basis") small_count (poly_alone (nonzero_of_word r)))
    (λ _ y. IsCorner r y.0 × IsStair r y.1) (λ _ y. corner_line r y.0 ∷ stair_line r y.1 ∷ []) (λ _. both (line_at (corner_of r)) (λ _. line_at (stair_of r)))
    (counted_form (codes "basis") refl small_count (below_low 4096 (omega arith)) refl (IsNonzeroOf r) (alone (poly_word r)) (poly_alone (nonzero_of_word r)) (λ _. alone_part (IsNonzeroOf r) (poly_word r) (nonzero_of_word r) (nonzero_word_form r R) (one_poly r) (one_nonzero r R)))
    (λ _ _. both_form (IsCorner r) (λ o. corner_line r o ∷ []) (line_at (corner_of r)) (λ _. IsStair r) (λ _ ms. stair_line r ms ∷ []) (λ _. line_at (stair_of r))
    (one_line (IsCorner r) (corner_line r) (corner_of r) None tt (corner_form r R)) (λ _ _. one_line (IsStair r) (stair_line r) (stair_of r) [] (refl, tt) (stair_form r R))))
  where
    IsParts : List Polynomial × (Option (List ℕ) × List (List ℕ)) → Type 0
    IsParts = λ x. AreCounted small_count (IsNonzeroOf r) x.0 × (IsCorner r x.1.0 × IsStair r x.1.1)

    linesP : List Polynomial × (Option (List ℕ) × List (List ℕ)) → List Line
    linesP = λ x. counted (codes "basis") (alone (poly_word r)) x.0 ++ corner_line r x.1.0 ∷ stair_line r x.1.1 ∷ []

-- the verdict is a part
verdict_form : (r : Ring) → IsSound r → IsForm (IsVerdict r) (verdict_lines r) (verdict_at r)
verdict_form r R =
    then_form (IsVerdictLine r) (λ o. verdict_line r o ∷ []) (line_at (verdict_of r)) IsBehind linesB (verdict_behind r) (IsVerdict r) (verdict_lines r) part
    (one_line (IsVerdictLine r) (verdict_line r) (verdict_of r) None tt (verdict_line_form r R)) B
    (record { apart = apart; joined = joined })
  where
    part : Verdict → Option (List ℕ)
    part (Fits f) = None
    part (TooSmall m) = Some m

    IsBehind : Option (List ℕ) → Verdict → Type 0
    IsBehind None (Fits f) = IsFitting r f
    IsBehind None (TooSmall m) = ⊥
    IsBehind (Some m) v = v ≡ TooSmall m

    linesB : Option (List ℕ) → Verdict → List Line
    linesB None (Fits f) = fitting_lines r f
    linesB None (TooSmall m) = []
    linesB (Some m) v = []

    fitting_in : Verdict → Fitting
    fitting_in (Fits f) = f
    fitting_in (TooSmall m) = record { basis = []; corner = None; stair = [] }

    to : (v : Verdict) → IsBehind None v → IsFitting r (fitting_in v) × (linesB None v ≡ fitting_lines r (fitting_in v)) × (v ≡ Fits (fitting_in v))
    to (Fits f) h = (h, refl, refl)
    to (TooSmall m) h = elim h [ ]

    B : (o : Option (List ℕ)) → IsVerdictLine r o → IsForm (IsBehind o) (linesB o) (verdict_behind r o)
    B None h = mapped_form (λ f. Fits f) fitting_in (IsFitting r) (fitting_lines r) (fitting_at r) (IsBehind None) (linesB None) to (λ f k. (k, refl)) (fitting_form r R)
    B (Some m) h = done_form (TooSmall m)

    apart : (v : Verdict) → IsVerdict r v → IsVerdictLine r (part v) × IsBehind (part v) v × (verdict_lines r v ≡ verdict_line r (part v) ∷ linesB (part v) v)
    apart (Fits f) h = (tt, h, refl)
    apart (TooSmall m) h = (h, refl, refl)

    joined : (o : Option (List ℕ)) (v : Verdict) → IsVerdictLine r o → IsBehind o v → IsVerdict r v × (verdict_lines r v ≡ verdict_line r o ∷ linesB o v)
    joined None (Fits f) h k = (k, refl)
    joined None (TooSmall m) h k = elim k [ ]
    joined (Some m) v h k = (subst (IsVerdict r) (sym k) h, ap (verdict_lines r) k)

-- ---- the ring
-- the degree 1 may stand for each number of variables
one_degree : (n : ℕ) → n ≤ 8 → is_degree n 1 ≡ true
one_degree zero h = refl
one_degree (suc zero) h = refl
one_degree (suc (suc zero)) h = refl
one_degree (suc (suc (suc zero))) h = refl
one_degree (suc (suc (suc (suc zero)))) h = refl
one_degree (suc (suc (suc (suc (suc zero))))) h = refl
one_degree (suc (suc (suc (suc (suc (suc zero)))))) h = refl
one_degree (suc (suc (suc (suc (suc (suc (suc zero))))))) h = refl
one_degree (suc (suc (suc (suc (suc (suc (suc (suc zero)))))))) h = refl
one_degree (suc (suc (suc (suc (suc (suc (suc (suc (suc n))))))))) h = absurd (omega arith)

-- the ring is a part
ring_form : IsForm IsRing (λ r. numbered (codes "p") r.p ∷ vars_line r.letters ∷ numbered (codes "D") r.d ∷ []) ring_at
ring_form =
    mapped_form ring_from (λ (r : Ring). (r.p, (r.letters, r.d))) IsParts linesP
    (both (line_at (numbered_of (codes "p") is_prime)) (λ _. both (line_at vars_of) (λ letters. line_at (numbered_of (codes "D") (is_degree (length letters))))))
    IsRing (λ r. numbered (codes "p") r.p ∷ vars_line r.letters ∷ numbered (codes "D") r.d ∷ [])
    (λ r h. ((h.p, (h.letters, h.d)), refl, refl)) (λ x h. (record { p = h.0; letters = h.1.0; d = h.1.1 }, refl))
    (both_form (λ p. is_prime p ≡ true) (λ p. numbered (codes "p") p ∷ []) (line_at (numbered_of (codes "p") is_prime))
    (λ _ y. (are_letters y.0 ≡ true) × (is_degree (length y.0) y.1 ≡ true)) (λ _ y. vars_line y.0 ∷ numbered (codes "D") y.1 ∷ []) (λ _. both (line_at vars_of) (λ letters. line_at (numbered_of (codes "D") (is_degree (length letters)))))
    (one_line (λ p. is_prime p ≡ true) (numbered (codes "p")) (numbered_of (codes "p") is_prime) 2 refl (numbered_line (codes "p") refl is_prime prime_low))
    (λ _ _. both_form (λ letters. are_letters letters ≡ true) (λ letters. vars_line letters ∷ []) (line_at vars_of) (λ letters d. is_degree (length letters) d ≡ true) (λ _ d. numbered (codes "D") d ∷ []) (λ letters. line_at (numbered_of (codes "D") (is_degree (length letters))))
    (one_line (λ letters. are_letters letters ≡ true) vars_line vars_of (120 ∷ []) refl vars_form)
    (λ letters h. one_line (λ d. is_degree (length letters) d ≡ true) (numbered (codes "D")) (numbered_of (codes "D") (is_degree (length letters))) 1
    (one_degree (length letters) (leb-true (length letters) 8 (and_true (nat_le (length letters) 8) (are_different [] letters) (and_true (nat_le 1 (length letters)) _ h).1).0))
    (numbered_line (codes "D") refl (is_degree (length letters)) (degree_low (length letters))))))
  where
    IsParts : ℕ × (List ℕ × ℕ) → Type 0
    IsParts = λ x. (is_prime x.0 ≡ true) × ((are_letters x.1.0 ≡ true) × (is_degree (length x.1.0) x.1.1 ≡ true))

    linesP : ℕ × (List ℕ × ℕ) → List Line
    linesP = λ x. numbered (codes "p") x.0 ∷ vars_line x.1.0 ∷ numbered (codes "D") x.1.1 ∷ []

-- ---- a block
-- at most so many generators
abbrev pub gens_count : ℕ → Bool
gens_count m = nat_le m 64

-- the parts of a block
abbrev pub AreParts : Ring × (List Polynomial × (List Entry × Verdict)) → Type 0
AreParts x = IsRing x.0 × (AreCounted gens_count (IsPolyOf x.0) x.1.0 × (AreCounted small_count (IsEntry x.0) x.1.1.0 × IsVerdict x.0 x.1.1.1))

-- a block is a part
pub block_form : (b : ℕ) → IsForm IsBlock (block_lines b) (block_at b)
block_form b =
    behind_form (numbered (codes "block") b) IsBlock inner_lines (mapped block_from (both ring_at behind_ring)) (numbered_plain (codes "block") b refl)
    (mapped_form block_from (λ (x : Block). (x.ring, (x.gens, (x.entries, x.verdict)))) AreParts linesP (both ring_at behind_ring) IsBlock inner_lines
    (λ x h. ((h.ring, ((h.few_gens, h.gens), ((h.few_entries, h.entries), h.verdict))), refl, refl))
    (λ x h. (record { ring = h.0; few_gens = h.1.0.0; gens = h.1.0.1; few_entries = h.1.1.0.0; entries = h.1.1.0.1; verdict = h.1.1.1 }, refl))
    (both_form IsRing ring_lines ring_at (λ r y. AreCounted gens_count (IsPolyOf r) y.0 × (AreCounted small_count (IsEntry r) y.1.0 × IsVerdict r y.1.1))
    (λ r y. counted (codes "gens") (alone (poly_word r)) y.0 ++ (counted (codes "entries") (entry_lines r) y.1.0 ++ (verdict_lines r y.1.1 ++ end_line))) behind_ring ring_form
    (λ r h. both_form (AreCounted gens_count (IsPolyOf r)) (counted (codes "gens") (alone (poly_word r))) (counted_at (codes "gens") gens_count (poly_alone (poly_of_word r)))
    (λ _ y. AreCounted small_count (IsEntry r) y.0 × IsVerdict r y.1) (λ _ y. counted (codes "entries") (entry_lines r) y.0 ++ (verdict_lines r y.1 ++ end_line)) (λ _. behind_gens r)
    (counted_form (codes "gens") refl gens_count (below_low 64 (omega arith)) refl (IsPolyOf r) (alone (poly_word r)) (poly_alone (poly_of_word r)) (λ _. alone_part (IsPolyOf r) (poly_word r) (poly_of_word r) (poly_word_form r (ring_sound r h)) (one_poly r) (one_nonzero r (ring_sound r h)).poly))
    (λ _ _. both_form (AreCounted small_count (IsEntry r)) (counted (codes "entries") (entry_lines r)) (counted_at (codes "entries") small_count (entry_at r))
    (λ _. IsVerdict r) (λ _ v. verdict_lines r v ++ end_line) (λ _. followed (verdict_at r) (numbered (codes "end") b))
    (counted_form (codes "entries") refl small_count (below_low 4096 (omega arith)) refl (IsEntry r) (entry_lines r) (entry_at r) (entry_form r (ring_sound r h)))
    (λ _ _. followed_form (numbered (codes "end") b) (IsVerdict r) (verdict_lines r) (verdict_at r) (numbered_plain (codes "end") b refl) (verdict_form r (ring_sound r h)))))))
  where
    end_line : List Line
    end_line = numbered (codes "end") b ∷ []

    ring_lines : Ring → List Line
    ring_lines = λ r. numbered (codes "p") r.p ∷ vars_line r.letters ∷ numbered (codes "D") r.d ∷ []

    behind_gens : Ring → Read (List Entry × Verdict)
    behind_gens = λ r. both (counted_at (codes "entries") small_count (entry_at r)) (λ _. followed (verdict_at r) (numbered (codes "end") b))

    behind_ring : Ring → Read (List Polynomial × (List Entry × Verdict))
    behind_ring = λ r. both (counted_at (codes "gens") gens_count (poly_alone (poly_of_word r))) (λ _. behind_gens r)

    linesP : Ring × (List Polynomial × (List Entry × Verdict)) → List Line
    linesP = λ x. ring_lines x.0 ++ (counted (codes "gens") (alone (poly_word x.0)) x.1.0 ++ (counted (codes "entries") (entry_lines x.0) x.1.1.0 ++ (verdict_lines x.0 x.1.1.1 ++ end_line)))

    inner_lines : Block → List Line
    inner_lines = λ x. linesP (x.ring, (x.gens, (x.entries, x.verdict)))
