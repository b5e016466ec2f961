-- What the lines of a block certify: the monomials of its polynomials have ranks, and each part is made by rank.
-- The loops keep what was made so far in front of what the rest makes.
use Rattle.std.proofs.Common.{◌≡◌, ℕ, zero, suc, ◌+◌, ◌<◌, List, [], ◌∷◌, ◌++◌, length, get_or, drop, map, Ok, sym, ◌∙◌, ap, subst, append_assoc, arith}
use Rattle.std.specs.Prelude.{All}
use Rattle.std.specs.List.{AllByRecursion}
use Rattle.std.proofs.Math.Seq.{drop-cons}
use Rattle.local_order.specs.Shape.{Shape}
use Rattle.mono_rank.specs.Rank.{rank_of}
use Rattle.sparse_poly.specs.Poly.{Term as PolyTerm, Poly, Polynomial, IsSorted, HasDegreeAtMost}
use Rattle.sparse_poly.specs.Ideal.{IsProblem}
use Rattle.entry_code.specs.declared.term.Term.{Term}
use Rattle.entry_code.specs.Entry.{Entry as RunEntry}
use Rattle.cert_grammar.specs.Words.{Ring}
use Rattle.cert_grammar.specs.Entries.{Entry}
use Rattle.cert_grammar.specs.Blocks.{Block}
use Rattle.cert_grammar.specs.Cert.{IsEntry, IsBlock}
use Rattle.cert_grammar.specs.declared.certified.Certified.{Certified}
use Rattle.cert_grammar.specs.Certified.{IsCertified, terms_by_rank, run_entry, block_of, certified_of}
use Rattle.cert_grammar.specs.Lines.{Line}
use Rattle.cert_grammar.specs.Reading.{block_at}
use Rattle.cert_grammar.proofs.Parts.{block_form}
use Rattle.cert_grammar.proofs.CertifiedBlocks.{problem_is, certified_is, block_again}
use Rattle.cert_text.specs.Ranked.{IsRanked}

-- one more member of which all is so
pub all-push : (xs : List Certified) (x : Certified) → AllByRecursion IsCertified xs → IsCertified x → AllByRecursion IsCertified (xs ++ x ∷ [])
all-push [] x h k = (k, tt)
all-push (y ∷ xs) x h k = (h.0, all-push xs x h.1 k)

-- a term of a sorted polynomial has an exponent for each variable
pub sorted_at : (n : ℕ) (f : Poly) (i : ℕ) (z t : PolyTerm) → IsSorted n f → i < length f → t ≡ get_or f i z → length t.mono ≡ n
sorted_at n [] i z t h l e = absurd (omega (arith, l))
sorted_at n (s ∷ f) zero z t h l e = ap (λ (u : PolyTerm). length u.mono) e ∙ h.0
sorted_at n (s ∷ f) (suc i) z t h l e = sorted_at n f i z t h.3 (omega (arith, l)) e

-- one more term is made
pub term_step : (T : Shape) (f : Poly) (i : ℕ) (made : List Term) (t : PolyTerm) (rank : ℕ) (all : List Term) → i < length f → t ≡ get_or f i t → rank ≡ rank_of T t.mono →
    made ++ terms_by_rank T (drop i f) ≡ all → (made ++ record { rank = rank; coef = t.coef } ∷ []) ++ terms_by_rank T (drop (i + 1) f) ≡ all
term_step T f i made t rank all l is rank_is so_far =
    let p : i + 1 ≡ suc i = omega arith in
    append_assoc made (record { rank = rank; coef = t.coef } ∷ []) (terms_by_rank T (drop (i + 1) f))
    ∙ ap (λ k. made ++ record { rank = rank; coef = t.coef } ∷ terms_by_rank T (drop k f)) p
    ∙ ap (λ r. made ++ record { rank = r; coef = t.coef } ∷ terms_by_rank T (drop (suc i) f)) rank_is
    ∙ ap (λ (u : PolyTerm). made ++ record { rank = rank_of T u.mono; coef = u.coef } ∷ terms_by_rank T (drop (suc i) f)) is
    ∙ sym (ap (λ (z : Poly). made ++ terms_by_rank T z) (drop-cons f i t l)) ∙ so_far

-- one more entry is made
pub entry_step : (T : Shape) (es : List Entry) (i : ℕ) (made : List RunEntry) (e : Entry) (x : RunEntry) (all : List RunEntry) → i < length es → e ≡ get_or es i e → x ≡ run_entry T e →
    made ++ map (run_entry T) (drop i es) ≡ all → (made ++ x ∷ []) ++ map (run_entry T) (drop (i + 1) es) ≡ all
entry_step T es i made e x all l is x_is so_far =
    let p : i + 1 ≡ suc i = omega arith in
    append_assoc made (x ∷ []) (map (run_entry T) (drop (i + 1) es))
    ∙ ap (λ k. made ++ x ∷ map (run_entry T) (drop k es)) p
    ∙ ap (λ (y : RunEntry). made ++ y ∷ map (run_entry T) (drop (suc i) es)) (x_is ∙ ap (run_entry T) is)
    ∙ sym (ap (λ (z : List Entry). made ++ map (run_entry T) z) (drop-cons es i e l)) ∙ so_far

-- the entries of a block have ranks
ranked_at : (r : Ring) (T : Shape) → length r.letters ≡ T.variables → r.d ≡ T.degree → (es : List Entry) → AllByRecursion (IsEntry r) es → (k : ℕ) (z : Entry) → k < length es → IsRanked T (get_or es k z)
ranked_at r T n d [] h k z i = absurd (omega (arith, i))
ranked_at r T n d (e ∷ es) h zero z i = record { variables = h.0.poly.poly.variables ∙ n; low = subst (λ k. HasDegreeAtMost k e.poly.terms) d h.0.poly.poly.low }
ranked_at r T n d (e ∷ es) h (suc k) z i = ranked_at r T n d es h.1 k z (omega (arith, i))

-- The terms of each entry of a block have ranks in the block's table.
pub entries_ranked : (y : Block) (T : Shape) (es : List Entry) → IsBlock y → length y.ring.letters ≡ T.variables → y.ring.d ≡ T.degree → es ≡ y.entries → All (IsRanked T) es
entries_ranked y T es h n d is = λ k z i. ranked_at y.ring T n d es (subst (AllByRecursion (IsEntry y.ring)) (sym is) h.entries) k z i

-- the problem of a block, by the parts of which it is made
pub problem_told : (y : Block) (p n d : ℕ) (gs : List Polynomial) → IsBlock y → p ≡ y.ring.p → n ≡ length y.ring.letters → d ≡ y.ring.d → gs ≡ y.gens →
    IsProblem (record { p = p; n = n; d = d; gens = map (λ f. f.terms) gs })
problem_told y p n d gs h p_is n_is d_is gs_is =
    subst (λ (z : List Polynomial). IsProblem (record { p = p; n = n; d = d; gens = map (λ f. f.terms) z })) (sym gs_is)
    (subst (λ k. IsProblem (record { p = p; n = n; d = k; gens = map (λ f. f.terms) y.gens })) (sym d_is)
    (subst (λ k. IsProblem (record { p = p; n = k; d = y.ring.d; gens = map (λ f. f.terms) y.gens })) (sym n_is)
    (subst (λ k. IsProblem (record { p = k; n = length y.ring.letters; d = y.ring.d; gens = map (λ f. f.terms) y.gens })) (sym p_is) (problem_is y h))))

-- ---- blocks
-- a block that is read is one of the grammar
pub read_block : (b : ℕ) (s t : List Line) (y : Block) → block_at b s ≡ Ok (y, t) → IsBlock y
read_block b s t y e = ((block_form b).found s (y, t) e).0

-- what it certifies is certified, and gives it back
pub certified_read : (b : ℕ) (s t : List Line) (y : Block) (x : Certified) → block_at b s ≡ Ok (y, t) → x ≡ certified_of y → IsCertified x × (block_at b s ≡ Ok (block_of x, t))
certified_read b s t y x e is =
    let h : IsBlock y = read_block b s t y e in
    (subst IsCertified (sym is) (certified_is y h), e ∙ ap (λ (z : Block). Ok (z, t)) (sym (ap block_of is ∙ block_again y h)))
