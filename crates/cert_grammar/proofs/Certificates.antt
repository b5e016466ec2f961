-- Certificates in the words of problems have one text each, and their texts are those of the grammar:
-- what is certified is given back by its block, and each certificate of the grammar is that of some problems.
use Rattle.std.proofs.Common.{◌≡◌, ℕ, ◌≤◌, List, [], ◌∷◌, map, refl, sym, ◌∙◌, ap, subst}
use Rattle.std.specs.List.{AllByRecursion}
use Rattle.std.proofs.lemmas.List.{length-map}
use Rattle.sparse_poly.specs.Poly.{Poly, in_variables}
use Rattle.sparse_poly.specs.Ideal.{Problem}
use Rattle.sparse_poly.specs.Shape.{shape_of}
use Rattle.entry_code.specs.declared.term.Term.{Term}
use Rattle.entry_code.specs.Entry.{Entry as RunEntry}
use Rattle.text_out.specs.declared.answer.Answer.{Answer}
use Rattle.cert_grammar.specs.Limits.{max_blocks}
use Rattle.cert_grammar.specs.Blocks.{Block}
use Rattle.cert_grammar.specs.Cert.{IsBlock, IsCert, cert_text}
use Rattle.cert_grammar.specs.Form.{IsCertText}
use Rattle.cert_grammar.specs.declared.certified.Certified.{Certified}
use Rattle.cert_grammar.specs.Certified.{entry_of, verdict_of, block_of, IsRunEntry, IsCertified, IsCertificate, certificate_text, problem_in, run_entry, answer_in, corner_in, certified_of}
use Rattle.cert_grammar.proofs.CertifiedBlocks.{terms_again, answer_again, block_is, certified_is, block_again}
use Rattle.cert_grammar.proofs.Refusals.{one_cert}

-- generators are given back
gens_back : (n : ℕ) (fs : List Poly) → map (λ f. f.terms) (map (in_variables n) fs) ≡ fs
gens_back n [] = refl
gens_back n (f ∷ fs) = ap (λ (z : List Poly). f ∷ z) (gens_back n fs)

-- entries are given back
entries_back : (P : Problem) → 1 ≤ P.n → (es : List RunEntry) → AllByRecursion (IsRunEntry P) es → map (run_entry (shape_of P)) (map (entry_of P) es) ≡ es
entries_back P some [] h = refl
entries_back P some (e ∷ es) h =
    ap (λ (z : List Term). record { item = e.item; reads = e.reads; terms = z } ∷ map (run_entry (shape_of P)) (map (entry_of P) es)) (terms_again P some e.terms h.0.terms)
    ∙ ap (λ (z : List RunEntry). e ∷ z) (entries_back P some es h.1)

-- the problem is given back
problem_again : (x : Certified) → IsCertified x → problem_in (block_of x) ≡ x.problem
problem_again x h =
    ap (λ k. record { p = x.problem.p; n = k; d = x.problem.d; gens = map (λ f. f.terms) (map (in_variables x.problem.n) x.problem.gens) }) h.variables
    ∙ ap (λ (z : List Poly). record { p = x.problem.p; n = x.problem.n; d = x.problem.d; gens = z }) (gens_back x.problem.n x.problem.gens)

-- what is certified is given back by its block
certified_again : (x : Certified) → IsCertified x → certified_of (block_of x) ≡ x
certified_again x h =
    ap (λ (z : Problem). record { letters = x.letters; problem = z; entries = map (run_entry (shape_of z)) (map (entry_of x.problem) x.entries); answer = answer_in (verdict_of x.answer x.corner); corner = corner_in (verdict_of x.answer x.corner) }) (problem_again x h)
    ∙ ap (λ (z : List RunEntry). record { letters = x.letters; problem = x.problem; entries = z; answer = answer_in (verdict_of x.answer x.corner); corner = corner_in (verdict_of x.answer x.corner) }) (entries_back x.problem h.problem.some x.entries h.entries)
    ∙ ap (λ (z : Answer). record { letters = x.letters; problem = x.problem; entries = x.entries; answer = z; corner = corner_in (verdict_of x.answer x.corner) }) (answer_again x.answer x.corner h.corner).0
    ∙ ap (λ z. record { letters = x.letters; problem = x.problem; entries = x.entries; answer = x.answer; corner = z }) (answer_again x.answer x.corner h.corner).1

-- ---- certificates
-- their blocks are blocks of the grammar
blocks_are : (xs : List Certified) → AllByRecursion IsCertified xs → AllByRecursion IsBlock (map block_of xs)
blocks_are [] h = tt
blocks_are (x ∷ xs) h = (block_is x h.0, blocks_are xs h.1)

-- and give them back
all_again : (xs : List Certified) → AllByRecursion IsCertified xs → map certified_of (map block_of xs) ≡ xs
all_again [] h = refl
all_again (x ∷ xs) h = ap (λ (z : Certified). z ∷ map certified_of (map block_of xs)) (certified_again x h.0) ∙ ap (λ (z : List Certified). x ∷ z) (all_again xs h.1)

-- blocks certify, and are given back
certified_are : (ys : List Block) → AllByRecursion IsBlock ys → AllByRecursion IsCertified (map certified_of ys) × (map block_of (map certified_of ys) ≡ ys)
certified_are [] h = (tt, refl)
certified_are (y ∷ ys) h =
    ((certified_is y h.0, (certified_are ys h.1).0), ap (λ (z : Block). z ∷ map block_of (map certified_of ys)) (block_again y h.0) ∙ ap (λ (z : List Block). y ∷ z) (certified_are ys h.1).1)

-- a certificate is one of the grammar
pub certificate_is : (xs : List Certified) → IsCertificate xs → IsCert (map block_of xs)
certificate_is xs h = record {
  some = subst (λ k. 1 ≤ k) (sym (length-map xs block_of)) h.some;
  few = subst (λ k. k ≤ max_blocks) (sym (length-map xs block_of)) h.few;
  each = blocks_are xs h.each;
}

-- its text is one of the grammar
pub certificate_text_is : (xs : List Certified) → IsCertificate xs → IsCertText (certificate_text xs)
certificate_text_is xs h = record { blocks = map block_of xs; is = certificate_is xs h; spelled = refl }

-- each text of the grammar is that of a certificate
pub text_certifies : (bytes : List ℕ) → IsCertText bytes → (xs : List Certified) × IsCertificate xs × (bytes ≡ certificate_text xs)
text_certifies bytes h = (
  map certified_of h.blocks,
  record {
    some = subst (λ k. 1 ≤ k) (sym (length-map h.blocks certified_of)) h.is.some;
    few = subst (λ k. k ≤ max_blocks) (sym (length-map h.blocks certified_of)) h.is.few;
    each = (certified_are h.blocks h.is.each).0;
  },
  h.spelled ∙ ap cert_text (sym (certified_are h.blocks h.is.each).1),
)

-- certificates with one text are one
pub one_certificate : (a b : List Certified) → IsCertificate a → IsCertificate b → certificate_text a ≡ certificate_text b → a ≡ b
one_certificate a b h k e =
    sym (all_again a h.each) ∙ ap (map certified_of) (one_cert (map block_of a) (map block_of b) (certificate_is a h) (certificate_is b k) e) ∙ all_again b k.each
