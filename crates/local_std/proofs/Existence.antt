-- Every problem has an answer: some entries are legal and settle every ticket, their basis is the reduced one, their leads have a
-- staircase, and the degree fits or a monomial is the first missing one. So there is something to certify of each command.
use Rattle.std.proofs.Common.{◌≡◌, ℕ, ◌<◌, ◌≤◌, ◌⊎◌, inl, inr, true, false, List, [], ◌∷◌, length, map, get_or, refl, sym, subst, arith}
use Rattle.std.specs.Prelude.{All}
use Rattle.std.specs.List.{range_with_len}
use Rattle.std.proofs.lemmas.List.Elements.{All-nil, All-cons, All-map}
use Rattle.prime_field.specs.Prime.{InTable}
use Rattle.prime_field.proofs.Primality.{IsPrime-table}
use Rattle.local_order.specs.Limits.{max_degree, max_monomials, max_variables}
use Rattle.local_order.specs.Count.{monomial_count}
use Rattle.sparse_poly.specs.Poly.{Poly, Polynomial, in_variables, cut, derivative, IsCanonical}
use Rattle.sparse_poly.specs.Ideal.{Problem, IsProblem, IsGenerator, IsReducedBasis, IsStaircase, Fits, IsFirstMissing}
use Rattle.sparse_poly.specs.Jacobian.{partial, jacobian_ideal, tjurina_ideal, jacobian_problem, tjurina_problem}
use Rattle.sparse_poly.proofs.Canonical.{IsCanonical-canonical}
use Rattle.sparse_poly.proofs.Unique.{in_of_canonical}
use Rattle.sparse_poly.proofs.Derivatives.{in-derivative}
use Rattle.singularity_numbers.proofs.Generators.{cut_is_generator}
use Rattle.singularity_numbers.proofs.Limits.{milnor_is_problem, tjurina_is_problem}
use Rattle.entry_code.specs.Entry.{Entry}
use Rattle.mora_law.specs.Legal.{Legal}
use Rattle.entry_code.specs.declared.item.Item.{Item}
use Rattle.mora_law.specs.Settled.{IsSettled, AllSettled}
use Rattle.mora_law.specs.Tickets.{HasTicket, ticket_of, total}
use Rattle.mora_law.specs.Basis.{basis}
use Rattle.mora_law.proofs.Ring.{problem_is_admissible}
use Rattle.mora_law.proofs.Problems.{some_entries, basis_is_reduced}
use Rattle.staircase.proofs.Existence.{some_staircase, fits_or_first}
use Rattle.script_grammar.specs.Statements.{is_on_poly}
use Rattle.script_grammar.specs.declared.script.Subject.{Subject}
use Rattle.script_grammar.specs.declared.script.Subject.TheVariants.{Ideal, Function}
use Rattle.script_grammar.specs.declared.script.Word.{Word}
use Rattle.script_grammar.specs.declared.script.Word.TheVariants.{Std, Vdim, Kbase, HighCorner, Milnor, Tjurina}
use Rattle.script_grammar.specs.declared.script.Command.{Command}
use Rattle.script_grammar.specs.declared.script.Script.{Script}
use Rattle.ring_reader.specs.Coherent.{IsSubject, IsCoherent, BelongsTo}
use Rattle.tail_reduce.specs.Divisors.{leads_of}
use Rattle.text_out.specs.declared.answer.Answer.{Answer}
use Rattle.text_out.specs.declared.answer.Answer.TheVariants as answers
use Rattle.cert_grammar.specs.declared.certified.Certified.{Certified}
use Rattle.cert_grammar.specs.Certified.{IsCertified}
use Rattle.cert_write.specs.Claim.{claim}
use Rattle.local_std.specs.Answer.{problem_in, problem_of, IsAnswerOf, Certifies}
use Rattle.local_std.proofs.Settled.{shows}
use Rattle.local_std.proofs.Prefixes.{terms_back}
use Rattle.local_std.proofs.Certified.{HasVariables, certified}
use Rattle.local_std.proofs.Certificates.{in_script}
use Rattle.local_std.proofs.Accepted.{accepted}

-- ---- the answer of a problem
-- Polynomials that are told their variables have these.
have_variables : (n : ℕ) (fs : List Poly) → All (λ (f : Polynomial). f.n ≡ n) (map (in_variables n) fs)
have_variables n [] = All-nil (λ (f : Polynomial). f.n ≡ n)
have_variables n (f ∷ fs) = All-cons (λ (f : Polynomial). f.n ≡ n) (in_variables n f) (map (in_variables n) fs) refl (have_variables n fs)

-- the entries settle each ticket below their total
abbrev SettlesEach : Problem → List Entry → Type 0
SettlesEach P entries = (item : Item) → HasTicket (length P.gens) item → ticket_of (length P.gens) item < total (length P.gens) (length entries) → IsSettled P entries item

-- an answer of a problem, with the entries that it was got by
pub record IsAnswered (P : Problem) : Type 0 where
  pub entries : List Entry
  pub legal : Legal P entries
  pub settled : AllSettled P entries
  pub answer : Answer
  pub variables : HasVariables P.n answer
  pub value : IsAnswerOf P answer

-- Every problem has an answer, and entries that are legal and settle every ticket.
pub has_answer : (P : Problem) → IsProblem P → IsAnswered P
has_answer P problem = record {
  entries = some_of.0;
  legal = some_of.1;
  settled = settled;
  answer = answer_is.0;
  variables = answer_is.1;
  value = answer_is.2;
}
  where
    some_of : (entries : List Entry) × Legal P entries × SettlesEach P entries
    some_of = some_entries P (problem_is_admissible P problem)

    settled : AllSettled P some_of.0
    settled item t l = inl (some_of.2 item t l)

    basis_of : List Polynomial
    basis_of = map (in_variables P.n) (basis P some_of.0)

    reduced : IsReducedBasis P (map (λ (f : Polynomial). f.terms) basis_of)
    reduced = subst (IsReducedBasis P) (sym (terms_back P.n (basis P some_of.0))) (basis_is_reduced P (problem_is_admissible P problem) some_of.0 some_of.1 settled)

    stair : (s : List (List ℕ)) × IsStaircase P s
    stair = some_staircase P (leads_of some_of.0) problem.some (shows P problem some_of.0 some_of.1 settled)

    by : Fits P ⊎ ((m : List ℕ) × IsFirstMissing P m) → (a : Answer) × HasVariables P.n a × IsAnswerOf P a
    by (inl fits) = (answers.Fits basis_of stair.0, have_variables P.n (basis P some_of.0), (fits, reduced, stair.1))
    by (inr (m, first)) = (answers.TooSmall m, tt, first)

    answer_is : (a : Answer) × HasVariables P.n a × IsAnswerOf P a
    answer_is = by (fits_or_first P (leads_of some_of.0) problem.some (shows P problem some_of.0 some_of.1 settled))

-- ---- the problem of a command
module _ (p n d : ℕ) (prime : InTable p) (variables : n ≤ max_variables) (some_variables : 1 ≤ n) (some : 1 ≤ d) (low : d ≤ max_degree) (few : monomial_count n d ≤ max_monomials) where
  module _ (f : Poly) (canon : IsCanonical p n f) where
    -- a partial derivative, cut, is a generator
    partial_is : (i : ℕ) → IsGenerator p n d (in_variables n (cut d (partial p i f)))
    partial_is i =
        cut_is_generator p n d (partial p i f) (in_variables n (cut d (partial p i f)))
        (IsCanonical-canonical p n (derivative i f) (omega (arith, (IsPrime-table p prime).two_up)) (in-derivative n i f (in_of_canonical p n f canon)))
        refl

    -- so are all
    partials_are : All (IsGenerator p n d) (map (in_variables n) (jacobian_ideal p n d f))
    partials_are =
        All-map (IsGenerator p n d) (in_variables n) (jacobian_ideal p n d f)
        (All-map (λ (g : Poly). IsGenerator p n d (in_variables n g)) (λ i. cut d (partial p i f)) (range_with_len 0 n) (λ k z l. partial_is (get_or (range_with_len 0 n) k z)))

    -- The problems of a function are within the limits.
    pub jacobian_is : IsProblem (jacobian_problem p n d f)
    jacobian_is =
        subst (λ (l : List Poly). IsProblem (record { p = p; n = n; d = d; gens = l })) (terms_back n (jacobian_ideal p n d f))
        (milnor_is_problem p n d prime variables some_variables some low few f (map (in_variables n) (jacobian_ideal p n d f)) refl partials_are)

    pub tjurina_is : IsProblem (tjurina_problem p n d f)
    tjurina_is =
        subst (λ (l : List Poly). IsProblem (record { p = p; n = n; d = d; gens = l })) (terms_back n (tjurina_ideal p n d f))
        (tjurina_is_problem p n d prime variables some_variables some low few f (map (in_variables n) (tjurina_ideal p n d f)) refl
        (All-cons (IsGenerator p n d) (in_variables n (cut d f)) (map (in_variables n) (jacobian_ideal p n d f)) (cut_is_generator p n d f (in_variables n (cut d f)) canon refl) partials_are))

module _ (s : Script) (coherent : IsCoherent s) where
  -- the problem of what is asked in a coherent script is within the limits
  subject_is : (w : Word) (x : Subject) → IsSubject s.field (length s.names) s.d (is_on_poly w) x → IsProblem (problem_in s w x)
  subject_is w (Ideal P) h = h.4
  subject_is Std (Function f) h = absurd (let e : false ≡ true = h.0 in cc (e))
  subject_is Vdim (Function f) h = absurd (let e : false ≡ true = h.0 in cc (e))
  subject_is Kbase (Function f) h = absurd (let e : false ≡ true = h.0 in cc (e))
  subject_is HighCorner (Function f) h = absurd (let e : false ≡ true = h.0 in cc (e))
  subject_is Milnor (Function f) h = jacobian_is s.field (length s.names) s.d coherent.field coherent.letters.few coherent.letters.some coherent.some coherent.low coherent.monomials f.terms (subst (λ n. IsCanonical s.field n f.terms) h.1 h.2)
  subject_is Tjurina (Function f) h = tjurina_is s.field (length s.names) s.d coherent.field coherent.letters.few coherent.letters.some coherent.some coherent.low coherent.monomials f.terms (subst (λ n. IsCanonical s.field n f.terms) h.1 h.2)

  -- Something can be certified of each command of a script that is read.
  pub some_claim : (c : Command) → BelongsTo s c → (x : Certified) × IsCertified x × Certifies s c x
  some_claim c belongs = (
    claim s.names P a.entries a.answer,
    certified P problem s.names coherent.letters (sym (in_script s s.field s.d c.word c.subject belongs.1)) a.entries a.legal a.answer a.variables a.value,
    record { letters = refl; problem = refl; answer = a.value; accepted = accepted (claim s.names P a.entries a.answer) problem a.legal a.settled a.value refl },
  )
    where
      P : Problem
      P = problem_of s c

      problem : IsProblem P
      problem = subject_is c.word c.subject belongs.1

      a : IsAnswered P
      a = has_answer P problem
