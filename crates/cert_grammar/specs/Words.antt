-- The ring of a block, and which words are polynomials and monomials of it.
use Rattle.std.specs.Prelude.{◌≡◌, ◌≢◌, ◌≤◌, ℕ, List, [], ◌∷◌, Bool, true, ◌&&◌, not, nat_le, ◌==◌, if◌then◌else◌, Option, Some, None, codes, length}
use Rattle.std.specs.List.{list_all, list_any}
use Rattle.std.specs.Char.{is_ascii_alphabetic}
use Rattle.prime_field.specs.Prime.{table}
use Rattle.local_order.specs.Limits.{max_variables, max_degree, max_monomials}
use Rattle.local_order.specs.Count.{count_by_products}
use Rattle.local_order.specs.Mono.{degree}
use Rattle.sparse_poly.specs.Poly.{Poly, Polynomial, in_variables}
use Rattle.sparse_poly.specs.Canonical.{canonical}
use Rattle.sparse_poly.specs.Ideal.{IsGenerator}
use Rattle.script_grammar.specs.Words.{is_same}
use Rattle.text_out.specs.Texts.{mono_text, poly_text}
use Rattle.text_out.specs.Reads.{exponents_in, terms_in}
use Rattle.cert_grammar.specs.Limits.{max_prime}
use Rattle.cert_grammar.specs.Lines.{Word}

-- the characteristic, the letters of the variables and the degree beyond which nothing stands
pub record Ring : Type 0 where
  pub p : ℕ
  pub letters : List ℕ
  pub d : ℕ

-- ---- polynomials and monomials
-- f is a polynomial of the ring
abbrev pub IsPolyOf : Ring → Polynomial → Type 0
IsPolyOf r f = IsGenerator r.p (length r.letters) r.d f

-- f is one other than 0
pub record IsNonzeroOf (r : Ring) (f : Polynomial) : Type 0 where
  pub poly : IsPolyOf r f
  pub some : f.terms ≢ []

-- m is a monomial of the ring
pub record IsMonoOf (r : Ring) (m : List ℕ) : Type 0 where
  pub in_ring : length m ≡ length r.letters
  pub low : degree m ≤ r.d

-- m is one of just the ring's degree
pub record IsTopOf (r : Ring) (m : List ℕ) : Type 0 where
  pub in_ring : length m ≡ length r.letters
  pub top : degree m ≡ r.d

-- ---- their words
abbrev pub poly_word : Ring → Polynomial → Word
poly_word r f = poly_text r.p r.letters f.terms

abbrev pub mono_word : Ring → List ℕ → Word
mono_word r m = mono_text r.letters m

-- the polynomial that is read of a word, whatever else it may be
abbrev pub poly_in : Ring → Word → Polynomial
poly_in r w = in_variables (length r.letters) (canonical r.p (terms_in r.p r.letters w))

-- no term has a degree above d
abbrev pub is_low : ℕ → Poly → Bool
is_low d f = list_all (λ t. nat_le (degree t.mono) d) f

-- the polynomial of a word, where what is read of it is printed as this word
abbrev pub poly_of_word : Ring → Word → Option Polynomial
poly_of_word r w = if is_low r.d (poly_in r w).terms && is_same (poly_word r (poly_in r w)) w then Some (poly_in r w) else None

-- the same where it isn't 0
abbrev pub nonzero_of_word : Ring → Word → Option Polynomial
nonzero_of_word r w = if is_same w (codes "0") then None else poly_of_word r w

-- the monomial of a word, where what is read of it is printed as this word, and its degree passes the test
abbrev pub mono_passing : (ℕ → Bool) → Ring → Word → Option (List ℕ)
mono_passing test r w =
    if test (degree (exponents_in r.letters w)) && is_same (mono_word r (exponents_in r.letters w)) w then Some (exponents_in r.letters w) else None

abbrev pub mono_of_word : Ring → Word → Option (List ℕ)
mono_of_word r = mono_passing (λ k. nat_le k r.d) r

abbrev pub top_of_word : Ring → Word → Option (List ℕ)
top_of_word r = mono_passing (λ k. k == r.d) r

-- ---- rings
abbrev pub is_prime : ℕ → Bool
is_prime p = nat_le p max_prime && list_any (λ q. q == p) table

-- letters, each once, and none of those before
abbrev pub are_different : List ℕ → List ℕ → Bool
are_different before [] = true
are_different before (v ∷ vs) = is_ascii_alphabetic v && (not (list_any (λ u. u == v) before) && are_different (v ∷ before) vs)

abbrev pub are_letters : List ℕ → Bool
are_letters letters = nat_le 1 (length letters) && (nat_le (length letters) max_variables && are_different [] letters)

-- at most 4,096 monomials
abbrev pub is_degree : ℕ → ℕ → Bool
is_degree n d = nat_le 1 d && (nat_le d max_degree && nat_le (count_by_products n d) max_monomials)
