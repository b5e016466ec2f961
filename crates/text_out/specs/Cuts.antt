-- What reading a polynomial tells; the first piece of its text, by its length; and which terms a polynomial may have.
use Rattle.std.specs.Prelude.{◌≡◌, ℕ, suc, ◌≤◌, ◌<◌, List, [], ◌∷◌, Bool, Option, Some, None, All, length, if◌then◌else◌}
use Rattle.std.specs.List.{AllByRecursion}
use Rattle.local_order.specs.Limits.{max_exponent}
use Rattle.sparse_poly.specs.Poly.{Term, Poly, Polynomial, IsCanonical}
use Rattle.sparse_poly.specs.Canonical.{canonical}
use Rattle.text_out.specs.Texts.{poly_text}
use Rattle.text_out.specs.Reads.{Piece, is_sign, pieces_from, terms_in, HasSmallExponents}

-- ---- what reading tells
-- a polynomial of the ring, made of the terms that stand in the text, whose text is this one
pub record IsReadFrom (p : ℕ) (letters text : List ℕ) (f : Polynomial) : Type 0 where
  pub in_ring : f.n ≡ length letters
  pub terms : f.terms ≡ canonical p (terms_in p letters text)
  pub canonical : IsCanonical p (length letters) f.terms
  pub printed : poly_text p letters f.terms ≡ text

-- no polynomial of the ring has this text
abbrev pub HasNoPoly : ℕ → List ℕ → List ℕ → Type 0
HasNoPoly p letters text = (f : Poly) → IsCanonical p (length letters) f → HasSmallExponents f → poly_text p letters f ≡ text → ⊥

-- ---- pieces
-- how many bytes stand before the first sign
abbrev pub len_to_sign : List ℕ → ℕ
len_to_sign [] = 0
len_to_sign (b ∷ text) = if is_sign b then 0 else suc (len_to_sign text)

-- the pieces behind one: a sign, and what stands behind it
abbrev pub pieces_behind : Option (Bool × List ℕ) → List Piece
pieces_behind None = []
pieces_behind (Some x) = pieces_from x.0 x.1

-- t may be a term of a polynomial modulo p
pub record IsTermModulo (p : ℕ) (t : Term) : Type 0 where
  pub small : All (λ e. e ≤ max_exponent) t.mono
  pub some : 0 < t.coef
  pub below : t.coef < p

abbrev pub AreTermsModulo : ℕ → Poly → Type 0
AreTermsModulo p f = AllByRecursion (IsTermModulo p) f
