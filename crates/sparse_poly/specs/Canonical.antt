-- The one way in which a polynomial is written.
use Rattle.std.specs.Prelude.{ℕ, ◌+◌, ◌%◌, List, [], ◌∷◌, ◌==◌, if◌then◌else◌}
use Rattle.local_order.specs.Mono.{same}
use Rattle.local_order.specs.Order.{above}
use Rattle.sparse_poly.specs.Poly.{Term, Poly}

-- the term c * m in front of f, or nothing where c is 0
abbrev pub in_front : ℕ → List ℕ → Poly → Poly
in_front c m f = if c == 0 then f else record { mono = m; coef = c } ∷ f

-- f with one more term
abbrev pub add_term : ℕ → Term → Poly → Poly
add_term p t [] = in_front (t.coef % p) t.mono []
add_term p t (s ∷ f) =
    if above t.mono s.mono then in_front (t.coef % p) t.mono (s ∷ f)
    else (if same t.mono s.mono then in_front ((t.coef + s.coef) % p) s.mono f
    else s ∷ add_term p t f)

-- f, written
abbrev pub canonical : ℕ → Poly → Poly
canonical p [] = []
canonical p (t ∷ f) = add_term p t (canonical p f)
