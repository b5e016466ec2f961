-- The polynomials that words stand for.
use Rattle.std.proofs.Common.{◌≡◌, ℕ, ◌*◌, ◌%◌, ◌≤◌, [], ◌∷◌, sym, ap, ◌∙◌}
use Rattle.std.proofs.lemmas.Bool.{le-leb}
use Rattle.std.proofs.Math.Nat.{mod-mod}
use Rattle.std.proofs.lemmas.Nat.{mul-mod}
use Rattle.local_order.specs.Mono.{degree, mono_one}
use Rattle.sparse_poly.specs.Canonical.{canonical, in_front}
use Rattle.script_grammar.specs.Meaning.{constant, truncated}

-- a constant is written by its residue
pub constant_written : (p n e c r : ℕ) → degree (mono_one n) ≤ e → r ≡ c % p → canonical p (record { mono = mono_one n; coef = r } ∷ []) ≡ truncated p e (constant n c)
constant_written p n e c r low h =
    rw (h, le-leb (degree (mono_one n)) e low) (ap (λ k. in_front k (mono_one n) []) (mod-mod c p))

-- The residue of a product is that of a residue with the other factor.
pub product_of_residue : (p a b r : ℕ) → r ≡ ((a % p) * b) % p → r ≡ (a * b) % p
product_of_residue p a b r h = h ∙ mul-mod (a % p) b p ∙ ap (λ k. (k * (b % p)) % p) (mod-mod a p) ∙ sym (mul-mod a b p)
