-- The multiple of a row by a monomial: the walk that copies it, and what it is subtracted for.
-- A walk from the row of 0 puts each residue at its product's rank. Subtracting what it leaves is subtracting the multiple.
use Rattle.std.proofs.Common.{◌≡◌, ◌≢◌, ℕ, ◌+◌, ◌-◌, ◌*◌, ◌%◌, ◌<◌, ◌≤◌, ◌⊎◌, List, [], length, get_or, replicate, ap, sym, ◌∙◌, inl, inr, subst, arith}
use Rattle.std.proofs.Math.Nat.{zero-mod}
use Rattle.std.proofs.lemmas.List.{length-replicate}
use Rattle.std.proofs.lemmas.List.Elements.{All-from_get_or, All-replicate}
use Rattle.local_order.specs.Stored.{zero_at}
use Rattle.local_order.specs.Mono.{degree, mono_times, Divides}
use Rattle.local_order.specs.Shape.{Shape, count}
use Rattle.local_order.proofs.Order.{divides_cases, degree-mono_times}
use Rattle.mono_rank.specs.Rank.{rank_of, HasRank}
use Rattle.mono_rank.proofs.Ranks.{rank_small}
use Rattle.sparse_poly.specs.Poly.{Poly, coef, IsIn, term_times}
use Rattle.rank_algebra.specs.Rows.{IsRow, Subtracts}
use Rattle.mono_rank.specs.Rows.{SubtractsMultiple, IsRowOf}
use Rattle.trunc_row.specs.Rows.{IsMultiple}
use Rattle.trunc_row.proofs.Residues.{row_small, row_mod}
use Rattle.trunc_row.proofs.Walks.{WalkedTo}
use Rattle.trunc_row.proofs.Polynomials.{ranked, has_mono, difference_row}

-- a walk that copies puts the residue itself
abbrev pub itself : ℕ → ℕ → ℕ
itself k y = y

-- and leaves 0 elsewhere
abbrev pub none_there : ℕ → ℕ
none_there k = 0

-- the row of 0, to which nothing is copied yet
pub shifted_none : (T : Shape) (a n : ℕ) (g : List ℕ) → (let z : ℕ = 0 in WalkedTo T a 0 itself none_there g (replicate n z))
shifted_none T a n g = record { done = λ x y j k l hx hy hk. absurd (omega (arith, l)); rest = λ x m k hx hm u. zero_at n k }

-- past the last rank the row is the multiple
pub shifted_all : (T : Shape) (a s : ℕ) (g new : List ℕ) → length new ≡ count T → WalkedTo T a s itself none_there g new → count T ≤ s → IsMultiple T a g new
shifted_all T a s g new full h l = record {
  full = full;
  multiples = λ x y j k hx hy hk. h.done x y j k (omega (arith, rank_small T y j hy)) hx hy hk;
  others = λ x m k hx hm none. h.rest x m k hx hm (λ y j b hy e. none (y, hy.in_ring ∙ sym hm.in_ring, e));
}

-- a row less c times the multiple of another is the row with the multiple subtracted
pub shifted_less : (p : ℕ) (T : Shape) (c a : ℕ) (g m r s : List ℕ) → IsRow p (count T) r → IsMultiple T a g m → Subtracts p c m r s → SubtractsMultiple p T c a g r s
shifted_less p T c a g m r s w h sub = record {
  row = subst (λ k. IsRow p k s) w.full sub.row;
  multiples = λ x y j k hx hy hk. sub.value k ∙ ap (λ z. (get_or r k 0 + (p - c) * z) % p) (h.multiples x y j k hx hy hk);
  others = λ x n k hx hn off. sub.value k ∙ ap (λ z. (get_or r k 0 + (p - c) * z) % p) (h.others x n k hx hn off) ∙ ap (λ z. z % p) (none (get_or r k 0) (p - c)) ∙ row_mod p (count T) r k w;
}
  where
    none : (b d : ℕ) → b + d * 0 ≡ b
    none b d = omega arith

-- ---- the residues and the polynomial
module _ (p : ℕ) (T : Shape) (a : ℕ) (x : List ℕ) (hx : HasRank T x a) (g m : List ℕ) (wg : IsRow p (count T) g) (h : IsMultiple T a g m) where
  -- there is a residue, so p isn't 0
  positive : 0 < p
  positive = omega (arith, row_small p (count T) g a wg (rank_small T x a hx))

  -- the multiple of a row of residues is one
  pub multiple_residues : IsRow p (count T) m
  multiple_residues = record {
    full = h.full;
    residues = All-from_get_or (λ c. c < p) m 0 (λ k l. let y = has_mono T k (omega (arith, h.full)) in go y.0 k y.1 (divides_cases x y.0 (hx.in_ring ∙ sym y.1.in_ring)));
  }
    where
      go : (y : List ℕ) (k : ℕ) → HasRank T y k → Divides x y ⊎ ((z : List ℕ) → length z ≡ length y → y ≢ mono_times x z) → get_or m k 0 < p
      go y k hy (inl q) =
          let hq : HasRank T q.0 (rank_of T q.0) = ranked T q.0 (q.1 ∙ hy.in_ring) (omega (arith, ap degree q.2, degree-mono_times x q.0, hy.low)) in
          omega (arith, h.multiples x q.0 (rank_of T q.0) k hx hq (subst (λ z. HasRank T z k) q.2 hy), row_small p (count T) g (rank_of T q.0) wg (rank_small T q.0 (rank_of T q.0) hq))
      go y k hy (inr off) = omega (arith, h.others x y k hx hy (λ q. off q.0 q.1 q.2), positive)

  -- it is what is left of 0 less p - 1 times the multiple
  as_difference : (let z : ℕ = 0 in SubtractsMultiple p T (p - 1) a g (replicate (count T) z) m)
  as_difference = record {
    row = multiple_residues;
    multiples = λ u y j k hu hy hk. h.multiples u y j k hu hy hk ∙ sym (row_mod p (count T) g j wg) ∙ ap (λ z. z % p) (once j k);
    others = λ u n k hu hn off. h.others u n k hu hn off ∙ sym (zero_at (count T) k);
  }
    where
      once : (j k : ℕ) → (let z : ℕ = 0 in get_or g j 0 ≡ get_or (replicate (count T) z) k z + (p - (p - 1)) * get_or g j 0)
      once j k =
          let one : p - (p - 1) ≡ 1 = omega (arith, positive) in
          let none : (let z : ℕ = 0 in get_or (replicate (count T) z) k z ≡ z) = zero_at (count T) k in
          omega (arith, none, ap (λ c. c * get_or g j 0) one)

  -- so the multiple of the row of a polynomial is the row of the polynomial's multiple
  pub multiple_row : (f : Poly) → IsIn T.variables f → IsRowOf p T (coef p f) g → IsRowOf p T (coef p (term_times 1 x f)) m
  multiple_row f inside hf =
      subst (λ c. IsRowOf p T (coef p (term_times c x f)) m) (let e : p - (p - 1) ≡ 1 = omega (arith, positive) in e)
      (difference_row p T (p - 1) a [] f x (replicate (count T) 0) g m hx inside none hf as_difference)
    where
      none : (let z : ℕ = 0 in IsRowOf p T (coef p []) (replicate (count T) z))
      none = record {
        row = record { full = length-replicate (count T) (let z : ℕ = 0 in z); residues = All-replicate (λ c. c < p) (count T) 0 positive };
        coefs = λ n k hn. zero_at (count T) k ∙ sym (zero-mod p);
      }
