-- The polynomial of a row: it is canonical, and the row is its own.
-- The terms come by rank, so they fall, and each monomial is that of one rank.
use Rattle.std.proofs.Common.{◌≡◌, ℕ, zero, suc, ◌+◌, ◌%◌, ◌<◌, ◌≤◌, List, [], ◌∷◌, ◌++◌, length, get_or, take, All, true, false, cond, refl, ap, sym, ◌∙◌, subst, arith}
use Rattle.std.proofs.lemmas.List.{take_more, take_all, length-take-le, append-nil}
use Rattle.std.proofs.lemmas.List.Elements.{All-head, All-tail}
use Rattle.local_order.specs.Mono.{same}
use Rattle.local_order.specs.Shape.{Shape, count}
use Rattle.local_order.proofs.Order.{same_self, same-false}
use Rattle.mono_rank.specs.Rank.{HasRank, mono_of_rank}
use Rattle.mono_rank.proofs.Ranks.{one_rank, above_of_rank}
use Rattle.mono_rank.proofs.ByRank.{mono_of_rank-is, rank-mono_of_rank}
use Rattle.sparse_poly.specs.Poly.{total, IsAboveFirst, IsCanonical, coef}
use Rattle.rank_algebra.specs.Rows.{IsRow}
use Rattle.mono_rank.specs.Rows.{IsRowOf}
use Rattle.trunc_row.specs.Polynomials.{terms_from, poly_of_row}
use Rattle.trunc_row.proofs.Residues.{row_mod}

-- ---- one residue more
-- its term stands at the end
terms_from-push : (T : Shape) (k : ℕ) (r : List ℕ) (c : ℕ) → terms_from T k (r ++ c ∷ []) ≡ terms_from T k r ++ terms_from T (k + length r) (c ∷ [])
terms_from-push T k [] c = let e : k ≡ k + length {A = ℕ} [] = omega arith in ap (λ j. terms_from T j (c ∷ [])) e
terms_from-push T k (zero ∷ r) c =
    let e : suc k + length r ≡ k + length (zero ∷ r) = omega arith in
    terms_from-push T (suc k) r c ∙ ap (λ j. terms_from T (suc k) r ++ terms_from T j (c ∷ [])) e
terms_from-push T k (suc b ∷ r) c =
    let e : suc k + length r ≡ k + length (suc b ∷ r) = omega arith in
    ap (λ f. record { mono = mono_of_rank T k; coef = suc b } ∷ f) (terms_from-push T (suc k) r c ∙ ap (λ j. terms_from T (suc k) r ++ terms_from T j (c ∷ [])) e)

-- so the terms of the first k residues and the next one are those of the first k + 1
next_terms : (T : Shape) (r : List ℕ) (k : ℕ) → k < length r → poly_of_row T (take (k + 1) r) ≡ poly_of_row T (take k r) ++ terms_from T k (get_or r k 0 ∷ [])
next_terms T r k l =
    let e : 0 + length (take k r) ≡ k = omega (arith, length-take-le k r (omega (arith, l))) in
    ap (poly_of_row T) (take_more r k 0 l) ∙ terms_from-push T 0 (take k r) (get_or r k 0) ∙ ap (λ j. poly_of_row T (take k r) ++ terms_from T j (get_or r k 0 ∷ [])) e

-- a residue that isn't 0 is one term more
pub term_more : (T : Shape) (r : List ℕ) (k c : ℕ) (m : List ℕ) → k < length r → c ≡ get_or r k 0 → (c ≡ 0 → ⊥) → HasRank T m k →
    poly_of_row T (take k r) ++ record { mono = m; coef = c } ∷ [] ≡ poly_of_row T (take (k + 1) r)
term_more T r k zero m l e some h = absurd (some refl)
term_more T r k (suc c) m l e some h =
    ap (λ x. poly_of_row T (take k r) ++ record { mono = x; coef = suc c } ∷ []) (sym (mono_of_rank-is T m k h))
    ∙ ap (λ x. poly_of_row T (take k r) ++ terms_from T k (x ∷ [])) e
    ∙ sym (next_terms T r k l)

-- one that is 0 is none
pub term_none : (T : Shape) (r : List ℕ) (k : ℕ) → k < length r → get_or r k 0 ≡ 0 → poly_of_row T (take k r) ≡ poly_of_row T (take (k + 1) r)
term_none T r k l e =
    sym (append-nil (poly_of_row T (take k r)))
    ∙ ap (λ x. poly_of_row T (take k r) ++ terms_from T k (x ∷ [])) (sym e)
    ∙ sym (next_terms T r k l)

-- past the last one they are all
pub terms_all : (T : Shape) (r : List ℕ) (k : ℕ) → length r ≤ k → poly_of_row T (take k r) ≡ poly_of_row T r
terms_all T r k l = ap (poly_of_row T) (take_all k r l)

-- ---- the polynomial
-- 0 and a number is the number
none_more : (x : ℕ) → 0 + x ≡ x
none_more x = omega arith

module _ (T : Shape) (some : 1 ≤ T.variables) where
  -- the monomial of a rank is above those of later ones
  below_from : (i k : ℕ) (r : List ℕ) → i < k → k + length r ≤ count T → IsAboveFirst (mono_of_rank T i) (terms_from T k r)
  below_from i k [] l within = tt
  below_from i k (zero ∷ r) l within = below_from i (suc k) r (omega arith) (omega arith)
  below_from i k (suc c ∷ r) l within =
      let hi = rank-mono_of_rank T i some (omega (arith, l, within)) in
      let hk = rank-mono_of_rank T k some (omega arith) in
      above_of_rank T (mono_of_rank T i) (mono_of_rank T k) hi.in_ring hk.in_ring hk.low (omega (arith, hi.rank, hk.rank, l))

  -- so the terms fall
  terms_canonical : (p k : ℕ) (r : List ℕ) → All (λ c. c < p) r → k + length r ≤ count T → IsCanonical p T.variables (terms_from T k r)
  terms_canonical p k [] small within = tt
  terms_canonical p k (zero ∷ r) small within = terms_canonical p (suc k) r (All-tail (λ x. x < p) zero r small) (omega arith)
  terms_canonical p k (suc c ∷ r) small within =
      ((rank-mono_of_rank T k some (omega arith)).in_ring, omega arith, All-head (λ x. x < p) (suc c) r small, below_from k (suc k) r (omega arith) (omega arith), terms_canonical p (suc k) r (All-tail (λ x. x < p) (suc c) r small) (omega arith))

  -- terms of later ranks have nothing at a monomial
  total_before : (m : List ℕ) (i k : ℕ) (r : List ℕ) → HasRank T m i → i < k → k + length r ≤ count T → total (terms_from T k r) m ≡ 0
  total_before m i k [] h l within = refl
  total_before m i k (zero ∷ r) h l within = total_before m i (suc k) r h (omega arith) (omega arith)
  total_before m i k (suc c ∷ r) h l within =
      let off : same (mono_of_rank T k) m ≡ false = same-false (mono_of_rank T k) m (λ e. omega (arith, l, one_rank T (mono_of_rank T k) m k i (rank-mono_of_rank T k some (omega arith)) h e)) in
      ap (λ b. cond b (suc c) 0 + total (terms_from T (suc k) r) m) off ∙ none_more (total (terms_from T (suc k) r) m) ∙ total_before m i (suc k) r h (omega arith) (omega arith)

  -- at the monomial of a rank the terms have the residue that stands there
  total_at : (m : List ℕ) (j k : ℕ) (r : List ℕ) → HasRank T m (k + j) → k + length r ≤ count T → total (terms_from T k r) m ≡ get_or r j 0
  total_at m j k [] h within = refl
  total_at m zero k (zero ∷ r) h within = total_before m (k + 0) (suc k) r h (omega arith) (omega arith)
  total_at m zero k (suc c ∷ r) h within =
      let e : k + 0 ≡ k = omega arith in
      let on : same (mono_of_rank T k) m ≡ true = ap (λ x. same x m) (mono_of_rank-is T m k (subst (HasRank T m) e h)) ∙ same_self m in
      ap (λ b. cond b (suc c) 0 + total (terms_from T (suc k) r) m) on
      ∙ ap (λ x. suc c + x) (total_before m (k + 0) (suc k) r h (omega arith) (omega arith))
      ∙ (let z : suc c + 0 ≡ suc c = omega arith in z)
  total_at m (suc j) k (zero ∷ r) h within = total_at m j (suc k) r (later h) (omega arith)
    where
      later : HasRank T m (k + suc j) → HasRank T m (suc k + j)
      later h = let e : k + suc j ≡ suc k + j = omega arith in subst (HasRank T m) e h
  total_at m (suc j) k (suc c ∷ r) h within =
      let e : k + suc j ≡ suc k + j = omega arith in
      let off : same (mono_of_rank T k) m ≡ false = same-false (mono_of_rank T k) m (λ x. omega (arith, one_rank T (mono_of_rank T k) m k (k + suc j) (rank-mono_of_rank T k some (omega arith)) h x)) in
      ap (λ b. cond b (suc c) 0 + total (terms_from T (suc k) r) m) off ∙ none_more (total (terms_from T (suc k) r) m) ∙ total_at m j (suc k) r (subst (HasRank T m) e h) (omega arith)

  -- the polynomial of a row is canonical
  pub row_canonical : (p : ℕ) (r : List ℕ) → IsRow p (count T) r → IsCanonical p T.variables (poly_of_row T r)
  row_canonical p r h = terms_canonical p 0 r h.residues (omega (arith, h.full))

  -- the row is that of its polynomial
  pub row_of_poly : (p : ℕ) (r : List ℕ) → IsRow p (count T) r → IsRowOf p T (coef p (poly_of_row T r)) r
  row_of_poly p r h = record {
    row = h;
    coefs = λ m k hm. sym (ap (λ x. x % p) (total_at m k 0 r (subst (HasRank T m) (sym (none_more k)) hm) (omega (arith, h.full))) ∙ row_mod p (count T) r k h);
  }
