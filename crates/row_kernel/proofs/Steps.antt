-- The loop over vectors, and the loop over what is left.
-- Before a place the row has the differences, and from there on what stood there.
use Rattle.std.proofs.Common.{◌≡◌, ℕ, ◌+◌, ◌-◌, ◌*◌, ◌%◌, ◌<◌, ◌≤◌, List, length, get_or, set, All, refl, ap, sym, ◌∙◌, ◌⊎◌, inl, inr, subst, arith, below_more, get_or-set_other, get_or-set_same}
use Rattle.std.proofs.Math.Nat.{mod-mod, mod-lt, zero-mod}
use Rattle.std.proofs.lemmas.Bool.{cases_lt, cases_eq}
use Rattle.std.proofs.lemmas.List.{length-set, get_or_past}
use Rattle.std.proofs.lemmas.List.Elements.{All-from_get_or, All-get_or}
use Rattle.std.proofs.lemmas.Simd.{length-put_chunk, get_or-put_chunk_below, get_or-put_chunk_at, get_or-put_chunk_above}
use lib.Lanes.{put_chunk}
use Rattle.prime_field.proofs.Residue.{add_same, mul_same}
use Rattle.row_kernel.specs.Difference.{IsDifference}

-- what is left of a residue less c times another
abbrev pub less_at : ℕ → ℕ → List ℕ → List ℕ → ℕ → ℕ
less_at p c g r k = (get_or r k 0 + (p - c) * get_or g k 0) % p

-- the first i places of a row are done
pub record DoneTo (p c i : ℕ) (g old new : List ℕ) : Type 0 where
  pub full : length new ≡ length old
  pub residues : (k : ℕ) → k < length new → get_or new k 0 < p
  pub done : (k : ℕ) → k < i → get_or new k 0 ≡ less_at p c g old k
  pub rest : (k : ℕ) → i ≤ k → get_or new k 0 ≡ get_or old k 0

-- at the start nothing is done
pub done_none : (p c : ℕ) (g old : List ℕ) → All (λ x. x < p) old → DoneTo p c 0 g old old
done_none p c g old small = record {
  full = refl;
  residues = λ k l. All-get_or (λ x. x < p) old k 0 l small;
  done = λ k l. absurd (omega arith);
  rest = λ k l. refl;
}

-- the sum of a and the product of a factor and b is a less c times b
pub less_step : (p c a b e : ℕ) → e ≡ (p - c) % p → (a + e * b) % p ≡ (a + (p - c) * b) % p
less_step p c a b e ee =
    let factor : e % p ≡ (p - c) % p = ap (λ y. y % p) ee ∙ mod-mod (p - c) p in
    add_same p a a (e * b) ((p - c) * b) refl (mul_same p e (p - c) b b factor refl)

-- so is the residue of the sum of a and the product's residue
pub less_by_lanes : (p c a b e : ℕ) → e ≡ (p - c) % p → (a + (e * b) % p) % p ≡ (a + (p - c) * b) % p
less_by_lanes p c a b e ee = add_same p a a ((e * b) % p) (e * b) refl (mod-mod (e * b) p) ∙ less_step p c a b e ee

-- the next place is set
pub done_set : (p c i : ℕ) (g old new : List ℕ) (e x : ℕ) → DoneTo p c i g old new → i < length new → x < p →
    e ≡ (p - c) % p → x ≡ (get_or new i 0 + e * get_or g i 0) % p → DoneTo p c (i + 1) g old (set new i x)
done_set p c i g old new e x h l small ee xe = record {
  full = length-set new i x ∙ h.full;
  residues = λ k m. go k (subst (λ n. k < n) (length-set new i x) m) (cases_eq k i);
  done = below_more (λ k. get_or (set new i x) k 0 ≡ less_at p c g old k) i
      (λ k m. get_or-set_other new i k x 0 (omega arith) ∙ h.done k m)
      (get_or-set_same new i x 0 l ∙ xe ∙ less_step p c (get_or new i 0) (get_or g i 0) e ee ∙ ap (λ y. (y + (p - c) * get_or g i 0) % p) (h.rest i (omega arith)));
  rest = λ k m. get_or-set_other new i k x 0 (omega arith) ∙ h.rest k (omega arith);
}
  where
    go : (k : ℕ) → k < length new → (k ≡ i) ⊎ (k ≡ i → ⊥) → get_or (set new i x) k 0 < p
    go k m (inl e) = subst (λ n. get_or (set new i x) n 0 < p) (sym e) (subst (λ y. y < p) (sym (get_or-set_same new i x 0 l)) small)
    go k m (inr n) = subst (λ y. y < p) (sym (get_or-set_other new i k x 0 n)) (h.residues k m)

-- eight numbers are the differences at the places from i on
pub record AreNext (p c i : ℕ) (g new xs : List ℕ) : Type 0 where
  pub eight : length xs ≡ 8
  pub room : i + 8 ≤ length new
  pub next : (j : ℕ) → j < 8 → get_or xs j 0 ≡ (get_or new (i + j) 0 + (p - c) * get_or g (i + j) 0) % p

-- the next eight places are set
pub done_stored : (p c i : ℕ) (g old new xs : List ℕ) → 0 < p → DoneTo p c i g old new → AreNext p c i g new xs → DoneTo p c (i + 8) g old (put_chunk i new xs)
done_stored p c i g old new xs pos h a = record {
  full = length-put_chunk i new xs ∙ h.full;
  residues = λ k m. small k (subst (λ n. k < n) (length-put_chunk i new xs) m);
  done = λ k m. places k m;
  rest = λ k m. get_or-put_chunk_above i new xs k 0 (omega (arith, a.eight)) ∙ h.rest k (omega arith);
}
  where
    at : (k : ℕ) → i ≤ k → k < i + 8 → get_or (put_chunk i new xs) k 0 ≡ (get_or new k 0 + (p - c) * get_or g k 0) % p
    at k low high =
        let back : i + (k - i) ≡ k = omega arith in
        subst (λ n. get_or (put_chunk i new xs) n 0 ≡ (get_or new n 0 + (p - c) * get_or g n 0) % p) back
        (get_or-put_chunk_at i new xs (k - i) 0 (omega (arith, a.eight)) (omega (arith, a.eight, a.room)) ∙ a.next (k - i) (omega arith))

    inside : (k : ℕ) → i ≤ k → (k < i + 8) ⊎ (i + 8 ≤ k) → k < length new → get_or (put_chunk i new xs) k 0 < p
    inside k low (inl l) m = subst (λ y. y < p) (sym (at k low l)) (mod-lt (get_or new k 0 + (p - c) * get_or g k 0) pos)
    inside k low (inr g') m = subst (λ y. y < p) (sym (get_or-put_chunk_above i new xs k 0 (omega (arith, a.eight)))) (h.residues k m)

    small_at : (k : ℕ) → (k < i) ⊎ (i ≤ k) → k < length new → get_or (put_chunk i new xs) k 0 < p
    small_at k (inl l) m = subst (λ y. y < p) (sym (get_or-put_chunk_below i new xs k 0 l)) (h.residues k m)
    small_at k (inr l) m = inside k l (cases_lt k (i + 8)) m

    small : (k : ℕ) → k < length new → get_or (put_chunk i new xs) k 0 < p
    small k m = small_at k (cases_lt k i) m

    done_at : (k : ℕ) → (k < i) ⊎ (i ≤ k) → k < i + 8 → get_or (put_chunk i new xs) k 0 ≡ less_at p c g old k
    done_at k (inl l) m = get_or-put_chunk_below i new xs k 0 l ∙ h.done k l
    done_at k (inr l) m = at k l m ∙ ap (λ y. (y + (p - c) * get_or g k 0) % p) (h.rest k l)

    places : (k : ℕ) → k < i + 8 → get_or (put_chunk i new xs) k 0 ≡ less_at p c g old k
    places k m = done_at k (cases_lt k i) m

-- where all places are done it is the difference
pub done_all : (p c i : ℕ) (g old new : List ℕ) → length g ≡ length old → length old ≤ i → DoneTo p c i g old new → IsDifference p c old g new
done_all p c i g old new same all h = record {
  full = h.full;
  residues = All-from_get_or (λ x. x < p) new 0 h.residues;
  value = λ k. go k (cases_lt k i);
}
  where
    none : (d : ℕ) → 0 + d * 0 ≡ 0
    none d = omega arith

    go : (k : ℕ) → (k < i) ⊎ (i ≤ k) → get_or new k 0 ≡ less_at p c g old k
    go k (inl l) = h.done k l
    go k (inr l) =
        get_or_past new k 0 (omega (arith, h.full))
        ∙ sym (ap (λ x. (x + (p - c) * get_or g k 0) % p) (get_or_past old k 0 (omega arith))
        ∙ ap (λ y. (0 + (p - c) * y) % p) (get_or_past g k 0 (omega (arith, same)))
        ∙ ap (λ y. y % p) (none (p - c)) ∙ zero-mod p)
