-- A run of residues subtracted place by place: the places before the next one are done, and the others are as they were.
-- A residue that is 0 leaves its place as it is.
use Rattle.std.proofs.Common.{◌≡◌, ℕ, ◌+◌, ◌-◌, ◌*◌, ◌%◌, ◌<◌, List, length, get_or, set, refl, ap, ◌∙◌, arith, below_more, get_or-set_other, get_or-set_same}
use Rattle.rank_algebra.specs.Rows.{IsRow}
use Rattle.trunc_row.specs.Rows.{SubtractsRun}
use Rattle.trunc_row.proofs.Residues.{row_set, row_mod, less_none}

-- nothing is subtracted yet
pub run_begins : (p c from to : ℕ) (g r : List ℕ) → IsRow p (length r) r → SubtractsRun p c from to 0 g r r
run_begins p c from to g r h = record { row = h; inside = λ k l. absurd (omega (arith, l)); before = λ j l. refl; behind = λ j l. refl }

-- the residue at the next place is set
pub run_set : (p c from to k x : ℕ) (g r s : List ℕ) → SubtractsRun p c from to k g r s → to + k < length r → x < p
    → x ≡ (get_or s (to + k) 0 + (p - c) * get_or g (from + k) 0) % p → SubtractsRun p c from to (k + 1) g r (set s (to + k) x)
run_set p c from to k x g r s h l small e = record {
  row = row_set p (length r) s (to + k) x h.row small;
  inside = below_more (λ i. get_or (set s (to + k) x) (to + i) 0 ≡ (get_or r (to + i) 0 + (p - c) * get_or g (from + i) 0) % p) k
      (λ i m. get_or-set_other s (to + k) (to + i) x 0 (omega arith) ∙ h.inside i m)
      (get_or-set_same s (to + k) x 0 (omega (arith, h.row.full)) ∙ e ∙ ap (λ y. (y + (p - c) * get_or g (from + k) 0) % p) (h.behind (to + k) (omega arith)));
  before = λ j m. get_or-set_other s (to + k) j x 0 (omega arith) ∙ h.before j m;
  behind = λ j m. get_or-set_other s (to + k) j x 0 (omega arith) ∙ h.behind j (omega arith);
}

-- at the next place 0 is subtracted
pub run_skip : (p c from to k : ℕ) (g r s : List ℕ) → SubtractsRun p c from to k g r s → IsRow p (length r) r → get_or g (from + k) 0 ≡ 0
    → SubtractsRun p c from to (k + 1) g r s
run_skip p c from to k g r s h own z = record {
  row = h.row;
  inside = below_more (λ i. get_or s (to + i) 0 ≡ (get_or r (to + i) 0 + (p - c) * get_or g (from + i) 0) % p) k h.inside
      (h.behind (to + k) (omega arith) ∙ less_none p c (get_or r (to + k) 0) (get_or g (from + k) 0) z (row_mod p (length r) r (to + k) own));
  before = h.before;
  behind = λ j m. h.behind j (omega arith);
}
