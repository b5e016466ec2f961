-- The rows of numbers: one more number may be put at the end.
-- A loop over the exponents of a monomial reads one number for each variable, and they add up to what is less in its degree.
use Rattle.std.proofs.Common.{◌≡◌, ℕ, zero, suc, ◌+◌, ◌-◌, ◌*◌, ◌<◌, ◌≤◌, ◌⊎◌, List, [], ◌∷◌, ◌++◌, length, get_or, drop, refl, ap, sym, ◌∙◌, inl, inr, subst, arith}
use Rattle.std.proofs.Math.Seq.{drop-cons}
use Rattle.std.proofs.lemmas.Bool.{cases_lt}
use Rattle.std.proofs.lemmas.List.{length-append, get_or_append_left, get_or-append_right}
use Rattle.local_order.specs.Mono.{degree}
use Rattle.local_order.specs.Count.{monomial_count}
use Rattle.mono_rank.specs.Rank.{fewer}
use Rattle.mono_rank.specs.Stored.{HasCounts}
use Rattle.mono_rank.proofs.Pascal.{count_in_degree}
use Rattle.mono_rank.proofs.Places.{below_from, below, place, place_sum}

-- one more number, at place i of row p + 1
pub counts_more : (s : List ℕ) (p i c : ℕ) → HasCounts s → length s ≡ 8 * (p + 1) + i → i < 8 → c ≡ fewer (suc i) (suc p) → HasCounts (s ++ c ∷ [])
counts_more s p i c h e l is q j m k = go (cases_lt (8 * q + j) (length s))
  where
    go : (8 * q + j < length s) ⊎ (length s ≤ 8 * q + j) → get_or (s ++ c ∷ []) (8 * q + j) 0 ≡ fewer (suc j) q
    go (inl a) = get_or_append_left s (c ∷ []) 0 (8 * q + j) a ∙ h q j m a
    go (inr a) =
        let at : 8 * q + j ≡ length s = omega (arith, length-append s (c ∷ [])) in
        let row : q ≡ suc p = omega arith in
        let place : j ≡ i = omega arith in
        get_or-append_right s (c ∷ []) (length s) (8 * q + j) 0 refl a
        ∙ ap (λ k. get_or (c ∷ []) k 0) (let z : 8 * q + j - length s ≡ 0 = omega arith in z)
        ∙ is ∙ (let same : fewer (suc i) (suc p) ≡ fewer (suc j) q = cc in same)

-- the number of monomials in i variables below degree p stands before place i of row p
pub count_read : (s : List ℕ) (p i k : ℕ) → HasCounts s → 1 ≤ i → i ≤ 8 → k ≡ 8 * p + i - 1 → k < length s → get_or s k 0 ≡ fewer i p
count_read s p zero k h some few e l = absurd (omega arith)
count_read s p (suc i) k h some few e l =
    let same : k ≡ 8 * p + i = omega arith in
    ap (λ j. get_or s j 0) same ∙ h p i (omega arith) (omega arith)

-- ---- the loop over the exponents
-- the loop tells one number more
tells_more : (m : List ℕ) (i p : ℕ) → i < length m → below_from i p (drop i m) ≡ fewer i p + below_from (suc i) (p + get_or m i 0) (drop (suc i) m)
tells_more m i p l = ap (below_from i p) (drop-cons m i 0 l)

-- what the loop has told so far, and what is left to tell
pub record HasTold (m : List ℕ) (i p rest : ℕ) : Type 0 where
  pub degree_is : p + degree (drop i m) ≡ degree m
  pub told : rest + below_from i p (drop i m) ≡ 1 + below m

-- at first there is the monomial itself
pub told_first : (m : List ℕ) (p : ℕ) → 1 ≤ length m → p ≡ get_or m 0 0 → HasTold m 1 p 1
told_first [] p l e = absurd (omega arith)
told_first (x ∷ m) p l e = subst (λ k. HasTold (x ∷ m) 1 k 1) (sym e) (record { degree_is = refl; told = refl })

-- one variable further
pub told_more : (m : List ℕ) (i p rest x c : ℕ) → i < length m → HasTold m i p rest → x ≡ get_or m i 0 → c ≡ fewer i p → HasTold m (i + 1) (p + x) (rest + c)
told_more m i p rest x c l h e f =
    subst (λ k. HasTold m k (p + x) (rest + c)) (let k : suc i ≡ i + 1 = omega arith in k)
    (subst (λ k. HasTold m (suc i) (p + k) (rest + c)) (sym e) (record {
      degree_is = omega (arith, h.degree_is, ap degree (drop-cons m i 0 l));
      told = omega (arith, h.told, tells_more m i p l);
    }))

-- the numbers that are told are at most as many as monomials
pub told_low : (m : List ℕ) (i p rest d : ℕ) → 1 ≤ length m → i < length m → degree m ≤ d → monomial_count (length m) d ≤ 4096 → HasTold m i p rest → rest + fewer i p ≤ 4096
told_low m i p rest d some l low small h =
    omega (arith, h.told, tells_more m i p l, place_sum m some, count_in_degree (length m) (degree m) d low)

-- nothing is behind the end
drop_end : (m : List ℕ) (i : ℕ) → length m ≤ i → drop i m ≡ []
drop_end [] zero l = refl
drop_end [] (suc i) l = refl
drop_end (x ∷ m) zero l = absurd (omega arith)
drop_end (x ∷ m) (suc i) l = drop_end m i (omega arith)

-- at the end all are told, and the number read last is the place and what was told
pub told_all : (s m : List ℕ) (d i p rest k : ℕ) → HasCounts s → length s ≡ 8 * (d + 2) → 1 ≤ length m → length m ≤ 8 → degree m ≤ d → length m ≤ i → HasTold m i p rest →
    k ≡ 8 * (p + 1) + length m - 1 → get_or s k 0 ≡ rest + place m
told_all s m d i p rest k h rows some few low l t e =
    let end = drop_end m i l in
    let whole : p ≡ degree m = omega (arith, t.degree_is, ap degree end) in
    let all : rest ≡ 1 + below m = omega (arith, t.told, ap (below_from i p) end) in
    omega (arith, count_read s (suc p) (length m) k h some few (omega arith) (omega arith), ap (monomial_count (length m)) whole, place_sum m some)
