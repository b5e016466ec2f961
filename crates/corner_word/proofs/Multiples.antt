-- The multiples of a lead are marked in the order of ranks, and none of them has a rank below that of the lead.
-- So where the walk has come to the end, the marks are those before and those of the multiples.
use Rattle.std.proofs.Common.{◌≡◌, ◌≢◌, ℕ, ◌+◌, ◌<◌, ◌≤◌, ◌↔◌, ◌⊎◌, List, length, set, Bool, true, false, IsTrue, refl, ap, sym, ◌∙◌, subst, inl, inr, arith, get_or-set_other}
use Rattle.std.proofs.lemmas.Bool.{cases_lt}
use Rattle.std.proofs.lemmas.List.{get_or-set_same}
use Rattle.local_order.specs.Mono.{Divides}
use Rattle.local_order.specs.Order.{IsAbove}
use Rattle.local_order.specs.Shape.{Shape, count}
use Rattle.local_order.proofs.Division.{divisor_above}
use Rattle.mono_rank.specs.Rank.{HasRank, rank_of}
use Rattle.mono_rank.proofs.Ranks.{rank_above, rank_low}
use Rattle.corner_word.specs.Marks.{mark_at}

-- the multiples of ranks below i are marked in t beside what is marked in s, and nothing else has changed
pub record IsMarkedUpTo (T : Shape) (s : List Bool) (lead : ℕ) (t : List Bool) (i : ℕ) : Type 0 where
  pub done : (k m : List ℕ) (r : ℕ) → r < i → HasRank T k lead → HasRank T m r → IsTrue (mark_at t r) ↔ (IsTrue (mark_at s r) ⊎ Divides k m)
  pub rest : (r : ℕ) → i ≤ r → mark_at t r ≡ mark_at s r

-- a multiple has the rank of the divisor at least
pub rank_of_multiple : (T : Shape) (k m : List ℕ) (l r : ℕ) → HasRank T k l → HasRank T m r → Divides k m → l ≤ r
rank_of_multiple T k m l r h g D = go (divisor_above k m (h.in_ring ∙ sym g.in_ring) D)
  where
    go : (k ≡ m) ⊎ IsAbove k m → l ≤ r
    go (inl e) = omega (arith, h.rank, g.rank, ap (rank_of T) e)
    go (inr a) = omega (arith, h.rank, g.rank, rank_above T k m h.in_ring h.low a)

-- at the rank of the lead none is behind
pub marked_first : (T : Shape) (s : List Bool) (lead : ℕ) → IsMarkedUpTo T s lead s lead
marked_first T s lead = record {
  done = λ k m r l h g. (λ t. inl t, back k m r l h g);
  rest = λ r l. refl;
}
  where
    back : (k m : List ℕ) (r : ℕ) → r < lead → HasRank T k lead → HasRank T m r → IsTrue (mark_at s r) ⊎ Divides k m → IsTrue (mark_at s r)
    back k m r l h g (inl t) = t
    back k m r l h g (inr D) = absurd (omega (arith, rank_of_multiple T k m lead r h g D))

-- the next rank is that of a multiple, and gets its mark
pub marked_set : (T : Shape) (s : List Bool) (lead : ℕ) (t u : List Bool) (i : ℕ) → IsMarkedUpTo T s lead t i → i < length t →
    ((x y : List ℕ) → HasRank T x lead → HasRank T y i → Divides x y) → u ≡ set t i true → IsMarkedUpTo T s lead u (i + 1)
marked_set T s lead t u i I there multiple e = record { done = λ k m r l h g. go k m r l h g (cases_lt r i); rest = λ r l. other r (omega arith) ∙ I.rest r (omega arith) }
  where
    other : (r : ℕ) → r ≢ i → mark_at u r ≡ mark_at t r
    other r f = ap (λ w. mark_at w r) e ∙ get_or-set_other t i r true false f

    here : mark_at u i ≡ true
    here = ap (λ w. mark_at w i) e ∙ get_or-set_same t i true false there

    go : (k m : List ℕ) (r : ℕ) → r < i + 1 → HasRank T k lead → HasRank T m r → (r < i) ⊎ (i ≤ r) → IsTrue (mark_at u r) ↔ (IsTrue (mark_at s r) ⊎ Divides k m)
    go k m r l h g (inl f) = subst (λ b. IsTrue b ↔ (IsTrue (mark_at s r) ⊎ Divides k m)) (sym (other r (omega arith))) (I.done k m r f h g)
    go k m r l h g (inr f) =
        let same : r ≡ i = omega arith in
        let D : Divides k m = multiple k m h (subst (HasRank T m) same g) in
        let set_here : mark_at u r ≡ true = ap (mark_at u) same ∙ here in
        (λ t. inr D, λ t. set_here)

-- the next rank is that of no multiple, and stays as it is
pub marked_kept : (T : Shape) (s : List Bool) (lead : ℕ) (t u : List Bool) (i : ℕ) → IsMarkedUpTo T s lead t i →
    ((x y : List ℕ) → HasRank T x lead → HasRank T y i → IsTrue false ↔ Divides x y) → u ≡ t → IsMarkedUpTo T s lead u (i + 1)
marked_kept T s lead t u i I other e = subst (λ w. IsMarkedUpTo T s lead w (i + 1)) (sym e) (record { done = λ k m r l h g. go k m r l h g (cases_lt r i); rest = λ r l. I.rest r (omega arith) })
  where
    go : (k m : List ℕ) (r : ℕ) → r < i + 1 → HasRank T k lead → HasRank T m r → (r < i) ⊎ (i ≤ r) → IsTrue (mark_at t r) ↔ (IsTrue (mark_at s r) ⊎ Divides k m)
    go k m r l h g (inl f) = I.done k m r f h g
    go k m r l h g (inr f) =
        let same : r ≡ i = omega arith in
        let still : mark_at t r ≡ mark_at s r = I.rest r f in
        (λ (w : IsTrue (mark_at t r)). inl (subst IsTrue still w), λ w. back w)
      where
        back : IsTrue (mark_at s r) ⊎ Divides k m → IsTrue (mark_at t r)
        back (inl w) = subst IsTrue (sym (I.rest r f)) w
        back (inr D) =
            let same : r ≡ i = omega arith in
            let no : false ≡ true = (other k m h (subst (HasRank T m) same g)).1 D in
            cc

-- at the end all are behind
pub marked_last : (T : Shape) (s : List Bool) (lead : ℕ) (t : List Bool) (i : ℕ) → IsMarkedUpTo T s lead t i → count T ≤ i →
    (k m : List ℕ) (r : ℕ) → HasRank T k lead → HasRank T m r → IsTrue (mark_at t r) ↔ (IsTrue (mark_at s r) ⊎ Divides k m)
marked_last T s lead t i I all k m r h g = I.done k m r (omega (arith, rank_low T m g.in_ring g.low, g.rank)) h g
