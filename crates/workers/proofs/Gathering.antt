-- Workers one by one: the last of a list, the numbers and the counts of all, and what all know.
-- A list is cut into its front and its last member, and each sum is cut likewise.
use Rattle.std.proofs.Common.{◌≡◌, ℕ, zero, suc, ◌+◌, ◌*◌, ◌<◌, ◌≤◌, Bool, true, false, cond, List, [], ◌∷◌, ◌++◌, length, map, take, get_or, refl, sym, ap, ◌∙◌, subst, arith, eqb, eq-eqb, leb, leb-true, leb-false, length-append, ◌⊎◌, inl, inr, ⊎_elim}
use Rattle.std.specs.Prelude.{sum_by, All, max}
use Rattle.std.proofs.lemmas.Bool.{cases_lt}
use Rattle.std.proofs.lemmas.List.{take_all, take-take, length-take, get_or_default}
use Rattle.std.proofs.lemmas.List.Sums.{sum_by-append}
use mathlib.Core.List.{map-append}
use Rattle.entry_code.specs.Entry.{Entry}
use Rattle.mora_law.specs.Legal.{Legal}
use Rattle.run_core.specs.State.{times}
use Rattle.reducer_list.specs.View.{Setting, View, Begins, top}
use Rattle.reducer_list.specs.Steps.{both}
use Rattle.workers.specs.Working.{Working, numbers_of, IsCounted}
use Rattle.workers.specs.Manned.{HasNumber, HasEvery}
use Rattle.workers.specs.Rounds.{IsLegalView, claims_of, published_of}

-- ---- the last of a list
module _ {X : Type 0} where
  -- a member before the last
  get_front : (xs : List X) (x d : X) (k : ℕ) → k < length xs → get_or (xs ++ x ∷ []) k d ≡ get_or xs k d
  get_front [] x d k less = absurd (omega arith)
  get_front (y ∷ xs) x d zero less = refl
  get_front (y ∷ xs) x d (suc k) less = get_front xs x d k (omega arith)

  -- the last member
  get_last : (xs : List X) (x d : X) → get_or (xs ++ x ∷ []) (length xs) d ≡ x
  get_last [] x d = refl
  get_last (y ∷ xs) x d = get_last xs x d

  module _ (P : X → Type 0) (all xs : List X) (x : X) (is : all ≡ xs ++ x ∷ []) where
    -- what holds of all holds of those before the last
    pub all_front : All P all → All P xs
    all_front has k d less =
        let l = length-append xs (x ∷ []) in let l' = ap length is in
        subst P (ap (λ (m : List X). get_or m k d) is ∙ get_front xs x d k less) (has k d (omega arith))

    -- and of the last
    pub all_last : All P all → P x
    all_last has =
        let l = length-append xs (x ∷ []) in let l' = ap length is in
        subst P (ap (λ (m : List X). get_or m (length xs) x) is ∙ get_last xs x x) (has (length xs) x (omega arith))

    -- and the other way
    pub all_more : All P xs → P x → All P all
    all_more has new k d less = subst (λ (m : List X). P (get_or m k d)) (sym is) (by_place xs has k (subst (λ (n : ℕ). k < n) (ap length is ∙ length-append xs (x ∷ [])) less))
      where
        by_place : (ys : List X) → All P ys → (k : ℕ) → k < length ys + 1 → P (get_or (ys ++ x ∷ []) k d)
        by_place [] has zero less = new
        by_place [] has (suc k) less = absurd (omega arith)
        by_place (y ∷ ys) has zero less = has 0 d (omega arith)
        by_place (y ∷ ys) has (suc k) less = by_place ys (λ j e l. has (suc j) e (omega arith)) k (omega arith)

  -- of none anything holds
  pub all_none : (P : X → Type 0) (xs : List X) → length xs ≡ 0 → All P xs
  all_none P [] e k d less = absurd (omega arith)
  all_none P (x ∷ xs) e k d less = absurd (omega arith)

  -- what holds of the first members and of the next one holds of all of these
  pub all_upto : (P : X → Type 0) (xs : List X) (i : ℕ) (x : X) → i < length xs → get_or xs i x ≡ x → P x → ((k : ℕ) (d : X) → k < i → P (get_or xs k d)) →
      (k : ℕ) (d : X) → k < i + 1 → P (get_or xs k d)
  all_upto P xs i x within at new old k d less = go (cases_lt k i)
    where
      go : (k < i) ⊎ (i ≤ k) → P (get_or xs k d)
      go (inl l) = old k d l
      go (inr l) = let e : i ≡ k = omega arith in subst (λ n. P (get_or xs n d)) e (subst P (sym (get_or_default xs i d x within ∙ at)) new)

-- ---- the numbers of all
-- one list of numbers more
numbers_cons : (x : ℕ) (n : List ℕ) (ns : List (List ℕ)) → sum_by (λ m. times x m) (n ∷ ns) ≡ times x n + sum_by (λ m. times x m) ns
numbers_cons x n ns = let cut = sum_by-append (λ (m : List ℕ). times x m) (n ∷ []) ns in omega arith

-- those of the last worker
numbers_last : (x : ℕ) (all ws : List Working) (w : Working) → all ≡ ws ++ w ∷ [] →
    sum_by (λ m. times x m) (map numbers_of all) ≡ sum_by (λ m. times x m) (map numbers_of ws) + times x (numbers_of w)
numbers_last x all ws w is =
    let d : sum_by (λ m. times x m) (map numbers_of all) ≡ sum_by (λ m. times x m) (map numbers_of ws ++ numbers_of w ∷ []) =
    ap (λ (m : List (List ℕ)). sum_by (λ (y : List ℕ). times x y) m) (ap (map numbers_of) is ∙ map-append numbers_of ws (w ∷ [])) in
    let e = sum_by-append (λ (m : List ℕ). times x m) (map numbers_of ws) (numbers_of w ∷ []) in
    omega arith

-- the numbers of the last worker go over to the seat
pub every_joined : (count : ℕ) (mine : List ℕ) (all ws : List Working) (w : Working) → all ≡ ws ++ w ∷ [] →
    HasEvery count (mine ∷ map numbers_of all) → HasEvery count ((mine ++ numbers_of w) ∷ map numbers_of ws)
every_joined count mine all ws w is has x less =
    let h = has x less in
    let a = numbers_cons x mine (map numbers_of all) in
    let b = numbers_cons x (mine ++ numbers_of w) (map numbers_of ws) in
    let c : times x (mine ++ numbers_of w) ≡ times x mine + times x (numbers_of w) = sum_by-append (λ (y : ℕ). cond (eqb x y) 1 0) mine (numbers_of w) in
    let d = numbers_last x all ws w is in
    omega arith

-- the last worker comes first
pub every_turned : (count : ℕ) (all ws : List Working) (w : Working) → all ≡ ws ++ w ∷ [] → HasEvery count (map numbers_of all) → HasEvery count (numbers_of w ∷ map numbers_of ws)
every_turned count all ws w is has x less =
    let h = has x less in
    let a = numbers_cons x (numbers_of w) (map numbers_of ws) in
    let d = numbers_last x all ws w is in
    omega arith

-- a worker more has its number
pub number_more : (x : ℕ) (all ws : List Working) (w : Working) → all ≡ ws ++ w ∷ [] → (HasNumber x (map numbers_of ws)) ⊎ (numbers_of w ≡ x ∷ []) → HasNumber x (map numbers_of all)
number_more x all ws w is has =
    let d = numbers_last x all ws w is in
    let one : times x (x ∷ []) ≡ 1 = ap (λ b. 0 + cond b 1 0) (eq-eqb x x refl) in
    ⊎_elim (λ h. omega arith) (λ h. let f : times x (numbers_of w) ≡ times x (x ∷ []) = ap (times x) h in omega arith) has

-- once there is no other worker, the seat has all numbers
pub every_alone : (count : ℕ) (mine : List ℕ) (ws : List Working) → length ws ≡ 0 → HasEvery count (mine ∷ map numbers_of ws) → (x : ℕ) → x < count → 0 < times x mine
every_alone count mine [] none has x less = let h = has x less in let a = numbers_cons x mine [] in omega arith
every_alone count mine (w ∷ ws) none has x less = absurd (omega arith)

-- ---- sums over all
-- the last worker's part
pub sum_last : (f : Working → ℕ) (all ws : List Working) (w : Working) → all ≡ ws ++ w ∷ [] → sum_by f all ≡ sum_by f ws + f w
sum_last f all ws w is = ap (sum_by f) is ∙ sum_by-append f ws (w ∷ []) ∙ (let z : sum_by f (w ∷ []) ≡ f w = omega arith in ap (λ n. sum_by f ws + n) z)

-- none
pub sum_none : (f : Working → ℕ) (ws : List Working) → length ws ≡ 0 → sum_by f ws ≡ 0
sum_none f [] e = refl
sum_none f (w ∷ ws) e = absurd (omega arith)

-- the counts of all are between the steps that they published and the monomials for each ticket that they claimed
pub counts_between : (n : ℕ) (ws : List Working) → All (λ w. IsCounted w × (top w.seat.view.setting ≡ n)) ws →
    (sum_by published_of ws ≤ sum_by (λ w. w.reductions) ws) × (sum_by (λ w. w.reductions) ws ≤ n * sum_by claims_of ws)
counts_between n [] all = (omega arith, omega arith)
counts_between n (w ∷ ws) all =
    let h = all 0 w (omega arith) in
    let r = counts_between n ws (λ k d less. all (suc k) d (omega arith)) in
    let a = cons (λ (x : Working). x.reductions) in
    let b = cons published_of in
    let c = cons claims_of in
    let most : w.reductions ≤ n * claims_of w = subst (λ m. w.reductions ≤ m * claims_of w) h.1 h.0.most in
    let least = h.0.least in
    let x : ℕ = n * sum_by claims_of (w ∷ ws) in
    let y : ℕ = n * claims_of w in
    let z : ℕ = n * sum_by claims_of ws in
    let product : n * (claims_of w + sum_by claims_of ws) ≡ y + z = grind arith in
    let whole : x ≡ n * (claims_of w + sum_by claims_of ws) = ap (λ m. n * m) c in
    let r0 = r.0 in let r1 : sum_by (λ u. u.reductions) ws ≤ z = r.1 in
    (omega arith, omega arith)
  where
    cons : (f : Working → ℕ) → sum_by f (w ∷ ws) ≡ f w + sum_by f ws
    cons f = let cut = sum_by-append f (w ∷ []) ws in omega arith

-- ---- what all know
-- a list begins itself
pub begins_self : (l : List Entry) → Begins l l
begins_self l = take_all (length l) l (omega arith)

-- what begins a list is no longer
begins_shorter : (l m : List Entry) → Begins l m → length l ≤ length m
begins_shorter l m b = let a = length-take (length l) m in let e = ap length b in omega (arith, a, e)

-- what begins the beginning of a list begins the list
pub begins_both : (l m n : List Entry) → Begins l m → Begins m n → Begins l n
begins_both l m n a b = sym (take-take (length l) (length m) n (begins_shorter l m a)) ∙ ap (take (length l)) b ∙ a

-- ---- a seat that was joined
-- what it knows is legal
pub legal_both : (v w : View) → w.setting ≡ v.setting → IsLegalView v → IsLegalView w → IsLegalView (both v w)
legal_both v w same a b = go (leb w.seat.known v.seat.known) refl
  where
    theirs : Legal v.setting.problem w.list
    theirs = subst (λ (p : Setting). Legal p.problem w.list) same b.legal

    go : (t : Bool) → leb w.seat.known v.seat.known ≡ t → IsLegalView (both v w)
    go true e = record {
      legal = subst (λ x. Legal v.setting.problem (cond x v.list w.list)) (sym e) a.legal;
      count = let l = leb-true w.seat.known v.seat.known e in
          (let m : max v.seat.known w.seat.known ≡ v.seat.known = omega arith in m ∙ a.count ∙ ap (λ x. length (cond x v.list w.list)) (sym e));
    }
    go false e = record {
      legal = subst (λ x. Legal v.setting.problem (cond x v.list w.list)) (sym e) theirs;
      count = let l = leb-false w.seat.known v.seat.known e in
          (let m : max v.seat.known w.seat.known ≡ w.seat.known = omega arith in m ∙ b.count ∙ ap (λ x. length (cond x v.list w.list)) (sym e));
    }
