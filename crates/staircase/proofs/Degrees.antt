-- Numbers of monomials grow with the degree, so a rank lies among the ranks of one degree.
-- The ranks of a staircase that are of a degree are those between two first ranks.
use Rattle.std.proofs.Common.{◌≡◌, ℕ, suc, ◌<◌, ◌≤◌, ◌↔◌, ◌⊎◌, List, [], ◌∷◌, All, Bool, false, IsTrue, ltb, leb, cond, count_by, ◌&&◌, refl, ap, sym, ◌∙◌, subst, inl, inr, Option, arith}
use Rattle.std.specs.Prelude.{Some, None}
use Rattle.std.specs.Option.{MatchOption}
use Rattle.std.specs.List.{Contains}
use Rattle.std.proofs.lemmas.Bool.{cases_lt, and_from, and_left, and_right, eqb-true, eq-eqb, ne_eqb, le-leb, lt-ltb, lt-leb, le-ltb}
use Rattle.std.proofs.lemmas.List.Elements.{All-head, All-tail, All-contains}
use Rattle.std.proofs.lemmas.List.Sums.{sum_by-cons}
use Rattle.local_order.specs.Mono.{degree}
use Rattle.local_order.specs.Shape.{Shape, count}
use Rattle.mono_rank.specs.Rank.{HasRank, mono_of_rank, fewer}
use Rattle.mono_rank.proofs.Pascal.{fewer_in_degree}
use Rattle.mono_rank.proofs.ByRank.{mono_of_rank-is, rank-mono_of_rank}
use Rattle.mono_rank.proofs.Ranks.{rank_from, rank_below}
use Rattle.mono_rank.proofs.Degrees.{top_rank}
use Rattle.staircase.specs.Stair.{is_of_degree, IsLeastOfDegree}

-- the ranks of a degree are those of its monomials
pub of_degree_is : (T : Shape) (m : List ℕ) (r e : ℕ) → HasRank T m r → IsTrue (is_of_degree T e r) ↔ (degree m ≡ e)
of_degree_is T m r e h =
    let same : degree (mono_of_rank T r) ≡ degree m = ap degree (mono_of_rank-is T m r h) in
    (λ t. sym same ∙ eqb-true (degree (mono_of_rank T r)) e t, λ k. eq-eqb (degree (mono_of_rank T r)) e (same ∙ k))

-- the monomials of the ranks from the first of a degree to below the first of the next have this degree
pub degree_between : (T : Shape) (r e : ℕ) → 1 ≤ T.variables → r < count T →
    (degree (mono_of_rank T r) ≡ e) ↔ ((fewer T.variables e ≤ r) × (r < fewer T.variables (suc e)))
degree_between T r e some l = (there, λ t. back t (cases_lt (degree m) e) (cases_lt e (degree m)))
  where
    m : List ℕ
    m = mono_of_rank T r

    h : HasRank T m r
    h = rank-mono_of_rank T r some l

    from : fewer T.variables (degree m) ≤ r
    from = rank_from T m r some h

    to : r < fewer T.variables (suc (degree m))
    to = rank_below T m r some h

    there : degree m ≡ e → (fewer T.variables e ≤ r) × (r < fewer T.variables (suc e))
    there s = subst (λ k. (fewer T.variables k ≤ r) × (r < fewer T.variables (suc k))) s (from, to)

    back : (fewer T.variables e ≤ r) × (r < fewer T.variables (suc e)) → (degree m < e) ⊎ (e ≤ degree m) → (e < degree m) ⊎ (degree m ≤ e) → degree m ≡ e
    back t (inl k) o = absurd (omega (arith, t.0, to, fewer_in_degree T.variables (suc (degree m)) e (omega arith)))
    back t (inr k) (inl g) = absurd (omega (arith, t.1, from, fewer_in_degree T.variables (suc e) (degree m) (omega arith)))
    back t (inr k) (inr g) = omega arith

-- ---- how many are of a degree
-- tests that agree on the members of a list count the same
count_same : (p q : ℕ → Bool) (xs : List ℕ) → All (λ x. p x ≡ q x) xs → count_by p xs ≡ count_by q xs
count_same p q [] a = refl
count_same p q (x ∷ xs) a =
    let one : p x ≡ q x = All-head (λ y. p y ≡ q y) x xs a in
    omega (arith, sum_by-cons (λ y. cond (p y) 1 0) x xs, sum_by-cons (λ y. cond (q y) 1 0) x xs, ap {B = ℕ} (λ b. cond b 1 0) one, count_same p q xs (All-tail (λ y. p y ≡ q y) x xs a))

-- the test of a degree compares with the first ranks
between_is : (T : Shape) (r e : ℕ) → 1 ≤ T.variables → r < count T → (leb (fewer T.variables e) r && ltb r (fewer T.variables (suc e))) ≡ is_of_degree T e r
between_is T r e some l = go (cases_lt (degree m) e) (cases_lt e (degree m))
  where
    m : List ℕ
    m = mono_of_rank T r

    low : ℕ
    low = fewer T.variables e

    high : ℕ
    high = fewer T.variables (suc e)

    h : HasRank T m r
    h = rank-mono_of_rank T r some l

    go : (degree m < e) ⊎ (e ≤ degree m) → (e < degree m) ⊎ (degree m ≤ e) → (leb low r && ltb r high) ≡ is_of_degree T e r
    go (inl k) o =
        and_left (leb low r) (ltb r high) (lt-leb low r (omega (arith, rank_below T m r some h, fewer_in_degree T.variables (suc (degree m)) e (omega arith))))
        ∙ sym (ne_eqb (degree m) e (λ s. absurd (omega (arith, s, k))))
    go (inr k) (inl g) =
        and_right (leb low r) (ltb r high) (le-ltb r high (omega (arith, rank_from T m r some h, fewer_in_degree T.variables (suc e) (degree m) (omega arith))))
        ∙ sym (ne_eqb (degree m) e (λ s. absurd (omega (arith, s, g))))
    go (inr k) (inr g) =
        let same : degree m ≡ e = omega arith in
        let within = (degree_between T r e some l).0 same in
        and_from (leb low r) (ltb r high) (le-leb low r within.0) (lt-ltb r high within.1) ∙ sym (eq-eqb (degree m) e same)

-- so as many ranks are of a degree as lie between its first rank and the first of the next
pub between_count : (T : Shape) (e low high : ℕ) (ranks : List ℕ) → 1 ≤ T.variables → All (λ r. r < count T) ranks → low ≡ fewer T.variables e → high ≡ fewer T.variables (suc e) →
    count_by (λ r. leb low r && ltb r high) ranks ≡ count_by (is_of_degree T e) ranks
between_count T e low high ranks some all f g =
    ap (λ k. count_by (λ r. leb k r && ltb r high) ranks) f ∙ ap (λ k. count_by (λ r. leb (fewer T.variables e) r && ltb r k) ranks) g
    ∙ count_same (λ r. leb (fewer T.variables e) r && ltb r (fewer T.variables (suc e))) (is_of_degree T e) ranks (λ k z i. between_is T _ e some (all k z i))

-- a test that none passes counts none
count_none : (p : ℕ → Bool) (xs : List ℕ) → All (λ x. p x ≡ false) xs → count_by p xs ≡ 0
count_none p [] a = refl
count_none p (x ∷ xs) a =
    let no : p x ≡ false = All-head (λ y. p y ≡ false) x xs a in
    omega (arith, sum_by-cons (λ y. cond (p y) 1 0) x xs, ap {B = ℕ} (λ b. cond b 1 0) no, count_none p xs (All-tail (λ y. p y ≡ false) x xs a))

-- no rank is of a degree past the greatest
pub none_past : (T : Shape) (e : ℕ) (ranks : List ℕ) → 1 ≤ T.variables → T.degree < e → All (λ r. r < count T) ranks → count_by (is_of_degree T e) ranks ≡ 0
none_past T e ranks some l a =
    count_none (is_of_degree T e) ranks (λ k z i. ne_eqb _ e (λ s. absurd (omega (arith, s, l, (rank-mono_of_rank T _ some (a k z i)).low))))

-- ---- the first of the greatest degree
-- what is found among the ranks from a number on
abbrev pub IsFoundFrom : List ℕ → ℕ → Option ℕ → Type 0
IsFoundFrom ranks low o = MatchOption o ((r : ℕ) → Contains ranks r → r < low) (λ r. Contains ranks r × (low ≤ r) × ((q : ℕ) → Contains ranks q → low ≤ q → r ≤ q))

-- is the first missing one, where the number is the first rank of the greatest degree
pub found_is : (T : Shape) (low : ℕ) (ranks : List ℕ) (o : Option ℕ) → 1 ≤ T.variables → All (λ r. r < count T) ranks → low ≡ fewer T.variables T.degree → IsFoundFrom ranks low o →
    MatchOption o ((r : ℕ) → Contains ranks r → degree (mono_of_rank T r) < T.degree) (IsLeastOfDegree T T.degree ranks)
found_is T low ranks None some a e f = λ r c.
    let l : r < count T = All-contains (λ r. r < count T) ranks r a c in
    go r l (f r c) (cases_lt (degree (mono_of_rank T r)) T.degree)
  where
    go : (r : ℕ) → r < count T → r < low → (degree (mono_of_rank T r) < T.degree) ⊎ (T.degree ≤ degree (mono_of_rank T r)) → degree (mono_of_rank T r) < T.degree
    go r l b (inl k) = k
    go r l b (inr k) = absurd (omega (arith, b, e, ((degree_between T r T.degree some l).0 (omega (arith, k, (rank-mono_of_rank T r some l).low))).0))
found_is T low ranks (Some r) some a e f =
    let all : (q : ℕ) → Contains ranks q → q < count T = λ q c. All-contains (λ r. r < count T) ranks q a c in
    record {
      there = f.0;
      of_degree = top_rank T (mono_of_rank T r) r some (rank-mono_of_rank T r some (all r f.0)) (omega (arith, f.1, e));
      least = λ q c t. f.2 q c (omega (arith, e, ((degree_between T q T.degree some (all q c)).0 t).0));
    }
