-- Every problem has legal entries that settle every ticket: an item whose run ends with Stuck gives one more entry.
-- With one reading again and again a run ends; each new entry lessens the number of monomials that are multiples of no lead.
use Rattle.std.proofs.Common.{ℕ, zero, suc, ◌+◌, ◌*◌, ◌-◌, ◌<◌, ◌≤◌, ◌≡◌, List, [], ◌∷◌, ◌++◌, length, replicate, Option, Some, None, refl, sym, ◌∙◌, ap, subst, arith, ◌⊎◌, inl, inr}
use Rattle.std.proofs.lemmas.List.{take-replicate, length-replicate}
use Rattle.std.proofs.lemmas.Bool.{cases_lt}
use Rattle.rank_algebra.specs.Ranks.{Ranks, IsRanks}
use Rattle.entry_code.specs.declared.reading.Reading.{Reading}
use Rattle.entry_code.specs.declared.item.Item.{Item}
use Rattle.entry_code.specs.declared.item.Item.TheVariants.{Generator, Pair}
use Rattle.entry_code.specs.Entry.{Entry}
use Rattle.rank_algebra.specs.Vector.{Same, Vector, nothing, Agree, shift, less, cut_at}
use Rattle.rank_algebra.specs.Division.{Basis, IsMonic, Hit, first_of, first_lead, IsMultiple, IsCover, corner_of}
use Rattle.rank_algebra.specs.Ideal.{IsLead, Generators}
use Rattle.mora_law.specs.Lead.{lead}
use Rattle.mora_law.specs.Step.{Reducer, choose, firsts, Run, reduce, step_at, step}
use Rattle.mora_law.specs.declared.step_end.StepEnd.{StepEnd}
use Rattle.mora_law.specs.declared.step_end.StepEnd.TheVariants.{Zero, Reduced, Stuck}
use Rattle.mora_law.specs.Run.{steps, begin, run_from, AreOrderly, last_known}
use Rattle.mora_law.specs.Entries.{terms_of, monic, basis_of}
use Rattle.mora_law.specs.Legal.{IsItemOf, HaveCorners, IsLegalEntry, AreLegal}
use Rattle.mora_law.specs.Settled.{GoesToZero}
use Rattle.mora_law.specs.Start.{start_of}
use Rattle.rank_algebra.proofs.Residues.{same_refl, same_of, same_trans, same_add, same_times, same_less}
use Rattle.rank_algebra.proofs.Linear.{agree_below, inverse_same}
use Rattle.rank_algebra.proofs.First.{shift_lowest, shift_at, first_is, first_none}
use Rattle.rank_algebra.proofs.Corner.{corner_is}
use Rattle.mora_law.proofs.Ties.{Every}
use Rattle.mora_law.proofs.Choice.{lead_some, IsReducer, choose_is}
use Rattle.rank_algebra.proofs.Remainder.{cut_nothing}
use Rattle.mora_law.proofs.Legal.{legal_monic}
use Rattle.mora_law.proofs.Distinct.{no_earlier}
use Rattle.mora_law.proofs.Prefixes.{prefix_append, begins, length_more, legal_more}

-- the leading term goes
pub goes : (R : Ranks) → IsRanks R → (h : Vector) (r : ℕ) (c : Reducer) → IsLead R h r → IsLead R c.poly c.lead → R.times c.cofactor c.lead ≡ r → Agree R (suc r) (less R (h r * R.inverse_of (c.poly c.lead)) (shift R c.cofactor c.poly) h) nothing
goes R L h r c i j e = record { at = λ x o. at x o (cases_lt x r) }
  where
    at : (x : ℕ) → x < suc r → (x < r) ⊎ (r ≤ x) → Same R.p (h x + (R.p - 1) * (h r * R.inverse_of (c.poly c.lead)) * shift R c.cofactor c.poly x) 0
    at x o (inl m) = same_trans (same_add (i.low.at x m) (same_times ((R.p - 1) * (h r * R.inverse_of (c.poly c.lead))) (shift_lowest R L c.cofactor c.lead c.poly j.low x (omega (arith, i.small)) (omega (arith, e))))) (same_of _ _ _ (omega arith))
    at x o (inr m) =
        let z : r ≡ x = omega arith in
        let y : shift R c.cofactor c.poly r ≡ c.poly c.lead = subst (λ u. shift R c.cofactor c.poly u ≡ c.poly c.lead) e (shift_at R L c.cofactor c.lead c.poly (omega (arith, i.small, e))) in
        subst (λ u. Same R.p (h u + (R.p - 1) * (h r * R.inverse_of (c.poly c.lead)) * shift R c.cofactor c.poly u) 0) z
        (same_trans (same_of _ _ _ (ap (λ u. h r + (R.p - 1) * (h r * R.inverse_of (c.poly c.lead)) * u) y))
        (same_trans (same_of _ _ _ (omega arith))
        (same_trans (same_add (same_refl R.p (h r)) (same_times ((R.p - 1) * h r) (inverse_same R L (c.poly c.lead) j.some)))
        (same_trans (same_of _ _ _ (omega arith)) (same_less R.p (h r) L.prime_pos)))))

-- a step that isn't the last raises the rank of the lead
pub record Advances (R : Ranks) (m : ℕ) (x : Run) : Type 0 where
  pub more : x.end ≡ Some Reduced → Agree R (suc m) x.poly nothing

-- nothing is asked of each vector
every_any : (gs : List Vector) → Every (λ g. Unit {0}) gs
every_any [] = tt
every_any (g ∷ gs) = (tt, every_any gs)

-- a Reduced step raises the rank of the lead
pub step_advances : (R : Ranks) → IsRanks R → (entries : ℕ → Vector) (x : Run) (d : Reading) (m : ℕ) → m ≤ R.n → Agree R m x.poly nothing → Advances R m (step R entries x d)
step_advances R L entries x d m mn a = go (lead R h) refl
  where
    h : Vector
    h = cut_at d.corner x.poly

    low : Agree R m h nothing
    low = cut_nothing R d.corner m x.poly a

    go2 : (r : ℕ) → lead R h ≡ Some r → (o : Option Reducer) → choose R r (firsts d.known 0 entries ++ x.kept) ≡ o → Advances R m (reduce R x.kept h r o)
    go2 r e None f = record { more = λ z. absurd (cc z) }
    go2 r e (Some c) f = record { more = λ z. agree_below (omega (arith, past)) (goes R L h r c i (lead_some R c.poly c.lead k.low) k.to) }
      where
        i : IsLead R h r
        i = lead_some R h r e

        k : IsReducer R (λ g. Unit {0}) r c
        k = choose_is R L (λ g. Unit {0}) r _ c (every_any _) f

        past : m ≤ r
        past = at (cases_lt r m)
          where
            at : (r < m) ⊎ (m ≤ r) → m ≤ r
            at (inl n) = absurd (i.some (low.at r n))
            at (inr n) = n

    go : (o : Option ℕ) → lead R h ≡ o → Advances R m (step_at R entries d.known x.kept h o)
    go None e = record { more = λ z. absurd (cc z) }
    go (Some r) e = go2 r e (choose R r (firsts d.known 0 entries ++ x.kept)) refl

-- a step on 0 ends with Zero
step_last : (R : Ranks) (entries : ℕ → Vector) (x : Run) (d : Reading) → Agree R R.n x.poly nothing → (step R entries x d).end ≡ Some Zero
step_last R entries x d a = go (lead R (cut_at d.corner x.poly)) refl
  where
    go : (o : Option ℕ) → lead R (cut_at d.corner x.poly) ≡ o → (step_at R entries d.known x.kept (cut_at d.corner x.poly) o).end ≡ Some Zero
    go None e = refl
    go (Some r) e = let i = lead_some R _ r e in absurd (i.some ((cut_nothing R d.corner R.n x.poly a).at r i.small))

-- each step has an end
step_ends : (R : Ranks) (entries : ℕ → Vector) (x : Run) (d : Reading) → (step R entries x d).end ≡ None → ⊥
step_ends R entries x d = go (lead R (cut_at d.corner x.poly))
  where
    go2 : (r : ℕ) (o : Option Reducer) → (reduce R x.kept (cut_at d.corner x.poly) r o).end ≡ None → ⊥
    go2 r None e = cc e
    go2 r (Some c) e = cc e

    go : (o : Option ℕ) → (step_at R entries d.known x.kept (cut_at d.corner x.poly) o).end ≡ None → ⊥
    go None e = cc e
    go (Some r) e = go2 r (choose R r (firsts d.known 0 entries ++ x.kept)) e

-- with one reading again and again a run comes to its end
pub record Comes (R : Ranks) (entries : ℕ → Vector) (d : Reading) (x : Run) : Type 0 where
  pub j : ℕ
  pub before : (i : ℕ) → 0 < i → i < suc j → (steps R entries x (replicate i d)).end ≡ Some Reduced
  pub last : ((steps R entries x (replicate (suc j) d)).end ≡ Some Zero) ⊎ ((steps R entries x (replicate (suc j) d)).end ≡ Some Stuck)

-- so it ends, since ranks are bounded
comes : (R : Ranks) → IsRanks R → (entries : ℕ → Vector) (d : Reading) (fuel m : ℕ) → m + fuel ≡ R.n → (x : Run) → Agree R m x.poly nothing → Comes R entries d x
comes R L entries d zero m e x a = record { j = 0; before = λ i l k. absurd (omega (arith, l, k)); last = inl (step_last R entries x d (record { at = λ r l. a.at r (omega arith) })) }
comes R L entries d (suc fuel) m e x a = go (step R entries x d).end refl (λ b. comes R L entries d fuel (suc m) (omega arith) (step R entries x d) b)
  where
    go : (y : Option StepEnd) → (step R entries x d).end ≡ y → (Agree R (suc m) (step R entries x d).poly nothing → Comes R entries d (step R entries x d)) → Comes R entries d x
    go None f up = absurd (step_ends R entries x d f)
    go (Some Zero) f up = record { j = 0; before = λ i l k. absurd (omega (arith, l, k)); last = inl f }
    go (Some Stuck) f up = record { j = 0; before = λ i l k. absurd (omega (arith, l, k)); last = inr f }
    go (Some Reduced) f up = let c = up ((step_advances R L entries x d m (omega arith) a).more f) in record { j = suc c.j; before = before c; last = c.last }
      where
        before : (c : Comes R entries d (step R entries x d)) → (i : ℕ) → 0 < i → i < suc (suc c.j) → (steps R entries x (replicate i d)).end ≡ Some Reduced
        before c zero l k = absurd (omega (arith, l))
        before c (suc zero) l k = f
        before c (suc (suc i)) l k = c.before (suc i) (omega arith) (omega (arith, k))

module _ (R : Ranks) (L : IsRanks R) (G : Generators) (entries : List Entry) where
  -- the entries as vectors, with their leads
  abbrev B : Basis
  B = basis_of entries

  -- what the newest worker reads
  now : Reading
  now = record { known = length entries; corner = corner_of R B }

  -- their corner covers
  C : IsCover R B (corner_of R B)
  C = corner_is R L B

  -- these readings know no less and cut no less
  orderly_now : (n : ℕ) (known w : ℕ) → known ≤ length entries → corner_of R B ≤ w → AreOrderly (length entries) known w (replicate n now)
  unfolding now
  orderly_now zero known w k c = k
  orderly_now (suc n) known w k c = (k, c, orderly_now n (length entries) (corner_of R B) (omega arith) (omega arith))

  -- they know all entries
  knows_now : (n : ℕ) (known : ℕ) → last_known known (replicate (suc n) now) ≡ length entries
  unfolding now
  knows_now zero known = refl
  knows_now (suc n) known = knows_now n (length entries)

  -- their corners are justified
  corners_now : (n : ℕ) → HaveCorners R B (corner_of R B) (replicate n now)
  unfolding now
  corners_now zero = tt
  corners_now (suc n) = (omega arith, omega arith, corners_now n)

  -- a new entry
  pub record New : Type 0 where
    pub e : Entry
    pub legal : IsLegalEntry R G B (length entries) e

  -- the item goes to zero
  record Done (item : Item) : Type 0 where
    pub settled : GoesToZero R G entries item

  -- each item goes to zero or gives a new entry
  settle : (item : Item) → IsItemOf G.count (length entries) item → Done item ⊎ New
  settle item f = go (comes R L B.member now R.n 0 (omega arith) x (record { at = λ r l. absurd (omega (arith, l)) }))
    where
      x : Run
      x = begin (start_of R G B item)

      go : Comes R B.member now x → Done item ⊎ New
      go c = at c.last
        where
          reads : List Reading
          reads = replicate (suc c.j) now

          orderly : AreOrderly (length entries) 0 R.n reads
          orderly = orderly_now (suc c.j) 0 R.n (omega arith) C.within

          at : ((steps R B.member x reads).end ≡ Some Zero) ⊎ ((steps R B.member x reads).end ≡ Some Stuck) → Done item ⊎ New
          at (inl z) = inl (record { settled = record { reads = reads; last_end = z; orderly = orderly; corners = corners_now (suc c.j) } })
          at (inr z) = inr (record {
            e = record { item = item; reads = reads; terms = terms_of R (monic R (run_from R B.member (start_of R G B item) reads).poly) };
            legal = record {
              item = f;
              ends = record {
                some = omega (arith, length-replicate (suc c.j) now);
                before = λ j l m. subst (λ ds. (steps R B.member x ds).end ≡ Some Reduced) (sym (take-replicate j (suc c.j) now (omega (arith, m, length-replicate (suc c.j) now)))) (c.before j l (omega (arith, m, length-replicate (suc c.j) now)));
                last_end = z;
              };
              orderly = orderly;
              knows = knows_now c.j 0;
              corners = corners_now (suc c.j);
              terms = refl;
            };
          })

  -- for each below n, or something else
  each_or : (A : ℕ → Type 0) (n : ℕ) → ((k : ℕ) → k < n → A k ⊎ New) → ((k : ℕ) → k < n → A k) ⊎ New
  each_or A zero h = inl (λ k l. absurd (omega (arith, l)))
  each_or A (suc n) h = go (each_or A n (λ k l. h k (omega arith))) (h n (omega arith))
    where
      go : ((k : ℕ) → k < n → A k) ⊎ New → A n ⊎ New → ((k : ℕ) → k < suc n → A k) ⊎ New
      go (inr x) y = inr x
      go (inl f) (inr x) = inr x
      go (inl f) (inl a) = inl (λ k l. at k l (cases_lt k n))
        where
          at : (k : ℕ) → k < suc n → (k < n) ⊎ (n ≤ k) → A k
          at k l (inl m) = f k m
          at k l (inr m) = let z : n ≡ k = omega arith in subst A z a

  -- all items go to zero, or there is a new entry
  all_done : ((item : Item) → IsItemOf G.count (length entries) item → Done item) ⊎ New
  all_done = go (each_or (λ g. Done (Generator g)) G.count (λ g l. settle (Generator g) l))
      (each_or (λ j. (i : ℕ) → i < j → Done (Pair i j)) (length entries) (λ j l. each_or (λ i. Done (Pair i j)) j (λ i m. settle (Pair i j) (m, l))))
    where
      go : ((g : ℕ) → g < G.count → Done (Generator g)) ⊎ New → ((j : ℕ) → j < length entries → (i : ℕ) → i < j → Done (Pair i j)) ⊎ New → ((item : Item) → IsItemOf G.count (length entries) item → Done item) ⊎ New
      go (inr x) y = inr x
      go (inl f) (inr x) = inr x
      go (inl f) (inl g) = inl at
        where
          at : (item : Item) → IsItemOf G.count (length entries) item → Done item
          at (Generator k) l = f k l
          at (Pair i j) l = g j l.1 i l.0

-- how many monomials are multiples of no lead
abbrev free_by : ℕ → Option Hit → ℕ
free_by n None = suc n
free_by n (Some h) = n

-- how many ranks below k are multiples of no lead
abbrev free : Ranks → Basis → ℕ → ℕ
free R B zero = 0
free R B (suc k) = free_by (free R B k) (first_lead R B k)

-- with more multiples there are no more free ranks
free_le : (R : Ranks) → IsRanks R → (B B' : Basis) → ((r : ℕ) → IsMultiple R B r → IsMultiple R B' r) → (k : ℕ) → k ≤ R.n → free R B' k ≤ free R B k
free_le R L B B' h zero l = omega arith
free_le R L B B' h (suc k) l = go (first_lead R B k) refl (first_lead R B' k) refl (free_le R L B B' h k (omega arith))
  where
    go : (o : Option Hit) → first_lead R B k ≡ o → (o' : Option Hit) → first_lead R B' k ≡ o' → free R B' k ≤ free R B k → free_by (free R B' k) o' ≤ free_by (free R B k) o
    go None e None f m = omega (arith, m)
    go None e (Some y) f m = omega (arith, m)
    go (Some x) e (Some y) f m = m
    go (Some x) e None f m = let i = first_is R L B k x l e in absurd (first_none R L B' k l f (h k (record { place = x.place; cofactor = x.cofactor; known = i.known; is = i.is })))

-- and fewer with a new one
free_lt : (R : Ranks) → IsRanks R → (B B' : Basis) → ((r : ℕ) → IsMultiple R B r → IsMultiple R B' r) → (r : ℕ) → IsMultiple R B' r → (IsMultiple R B r → ⊥) → (k : ℕ) → k ≤ R.n → r < k → free R B' k < free R B k
free_lt R L B B' h r m n zero l o = absurd (omega (arith, o))
free_lt R L B B' h r m n (suc k) l o = go (first_lead R B k) refl (first_lead R B' k) refl (cases_lt r k) (λ q. free_lt R L B B' h r m n k (omega arith) q)
  where
    le : free R B' k ≤ free R B k
    le = free_le R L B B' h k (omega arith)

    go : (x : Option Hit) → first_lead R B k ≡ x → (y : Option Hit) → first_lead R B' k ≡ y → (r < k) ⊎ (k ≤ r) → (r < k → free R B' k < free R B k) → free_by (free R B' k) y < free_by (free R B k) x
    go None e None f (inl q) up = omega (arith, up q)
    go None e None f (inr q) up = let z : r ≡ k = omega arith in absurd (first_none R L B' k l f (subst (IsMultiple R B') z m))
    go None e (Some y) f c up = omega (arith, le)
    go (Some x) e (Some y) f (inl q) up = up q
    go (Some x) e y f (inr q) up = let z : k ≡ r = omega arith in let i = first_is R L B k x l e in absurd (n (subst (IsMultiple R B) z (record { place = x.place; cofactor = x.cofactor; known = i.known; is = i.is })))
    go (Some x) e None f (inl q) up = let i = first_is R L B k x l e in absurd (first_none R L B' k l f (h k (record { place = x.place; cofactor = x.cofactor; known = i.known; is = i.is })))

module _ (R : Ranks) (L : IsRanks R) (G : Generators) where
  -- legal entries over which all items go to zero
  pub record HasEntries : Type 0 where
    pub entries : List Entry
    pub legal : AreLegal R G entries
    pub settled : (item : Item) → IsItemOf G.count (length entries) item → GoesToZero R G entries item

  -- a legal entry more lessens the free ranks
  added_less : (entries : List Entry) → AreLegal R G entries → (e : Entry) → AreLegal R G (entries ++ e ∷ []) → free R (basis_of (entries ++ e ∷ [])) R.n < free R (basis_of entries) R.n
  added_less entries legal e legal' = free_lt R L B B' up r own other R.n (omega arith) small
    where
      B : Basis
      B = basis_of entries

      B' : Basis
      B' = basis_of (entries ++ e ∷ [])

      s : ℕ
      s = length entries

      s' : s < B'.size
      s' = omega (arith, length_more entries e)

      r : ℕ
      r = B'.lead s

      small : r < R.n
      small = (legal_monic R L G (entries ++ e ∷ []) legal').small s s'

      own : IsMultiple R B' r
      own = record { place = s; cofactor = 0; known = s'; is = L.unit r small }

      up : (x : ℕ) → IsMultiple R B x → IsMultiple R B' x
      up x m = record { place = m.place; cofactor = m.cofactor; known = omega (arith, m.known, s'); is = ap (R.times m.cofactor) ((begins entries (entries ++ e ∷ []) (prefix_append entries (e ∷ []))).lead m.place m.known) ∙ m.is }

      other : IsMultiple R B r → ⊥
      other m = no_earlier R L G (entries ++ e ∷ []) legal' s m.place m.cofactor s' m.known (ap (R.times m.cofactor) ((begins entries (entries ++ e ∷ []) (prefix_append entries (e ∷ []))).lead m.place m.known) ∙ m.is)

  -- entries are added until all items go to zero
  solve : (fuel : ℕ) (entries : List Entry) → AreLegal R G entries → free R (basis_of entries) R.n < fuel → HasEntries
  solve zero entries legal l = absurd (omega (arith, l))
  solve (suc fuel) entries legal l = go (all_done R L G entries) (λ e h m. solve fuel (entries ++ e ∷ []) h m)
    where
      go : ((item : Item) → IsItemOf G.count (length entries) item → Done R L G entries item) ⊎ New R L G entries → ((e : Entry) → AreLegal R G (entries ++ e ∷ []) → free R (basis_of (entries ++ e ∷ [])) R.n < fuel → HasEntries) → HasEntries
      go (inl f) up = record { entries = entries; legal = legal; settled = λ item g. (f item g).settled }
      go (inr x) up = let h = legal_more R G entries x.e legal x.legal in up x.e h (omega (arith, l, added_less entries legal x.e h))

  -- for every problem some entries are legal and settle every ticket
  pub has_entries : HasEntries
  has_entries = solve (suc (free R (basis_of []) R.n)) [] (λ i l. absurd (omega (arith, l))) (omega arith)

-- no more ranks are free than there are
free_few : (R : Ranks) (B : Basis) (k : ℕ) → free R B k ≤ k
free_few R B zero = omega arith
free_few R B (suc k) = go (first_lead R B k) (free_few R B k)
  where
    go : (o : Option Hit) → free R B k ≤ k → free_by (free R B k) o ≤ suc k
    go None l = omega (arith, l)
    go (Some x) l = omega (arith, l)

module _ (R : Ranks) (L : IsRanks R) (G : Generators) (entries : List Entry) (legal : AreLegal R G entries) where
  -- each entry makes a rank less free
  fewer_free : (k : ℕ) → k < length entries → free R (first_of (suc k) (basis_of entries)) R.n < free R (first_of k (basis_of entries)) R.n
  fewer_free k l = free_lt R L (first_of k B) (first_of (suc k) B) up (B.lead k) own other R.n (omega arith) (M.small k l)
    where
      B : Basis
      B = basis_of entries

      M : IsMonic R (basis_of entries)
      M = legal_monic R L G entries legal

      up : (r : ℕ) → IsMultiple R (first_of k (basis_of entries)) r → IsMultiple R (first_of (suc k) (basis_of entries)) r
      up r m = record { place = m.place; cofactor = m.cofactor; known = omega (arith, m.known); is = m.is }

      own : IsMultiple R (first_of (suc k) (basis_of entries)) ((basis_of entries).lead k)
      own = record { place = k; cofactor = 0; known = omega arith; is = L.unit _ (M.small k l) }

      other : IsMultiple R (first_of k (basis_of entries)) ((basis_of entries).lead k) → ⊥
      other m = no_earlier R L G entries legal k m.place m.cofactor l m.known m.is

  -- so the first k entries leave k ranks less
  count_free : (k : ℕ) → k ≤ length entries → free R (first_of k (basis_of entries)) R.n + k ≤ R.n
  count_free zero l = omega (arith, free_few R (first_of 0 (basis_of entries)) R.n)
  count_free (suc k) l = omega (arith, fewer_free k (omega arith), count_free k (omega arith))

  -- there are at most as many legal entries as monomials
  pub few_entries : length entries ≤ R.n
  few_entries = omega (arith, count_free (length entries) (omega arith))
