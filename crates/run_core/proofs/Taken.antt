-- An event that the relation allows is what the event of the seat with that name makes: a name has one place.
-- No two seats share a number, so a search by name finds the seat itself.
use Rattle.std.proofs.Common.{◌≡◌, ◌≢◌, ◌⊎◌, ℕ, zero, suc, ◌+◌, ◌<◌, ◌≤◌, Bool, true, false, true≢false, cond, not, ◌&&◌, eqb, ltb, List, [], ◌∷◌, length, Some, refl, sym, ap, ap₂, ◌∙◌, subst, inl, inr, ⊎_elim, arith, eq-eqb, ne_eqb}
use Rattle.std.specs.Prelude.{leb, sum_by, if◌then◌else◌}
use Rattle.std.proofs.lemmas.Bool.{eqb-true, lt-ltb, le-ltb, le-leb}
use mathlib.Core.Option.{some, some-injective, some-ne-none}
use lib.ListN.{get_elem?}
use Rattle.mora_law.specs.Run.{last_known}
use Rattle.run_core.specs.declared.event.Event.{Event}
use Rattle.run_core.specs.declared.event.Event.TheVariants.{Claim, Corner, Look, Publish, Split, Join}
use Rattle.mora_law.specs.Items.{tickets}
use Rattle.run_core.specs.Hand.{reads_of, hand_end}
use Rattle.run_core.specs.State.{Seat, State, IsAt, known_by, is_busy, times, highest, lowest}
use Rattle.run_core.specs.Effects.{with_seat, after_claim, after_corner, learnt, rested, after_publish, after_split, after_join}
use Rattle.run_core.specs.Makes.{CanClaim, CanLearn, CanRest, CanPublish, CanSplit, CanJoin, Makes}
use Rattle.run_core.specs.Sound.{IsSound}
use Rattle.run_core.specs.Schedule.{is_named, find_seat, is_stuck, where_true, next_join, next_at, next_by, next}
use Rattle.run_core.proofs.Places.{sum_two}
use Rattle.run_core.proofs.Numbers.{has_lowest}
use Rattle.run_core.proofs.Seats.{is_seat}

-- ---- tests
both_true : (a b : Bool) → a ≡ true → b ≡ true → (a && b) ≡ true
both_true a b e f = ap₂ ◌&&◌ e f

-- the opposite of what is false is true
not_true : (b : Bool) → b ≡ false → not b ≡ true
not_true b e = ap not e

-- where the test holds, the state is made
made : (b : Bool) (t u : State) → b ≡ true → u ≡ t → where_true b t ≡ Some u
made b t u e f = ap (λ x. where_true x t) e ∙ ap Some (sym f)

-- ---- the seat with a name
-- the first seat with the name
find_first : (k first : ℕ) (seats : List Seat) (i : ℕ) (v : Seat) → get_elem? seats i ≡ some v → is_named k v.numbers ≡ true →
    ((j : ℕ) (u : Seat) → j < i → get_elem? seats j ≡ some u → is_named k u.numbers ≡ false) → find_seat k first seats ≡ Some (record { place = first + i; seat = v })
find_first k first [] i v at named others = absurd (some-ne-none v (sym at))
find_first k first (x ∷ seats) zero v at named others =
    let is : x ≡ v = some-injective x v at in
    ap (λ b. cond b (Some (record { place = first; seat = x })) (find_seat k (suc first) seats)) (ap (λ (z : Seat). is_named k z.numbers) is ∙ named)
    ∙ ap₂ (λ p (z : Seat). Some (record { place = p; seat = z })) (omega arith) is
find_first k first (x ∷ seats) (suc i) v at named others =
    ap (λ b. cond b (Some (record { place = first; seat = x })) (find_seat k (suc first) seats)) (others 0 x (omega arith) refl)
    ∙ find_first k (suc first) seats i v at named (λ j u l e. others (suc j) u (omega arith) e)
    ∙ ap (λ p. Some (record { place = p; seat = v })) (omega arith)

-- a seat with numbers has its least number as name
is_lowest : (ns : List ℕ) → ns ≢ [] → is_named (lowest ns) ns ≡ true
is_lowest [] full = absurd (full refl)
is_lowest (n ∷ ns) full = eq-eqb (lowest (n ∷ ns)) (lowest (n ∷ ns)) refl

-- a list that is not empty has a length
some_length : (ns : List ℕ) → ns ≢ [] → 0 < length ns
some_length [] full = absurd (full refl)
some_length (n ∷ ns) full = omega arith

-- a seat with a name has it as a number
named_has : (k : ℕ) (ns : List ℕ) (b : Bool) → is_named k ns ≡ b → (b ≡ false) ⊎ (0 < times k ns)
named_has k ns false e = inl refl
named_has k [] true e = absurd (true≢false (sym e))
named_has k (n ∷ ns) true e = inr (subst (λ x. 0 < times x (n ∷ ns)) (sym (eqb-true k (lowest (n ∷ ns)) e)) (has_lowest (n ∷ ns) (omega arith)))

module _ (s : State) (ok : IsSound s) where
  -- a number has one seat
  at_most : (x : ℕ) → sum_by (λ (u : Seat). times x u.numbers) s.seats ≤ 1
  at_most x = go (ltb x s.workers) (ok.numbers x)
    where
      go : (b : Bool) → sum_by (λ (u : Seat). times x u.numbers) s.seats ≡ (if b then 1 else 0) → sum_by (λ (u : Seat). times x u.numbers) s.seats ≤ 1
      go true e = omega arith
      go false e = omega arith

  -- so the seat with the name of v is v
  pub finds : (i : ℕ) (v : Seat) → IsAt s i v → v.numbers ≢ [] → find_seat (lowest v.numbers) 0 s.seats ≡ Some (record { place = i; seat = v })
  finds i v at full = find_first (lowest v.numbers) 0 s.seats i v at (is_lowest v.numbers full) others ∙ ap (λ p. Some (record { place = p; seat = v })) (omega arith)
    where
      others : (j : ℕ) (u : Seat) → j < i → get_elem? s.seats j ≡ some u → is_named (lowest v.numbers) u.numbers ≡ false
      others j u l there = ⊎_elim
          (λ e. e)
          (λ m. absurd (omega (arith, m, sum_two (λ (y : Seat). times (lowest v.numbers) y.numbers) s.seats j i u v (λ e. omega arith) there at, has_lowest v.numbers (some_length v.numbers full), at_most (lowest v.numbers))))
          (named_has (lowest v.numbers) u.numbers (is_named (lowest v.numbers) u.numbers) refl)

  module _ (i : ℕ) (v : Seat) (t : State) where
    -- the tests of each event hold
    claim_taken : CanClaim s v → t ≡ after_claim s i v → next_at Claim s (record { place = i; seat = v }) ≡ Some t
    claim_taken can e = made _ (after_claim s i v) t
        (both_true (not (is_busy s v)) _ (not_true (is_busy s v) can.0) (both_true (eqb (length v.numbers) 1) (ltb v.seen (tickets s.problem v.known)) (eq-eqb (length v.numbers) 1 can.1) (lt-ltb v.seen (tickets s.problem v.known) can.2))) e

    -- so those of Look
    look_taken : ((CanLearn s v × (t ≡ with_seat s i (learnt v))) ⊎ (CanRest s v × (t ≡ with_seat s i (rested v)))) → next_at Look s (record { place = i; seat = v }) ≡ Some t
    look_taken (inl x) = ap (λ b. cond b (Some (with_seat s i (learnt v))) (where_true (eqb v.known (length s.entries) && (not (is_busy s v) && leb (tickets s.problem v.known) v.seen)) (with_seat s i (rested v)))) (lt-ltb v.known (length s.entries) x.0) ∙ ap Some (sym x.1)
    look_taken (inr x) =
        let can = x.0 in
        ap (λ b. cond b (Some (with_seat s i (learnt v))) (where_true (eqb v.known (length s.entries) && (not (is_busy s v) && leb (tickets s.problem v.known) v.seen)) (with_seat s i (rested v)))) (le-ltb v.known (length s.entries) (omega (arith, can.0)))
        ∙ made (eqb v.known (length s.entries) && (not (is_busy s v) && leb (tickets s.problem v.known) v.seen)) (with_seat s i (rested v)) t
        (both_true (eqb v.known (length s.entries)) _ (eq-eqb v.known (length s.entries) can.0) (both_true (not (is_busy s v)) _ (not_true (is_busy s v) can.1) (le-leb (tickets s.problem v.known) v.seen can.2))) x.1

    -- so those of Publish
    publish_taken : CanPublish s v → t ≡ after_publish s i v → next_at Publish s (record { place = i; seat = v }) ≡ Some t
    publish_taken can e = made _ (after_publish s i v) t
        (both_true (is_busy s v) _ can.0 (both_true (eqb v.known (length s.entries)) _ (eq-eqb v.known (length s.entries) can.1)
        (both_true (is_stuck (hand_end s.problem (known_by s v) v.hand)) _ (ap is_stuck can.2) (eq-eqb (last_known 0 (reads_of v.hand)) v.known can.3)))) e

    -- so those of Split
    split_taken : (k : ℕ) → CanSplit s k v → t ≡ after_split s i v → next_at (Split k) s (record { place = i; seat = v }) ≡ Some t
    split_taken k can e = made _ (after_split s i v) t
        (both_true (not (is_busy s v)) _ (not_true (is_busy s v) can.0) (both_true (ltb 1 (length v.numbers)) _ (lt-ltb 1 (length v.numbers) can.1) (eq-eqb k (highest v.numbers) can.2))) e

    -- so those of Join, where the other seat is found by its name
    join_taken : (k j : ℕ) (w : Seat) → IsAt s j w → i ≢ j → CanJoin s k v w → t ≡ after_join s i v j w → next_at (Join k) s (record { place = i; seat = v }) ≡ Some t
    join_taken k j w there ne can e =
        ap (next_join s (record { place = i; seat = v })) (ap (λ n. find_seat n 0 s.seats) can.4 ∙ finds j w there can.3)
        ∙ made _ (after_join s i v j w) t (both_true (not (is_busy s v)) _ (not_true (is_busy s v) can.0) (both_true (not (is_busy s w)) _ (not_true (is_busy s w) can.1) (not_true (eqb i j) (ne_eqb i j ne)))) e

  -- the event at a place by its tests
  at_taken : (i : ℕ) (t : State) (event : Event) → Makes event s i t → (v : Seat) × IsAt s i v × (next_at event s (record { place = i; seat = v }) ≡ Some t)
  at_taken i t Claim m = (m.0, m.1, claim_taken i m.0 t m.2 m.3)
  at_taken i t Corner m = (m.0, m.1, made (is_busy s m.0) (after_corner s i m.0) t m.2 m.3)
  at_taken i t Look m = (m.0, m.1, look_taken i m.0 t m.3)
  at_taken i t Publish m = (m.0, m.1, publish_taken i m.0 t m.2 m.3)
  at_taken i t (Split k) m = (m.0, m.1, split_taken i m.0 t k m.2 m.3)
  at_taken i t (Join k) m = (m.0, m.3, join_taken i m.0 t k m.1 m.2 m.4 m.5 m.6 m.7)

  -- the event of the seat with that name
  pub takes : (t : State) (i : ℕ) (v : Seat) (event : Event) → IsAt s i v → v.numbers ≢ [] → Makes event s i t → next (lowest v.numbers) event s ≡ Some t
  takes t i v event at full m =
      let a = at_taken i t event m in
      let is : a.0 ≡ v = is_seat s.seats i i a.0 v a.1 at refl in
      ap (next_by event s) (finds i v at full) ∙ subst (λ (z : Seat). next_at event s (record { place = i; seat = z }) ≡ Some t) is a.2
