-- What an event of a seat with a name makes is what the event makes at the seat's place, so schedules keep states sound.
-- A search by name finds a place, and each test of an event is a condition of the relation.
use Rattle.std.proofs.Common.{◌≡◌, ◌≢◌, ℕ, suc, ◌+◌, ◌≤◌, Bool, true, false, true≢false, cond, not, ◌&&◌, eqb, ltb, List, [], ◌∷◌, length, Option, Some, None, refl, sym, ap, ◌∙◌, subst, inl, inr, arith, eq-eqb}
use Rattle.std.specs.Prelude.{leb}
use Rattle.std.proofs.lemmas.Bool.{eqb-true, ltb-true, leb-true}
use mathlib.Core.Option.{some}
use lib.ListN.{get_elem?}
use Rattle.sparse_poly.specs.Ideal.{Problem}
use Rattle.mora_law.specs.Ring.{IsAdmissible}
use Rattle.mora_law.specs.Run.{last_known}
use Rattle.run_core.specs.declared.event.Event.{Event}
use Rattle.run_core.specs.declared.event.Event.TheVariants.{Claim, Corner, Look, Publish, Split, Join}
use Rattle.mora_law.specs.Items.{tickets}
use Rattle.run_core.specs.Hand.{reads_of, hand_end}
use Rattle.run_core.specs.State.{Seat, State, IsAt, known_by, is_busy, highest, lowest, opening}
use Rattle.run_core.specs.Effects.{with_seat, after_claim, after_corner, learnt, rested, after_publish, after_split, after_join}
use Rattle.run_core.specs.Makes.{Makes}
use Rattle.run_core.specs.Sound.{IsSound}
use Rattle.run_core.specs.Schedule.{Found, is_named, find_seat, is_stuck, where_true, next_look, next_join, next_at, next_by, next, or_same, Action, after}
use Rattle.run_core.proofs.Keeps.{keeps_sound}
use Rattle.run_core.proofs.Opening.{opening_is_sound}
use Rattle.rank_algebra.proofs.Searches.{and_true}
use Rattle.mora_form.proofs.Stepping.{stuck_end}

-- ---- what is false where its opposite is true
is_not : (b : Bool) → not b ≡ true → b ≡ false
is_not true e = absurd (true≢false (sym e))
is_not false e = refl

-- the state where the test holds
holds : (b : Bool) (t u : State) → where_true b t ≡ Some u → (b ≡ true) × (u ≡ t)
holds true t u e = (refl, cc)
holds false t u e = absurd (cc)

-- ---- the seat with a name
-- it stands at its place
pub record IsFound (seats : List Seat) (k first : ℕ) (f : Found) : Type 0 where
  pub place : ℕ
  pub is : f.place ≡ first + place
  pub there : get_elem? seats place ≡ some f.seat
  pub named : is_named k f.seat.numbers ≡ true

-- the seat that is found by a name has it
pub find_is : (k first : ℕ) (seats : List Seat) (f : Found) → find_seat k first seats ≡ Some f → IsFound seats k first f
find_is k first [] f e = absurd (cc)
find_is k first (v ∷ seats) f e = go (is_named k v.numbers) refl (λ e'. find_is k (suc first) seats f e')
  where
    go : (b : Bool) → is_named k v.numbers ≡ b → (find_seat k (suc first) seats ≡ Some f → IsFound seats k (suc first) f) → IsFound (v ∷ seats) k first f
    go true is _ =
        let same : record { place = first; seat = v } ≡ f = some_same (ap (λ b. cond b (Some (record { place = first; seat = v })) (find_seat k (suc first) seats)) (sym is) ∙ e) in
        subst (IsFound (v ∷ seats) k first) same record { place = 0; is = omega arith; there = refl; named = is }
      where
        some_same : {a b : Found} → Some a ≡ Some b → a ≡ b
        some_same q = cc
    go false is rest =
        let r = rest (ap (λ b. cond b (Some (record { place = first; seat = v })) (find_seat k (suc first) seats)) (sym is) ∙ e) in
        record { place = suc r.place; is = (let z = r.is in omega arith); there = r.there; named = r.named }

-- its place is the one that is told
found_at : (s : State) (k : ℕ) (f : Found) → IsFound s.seats k 0 f → IsAt s f.place f.seat
found_at s k f r = subst (λ n. IsAt s n f.seat) (let z = r.is in omega arith) r.there

-- it has numbers, of which the name is the least
named_is : (k : ℕ) (ns : List ℕ) → is_named k ns ≡ true → (ns ≢ []) × (k ≡ lowest ns)
named_is k [] e = absurd (true≢false (sym e))
named_is k (n ∷ ns) e = ((λ z. absurd (cc)), eqb-true k (lowest (n ∷ ns)) e)

-- ---- events
module _ (s : State) (f : Found) (at : IsAt s f.place f.seat) (t : State) where
  -- Look by its tests is Look
  look_makes : f.seat.numbers ≢ [] → next_look s f ≡ Some t → Makes Look s f.place t
  look_makes full e = go (ltb f.seat.known (length s.entries)) refl
    where
      go : (b : Bool) → ltb f.seat.known (length s.entries) ≡ b → Makes Look s f.place t
      go true is = (
        f.seat,
        at,
        full,
        inl (
          ltb-true f.seat.known (length s.entries) is,
          (holds true (with_seat s f.place (learnt f.seat)) t
              (ap (λ b. cond b (Some (with_seat s f.place (learnt f.seat))) (where_true (eqb f.seat.known (length s.entries) && (not (is_busy s f.seat) && leb (tickets s.problem f.seat.known) f.seat.seen)) (with_seat s f.place (rested f.seat)))) (sym is) ∙ e)).1,
        ),
      )
      go false is =
          let h = holds (eqb f.seat.known (length s.entries) && (not (is_busy s f.seat) && leb (tickets s.problem f.seat.known) f.seat.seen)) (with_seat s f.place (rested f.seat)) t
          (ap (λ b. cond b (Some (with_seat s f.place (learnt f.seat))) (where_true (eqb f.seat.known (length s.entries) && (not (is_busy s f.seat) && leb (tickets s.problem f.seat.known) f.seat.seen)) (with_seat s f.place (rested f.seat)))) (sym is) ∙ e) in
          let a = and_true (eqb f.seat.known (length s.entries)) (not (is_busy s f.seat) && leb (tickets s.problem f.seat.known) f.seat.seen) h.0 in
          let b = and_true (not (is_busy s f.seat)) (leb (tickets s.problem f.seat.known) f.seat.seen) a.1 in
          (f.seat, at, full, inr ((eqb-true f.seat.known (length s.entries) a.0, is_not (is_busy s f.seat) b.0, leb-true (tickets s.problem f.seat.known) f.seat.seen b.1), h.1))

  -- the name of the seat is in use
  join_makes : (k name : ℕ) → is_named name f.seat.numbers ≡ true → (o : Option Found) → find_seat k 0 s.seats ≡ o → next_join s f o ≡ Some t → Makes (Join k) s f.place t
  join_makes k name named None is e = absurd (cc)
  join_makes k name named (Some g) is e =
      let r = find_is k 0 s.seats g is in
      let n = named_is k g.seat.numbers r.named in
      let h = holds (not (is_busy s f.seat) && (not (is_busy s g.seat) && not (eqb f.place g.place))) (after_join s f.place f.seat g.place g.seat) t e in
      let a = and_true (not (is_busy s f.seat)) (not (is_busy s g.seat) && not (eqb f.place g.place)) h.0 in
      let b = and_true (not (is_busy s g.seat)) (not (eqb f.place g.place)) a.1 in (
        f.seat,
        g.place,
        g.seat,
        at,
        found_at s k g r,
        (λ same. absurd (true≢false (sym (eq-eqb f.place g.place same) ∙ is_not (eqb f.place g.place) b.1))),
        (is_not (is_busy s f.seat) a.0, is_not (is_busy s g.seat) b.0, (named_is name f.seat.numbers named).0, n.0, n.1),
        h.1,
      )

  -- what an event makes by the tests, it makes by the relation
  at_makes : (name : ℕ) → is_named name f.seat.numbers ≡ true → (event : Event) → next_at event s f ≡ Some t → Makes event s f.place t
  at_makes name named Claim e =
      let h = holds (not (is_busy s f.seat) && (eqb (length f.seat.numbers) 1 && ltb f.seat.seen (tickets s.problem f.seat.known))) (after_claim s f.place f.seat) t e in
      let a = and_true (not (is_busy s f.seat)) (eqb (length f.seat.numbers) 1 && ltb f.seat.seen (tickets s.problem f.seat.known)) h.0 in
      let b = and_true (eqb (length f.seat.numbers) 1) (ltb f.seat.seen (tickets s.problem f.seat.known)) a.1 in
      (f.seat, at, (is_not (is_busy s f.seat) a.0, eqb-true (length f.seat.numbers) 1 b.0, ltb-true f.seat.seen (tickets s.problem f.seat.known) b.1), h.1)
  at_makes name named Corner e = let h = holds (is_busy s f.seat) (after_corner s f.place f.seat) t e in (f.seat, at, h.0, h.1)
  at_makes name named Look e = look_makes (named_is name f.seat.numbers named).0 e
  at_makes name named Publish e =
      let ends = is_stuck (hand_end s.problem (known_by s f.seat) f.seat.hand) in
      let knows = eqb (last_known 0 (reads_of f.seat.hand)) f.seat.known in
      let h = holds (is_busy s f.seat && (eqb f.seat.known (length s.entries) && (ends && knows))) (after_publish s f.place f.seat) t e in
      let a = and_true (is_busy s f.seat) (eqb f.seat.known (length s.entries) && (ends && knows)) h.0 in
      let b = and_true (eqb f.seat.known (length s.entries)) (ends && knows) a.1 in
      let c = and_true ends knows b.1 in
      (f.seat, at, (a.0, eqb-true f.seat.known (length s.entries) b.0, stuck_end (hand_end s.problem (known_by s f.seat) f.seat.hand) c.0, eqb-true (last_known 0 (reads_of f.seat.hand)) f.seat.known c.1), h.1)
  at_makes name named (Split k) e =
      let h = holds (not (is_busy s f.seat) && (ltb 1 (length f.seat.numbers) && eqb k (highest f.seat.numbers))) (after_split s f.place f.seat) t e in
      let a = and_true (not (is_busy s f.seat)) (ltb 1 (length f.seat.numbers) && eqb k (highest f.seat.numbers)) h.0 in
      let b = and_true (ltb 1 (length f.seat.numbers)) (eqb k (highest f.seat.numbers)) a.1 in
      (f.seat, at, (is_not (is_busy s f.seat) a.0, ltb-true 1 (length f.seat.numbers) b.0, eqb-true k (highest f.seat.numbers) b.1), h.1)
  at_makes name named (Join k) e = join_makes k name named (find_seat k 0 s.seats) refl e

-- what an event of the seat with a name makes, it makes at the place of that seat
pub next_makes : (name : ℕ) (event : Event) (s t : State) → next name event s ≡ Some t → (i : ℕ) × (v : Seat) × IsAt s i v × (v.numbers ≢ []) × (name ≡ lowest v.numbers) × Makes event s i t
next_makes name event s t e = go (find_seat name 0 s.seats) refl e
  where
    go : (o : Option Found) → find_seat name 0 s.seats ≡ o → next_by event s o ≡ Some t → (i : ℕ) × (v : Seat) × IsAt s i v × (v.numbers ≢ []) × (name ≡ lowest v.numbers) × Makes event s i t
    go None is e = absurd (cc)
    go (Some f) is e =
        let r = find_is name 0 s.seats f is in
        let n = named_is name f.seat.numbers r.named in
        (f.place, f.seat, found_at s name f r, n.0, n.1, at_makes s f (found_at s name f r) t name r.named event e)

-- a schedule keeps states sound
pub after_sound : (schedule : List Action) (s : State) → IsSound s → IsSound (after s schedule)
unfolding after
after_sound [] s ok = ok
after_sound (a ∷ more) s ok = after_sound more (or_same s (next a.name a.event s)) (go (next a.name a.event s) refl)
  where
    go : (o : Option State) → next a.name a.event s ≡ o → IsSound (or_same s o)
    go None e = ok
    go (Some t) e = let m = next_makes a.name a.event s t e in keeps_sound s t m.0 a.event ok m.5

-- so does one from the opening state
pub every_schedule : (P : Problem) (workers : ℕ) (schedule : List Action) → IsAdmissible P → 1 ≤ workers → IsSound (after (opening P workers) schedule)
every_schedule P workers schedule ok l = after_sound schedule (opening P workers) (opening_is_sound P workers ok l)
