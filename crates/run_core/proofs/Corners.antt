-- Corner keeps states sound.
-- A hand stays sound under a lower corner word; where the new reading ends its run with Zero, its ticket is settled.
use Rattle.std.proofs.Common.{◌≡◌, ◌⊎◌, ℕ, ◌≤◌, Bool, true, false, true≢false, List, length, take, set, Option, Some, None, not, ◌&&◌, refl, sym, ap, ◌∙◌, subst, inl, inr, ⊎_elim, arith}
use Rattle.std.proofs.lemmas.List.{length-take-le}
use Rattle.sparse_poly.specs.Ideal.{Problem}
use Rattle.entry_code.specs.declared.reading.Reading.{Reading}
use Rattle.entry_code.specs.Entry.{Entry}
use Rattle.mora_law.specs.Entries.{corner}
use Rattle.mora_law.specs.Settled.{IsSettled}
use Rattle.mora_law.proofs.Prefixes.{prefix_take}
use Rattle.mora_law.proofs.Growth.{corner_never_rises}
use Rattle.run_core.specs.declared.event.Event.TheVariants.{Corner}
use Rattle.mora_law.specs.Items.{item_for}
use Rattle.run_core.specs.Hand.{Hand, is_open, is_skipped, is_zero, end_of, has_open, more_reads, read}
use Rattle.run_core.specs.State.{Seat, State, IsAt, known_by, times}
use Rattle.run_core.specs.Effects.{read_corner, cornered, after_corner}
use Rattle.run_core.specs.Makes.{CanCorner, Makes}
use Rattle.run_core.specs.Sound.{IsHandSound, IsSeatSound, IsSound, AreDone}
use Rattle.run_core.proofs.Hands.{hand_more, closed_settled}
use Rattle.run_core.proofs.Seats.{each_set, sum_kept, apart_same, whole_same, seat_later, WorksAt, held_set}

-- an open hand has no entry yet
pub open_new : (P : Problem) (known : List Entry) (h : Hand) → is_open P known h ≡ true → h.published ≡ false
unfolding is_open
open_new P known h e = go h.published refl
  where
    go : (b : Bool) → h.published ≡ b → b ≡ false
    go true is = absurd (true≢false (sym e ∙ ap (λ x. not x && (not (is_skipped P known (item_for P h.ticket)) && not (is_zero (end_of P known h.ticket h.reads)))) is))
    go false is = refl

-- the hand before a reading
pub read_hand : (P : Problem) (known : List Entry) (d : Reading) (o : Option Hand) (k : Hand) → read P known d o ≡ Some k → (h : Hand) × (o ≡ Some h) × (record h { reads = more_reads P known h d } ≡ k)
read_hand P known d None k e = absurd (cc)
read_hand P known d (Some h) k e = (h, refl, cc)

module _ (s : State) (i : ℕ) (v : Seat) (ok : IsSound s) (at : IsAt s i v) (can : CanCorner s v) where
  -- the corner of the whole list is no greater
  low : corner s.problem s.entries ≤ corner s.problem (known_by s v)
  low = corner_never_rises s.problem (known_by s v) s.entries (prefix_take v.known s.entries (ok.seats i v at).known) ok.problem

  -- the hand with one more reading is sound
  hand_read : (h : Hand) → v.hand ≡ Some h → IsHandSound s.problem (read_corner s v) s.ticket (known_by s v) (record h { reads = more_reads s.problem (known_by s v) h (record { known = v.known; corner = read_corner s v }) })
  hand_read h e = hand_more s.problem s.corner s.ticket (known_by s v) h (record { known = v.known; corner = read_corner s v }) ((ok.seats i v at).hand h e) (ap (has_open s.problem (known_by s v)) (sym e) ∙ can) ok.within
      (sym (length-take-le v.known s.entries (ok.seats i v at).known)) (omega arith) (omega arith)

  -- its ticket is settled where its run ends with Zero
  done_read : AreDone s.problem s.entries s.ticket (set s.seats i (cornered s v))
  done_read k l = ⊎_elim inl (held_set s.problem s.entries s.entries s.seats i v (cornered s v) k at (λ _ _ _ _. refl) mine) (ok.done k l)
    where
      mine : (h : Hand) → v.hand ≡ Some h → h.ticket ≡ k → is_open s.problem (known_by s v) h ≡ true → IsSettled s.problem s.entries (item_for s.problem k) ⊎ WorksAt s.problem s.entries (cornered s v) k
      mine h e is opened = by_open (record h { reads = more_reads s.problem (known_by s v) h (record { known = v.known; corner = read_corner s v }) }) (ap (read s.problem (known_by s v) (record { known = v.known; corner = read_corner s v })) e) is (open_new s.problem (known_by s v) h opened) (hand_read h e)
        where
          by_open : (h' : Hand) → (cornered s v).hand ≡ Some h' → h'.ticket ≡ k → h'.published ≡ false → IsHandSound s.problem (read_corner s v) s.ticket (known_by s v) h' → IsSettled s.problem s.entries (item_for s.problem k) ⊎ WorksAt s.problem s.entries (cornered s v) k
          by_open h' e' is' new sound = by_test (is_open s.problem (known_by s v) h') refl
            where
              by_test : (b : Bool) → is_open s.problem (known_by s v) h' ≡ b → IsSettled s.problem s.entries (item_for s.problem k) ⊎ WorksAt s.problem s.entries (cornered s v) k
              by_test true t = inr (h', e', is', t)
              by_test false t = inl (subst (λ n. IsSettled s.problem s.entries (item_for s.problem n)) is'
                  (closed_settled s.problem (read_corner s v) s.ticket (known_by s v) s.entries h' ok.problem (prefix_take v.known s.entries (ok.seats i v at).known) (omega (arith, low, ok.covers)) sound new t))

  -- the state after the reading
  keeps_read : IsSound (after_corner s i v)
  keeps_read =
      let mine = ok.seats i v at in
      let w : Seat = cornered s v in
      record {
        problem = ok.problem;
        numbers = λ x. sum_kept (λ u. times x u.numbers) s.seats i v w at refl ∙ ok.numbers x;
        sizes = sum_kept (λ u. length u.numbers) s.seats i v w at refl ∙ ok.sizes;
        legal = ok.legal;
        covers = omega (arith, low, ok.covers);
        within = omega (arith, ok.within);
        tickets = ok.tickets;
        seats = each_set (λ _ u. IsSeatSound s.problem (read_corner s v) s.ticket (length s.entries) (take u.known s.entries) u) s.seats i w
            (λ j u ne e. seat_later s.problem s.corner (read_corner s v) s.ticket s.ticket (length s.entries) (length s.entries) (take u.known s.entries) u (omega arith) (omega arith) (omega arith) (ok.seats j u e))
            record {
              known = mine.known;
              seen = mine.seen;
              hand = λ k e. let r = read_hand s.problem (known_by s v) (record { known = v.known; corner = read_corner s v }) v.hand k e in
                  subst (IsHandSound s.problem (read_corner s v) s.ticket (known_by s v)) r.2 (hand_read r.0 r.1);
              idle = λ e. absurd (true≢false (sym can ∙ mine.idle e));
              alone = λ _. mine.alone can;
              spent = λ e. let one = mine.alone can in let z : length v.numbers ≡ 0 = ap length e in absurd (omega (arith, one, z));
            };
        apart = apart_same s.seats i v w at ok.apart (λ k e. let r = read_hand s.problem (known_by s v) (record { known = v.known; corner = read_corner s v }) v.hand k e in (r.0, r.1, ap (λ (z : Hand). z.ticket) r.2));
        done = done_read;
        whole = whole_same s.problem s.ticket s.entries s.seats i v w at refl refl refl ok.whole;
        claims = sum_kept (λ u. u.claims) s.seats i v w at refl ∙ ok.claims;
        published = sum_kept (λ u. u.published) s.seats i v w at refl ∙ ok.published;
      }

-- Corner
pub keeps_corner : (s t : State) (i : ℕ) → IsSound s → Makes Corner s i t → IsSound t
keeps_corner s t i ok m = subst IsSound (sym m.3) (keeps_read s i m.0 ok m.1 m.2)
