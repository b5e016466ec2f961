-- Publish keeps states sound.
-- The draft is legal after the entries and settles the ticket of its hand; what the other seats know stays as it is.
use Rattle.std.proofs.Common.{◌≡◌, ◌≢◌, ℕ, suc, ◌<◌, ◌≤◌, Bool, true, false, true≢false, List, [], ◌∷◌, ◌++◌, length, take, set, Option, Some, None, refl, sym, ap, ◌∙◌, subst, inl, inr, ⊎_elim, arith, lt_of_lt_of_le, le_trans, length-append}
use Rattle.std.proofs.lemmas.List.{take-append-le, length-take-le, take_all, get_or_at}
use Rattle.std.proofs.lemmas.List.Sums.{sum_by-append}
use Rattle.sparse_poly.specs.Ideal.{Problem}
use Rattle.entry_code.specs.Entry.{Entry, no_entry}
use Rattle.mora_law.specs.Ring.{ranks_of_problem, generators_of}
use Rattle.mora_law.specs.Run.{last_known}
use Rattle.mora_law.specs.Entries.{basis_of, corner}
use Rattle.mora_law.specs.Legal.{IsLegalEntry, Legal}
use Rattle.mora_law.proofs.Prefixes.{IsPrefix, prefix_append}
use Rattle.mora_law.proofs.Growth.{legal_added, corner_never_rises, settled_more}
use Rattle.run_core.specs.declared.event.Event.TheVariants.{Publish}
use Rattle.mora_law.specs.Items.{item_for}
use Rattle.run_core.specs.Hand.{Hand, is_open, has_open, draft, draft_of, marked, reads_of, hand_end}
use Rattle.run_core.specs.State.{Seat, State, IsAt, known_by, times, steps_of}
use Rattle.run_core.specs.Effects.{draft_by, shown, after_publish}
use Rattle.run_core.specs.Makes.{CanPublish, Makes}
use Rattle.run_core.specs.Sound.{IsHandSound, IsSeatSound, IsSound, AreDone}
use Rattle.run_core.proofs.Places.{set_here, sum_set}
use Rattle.mora_law.proofs.Items.{item_fits, tickets_up}
use Rattle.run_core.proofs.Hands.{hand_longer, draft_legal}
use Rattle.run_core.proofs.Seats.{each_set, sum_kept, apart_same, seat_later, held_set, open_is, take_prefix, some_number}

-- the hand before its mark
pub marked_hand : (o : Option Hand) (k : Hand) → marked o ≡ Some k → (h : Hand) × (o ≡ Some h) × (record h { published = true } ≡ k)
marked_hand None k e = absurd (cc)
marked_hand (Some h) k e = (h, refl, cc)

-- a marked hand is shut
pub marked_shut : (P : Problem) (known : List Entry) (o : Option Hand) → has_open P known (marked o) ≡ false
unfolding is_open
marked_shut P known None = refl
marked_shut P known (Some h) = refl

-- and as sound as before, where more is known than at its last reading
hand_marked : (P : Problem) (word ticket : ℕ) (known : List Entry) (h : Hand) → IsHandSound P word ticket known h → last_known 0 h.reads < length known → IsHandSound P word ticket known (record h { published = true })
hand_marked P word ticket known h s more = record { below = s.below; within = s.within; orderly = s.orderly; corners = s.corners; before = s.before; begun = s.begun; marked = λ _. more }

module _ (s : State) (i : ℕ) (v : Seat) (ok : IsSound s) (at : IsAt s i v) (can : CanPublish s v) where
  -- the seat knows the whole list
  all : known_by s v ≡ s.entries
  all = take_all v.known s.entries (omega (arith, can.1))

  -- the list is longer by one
  size : length (s.entries ++ draft_by s v ∷ []) ≡ suc (length s.entries)
  size = omega (arith, length-append s.entries (draft_by s v ∷ []))

  -- it begins with the old one
  first : IsPrefix s.entries (s.entries ++ draft_by s v ∷ [])
  first = prefix_append s.entries (draft_by s v ∷ [])

  -- what a seat knows stays
  same_known : (n : ℕ) → n ≤ length s.entries → take n (s.entries ++ draft_by s v ∷ []) ≡ take n s.entries
  same_known n l = take-append-le n s.entries (draft_by s v ∷ []) l

  -- its own list grows
  more : IsPrefix (known_by s v) (take (suc v.known) (s.entries ++ draft_by s v ∷ []))
  more = subst (λ l. IsPrefix l (take (suc v.known) (s.entries ++ draft_by s v ∷ []))) (same_known v.known (omega (arith, can.1)))
      (take_prefix (s.entries ++ draft_by s v ∷ []) v.known (suc v.known) (omega arith) (omega (arith, size, can.1)))

  -- more is known than at the last reading
  later : (h : Hand) → v.hand ≡ Some h → last_known 0 h.reads < length (take (suc v.known) (s.entries ++ draft_by s v ∷ []))
  later h e =
      let n = length-take-le (suc v.known) (s.entries ++ draft_by s v ∷ []) (omega (arith, size, can.1)) in
      let k : last_known 0 h.reads ≡ v.known = ap (λ o. last_known 0 (reads_of o)) (sym e) ∙ can.3 in
      omega (arith, n, k)

  -- the draft is that of the hand
  draft_is : (h : Hand) → v.hand ≡ Some h → draft_by s v ≡ draft_of s.problem (known_by s v) h
  draft_is h e = ap (draft s.problem (known_by s v)) e

  -- it is legal after the list
  legal_draft : Legal s.problem (s.entries ++ draft_by s v ∷ [])
  legal_draft = let o = open_is s.problem (known_by s v) v.hand can.0 in legal_added s.problem s.entries (draft_by s v) ok.legal (by_hand o.0 o.1)
    where
      by_hand : (h : Hand) → v.hand ≡ Some h → IsLegalEntry (ranks_of_problem s.problem) (generators_of s.problem) (basis_of s.entries) (length s.entries) (draft_by s v)
      by_hand h e =
          let legal = draft_legal s.problem s.corner s.ticket (known_by s v) h ((ok.seats i v at).hand h e) (ap (hand_end s.problem (known_by s v)) (sym e) ∙ can.2)
          (ap (λ o. last_known 0 (reads_of o)) (sym e) ∙ can.3 ∙ can.1 ∙ ap length (sym all)) (subst (λ l. corner s.problem l ≤ s.corner) (sym all) ok.covers) in
          subst (IsLegalEntry (ranks_of_problem s.problem) (generators_of s.problem) (basis_of s.entries) (length s.entries)) (sym (draft_is h e))
          (subst (λ l. IsLegalEntry (ranks_of_problem s.problem) (generators_of s.problem) (basis_of l) (length l) (draft_of s.problem (known_by s v) h)) all legal)

  -- its ticket is settled by it
  done_shown : AreDone s.problem (s.entries ++ draft_by s v ∷ []) s.ticket (set s.seats i (shown s v))
  done_shown k l = ⊎_elim
      (λ x. inl (settled_more s.problem s.entries (s.entries ++ draft_by s v ∷ []) first ok.problem (item_for s.problem k) (item_fits s.problem k (length s.entries) (lt_of_lt_of_le l ok.tickets)) x))
      (held_set s.problem s.entries (s.entries ++ draft_by s v ∷ []) s.seats i v (shown s v) k at (λ j u _ e. same_known u.known (ok.seats j u e).known)
      (λ h e is _. inl (inr (inl record {
        place = length s.entries;
        within = omega (arith, size);
        is = ap (λ x. x.item) (get_or_at s.entries (draft_by s v) [] no_entry (length s.entries) refl ∙ draft_is h e) ∙ ap (item_for s.problem) is;
      }))))
      (ok.done k l)

  -- the seat isn't idle
  busy : v.idle ≡ false
  busy = go v.idle (ok.seats i v at).idle
    where
      go : (b : Bool) → (b ≡ true → has_open s.problem (known_by s v) v.hand ≡ false) → b ≡ false
      go true f = absurd (true≢false (sym can.0 ∙ f refl))
      go false f = refl

  -- the seat has a number
  numbered : v.numbers ≢ []
  numbered = some_number v.numbers (let one = (ok.seats i v at).alone can.0 in omega (arith, one))

  -- the state with the new entry
  pub keeps_shown : IsSound (after_publish s i v)
  keeps_shown =
      let mine = ok.seats i v at in
      let w : Seat = shown s v in
      let up = tickets_up s.problem (length s.entries) (length (s.entries ++ draft_by s v ∷ [])) (omega (arith, size)) in
      record {
        problem = ok.problem;
        numbers = λ x. sum_kept (λ u. times x u.numbers) s.seats i v w at refl ∙ ok.numbers x;
        sizes = sum_kept (λ u. length u.numbers) s.seats i v w at refl ∙ ok.sizes;
        legal = legal_draft;
        covers = le_trans (corner_never_rises s.problem s.entries (s.entries ++ draft_by s v ∷ []) first ok.problem) ok.covers;
        within = ok.within;
        tickets = le_trans ok.tickets up;
        seats = each_set (λ _ u. IsSeatSound s.problem s.corner s.ticket (length (s.entries ++ draft_by s v ∷ [])) (take u.known (s.entries ++ draft_by s v ∷ [])) u) s.seats i w
            (λ j u ne e. let o = ok.seats j u e in
            subst (λ l. IsSeatSound s.problem s.corner s.ticket (length (s.entries ++ draft_by s v ∷ [])) l u) (sym (same_known u.known o.known))
            (seat_later s.problem s.corner s.corner s.ticket s.ticket (length s.entries) (length (s.entries ++ draft_by s v ∷ [])) (take u.known s.entries) u (omega arith) (omega arith) (omega (arith, size)) o))
            record {
              known = omega (arith, size, can.1);
              seen = mine.seen;
              hand = λ k e. let r = marked_hand v.hand k e in
                  subst (IsHandSound s.problem s.corner s.ticket (take (suc v.known) (s.entries ++ draft_by s v ∷ []))) r.2
                  (hand_marked s.problem s.corner s.ticket (take (suc v.known) (s.entries ++ draft_by s v ∷ [])) r.0
                  (hand_longer s.problem s.corner s.ticket (known_by s v) (take (suc v.known) (s.entries ++ draft_by s v ∷ [])) r.0 more (mine.hand r.0 r.1)) (later r.0 r.1));
              idle = λ _. marked_shut s.problem (take (suc v.known) (s.entries ++ draft_by s v ∷ [])) v.hand;
              alone = λ e. absurd (true≢false (sym e ∙ marked_shut s.problem (take (suc v.known) (s.entries ++ draft_by s v ∷ [])) v.hand));
              spent = λ e. absurd (numbered e);
            };
        apart = apart_same s.seats i v w at ok.apart (λ k e. let r = marked_hand v.hand k e in (r.0, r.1, ap (λ (z : Hand). z.ticket) r.2));
        done = done_shown;
        whole = (i, w, set_here s.seats i v w at, numbered, omega (arith, size, can.1), inl busy);
        claims = sum_kept (λ u. u.claims) s.seats i v w at refl ∙ ok.claims;
        published = omega (arith, sum_set (λ u. u.published) s.seats i v w at, ok.published, sum_by-append steps_of s.entries (draft_by s v ∷ []));
      }

-- Publish
pub keeps_publish : (s t : State) (i : ℕ) → IsSound s → Makes Publish s i t → IsSound t
keeps_publish s t i ok m = subst IsSound (sym m.3) (keeps_shown s i m.0 ok m.1 m.2)
