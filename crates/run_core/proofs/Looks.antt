-- Look keeps states sound.
-- The seat knows one entry more, or only its mark changes.
use Rattle.std.proofs.Common.{◌≡◌, ℕ, suc, true≢false, length, take, set, refl, sym, ap, ◌∙◌, subst, inl, inr, ⊎_elim, arith}
use mathlib.Core.Logic.{dite}
use native.Mathlib.Decide.{ℕ_discrete}
use Rattle.mora_law.proofs.Prefixes.{IsPrefix}
use Rattle.run_core.specs.declared.event.Event.TheVariants.{Look}
use Rattle.mora_law.specs.Items.{tickets}
use Rattle.run_core.specs.State.{Seat, State, IsAt, known_by, times}
use Rattle.run_core.specs.Effects.{with_seat, learnt, rested}
use Rattle.run_core.specs.Makes.{CanLearn, CanRest, Makes}
use Rattle.run_core.specs.Sound.{IsSeatSound, IsSound, IsWholeKnown}
use Rattle.run_core.proofs.Places.{set_here, set_else}
use Rattle.run_core.proofs.Ends.{open_longer}
use Rattle.run_core.proofs.Hands.{hand_longer}
use Rattle.run_core.proofs.Seats.{each_set, sum_kept, is_seat, apart_same, held_set, has_open_longer, take_prefix}

module _ (s : State) (i : ℕ) (v : Seat) (ok : IsSound s) (at : IsAt s i v) where
  module _ (can : CanLearn s v) where
    -- what the seat knew begins what it knows
    more : IsPrefix (known_by s v) (take (suc v.known) s.entries)
    more = take_prefix s.entries v.known (suc v.known) (omega arith) (omega (arith, can))

    -- the seat that knows the whole list is another one
    whole_learnt : IsWholeKnown s.problem s.ticket s.entries (set s.seats i (learnt v))
    whole_learnt = let k = ok.whole in dite (ℕ_discrete k.0 i)
        (λ same. let n = ap (λ (z : Seat). z.known) (is_seat s.seats i k.0 k.1 v k.2 at same) in absurd (less k.4 n))
        (λ apart. (k.0, k.1, set_else s.seats i k.0 (learnt v) apart ∙ k.2, k.3, k.4, k.5))
      where
        less : {n : ℕ} → n ≡ length s.entries → n ≡ v.known → ⊥
        less e f = omega (arith, can)

    -- the seat with one more entry
    keeps_learnt : IsSound (with_seat s i (learnt v))
    keeps_learnt =
        let mine = ok.seats i v at in
        let w : Seat = learnt v in
        let longer = has_open_longer s.problem s.corner s.ticket (known_by s v) (take (suc v.known) s.entries) v.hand more mine.hand in
        record {
          problem = ok.problem;
          numbers = λ x. sum_kept (λ u. times x u.numbers) s.seats i v w at refl ∙ ok.numbers x;
          sizes = sum_kept (λ u. length u.numbers) s.seats i v w at refl ∙ ok.sizes;
          legal = ok.legal;
          covers = ok.covers;
          within = ok.within;
          tickets = ok.tickets;
          seats = each_set (λ _ u. IsSeatSound s.problem s.corner s.ticket (length s.entries) (take u.known s.entries) u) s.seats i w
              (λ j u ne e. ok.seats j u e)
              record {
                known = omega (arith, can);
                seen = mine.seen;
                hand = λ h e. hand_longer s.problem s.corner s.ticket (known_by s v) (take (suc v.known) s.entries) h more (mine.hand h e);
                idle = λ e. absurd (true≢false (sym e));
                alone = λ e. mine.alone (sym longer ∙ e);
                spent = mine.spent;
              };
          apart = apart_same s.seats i v w at ok.apart (λ k e. (k, e, refl));
          done = λ k l. ⊎_elim inl
              (held_set s.problem s.entries s.entries s.seats i v w k at (λ _ _ _ _. refl)
              (λ h e is opened. let t = mine.hand h e in inr (h, e, is, open_longer s.problem (known_by s v) (take (suc v.known) s.entries) more h t.within t.orderly ∙ opened)))
              (ok.done k l);
          whole = whole_learnt;
          claims = sum_kept (λ u. u.claims) s.seats i v w at refl ∙ ok.claims;
          published = sum_kept (λ u. u.published) s.seats i v w at refl ∙ ok.published;
        }

  module _ (can : CanRest s v) where
    -- the ticket word is the total
    last : s.ticket ≡ tickets s.problem (length s.entries)
    last = let mine = (ok.seats i v at).seen in let is = ap (tickets s.problem) can.0 in omega (arith, mine, is, can.2, ok.tickets)

    -- the seat with the idle mark
    keeps_rested : IsSound (with_seat s i (rested v))
    keeps_rested =
        let mine = ok.seats i v at in
        let w : Seat = rested v in
        let k = ok.whole in
        record {
          problem = ok.problem;
          numbers = λ x. sum_kept (λ u. times x u.numbers) s.seats i v w at refl ∙ ok.numbers x;
          sizes = sum_kept (λ u. length u.numbers) s.seats i v w at refl ∙ ok.sizes;
          legal = ok.legal;
          covers = ok.covers;
          within = ok.within;
          tickets = ok.tickets;
          seats = each_set (λ _ u. IsSeatSound s.problem s.corner s.ticket (length s.entries) (take u.known s.entries) u) s.seats i w
              (λ j u ne e. ok.seats j u e)
              record { known = mine.known; seen = mine.seen; hand = mine.hand; idle = λ _. can.1; alone = mine.alone; spent = mine.spent };
          apart = apart_same s.seats i v w at ok.apart (λ h e. (h, e, refl));
          done = λ n l. ⊎_elim inl (held_set s.problem s.entries s.entries s.seats i v w n at (λ _ _ _ _. refl) (λ h e is opened. inr (h, e, is, opened))) (ok.done n l);
          whole = dite (ℕ_discrete k.0 i)
              (λ same. let is = is_seat s.seats i k.0 k.1 v k.2 at same in (i, w, set_here s.seats i v w at, (λ none. k.3 (ap (λ (z : Seat). z.numbers) is ∙ none)), can.0, inr last))
              (λ apart. (k.0, k.1, set_else s.seats i k.0 w apart ∙ k.2, k.3, k.4, k.5));
          claims = sum_kept (λ u. u.claims) s.seats i v w at refl ∙ ok.claims;
          published = sum_kept (λ u. u.published) s.seats i v w at refl ∙ ok.published;
        }

-- Look
pub keeps_look : (s t : State) (i : ℕ) → IsSound s → Makes Look s i t → IsSound t
keeps_look s t i ok m = ⊎_elim (λ x. subst IsSound (sym x.1) (keeps_learnt s i m.0 ok m.1 x.0)) (λ x. subst IsSound (sym x.1) (keeps_rested s i m.0 ok m.1 x.0)) m.3
