-- What stays while a ticket is carried: from step to step, past a longer list, and to its end.
-- Each look learns an entry, so the looks and what is known rise together until the own entry is published.
use Rattle.std.proofs.Common.{◌≡◌, ℕ, suc, ◌+◌, ◌-◌, ◌<◌, true, List, [], ◌∷◌, ◌++◌, length, Some, sym, ap, ◌∙◌, subst, arith}
use Rattle.entry_code.specs.Entry.{Entry}
use Rattle.mora_law.specs.Items.{item_for}
use Rattle.mora_law.specs.Legal.{IsItemOf}
use Rattle.mora_law.proofs.Prefixes.{prefix_append}
use Rattle.mora_form.specs.State.{State as MoraState, HasRun}
use Rattle.run_core.specs.Hand.{marked, reads_of, draft}
use Rattle.run_core.specs.State.{count_of, steps_of}
use Rattle.run_core.proofs.Ends.{skipped_longer}
use Rattle.run_core.proofs.Running.{hand_with}
use Rattle.run_core.specs.declared.workspace.Workspace.{Workspace}
use Rattle.reducer_list.specs.View.{View, top}
use Rattle.reducer_list.specs.Steps.{learnt_view, made, posted}
use Rattle.workers.specs.Working.{posted_in}
use Rattle.workers.specs.Running.{IsKnown, IsInHand, IsAsBefore, GoesOn, HasEnded, ticket_in}
use Rattle.workers.proofs.Stepping.{reads_are, few_reads}

-- the hand alone changes
pub goes_as_before : (v w : View) → IsAsBefore v w → GoesOn v w
goes_as_before v w a = record {
  keeps = record {
    setting = ap (λ (x : View). x.setting) a.hand;
    numbers = ap (λ (x : View). x.seat.numbers) a.hand;
    seen = ap (λ (x : View). x.seat.seen) a.hand;
    claims = ap (λ (x : View). x.seat.claims) a.hand;
    ticket = a.ticket;
  };
  published = ap (λ (x : View). x.seat.published) a.hand;
  looks = let l = ap (λ (x : View). x.looks) a.hand in let k = ap (λ (x : View). x.seat.known) a.hand in omega (arith, l, k);
}

module _ (v w : View) (ws : List ℕ) (c : ℕ) (e : Entry) (is : w ≡ record (learnt_view e (record v { draft = ws; taken = Some c })) { looks = suc v.looks }) where
  -- the list was longer, and an entry was learnt
  pub goes_longer : GoesOn v w
  goes_longer = record {
    keeps = record {
      setting = ap (λ (x : View). x.setting) is;
      numbers = ap (λ (x : View). x.seat.numbers) is;
      seen = ap (λ (x : View). x.seat.seen) is;
      claims = ap (λ (x : View). x.seat.claims) is;
      ticket = ap (λ (x : View). ticket_in x.seat.hand) is;
    };
    published = ap (λ (x : View). x.seat.published) is;
    looks = let l = ap (λ (x : View). x.looks) is in let k = ap (λ (x : View). x.seat.known) is in omega (arith, l, k);
  }

  -- the hand is still that of the run, which sees one entry more
  pub in_hand_longer : (m m' : MoraState) → IsInHand v m → m' ≡ record m { known = m'.known } → HasRun w.setting.problem w.list m' → IsInHand w m'
  in_hand_longer m m' h same more =
      let P = v.setting.problem in
      let fits : IsItemOf (length P.gens) (length v.list) (item_for P h.ticket) = subst (IsItemOf (length P.gens) (length v.list)) h.item h.run.item in
      subst (λ (u : View). IsInHand u m') (sym is) (record {
        ticket = h.ticket;
        hand = h.hand ∙ ap (λ l. Some (hand_with h.ticket l)) (sym (ap (λ (x : MoraState). x.reads) same));
        item = ap (λ (x : MoraState). x.item) same ∙ h.item;
        pair = skipped_longer P v.list (v.list ++ e ∷ []) (prefix_append v.list (e ∷ [])) (item_for P h.ticket) fits ∙ h.pair;
        run = subst (λ (u : View). HasRun u.setting.problem u.list m') is more;
      })

-- a run that ended with Zero is at its end
pub ended_zero : (v w : View) (s : Workspace) (m : MoraState) → IsAsBefore v w → IsInHand w m → 0 < length m.reads → IsKnown w s → HasEnded v w
ended_zero v w s m a h some known =
    let g = goes_as_before v w a in
    let reads = ap length (reads_are w m h) in
    let none : posted_in w.seat.hand ≡ 0 = ap posted_in h.hand in
    let few = few_reads w m h s known in
    let same : count_of w.setting.problem ≡ top v.setting = ap (λ p. top p) g.keeps.setting in
    record {
      keeps = g.keeps;
      hand = (hand_with h.ticket m.reads, h.hand);
      some = omega (arith, some, reads);
      few = omega (arith, few, reads, same);
      published = omega (arith, g.published);
      looks = omega (arith, g.looks, none);
    }

module _ (v w : View) (s : Workspace) (k : IsKnown v s) (m : MoraState) where
  -- a run whose entry is published is at its end
  pub ended_posted : w ≡ posted v → IsInHand v m → 0 < length m.reads → HasEnded v w
  ended_posted is h some =
      let reads : length (reads_of w.seat.hand) ≡ length m.reads = ap (λ (u : View). length (reads_of u.seat.hand)) is ∙ ap (λ o. length (reads_of (marked o))) h.hand in
      let one : posted_in w.seat.hand ≡ 1 = ap (λ (u : View). posted_in u.seat.hand) is ∙ ap (λ o. posted_in (marked o)) h.hand in
      let few = few_reads v m h s k in
      let known = ap (λ (u : View). u.seat.known) is in
      let looks = ap (λ (u : View). u.looks) is in
      let more : steps_of (made v) ≡ length m.reads - 1 = ap (λ o. steps_of (draft v.setting.problem v.list o)) h.hand in
      let published : w.seat.published ≡ v.seat.published + steps_of (made v) = ap (λ (u : View). u.seat.published) is in
      record {
        keeps = record {
          setting = ap (λ (x : View). x.setting) is;
          numbers = ap (λ (x : View). x.seat.numbers) is;
          seen = ap (λ (x : View). x.seat.seen) is;
          claims = ap (λ (x : View). x.seat.claims) is;
          ticket = ap (λ (x : View). ticket_in x.seat.hand) is ∙ ap (λ o. ticket_in (marked o)) h.hand ∙ sym (ap ticket_in h.hand);
        };
        hand = (record { ticket = h.ticket; reads = m.reads; published = true }, ap (λ (u : View). u.seat.hand) is ∙ ap marked h.hand);
        some = omega (arith, some, reads);
        few = omega (arith, few, reads);
        published = omega (arith, published, more, reads);
        looks = omega (arith, known, looks, one);
      }
