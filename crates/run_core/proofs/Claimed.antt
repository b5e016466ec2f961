-- A ticket that was just claimed: its item, the run that begins, and what is counted when it is done with.
-- A hand without readings has no end yet, so there is work at it exactly where its pair isn't skipped.
use Rattle.std.proofs.Common.{List, map, Bool, ◌≡◌, ℕ, ◌+◌, ◌*◌, ◌^◌, ◌<◌, ◌≤◌, true, false, not, ◌&&◌, [], length, Some, None, refl, sym, ap, ◌∙◌, subst, arith, le_trans}
use Rattle.std.proofs.Math.Nat.{mul-le-mul}
use Rattle.std.proofs.lemmas.List.{length-map}
use Rattle.sparse_poly.specs.Poly.{Polynomial, in_variables}
use Rattle.sparse_poly.specs.Ideal.{Problem, IsProblem}
use Rattle.entry_code.specs.declared.item.Item.{Item}
use Rattle.entry_code.specs.Entry.{Entry}
use Rattle.mora_law.specs.Legal.{IsItemOf}
use Rattle.mora_law.specs.Tickets.{total}
use Rattle.mora_law.specs.Items.{item_of, item_for}
use Rattle.mora_law.proofs.Items.{tickets_up, tickets_is, item_fits}
use Rattle.mora_law.proofs.Ring.{ranks_count, count_is}
use Rattle.mora_form.specs.State.{State as MoraState, HasRun, Knows}
use Rattle.run_core.specs.declared.workspace.Workspace.{Workspace}
use Rattle.run_core.specs.Hand.{end_of, is_open, is_skipped, is_zero, has_open}
use Rattle.run_core.specs.State.{count_of}
use Rattle.run_core.specs.Plain.{Plain, plain, plain_seat, is_working}
use Rattle.run_core.specs.Work.{IsRunning, HasClaimed}
use Rattle.run_core.proofs.Learned.{few}
use Rattle.run_core.proofs.Within.{within}

-- the item of a ticket over so many generators is the problem's
pub item_is : (Q P : Problem) (gens : List Polynomial) (n k : ℕ) (item : Item) → Q ≡ P → gens ≡ map (in_variables Q.n) Q.gens → n ≡ length gens → item ≡ item_of n k → item ≡ item_for P k
item_is Q P gens n k item e all count is = is ∙ ap (λ m. item_of m k) (count ∙ ap length all ∙ length-map Q.gens (in_variables Q.n) ∙ ap (λ (p : Problem). length p.gens) e)

-- and is skipped where the item that was told is
pub skipped_is : (Q P : Problem) (entries : List Entry) (item : Item) (k : ℕ) (b : Bool) → Q ≡ P → item ≡ item_for P k → b ≡ is_skipped Q entries item →
    is_skipped P entries (item_for P k) ≡ b
skipped_is Q P entries item k b e i s = ap (is_skipped P entries) (sym i) ∙ ap (λ p. is_skipped p entries item) (sym e) ∙ sym s

module _ (b : Plain) (w : Workspace) (k : ℕ) (p : IsProblem b.problem) (h : HasClaimed b w k) where
  -- the number of the entries is small
  entries_small : length b.entries ≤ 4096
  entries_small = le_trans (few b.problem h.sound.problem b.entries h.sound.legal) p.monomials

  -- the ticket is one of those that may come
  pub ticket_small : k < total (length b.problem.gens) 4096
  ticket_small = omega (arith, h.within, tickets_up b.problem (length b.entries) 4096 entries_small, tickets_is b.problem (length b.entries), tickets_is b.problem 4096)

  -- its item speaks of the generators and the entries
  pub item_fits_now : IsItemOf (length b.problem.gens) (length b.entries) (item_for b.problem k)
  item_fits_now = item_fits b.problem k (length b.entries) (omega (arith, h.within, tickets_is b.problem (length b.entries)))

  -- where it is skipped there is no work
  pub no_work : is_skipped b.problem b.entries (item_for b.problem k) ≡ true → is_working b ≡ false
  unfolding is_open
  no_work s = ap (has_open b.problem b.entries) h.hand ∙ ap (λ x. not false && (not x && not (is_zero (end_of b.problem b.entries k [])))) s

  -- else there is
  work : is_skipped b.problem b.entries (item_for b.problem k) ≡ false → is_working b ≡ true
  unfolding is_open end_of
  work s = ap (has_open b.problem b.entries) h.hand ∙ ap (λ x. not false && (not x && not (is_zero (end_of b.problem b.entries k [])))) s

  -- the run that begins
  pub begins : is_skipped b.problem b.entries (item_for b.problem k) ≡ false → (m : MoraState) → m.item ≡ item_for b.problem k →
      m ≡ record w.mora { is_open = true; item = m.item; reads = []; end = None; poly = m.poly; kept = [] } → HasRun b.problem b.entries m → IsRunning b (record w { mora = m })
  begins s m item value run = record {
    problem = p;
    sound = h.sound;
    working = work s;
    holds = record {
      table = h.holds.table;
      over = run.over;
      knows = subst (Knows b.entries) (sym value) (record { all = h.holds.knows.all; each = h.holds.knows.each; leads = h.holds.knows.leads });
      leads = h.holds.leads;
      shape = h.holds.shape;
      cover = h.holds.cover;
      room = h.holds.room;
    };
    opened = ap (λ (x : MoraState). x.is_open) value;
    moving = λ e. absurd (cc (sym (ap (λ (x : MoraState). x.end) value) ∙ e));
    run = run;
    hand = record {
      ticket = k;
      hand = h.hand ∙ ap (λ l. Some (record { ticket = k; reads = l; published = false })) (sym (ap (λ (x : MoraState). x.reads) value));
      item = item;
    };
  }

  -- so few steps have reduced
  pub count_small : length b.problem.gens < 2 ^ 32 → w.reductions < 2 ^ 63
  count_small g =
      let most = (within (plain b) 0 (plain_seat b) h.sound refl).most in
      let n : count_of b.problem ≤ 4096 = omega (arith, p.monomials, ranks_count b.problem, count_is b.problem) in
      let low : b.ticket ≤ length b.problem.gens + 8386560 = omega (arith, most, tickets_up b.problem (count_of b.problem) 4096 n, tickets_is b.problem (count_of b.problem), tickets_is b.problem 4096) in
      let product : count_of b.problem * b.ticket ≤ 4096 * b.ticket = mul-le-mul {n₁ = count_of b.problem} {m₁ = b.ticket} {n₂ = 4096} {m₂ = b.ticket} n (omega arith) in
      omega (arith, h.most, low, product, g)
