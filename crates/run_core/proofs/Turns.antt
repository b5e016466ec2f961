-- The turns of the one worker, until there is no ticket left.
-- The ticket word rises at each turn and is at most the number of all tickets.
use Rattle.std.proofs.Common.{◌≡◌, ℕ, suc, ◌+◌, ◌-◌, ◌*◌, ◌<◌, ◌≤◌, Bool, true, false, cond, [], ◌∷◌, length, Result, Ok, Err, IfOk, refl, sym, subst, arith, le_trans}
use Rattle.std.specs.Prelude.{sum_by}
use Rattle.sparse_poly.specs.Ideal.{Problem, IsProblem}
use Rattle.mora_law.specs.Legal.{Legal}
use Rattle.mora_law.specs.Tickets.{total}
use Rattle.mora_law.proofs.Items.{tickets_is}
use Rattle.mora_law.proofs.Ring.{problem_is_admissible}
use Rattle.run_core.specs.declared.event.Event.TheVariants.{Claim}
use Rattle.run_core.specs.declared.workspace.Workspace.{Workspace}
use Rattle.run_core.specs.State.{count_of, steps_of}
use Rattle.run_core.specs.Idle.{SettlesAll}
use Rattle.run_core.specs.declared.plain_run.Finished.{Finished}
use Rattle.std.specs.declared.alloc.AllocError.{AllocError}
use Rattle.run_core.specs.Finished.{IsOneCount}
use Rattle.run_core.specs.Plain.{Plain, plain, plain_seat, plain_opening, plain_claimed}
use Rattle.run_core.specs.Work.{Holds, IsReady, HasCounted, HasClaimed}
use Rattle.run_core.proofs.Keeps.{keeps_sound}
use Rattle.run_core.proofs.Plain.{plain_opens, plain_claims, plain_settles}
use Rattle.run_core.proofs.Learned.{few}
use Rattle.run_core.proofs.Within.{within}

-- what holds between two turns; when there is no more, no ticket is left
pub record TurnsOn (P : Problem) (b : Plain) (w : Workspace) (more : Bool) : Type 0 where
  pub problem : b.problem ≡ P
  pub ready : IsReady b w
  pub counted : HasCounted b w
  pub left : more ≡ false → total (length b.problem.gens) (length b.entries) ≤ b.ticket

-- how many turns there may be
abbrev pub to_do : Problem → Plain → Bool → ℕ
to_do P b more = total (length P.gens) (count_of P) - b.ticket + cond more 1 0

-- the ticket word is at most the number of all tickets
ticket_low : (P : Problem) (b : Plain) (w : Workspace) → b.problem ≡ P → IsReady b w → b.ticket ≤ total (length P.gens) (count_of P)
ticket_low P b w e r = subst (λ p. b.ticket ≤ total (length p.gens) (count_of p)) e (within (plain b) 0 (plain_seat b) r.sound refl).most

-- a turn leaves fewer, since it claims a ticket or is the last
pub fewer_to_do : (P : Problem) (b c : Plain) (w : Workspace) (more : Bool) → c.problem ≡ P → IsReady c w → (more ≡ true → c.ticket ≡ suc b.ticket) → (more ≡ false → c.ticket ≡ b.ticket) →
    to_do P c more < to_do P b true
fewer_to_do P b c w true e r claimed last = omega (arith, claimed refl, ticket_low P c w e r)
fewer_to_do P b c w false e r claimed last = omega (arith, last refl)

-- before the first turn
pub opens_ready : (P : Problem) (w : Workspace) → IsProblem P → Holds P [] w → IsReady (plain_opening P) w
opens_ready P w p h = record { sound = plain_opens P (problem_is_admissible P p); idle = refl; holds = h }

-- the number of the entries is small
pub entries_few : (b : Plain) (w : Workspace) → IsProblem b.problem → IsReady b w → length b.entries ≤ 4096
entries_few b w p r = le_trans (few b.problem r.sound.problem b.entries r.sound.legal) p.monomials

-- a ticket is claimed
pub claims_one : (b : Plain) (w : Workspace) → IsReady b w → HasCounted b w → b.ticket < total (length b.problem.gens) (length b.entries) → HasClaimed (plain_claimed b) w b.ticket
claims_one b w r c l = record {
  sound = keeps_sound (plain b) (plain (plain_claimed b)) 0 Claim r.sound (plain_claims b r.idle (omega (arith, l, tickets_is b.problem (length b.entries))));
  hand = refl;
  within = l;
  holds = r.holds;
  least = c.least;
  most = let e : count_of b.problem * suc b.ticket ≡ count_of b.problem * b.ticket + count_of b.problem = grind arith in omega (arith, c.most, e);
}

-- what is left after the last turn
pub record IsOver (P : Problem) (b : Plain) (w : Workspace) : Type 0 where
  pub legal : Legal P b.entries
  pub settled : SettlesAll P b.entries
  pub least : sum_by steps_of b.entries ≤ w.reductions
  pub most : w.reductions ≤ count_of P * total (length P.gens) (length b.entries)

-- once no ticket is left, every ticket is settled
pub over : (P : Problem) (b : Plain) (w : Workspace) → TurnsOn P b w false → IsOver P b w
over P b w t =
    let done = plain_settles b t.ready.sound t.ready.idle (omega (arith, t.left refl, tickets_is b.problem (length b.entries))) in
    subst (λ p. IsOver p b w) t.problem (record {
      legal = t.ready.sound.legal;
      settled = done.0;
      least = t.counted.least;
      most = subst (λ n. w.reductions ≤ count_of b.problem * n) done.1 t.counted.most;
    })

-- the count of the worker is the one count
pub counts_one : (P : Problem) (b : Plain) (w : Workspace) → IsOver P b w → (r : Result Finished AllocError) → IfOk r (λ f. f.entries ≡ b.entries) → IfOk r (λ f. f.reductions ≡ w.reductions ∷ []) →
    IfOk r (λ f. IsOneCount P f.entries f.reductions)
counts_one P b w o (Ok f) entries counts = subst (λ l. IsOneCount P l f.reductions) (sym entries) (record { count = w.reductions; one = counts; least = o.least; most = o.most })
counts_one P b w o (Err e) entries counts = tt
