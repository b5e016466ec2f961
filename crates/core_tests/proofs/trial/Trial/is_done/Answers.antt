use Rattle.std.proofs.Common.{◌≡◌, ◌≤◌, ◌+◌, Bool, true, false, Result, Ok, length, refl, sym, ap, ap₂, ◌∙◌, subst, nat_eq, arith}
use Rattle.std.proofs.lemmas.Bool.{eqb-true}
use Rattle.std.specs.declared.alloc.AllocError.{AllocError}
use Rattle.sparse_poly.specs.Ideal.{Problem}
use Rattle.mora_law.specs.Tickets.{total}
use Rattle.mora_law.specs.Settled.{AllSettled}
use Rattle.run_core.specs.declared.event.Event.TheVariants.{Corner}
use Rattle.run_core.specs.State.{State}
use Rattle.run_core.specs.Schedule.{next}
use Rattle.core_tests.proofs.Quiet.{AreShut, shut_more, all_settled}
use Rattle.core_tests.proofs.trial.Trial.is_done.Goals as goal

pub loop-name-init : goal.loop-name-init
loop-name-init c = (refl, λ y m. absurd (omega (arith, m)))

pub loop-name-preserved : goal.loop-name-preserved
loop-name-preserved c =
    let k = c.loop-name.name in
    let shut : c.apply.result ≡ Ok false = c.in_ok-apply.was ∙ ap Ok c.if-branch.false in
    let same : c.apply.new.self ≡ c.loop-name.self = c.apply.ensures.same shut in
    (same ∙ c.loop-name.invariant.0, subst (λ (s : State). AreShut s (k + 1)) (sym same) (shut_more c.loop-name.self k c.loop-name.invariant.1 (c.apply.ensures.none shut)))

pub returns : goal.returns
returns c =
    let s : State = c.self-2.inside.core in
    let view : s ≡ c.loop-name.self = c.self-2.view_is in
    let kept = c.loop-name.invariant in
    let workers : s.workers ≤ c.loop-name.name =
    omega
    (arith, ap (λ (x : State). x.workers) view, ap (λ (x : State). x.workers) kept.0, ap (λ (x : State). x.workers) c.self.view_is, c.self.invariant.1, c.loop-name-test.false) in
    let shut : AreShut s s.workers = λ y l. ap (λ (x : State). next y Corner x) view ∙ kept.1 y (omega (arith, l, workers)) in
    λ e. let tested : nat_eq c.ticket.result c.total-tickets.result ≡ true = cc e in
    let all : s.ticket ≡ total (length s.problem.gens) (length s.entries) =
    sym c.ticket.ensures.value ∙ eqb-true c.ticket.result c.total-tickets.result tested ∙ c.total-tickets.ensures
    ∙ ap₂ total (c.generator_count.ensures ∙ ap (λ (P : Problem). length P.gens) (sym c.self-2.invariant.0)) (c.in-Ok.ensures.1 ∙ c.len.ensures ∙ ap length c.entries.ensures.value) in
    subst (λ (x : State). AllSettled x.problem x.entries) view (all_settled s c.ticket.ensures.sound shut all)
