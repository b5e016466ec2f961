use Rattle.std.proofs.Common.{◌≡◌, ◌<◌, ◌^◌, [], None, true, length, sym, ◌∙◌, ap, subst}
use Rattle.std.proofs.lemmas.List.{length-map}
use Rattle.sparse_poly.specs.Poly.{in_variables}
use Rattle.sparse_poly.specs.Ideal.{Problem, IsProblem}
use Rattle.mora_law.specs.Tickets.{total}
use Rattle.mora_law.specs.Legal.{Legal, IsItemOf}
use Rattle.mora_form.specs.State.{State as MoraState, HasRun}
use Rattle.run_core.specs.Plain.{Plain}
use Rattle.run_core.specs.Work.{Holds}
use Rattle.run_core.proofs.Claimed.{item_is, skipped_is, ticket_small, item_fits_now, no_work, begins, count_small}
use Rattle.run_core.proofs.workspace.Workspace.work.Goals as goal

pub item_of-item-requires : goal.item_of-item-requires
item_of-item-requires c =
    let b : Plain = c.args.board.now in
    let gens : c.len.result ≡ length b.problem.gens = c.len.ensures ∙ ap length c.gens.ensures.value ∙ length-map c.args.problem.now.gens (in_variables c.args.problem.now.n) ∙ ap (λ (p : Problem). length p.gens) c.requires.problem in
    subst (λ m. c.args.ticket < total m 4096) (sym gens) (ticket_small b c.args.self.now c.args.ticket (subst IsProblem c.requires.problem c.gens.ensures.problem) c.requires.claimed)

pub skips-requires : goal.skips-requires
skips-requires c =
    let b : Plain = c.args.board.now in
    let h = c.requires.claimed in
    let item = item_is c.args.problem.now b.problem c.gens.result.now c.len.result c.args.ticket c.item_of-item.result c.requires.problem c.gens.ensures.value c.len.ensures c.item_of-item.ensures.value in
    let fits = item_fits_now b c.args.self.now c.args.ticket (subst IsProblem c.requires.problem c.gens.ensures.problem) h in
    record {
      known = (
        b.entries,
        subst (λ p. Holds p b.entries c.args.self.now) (sym c.requires.problem) h.holds,
        subst (λ p. Legal p b.entries) (sym c.requires.problem) h.sound.legal,
        subst (λ (p : Problem). IsItemOf (length p.gens) (length b.entries) c.item_of-item.result) (sym c.requires.problem) (subst (IsItemOf (length b.problem.gens) (length b.entries)) (sym item) fits),
      );
    }

pub returns-then-skips-clause-ready : goal.returns-then-skips-clause-ready
returns-then-skips-clause-ready c =
    let b : Plain = c.args.board.now in
    let item = item_is c.args.problem.now b.problem c.gens.result.now c.len.result c.args.ticket c.item_of-item.result c.requires.problem c.gens.ensures.value c.len.ensures c.item_of-item.ensures.value in
    let skipped = skipped_is c.args.problem.now b.problem b.entries c.item_of-item.result c.args.ticket c.skips.result c.requires.problem item (c.skips.ensures b.entries (subst (λ p. Holds p b.entries c.args.self.now) (sym c.requires.problem) c.requires.claimed.holds)) ∙ c.if-skips.true in
    record { sound = c.requires.claimed.sound; idle = no_work b c.args.self.now c.args.ticket (subst IsProblem c.requires.problem c.gens.ensures.problem) c.requires.claimed skipped; holds = c.requires.claimed.holds }

pub start-requires-clause-item : goal.start-requires-clause-item
start-requires-clause-item c =
    let b : Plain = c.args.board.now in
    let item = item_is c.args.problem.now b.problem c.gens.result.now c.len.result c.args.ticket c.item_of-item.result c.requires.problem c.gens.ensures.value c.len.ensures c.item_of-item.ensures.value in
    let fits = item_fits_now b c.args.self.now c.args.ticket (subst IsProblem c.requires.problem c.gens.ensures.problem) c.requires.claimed in
    subst (λ (p : Problem). IsItemOf (length p.gens) (length c.args.self.now.mora.known) c.item_of-item.result) (sym c.requires.problem)
    (subst (λ n. IsItemOf (length b.problem.gens) n c.item_of-item.result) (sym c.requires.claimed.holds.knows.all) (subst (IsItemOf (length b.problem.gens) (length b.entries)) (sym item) fits))

pub run-requires-clause-running : goal.run-requires-clause-running
run-requires-clause-running c =
    let b : Plain = c.args.board.now in
    let h = c.requires.claimed in
    let item = item_is c.args.problem.now b.problem c.gens.result.now c.len.result c.args.ticket c.item_of-item.result c.requires.problem c.gens.ensures.value c.len.ensures c.item_of-item.ensures.value in
    let open_pair = skipped_is c.args.problem.now b.problem b.entries c.item_of-item.result c.args.ticket c.skips.result c.requires.problem item (c.skips.ensures b.entries (subst (λ p. Holds p b.entries c.args.self.now) (sym c.requires.problem) c.requires.claimed.holds)) ∙ c.if-skips.false in
    let same : c.start.new.self.item ≡ c.item_of-item.result = ap (λ (m : MoraState). m.item) c.start.ensures.value in
    begins b c.args.self.now c.args.ticket (subst IsProblem c.requires.problem c.gens.ensures.problem) h open_pair c.start.new.self (same ∙ item)
    (c.start.ensures.value ∙ ap (λ i. record c.args.self.now.mora { is_open = true; item = i; reads = []; end = None; poly = c.start.new.self.poly; kept = [] }) (sym same))
    (subst (λ p. HasRun p b.entries c.start.new.self) c.requires.problem (c.start.ensures.run b.entries h.holds.knows))

pub run-requires-clause-small : goal.run-requires-clause-small
run-requires-clause-small c =
    count_small c.args.board.now c.args.self.now c.args.ticket (subst IsProblem c.requires.problem c.gens.ensures.problem) c.requires.claimed (subst (λ (p : Problem). length p.gens < 2 ^ 32) c.requires.problem c.requires.generators)
