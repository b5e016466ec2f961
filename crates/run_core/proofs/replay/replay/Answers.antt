use Rattle.std.proofs.Common.{arith, ◌≡◌, le_trans, sym, ◌∙◌, ap, ap₂, subst, length}
use Rattle.std.proofs.lemmas.List.{length-take-le}
use Rattle.mora_law.specs.Legal.{IsItemOf}
use Rattle.mora_law.specs.Items.{item_of, item_for}
use Rattle.mora_law.proofs.Items.{item_fits}
use Rattle.run_core.specs.Hand.{Hand}
use Rattle.run_core.proofs.Replays.{first_within, ticket_within, ticket_low, begun, first_next}
use Rattle.run_core.proofs.replay.replay.Goals as goal

pub learn_to-requires-clause-within : goal.learn_to-requires-clause-within
learn_to-requires-clause-within c =
    let l = first_within c.args.problem.now c.args.entries.now c.args.known c.args.hand.now c.requires.hand c.first_known.result c.first_known.ensures.first c.first_known.ensures.none in
    omega (arith, l, c.requires.hand.within)

pub item_of-item-requires : goal.item_of-item-requires
item_of-item-requires c =
    let low = ticket_low c.args.problem.now c.n-problem.ensures.problem c.args.entries.now c.args.known c.args.hand.now c.requires.hand in
    omega (arith, low, ap (λ (h : Hand). h.ticket) c.hand.view_is, c.generator_count.ensures)

pub start-requires-clause-item : goal.start-requires-clause-item
start-requires-clause-item c =
    let P = c.args.problem.now in
    let h : Hand = c.args.hand.now in
    let first = c.first_known.result in
    let l = first_within P c.args.entries.now c.args.known h c.requires.hand first c.first_known.ensures.first c.first_known.ensures.none in
    let count : length c.learn_to.new.self.mora.known ≡ first = c.learn_to.ensures.holds.knows.all ∙ length-take-le first c.args.entries.now (le_trans l c.requires.hand.within) in
    let item : c.item_of-item.result ≡ item_for P h.ticket = c.item_of-item.ensures.value ∙ ap₂ item_of c.generator_count.ensures (ap (λ (x : Hand). x.ticket) c.hand.view_is) in
    let fits = item_fits P h.ticket first (ticket_within P c.args.entries.now c.args.known h c.requires.hand first c.first_known.ensures.first c.first_known.ensures.none) in
    subst (λ x. IsItemOf (length P.gens) (length c.learn_to.new.self.mora.known) x) (sym item) (subst (λ n. IsItemOf (length P.gens) n (item_for P h.ticket)) (sym count) fits)

pub loop-i-init : goal.loop-i-init
loop-i-init c =
    let P = c.args.problem.now in
    let h : Hand = c.args.hand.now in
    let first = c.first_known.result in
    let l = first_within P c.args.entries.now c.args.known h c.requires.hand first c.first_known.ensures.first c.first_known.ensures.none in
    let holds = c.learn_to.ensures.holds in
    let count : length c.learn_to.new.self.mora.known ≡ first = holds.knows.all ∙ length-take-le first c.args.entries.now (le_trans l c.requires.hand.within) in
    let item : c.item_of-item.result ≡ item_for P h.ticket = c.item_of-item.ensures.value ∙ ap₂ item_of c.generator_count.ensures (ap (λ (x : Hand). x.ticket) c.hand.view_is) in
    begun P c.args.entries.now c.args.known h c.requires.hand first c.learn_to.new.self c.item_of-item.result c.start.new.self l count holds c.start.ensures.value item
    (c.start.ensures.run _ holds.knows) (first_next h.reads first c.first_known.ensures.first)
