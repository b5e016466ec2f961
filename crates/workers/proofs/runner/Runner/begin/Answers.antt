use Rattle.std.proofs.Common.{length, sym, ap, ◌∙◌, subst, arith}
use Rattle.mora_law.specs.Legal.{IsItemOf}
use Rattle.mora_law.specs.Items.{tickets}
use Rattle.mora_law.proofs.Items.{tickets_is}
use Rattle.workers.proofs.Beginning.{item_small, fits_told, skips_with, skips_is}
use Rattle.workers.proofs.Lasting.{skipped_shut}
use Rattle.workers.proofs.runner.Runner.begin.Goals as goal

pub item_of-item-requires : goal.item_of-item-requires
item_of-item-requires c = item_small c.args.board.now c.args.self.now c.args.ticket c.requires.claimed c.problem-problem.result.now c.problem-problem.ensures c.generator_count.result c.generator_count.ensures

pub skips-requires : goal.skips-requires
skips-requires c =
    record { known = skips_with c.args.board.now c.args.self.now c.args.ticket c.requires.claimed c.problem-problem.result.now c.problem-problem.ensures c.generator_count.result c.generator_count.ensures c.item_of-item.result c.item_of-item.ensures.value }

pub returns-then-skips-clause-begun : goal.returns-then-skips-clause-begun
returns-then-skips-clause-begun c =
    let h = c.requires.claimed in
    let k = h.placed.equipped.known in
    let skipped = skips_is c.args.board.now c.args.self.now c.args.ticket h c.problem-problem.result.now c.problem-problem.ensures c.generator_count.result c.generator_count.ensures c.item_of-item.result c.item_of-item.ensures.value c.skips.result c.skips.ensures in
    skipped_shut c.args.self.now.seat.view c.args.ticket h.hand (omega (arith, h.within, ap (tickets c.args.self.now.seat.view.setting.problem) k.count, tickets_is c.args.self.now.seat.view.setting.problem c.args.self.now.seat.view.seat.known)) (skipped ∙ c.if-skips.true)

pub start-requires-clause-item : goal.start-requires-clause-item
start-requires-clause-item c =
    let h = c.requires.claimed in
    let k = h.placed.equipped.known in
    let fits = fits_told c.args.board.now c.args.self.now c.args.ticket h c.problem-problem.result.now c.problem-problem.ensures c.generator_count.result c.generator_count.ensures c.item_of-item.result c.item_of-item.ensures.value in
    subst (λ n. IsItemOf (length c.problem-problem.result.now.gens) n c.item_of-item.result) (sym k.holds.knows.all) fits
