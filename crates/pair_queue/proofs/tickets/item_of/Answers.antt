use Rattle.std.proofs.Common.{◌-◌, arith}
use Rattle.entry_code.specs.declared.item.Item.TheVariants.{Generator, Pair}
use Rattle.pair_queue.proofs.Halving.{item_with}
use Rattle.pair_queue.proofs.tickets.item_of.Goals as goal

pub returns-then-ticket-generators : goal.returns-then-ticket-generators
returns-then-ticket-generators c =
    record { value = item_with c.args.m c.args.ticket (Generator c.args.ticket) (omega (arith, c.if-ticket-generators.true, c.from-generators.ensures)) (omega arith) }

pub returns : goal.returns
returns c =
    let l = c.second_of-second.ensures.low in
    let h = c.second_of-second.ensures.high in
    let v = c.pairs.ensures.value in
    record {
      value = item_with c.args.m c.args.ticket (Pair (c.args.ticket - c.from-generators.result - c.pairs.result) c.second_of-second.result)
          (omega (arith, l, h, v, c.from-generators.ensures, c.if-ticket-generators.false))
          (omega (arith, l, h, v, c.from-generators.ensures, c.if-ticket-generators.false));
    }
