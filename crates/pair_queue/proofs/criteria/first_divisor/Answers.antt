use Rattle.std.proofs.Common.{◌≡◌, ◌<◌, length, false, sym, ◌∙◌, below_more, arith}
use Rattle.local_order.specs.Mono.{divides}
use Rattle.mono_rank.specs.Rank.{mono_at}
use Rattle.pair_queue.proofs.Chains.{divides_is, chain_found, chain_none}
use Rattle.pair_queue.proofs.criteria.first_divisor.Goals as goal

pub returns-then-divides : goal.returns-then-divides
returns-then-divides c =
    let within : c.loop-k.k < length c.args.leads.now = omega (arith, c.loop-k-test.true, c.requires.within) in
    let test = divides_is c.args.leads.now c.args.multiple.now c.loop-k.k c.index-leads-k.result c.divides.result within c.requires.variables c.index-leads-k.is c.divides.ensures in
    sym (chain_found c.args.leads.now c.args.multiple.now c.args.count c.loop-k.k c.loop-k-test.true (test ∙ c.if-divides.true) c.loop-k.invariant)

pub loop-k-preserved : goal.loop-k-preserved
loop-k-preserved c =
    let within : c.loop-k.k < length c.args.leads.now = omega (arith, c.loop-k-test.true, c.requires.within) in
    let test = divides_is c.args.leads.now c.args.multiple.now c.loop-k.k c.index-leads-k.result c.divides.result within c.requires.variables c.index-leads-k.is c.divides.ensures in
    below_more (λ j. divides (mono_at c.args.leads.now j) c.args.multiple.now ≡ false) c.loop-k.k c.loop-k.invariant (test ∙ c.if-divides.false)

pub returns : goal.returns
returns c = sym (chain_none c.args.leads.now c.args.multiple.now c.args.count (λ j l. c.loop-k.invariant j (omega (arith, l, c.loop-k-test.false))))
