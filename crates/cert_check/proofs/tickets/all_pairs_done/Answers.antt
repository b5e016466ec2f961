use Rattle.std.proofs.Common.{◌<◌, ℕ, below_more}
use Rattle.entry_code.specs.declared.item.Item.TheVariants.{Pair}
use Rattle.cert_check.specs.Accepted.{IsDone}
use Rattle.cert_check.proofs.tickets.all_pairs_done.Goals as goal

pub loop-j-preserved : goal.loop-j-preserved
loop-j-preserved c = below_more (λ j. (i : ℕ) → i < j → IsDone c.args.problem.now c.args.entries.now (Pair i j)) c.loop-j.j c.loop-j.invariant (c.in_ok-pairs_done.ensures.0 c.if-not-branch.false)
