use Rattle.mono_rank.proofs.Listing.{ListsUpTo}
use Rattle.mono_rank.proofs.build.falling.Given as goal

abbrev pub invariant-loop : goal.invariant-loop
invariant-loop l = ListsUpTo (record { variables = l.n; degree = l.d }) l.all.items l.counter l.exps.items
