use Rattle.std.proofs.Common.{sym, ◌∙◌, rules}
use Rattle.workers.proofs.rounds.all_rest.Goals as goal

pub returns-then-not-rests-clause-some : goal.returns-then-not-rests-clause-some
returns-then-not-rests-clause-some c _ = (c.loop-i.i, c.index.result.now, search rules, sym c.index.ensures, sym c.rests.ensures ∙ c.if-not-rests.true)
