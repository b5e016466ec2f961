use Rattle.std.proofs.Common.{Some}
use Rattle.std.proofs.lemmas.List.Elements.{All-pop}
use Rattle.workers.specs.Working.{CanTurn}
use Rattle.crew_tests.proofs.crew.carries_all.Goals as goal

pub carries-requires : goal.carries-requires
carries-requires c =
    (All-pop (CanTurn c.args.crew.board) c.args.crew.workers.items c.pop.new.self.items (Some c.in-Some.worker) c.in-Some.ensures.items c.requires.ready).1
