use Rattle.std.proofs.Common.{length, take, sym, subst}
use Rattle.std.proofs.lemmas.List.{length-take-le}
use Rattle.mora_law.specs.Legal.{IsItemOf}
use Rattle.mora_law.proofs.Growth.{legal_take}
use Rattle.run_core.proofs.workspace.Workspace.has_work.Goals as goal

pub skips-requires : goal.skips-requires
skips-requires c =
    let P = c.args.problem.now in
    record {
      known = (
        take c.args.known c.args.entries.now,
        c.requires.holds,
        legal_take P c.args.entries.now c.args.known c.requires.within c.requires.legal,
        subst (λ n. IsItemOf (length P.gens) n c.args.item) (sym (length-take-le c.args.known c.args.entries.now c.requires.within)) c.requires.item,
      );
    }
