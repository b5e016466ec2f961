use Rattle.std.proofs.Common.{◌≡◌, false, true, sym, ◌∙◌, ap}
use Rattle.local_order.specs.Shape.{Shape}
use Rattle.mora_law.proofs.Ring.{problem_is_admissible}
use Rattle.cert_check.proofs.LeadRanks.{stair_small, missing_is, none_missing}
use Rattle.cert_check.proofs.verdict.is_missing.Goals as goal

pub mono-requires : goal.mono-requires
mono-requires c = stair_small c.args.problem.now (problem_is_admissible _ c.requires.problem) c.args.entries.now c.requires.stored c.args.table.now c.args.stair.now.shape c.requires.table c.requires.shape c.args.stair.now.ranks c.requires.stair c.in-Some.rank c.in-Some.ensures.there

pub is_same-requires : goal.is_same-requires
is_same-requires c = c.mono.ensures.in_ring ∙ ap (λ (x : Shape). x.variables) c.requires.table ∙ sym c.requires.ring

pub returns-in-Some : goal.returns-in-Some
returns-in-Some c = missing_is c.args.problem.now (problem_is_admissible _ c.requires.problem) c.args.entries.now c.requires.stored c.args.table.now c.args.stair.now.shape c.requires.table c.requires.shape c.args.stair.now.ranks c.requires.stair
    c.in-Some.rank c.mono.result c.args.missing.now c.is_same.result c.in-Some.ensures c.mono.ensures c.is_same.ensures

pub returns-in-None : goal.returns-in-None
returns-in-None c = (
  (λ y. absurd (let z : false ≡ true = y in cc z)),
  (λ f. absurd (none_missing c.args.problem.now (problem_is_admissible _ c.requires.problem) c.args.entries.now c.requires.stored c.args.table.now c.args.stair.now.shape c.requires.table c.requires.shape c.args.stair.now.ranks c.requires.stair c.in-None.ensures c.args.missing.now f)),
)
