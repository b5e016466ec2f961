use Rattle.std.proofs.Common.{◌≡◌, ◌<◌, ℕ, List, length, get_or, subst, sym, arith}
use Rattle.mono_rank.specs.Rank.{mono_at}
use Rattle.mora_law.specs.Legal.{IsItemOf}
use Rattle.mora_law.proofs.Ring.{problem_is_admissible}
use Rattle.cert_check.proofs.Leaves.{leads_long}
use Rattle.cert_check.proofs.tickets.is_skipped.Goals as goal

pub skip-requires-clause-variables : goal.skip-requires-clause-variables
skip-requires-clause-variables c =
    let z = subst (IsItemOf (length c.args.problem.now.gens) (length c.args.entries.now)) c.in-Pair.is c.requires.item in
    subst (λ (ms : List (List ℕ)). (k : ℕ) (d : List ℕ) → k < length ms → length (get_or ms k d) ≡ length (mono_at ms c.in-Pair.i)) (sym c.requires.leads)
    (leads_long c.args.problem.now (problem_is_admissible _ c.requires.problem) c.args.entries.now c.requires.stored c.in-Pair.i (omega (arith, z.0, z.1)))
