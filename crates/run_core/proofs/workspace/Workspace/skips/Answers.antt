use Rattle.std.proofs.Common.{◌≡◌, [], length, sym, ◌∙◌, ap, subst, arith}
use Rattle.std.proofs.lemmas.List.{length-map}
use Rattle.entry_code.specs.Entry.{Entry}
use Rattle.mora_law.specs.Ring.{numbering_of}
use Rattle.mora_law.specs.Entries.{lead_rank, leads}
use Rattle.mora_law.specs.Legal.{IsItemOf}
use Rattle.mora_law.proofs.Ring.{problem_is_admissible}
use Rattle.run_core.proofs.Learned.{lead_lengths}
use Rattle.run_core.proofs.workspace.Workspace.skips.Goals as goal

pub skip-requires-clause-second : goal.skip-requires-clause-second
skip-requires-clause-second c =
    let P = c.args.problem.now in
    let k = c.requires.known in
    let all : c.deref.result.now ≡ leads P k.0 = c.deref.ensures.value ∙ k.1.leads in
    omega (arith, ap length all, length-map k.0 (λ (x : Entry). (numbering_of P).mono (lead_rank x.terms)), (subst (IsItemOf _ _) c.in-Pair.is k.3).1)

pub skip-requires-clause-variables : goal.skip-requires-clause-variables
skip-requires-clause-variables c = λ k d l.
    let P = c.args.problem.now in
    let n = c.requires.known in
    let all : c.deref.result.now ≡ leads P n.0 = c.deref.ensures.value ∙ n.1.leads in
    let each = lead_lengths P (problem_is_admissible P c.n-problem.ensures.problem) n.0 n.2 c.deref.result.now all in
    each k d l ∙ sym (each c.in-Pair.i [] (omega (arith, ap length all, length-map n.0 (λ (x : Entry). (numbering_of P).mono (lead_rank x.terms)), (subst (IsItemOf _ _) c.in-Pair.is n.3).0, (subst (IsItemOf _ _) c.in-Pair.is n.3).1)))
