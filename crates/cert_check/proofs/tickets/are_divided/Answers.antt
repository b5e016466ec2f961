use Rattle.std.proofs.Common.{◌≡◌, length, false, true, IsTrue}
use Rattle.mora_law.proofs.Ring.{problem_is_admissible}
use Rattle.cert_check.specs.Accepted.{IsDone}
use Rattle.cert_check.proofs.SettledAccepted.{others_divided}
use Rattle.cert_check.proofs.TicketParts.{tickets_from, generators_of_tickets, pairs_of_tickets}
use Rattle.cert_check.proofs.tickets.are_divided.Goals as goal

pub returns-then-generators : goal.returns-then-generators
returns-then-generators c =
    let z = others_divided c.args.problem.now c.args.entries.now (problem_is_admissible _ c.requires.problem) c.requires.legal in (
      (λ y. z.1 (tickets_from (length c.args.problem.now.gens) (length c.args.entries.now) (IsDone c.args.problem.now c.args.entries.now) (c.in_ok-generators.ensures.0 c.if-generators.true) (c.in_ok-pairs.ensures.0 y))),
      (λ d. c.in_ok-pairs.ensures.1 (pairs_of_tickets (length c.args.problem.now.gens) (length c.args.entries.now) (IsDone c.args.problem.now c.args.entries.now) (z.0 d))),
    )

pub returns : goal.returns
returns c =
    let z = others_divided c.args.problem.now c.args.entries.now (problem_is_admissible _ c.requires.problem) c.requires.legal in (
      (λ y. absurd (let e : false ≡ true = y in cc e)),
      (λ d. let e : IsTrue c.in_ok-generators.generators = c.in_ok-generators.ensures.1 (generators_of_tickets (length c.args.problem.now.gens) (length c.args.entries.now) (IsDone c.args.problem.now c.args.entries.now) (z.0 d)) in absurd (cc (e, c.if-generators.false))),
    )
