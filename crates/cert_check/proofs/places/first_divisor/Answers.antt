use Rattle.std.proofs.Common.{◌<◌, arith}
use Rattle.std.proofs.Common.{ap, sym, ◌∙◌}
use Rattle.mora_law.specs.Ring.{ranks_of_problem}
use Rattle.mora_law.specs.Entries.{basis_of}
use Rattle.rank_algebra.specs.Division.{first_of}
use Rattle.cert_check.proofs.Divisors.{hit_found, hit_none}
use Rattle.cert_check.proofs.places.first_divisor.Goals as goal

pub returns-in-Some : goal.returns-in-Some
returns-in-Some c = record {
  hit = hit_found (ranks_of_problem c.args.problem.now) (first_of c.args.known (basis_of c.args.entries.now)) c.args.r c.loop-k.k c.in-Some.cofactor c.loop-k-test.true c.loop-k.invariant
      (ap ((ranks_of_problem c.args.problem.now).quotient c.args.r) (sym c.lead_of-lead.ensures.value) ∙ sym c.quotient_rank.ensures ∙ c.in-Some.is);
}

pub returns : goal.returns
returns c = record {
  hit = hit_none (ranks_of_problem c.args.problem.now) (first_of c.args.known (basis_of c.args.entries.now)) c.args.r (λ j l. c.loop-k.invariant j (let z : j < c.loop-k.k = omega (arith, l, c.loop-k-test.false) in z));
}
