use Rattle.std.proofs.Common.{◌≤◌, ◌+◌, ◌%◌, cond, eqb, length, sym, ◌∙◌, ap, arith}
use Rattle.local_order.specs.Shape.{Shape}
use Rattle.cert_check.specs.Sparse.{at}
use Rattle.cert_check.proofs.Tables.{some_rank, rank_told}
use Rattle.cert_check.proofs.Starts.{generator_term, one_written, all_written}
use Rattle.cert_check.proofs.start.generator.Goals as goal

pub rank-requires : goal.rank-requires
rank-requires c =
    (generator_term c.args.problem.now c.requires.problem c.args.g c.args.f.now.terms c.requires.place c.requires.is c.loop-k.k c.get-t.result c.get-t.ensures).in_ring
    ∙ sym (ap (λ (x : Shape). x.variables) c.requires.table)

pub unwrap-requires : goal.unwrap-requires
unwrap-requires c =
    let t = generator_term c.args.problem.now c.requires.problem c.args.g c.args.f.now.terms c.requires.place c.requires.is c.loop-k.k c.get-t.result c.get-t.ensures in
    some_rank c.args.table.now c.get-t.result.mono c.rank.result c.rank.ensures (omega (arith, t.low, ap (λ (x : Shape). x.degree) c.requires.table))

pub add_at-requires-clause-residue : goal.add_at-requires-clause-residue
add_at-requires-clause-residue c =
    let t = generator_term c.args.problem.now c.requires.problem c.args.g c.args.f.now.terms c.requires.place c.requires.is c.loop-k.k c.get-t.result c.get-t.ensures in
    omega (arith, t.residue, c.field-field.ensures.value)

pub loop-k-preserved : goal.loop-k-preserved
loop-k-preserved c =
    let t = generator_term c.args.problem.now c.requires.problem c.args.g c.args.f.now.terms c.requires.place c.requires.is c.loop-k.k c.get-t.result c.get-t.ensures in
    one_written c.args.problem.now c.requires.problem c.args.table.now c.requires.table c.args.f.now.terms c.loop-k.k c.get-t.result c.get-t.ensures t c.unwrap.result
    (rank_told c.args.table.now c.get-t.result.mono c.rank.result c.unwrap.result c.rank.ensures c.unwrap.ensures)
    (at c.loop-k.h.terms) (at c.add_at.new.self.terms)
    (λ r. c.in_ok-add_at.ensures r ∙ ap (λ p. cond (eqb c.unwrap.result r) ((at c.loop-k.h.terms r + c.get-t.result.coef) % p) (at c.loop-k.h.terms r)) c.field-field.ensures.value)
    c.loop-k.invariant

pub returns-clause-value : goal.returns-clause-value
returns-clause-value c = all_written c.args.problem.now c.requires.problem c.args.f.now.terms _ c.loop-k.k (at c.loop-k.h.terms) (let z : length c.args.f.now.terms ≤ c.loop-k.k = omega (arith, c.loop-k-test.false) in z) c.requires.is c.loop-k.invariant
