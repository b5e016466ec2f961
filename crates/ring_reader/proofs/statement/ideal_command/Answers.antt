use Rattle.std.proofs.Common.{length}
use Rattle.sparse_poly.proofs.Generators.{terms_of_generators}
use Rattle.ring_reader.proofs.Statements.{generators_few}
use Rattle.ring_reader.proofs.statement.ideal_command.Goals as goal

pub new-problem-requires-clause-problem : goal.new-problem-requires-clause-problem
new-problem-requires-clause-problem c =
    let names = c.args.names.now in
    let parts = terms_of_generators names.field (length names.letters) names.d c.in_ok-gens.gens c.in_ok-gens.ensures.valid in
    rw c.len.ensures.value (record {
      prime = c.requires.sound.prime;
      some = c.requires.sound.letters.some;
      few = c.requires.sound.letters.few;
      degree_some = c.requires.sound.some;
      degree_few = c.requires.sound.low;
      monomials = c.requires.sound.few;
      canonical = parts.0;
      low = parts.1;
      few_gens = generators_few c.in_ok-gens.gens c.in_ok-gens.ensures.few;
    })
