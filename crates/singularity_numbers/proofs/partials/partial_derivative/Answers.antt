use Rattle.sparse_poly.proofs.Sorted.{residues_of}
use Rattle.singularity_numbers.proofs.partials.partial_derivative.Goals as goal

pub derivative-requires-clause-own : goal.derivative-requires-clause-own
derivative-requires-clause-own c = residues_of c.args.field.now c.args.n c.args.f.now.terms c.requires.canonical
