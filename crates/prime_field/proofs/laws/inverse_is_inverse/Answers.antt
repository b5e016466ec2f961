use Rattle.prime_field.proofs.Inverse.{inverse-law, inverse-residue, inverse-only}
use Rattle.prime_field.proofs.laws.inverse_is_inverse.Goals as goal

pub returns-clause-product : goal.returns-clause-product
returns-clause-product c = inverse-law

pub returns-clause-residue : goal.returns-clause-residue
returns-clause-residue c = inverse-residue

pub returns-clause-only : goal.returns-clause-only
returns-clause-only c = inverse-only
