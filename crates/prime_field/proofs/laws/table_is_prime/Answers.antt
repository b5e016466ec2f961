use Rattle.prime_field.proofs.Primality.{IsPrime-table}
use Rattle.prime_field.proofs.laws.table_is_prime.Goals as goal

pub returns : goal.returns
returns c = IsPrime-table
