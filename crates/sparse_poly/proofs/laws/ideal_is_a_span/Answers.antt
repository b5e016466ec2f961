use Rattle.sparse_poly.proofs.Closure.{AllIn-from_All, span_of_ideal, ideal_of_span}
use Rattle.sparse_poly.proofs.laws.ideal_is_a_span.Goals as goal

pub returns : goal.returns
returns c P rows g gens are = (
  span_of_ideal P rows g (AllIn-from_All P.n P.gens gens) are,
  ideal_of_span P rows g (AllIn-from_All P.n P.gens gens) are,
)
