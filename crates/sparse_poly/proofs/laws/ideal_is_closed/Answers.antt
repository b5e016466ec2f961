use Rattle.sparse_poly.proofs.Closure.{AllIn-from_All, IsInIdeal-generator, IsInIdeal-times}
use Rattle.sparse_poly.proofs.Member.{IsInIdeal-zero, IsInIdeal-add, IsInIdeal-agree, agree}
use Rattle.std.proofs.Common.{sym}
use Rattle.sparse_poly.proofs.laws.ideal_is_closed.Goals as goal

pub returns-clause-generators : goal.returns-clause-generators
returns-clause-generators c P f gens there = IsInIdeal-generator P f (AllIn-from_All P.n P.gens gens) there

pub returns-clause-zero : goal.returns-clause-zero
returns-clause-zero c P = IsInIdeal-zero P

pub returns-clause-sum : goal.returns-clause-sum
returns-clause-sum c P f g h k = IsInIdeal-add P f g h k

pub returns-clause-product : goal.returns-clause-product
returns-clause-product c P q f gens i j h = IsInIdeal-times P q f (AllIn-from_All P.n P.gens gens) i j h

pub returns-clause-alike : goal.returns-clause-alike
returns-clause-alike c P f g s h = IsInIdeal-agree P f g (agree P g f (λ m l. sym (s m l))) h
