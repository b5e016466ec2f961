use Rattle.std.proofs.Common.{◌≡◌, ◌++◌, length, map}
use Rattle.std.specs.Prelude.{All}
use Rattle.std.specs.List.{range_with_len}
use Rattle.sparse_poly.specs.Poly.{cut, derivative}
use Rattle.sparse_poly.specs.Canonical.{canonical}
use Rattle.expression_reader.specs.Generators.{in_ring_of}
use Rattle.expression_reader.specs.NamesView.{values_of}
use Rattle.sparse_poly.specs.Ideal.{IsGenerator}
use Rattle.expression_reader.proofs.generators.push_jacobian.Given as goal

abbrev pub invariant-loop-i : goal.invariant-loop-i
invariant-loop-i l = record {
  gens : l.gens.items ≡ l.initial.gens.items ++ in_ring_of (values_of l.names) (map (λ i. cut l.names.d (canonical l.names.field (derivative i l.f.terms))) (range_with_len 0 l.i));
  valid : All (IsGenerator l.names.field (length l.names.letters) l.names.d) l.gens.items;
}
