use Rattle.std.proofs.Common.{◌≡◌, ◌-◌, ◌∷◌, [], map}
use Rattle.std.specs.List.{AllByRecursion}
use Rattle.cert_grammar.specs.Certified.{IsCertified, block_of}
use Rattle.cert_text.specs.Gives.{with_items}
use Rattle.cert_grammar.specs.Reading.{blocks_at}
use Rattle.cert_text.proofs.lines.Lines.blocks.Given as goal

abbrev pub invariant-loop-b : goal.invariant-loop-b
invariant-loop-b l = record {
  read : with_items (map block_of l.blocks.items) (blocks_at (64 - l.b) l.b l.self) ≡ with_items (block_of l.fn.first ∷ []) (blocks_at 63 1 l.fn.self);
  certified : AllByRecursion IsCertified l.blocks.items;
}
