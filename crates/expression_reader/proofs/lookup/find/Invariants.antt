use Rattle.std.proofs.Common.{◌≡◌, drop}
use Rattle.std.specs.Prelude.{map}
use Rattle.script_grammar.specs.Words.{is_one_of}
use Rattle.script_grammar.specs.Meaning.{value_in}
use Rattle.expression_reader.specs.NamesView.{names_in}
use Rattle.expression_reader.proofs.lookup.find.Given as goal

abbrev pub invariant-loop-f : goal.invariant-loop-f
invariant-loop-f g l = record {
  value : (other : g.T.Declared.Value) → value_in (map g.T.Declared.seen (drop l.f-index l.all)) other l.word ≡ value_in (map g.T.Declared.seen l.all) other l.word;
  name : is_one_of (names_in g.T.Declared.seen (drop l.f-index l.all)) l.word ≡ is_one_of (names_in g.T.Declared.seen l.all) l.word;
}
