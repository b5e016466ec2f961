-- A problem and what is certified of it.
use Rattle.std.specs.Prelude.{List}
use Rattle.sparse_poly.specs.Poly.{Polynomial}
use Rattle.cert_grammar.specs.Words.{Ring}
use Rattle.cert_grammar.specs.Entries.{Entry}
use Rattle.cert_grammar.specs.declared.block.Verdict.{Verdict}

pub record Block : Type 0 where
  pub ring : Ring
  pub gens : List Polynomial
  pub entries : List Entry
  pub verdict : Verdict
