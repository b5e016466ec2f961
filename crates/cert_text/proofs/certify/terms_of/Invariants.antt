use Rattle.std.proofs.Common.{◌≡◌, ◌++◌, drop}
use Rattle.cert_grammar.specs.Certified.{terms_by_rank}
use Rattle.cert_text.proofs.certify.terms_of.Given as goal

abbrev pub invariant-loop-term : goal.invariant-loop-term
invariant-loop-term l = l.list.list ++ terms_by_rank l.table (drop l.term-index l.terms) ≡ terms_by_rank l.table l.terms
