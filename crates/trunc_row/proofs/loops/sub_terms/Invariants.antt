use Rattle.trunc_row.proofs.TermMultiples.{TermsLessTo}
use Rattle.trunc_row.proofs.loops.sub_terms.Given as goal

abbrev pub invariant-loop-k : goal.invariant-loop-k
invariant-loop-k l = TermsLessTo l.field l.table l.c l.shift l.terms.list l.k l.initial.row l.row
