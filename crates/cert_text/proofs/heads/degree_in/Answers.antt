use Rattle.std.proofs.Common.{Some, None, sym, ◌∙◌, ap, codes}
use Rattle.std.specs.Prelude.{option_and_then, if◌then◌else◌}
use Rattle.cert_grammar.specs.Lines.{words_of}
use Rattle.cert_grammar.specs.Words.{is_degree}
use Rattle.cert_text.proofs.StairReads.{numbered_filter, degree_filter}
use Rattle.cert_text.proofs.heads.degree_in.Goals as goal

pub returns-then-is_ring_degree-clause-value : goal.returns-then-is_ring_degree-clause-value
returns-then-is_ring_degree-clause-value c =
    let n = c.args.n in
    sym (numbered_filter (codes "D") (is_degree n) 255 (is_degree n) (degree_filter n) (words_of c.args.line.now)
    ∙ ap (option_and_then (λ d. if is_degree n d then Some d else None)) (sym c.numbered_in.ensures ∙ c.in_ok-d.was)
    ∙ ap (λ b. if b then Some c.in_ok-d.d else None) (sym c.is_ring_degree.ensures ∙ c.if-is_ring_degree.true))
