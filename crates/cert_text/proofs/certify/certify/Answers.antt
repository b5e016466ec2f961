use Rattle.std.proofs.Common.{ℕ, List, length, sym, ◌∙◌, ap}
use Rattle.local_order.specs.Shape.{Shape}
use Rattle.sparse_poly.specs.Ideal.{Problem}
use Rattle.cert_grammar.specs.Words.{Ring}
use Rattle.cert_text.proofs.Certifying.{entries_ranked, problem_told}
use Rattle.cert_text.proofs.certify.certify.Goals as goal

pub run_entries-requires : goal.run_entries-requires
run_entries-requires c =
    let letters = c.letters.ensures ∙ ap (λ (z : Ring). z.letters) c.into_parts-ring.ensures.ring in
    entries_ranked c.args.block c.in_ok-table.table c.deref.result.now c.requires
    (sym (ap (λ (z : Shape). z.variables) c.in_ok-table.ensures ∙ (ap (λ (z : Problem). z.n) c.new-problem.ensures ∙ (c.len-n.ensures.value ∙ ap (λ (z : List ℕ). length z) letters))))
    (sym (ap (λ (z : Shape). z.degree) c.in_ok-table.ensures ∙ (ap (λ (z : Problem). z.d) c.new-problem.ensures ∙ (c.d-d.ensures.value ∙ ap (λ (z : Ring). z.d) c.into_parts-ring.ensures.ring))))
    (c.deref.ensures.value ∙ c.into_parts-ring.ensures.entries)

pub new-problem-requires-clause-problem : goal.new-problem-requires-clause-problem
new-problem-requires-clause-problem c =
    let letters = c.letters.ensures ∙ ap (λ (z : Ring). z.letters) c.into_parts-ring.ensures.ring in
    problem_told c.args.block c.field.result.now c.len-n.result c.d-d.result c.from_vec.result c.requires
    (c.field.ensures.value ∙ ap (λ (z : Ring). z.p) c.into_parts-ring.ensures.ring)
    (c.len-n.ensures.value ∙ ap (λ (z : List ℕ). length z) letters)
    (c.d-d.ensures.value ∙ ap (λ (z : Ring). z.d) c.into_parts-ring.ensures.ring)
    (c.from_vec.ensures ∙ c.into_parts-ring.ensures.gens)
