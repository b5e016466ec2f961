use Rattle.std.proofs.Common.{Some, None, refl, sym, ◌∙◌, ap, codes}
use Rattle.std.specs.Prelude.{option_and_then, eqb, if◌then◌else◌}
use Rattle.std.specs.List.{list_any}
use Rattle.prime_field.specs.Prime.{table}
use Rattle.cert_grammar.specs.Lines.{words_of}
use Rattle.cert_grammar.specs.Words.{is_prime}
use Rattle.cert_text.proofs.StairReads.{field_told, field_some, numbered_filter}
use Rattle.cert_text.proofs.heads.field_in.Goals as goal

pub returns-clause-some : goal.returns-clause-some
returns-clause-some c = field_some c.of.result c.in_ok-p.p c.of.ensures.some c.of.ensures.value

pub returns-clause-value : goal.returns-clause-value
returns-clause-value c =
    field_told c.of.result c.in_ok-p.p c.of.ensures.some c.of.ensures.value
    ∙ sym (numbered_filter (codes "p") is_prime 2147483647 (λ p. list_any (λ q. eqb q p) table) (λ n. refl) (words_of c.args.line.now)
    ∙ ap (option_and_then (λ n. if list_any (λ q. eqb q n) table then Some n else None)) (sym c.numbered_in.ensures ∙ c.in_ok-p.was))
