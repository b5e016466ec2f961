use Rattle.std.proofs.Common.{sym, ◌∙◌, ap, arith}
use Rattle.std.proofs.lemmas.Grind.{common_steps}
use Rattle.script_grammar.specs.Words.{is_short}
use Rattle.script_tokens.specs.PlaceView.{place_of}
use Rattle.expression_reader.specs.NamesView.{declarations_of, values_of}
use Rattle.expression_reader.proofs.Operands.{poly_operand, short_operand}
use Rattle.expression_reader.proofs.expressions.word_operand.Goals as goal

pub returns-in-Some : goal.returns-in-Some
returns-in-Some c = record {
  gives = rw (c.behind-in-Some.ensures.next, c.in_ok-copy.ensures)
      (poly_operand (declarations_of c.args.names.now) (values_of c.args.names.now) c.args.word.now (place_of c.args.here) c.in-Some.f.now.value.terms
      (sym c.is_keyword.ensures ∙ c.if-is_keyword.false) (sym c.is_numeral.ensures.which ∙ c.if-is_numeral.false) c.in-Some.ensures.named c.in-Some.ensures.value);
  shorter = omega (arith, c.behind-in-Some.ensures.shorter);
  valid = grind (arith, common_steps);
}

pub returns : goal.returns
returns c = record {
  gives = rw c.behind-2.ensures.next
      (short_operand (declarations_of c.args.names.now) (values_of c.args.names.now) c.args.word.now (place_of c.args.here) c.in_ok-short_value.field-0.terms
      (sym c.is_keyword.ensures ∙ c.if-is_keyword.false) (sym c.is_numeral.ensures.which ∙ c.if-is_numeral.false) c.in_default.ensures.unnamed
      (ap (λ l. is_short l c.args.word.now) (sym c.bytes.ensures) ∙ sym c.is_short.ensures ∙ c.if-not-is_short.false) (sym c.has_large.ensures ∙ c.if-has_large.false)
      c.in_default.ensures.absent c.in_ok-short_value.ensures.value);
  shorter = omega (arith, c.behind-2.ensures.shorter);
  valid = c.in_ok-short_value.ensures.valid;
}
