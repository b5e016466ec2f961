use Rattle.std.proofs.Common.{sym, ◌∙◌, ap, arith, drop, ◌+◌}
use Rattle.std.specs.Option.{option_map}
use Rattle.local_order.specs.Mono.{degree}
use Rattle.script_grammar.specs.Words.{is_same}
use Rattle.text_out.specs.Strips.{rest_text}
use Rattle.text_out.proofs.MonoTexts.{not_zero}
use Rattle.text_out.proofs.Strips.{rest_start, rest_more, rest_none}
use Rattle.text_out.proofs.strip.is_mono_text.Goals as goal

pub loop-i-init : goal.loop-i-init
loop-i-init c = rest_start c.args.letters.now c.args.m.now c.args.text.now (not_zero (degree c.args.m.now) (λ e. c.if-degree-eq0.false (c.degree.ensures.value ∙ e)))

pub returns-in_default : goal.returns-in_default
returns-in_default c =
    rest_none c.loop-i.is_first c.args.letters.now c.args.m.now c.loop-i.left.now c.loop-i.i c.get.result c.exp-e.result _ c.requires (omega (arith, c.loop-i-test.true, c.len-i-end.ensures.value))
    c.get.ensures c.exp-e.ensures.value (sym c.strip_variable.ensures ∙ ap (option_map (λ s. s.now)) c.in_default.is) c.loop-i.invariant

pub loop-i-preserved : goal.loop-i-preserved
loop-i-preserved c =
    ap (λ b. is_same (rest_text b (drop (c.loop-i.i + 1) c.args.letters.now) (drop (c.loop-i.i + 1) c.args.m.now)) c.in-Some.rest.now) c.is_still_first-is_first.ensures
    ∙ rest_more c.loop-i.is_first c.args.letters.now c.args.m.now c.loop-i.left.now c.in-Some.rest.now c.loop-i.i c.get.result c.exp-e.result _ c.requires (omega (arith, c.loop-i-test.true, c.len-i-end.ensures.value))
    c.get.ensures c.exp-e.ensures.value (sym c.strip_variable.ensures ∙ ap (option_map (λ s. s.now)) c.in-Some.is) c.loop-i.invariant
