use Rattle.std.proofs.Common.{◌≡◌, drop}
use Rattle.script_grammar.specs.Words.{is_same}
use Rattle.text_out.specs.Texts.{mono_text}
use Rattle.text_out.specs.Strips.{rest_text}
use Rattle.text_out.proofs.strip.is_mono_text.Given as goal

abbrev pub invariant-loop-i : goal.invariant-loop-i
invariant-loop-i l = is_same (rest_text l.is_first (drop l.i l.letters) (drop l.i l.m)) l.left ≡ is_same (mono_text l.letters l.m) l.fn.text
