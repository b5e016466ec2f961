use Rattle.std.proofs.Common.{◌≡◌, ◌-◌, ◌++◌, ◌∷◌, [], List, ℕ, Some, Option, length, string_bytes, codes, sym, ◌∙◌, ap, subst, arith}
use Rattle.std.specs.Prelude.{slice_get}
use Rattle.text_out.specs.Texts.{Adds}
use Rattle.cert_grammar.specs.Words.{IsMonoOf, mono_word}
use Rattle.cert_grammar.specs.Cert.{corner_word}
use Rattle.cert_write.proofs.Steps.{added, holds_at}
use Rattle.cert_write.proofs.Parts.{last_at}
use Rattle.cert_write.proofs.verdict.push_corner.Goals as goal

pub push_mono-requires : goal.push_mono-requires
push_mono-requires c = (holds_at (IsMonoOf c.args.ring.now) c.args.stair.now _ c.get.result.now c.requires c.get.ensures).in_ring

pub returns : goal.returns
returns c =
    let stair = c.args.stair.now in
    let r = c.args.ring.now in
    let word : List ℕ = mono_word r c.get.result.now in
    let at : slice_get stair (length stair - 1) ≡ Some c.get.result.now = ap (λ n. slice_get stair (n - 1)) (sym c.len-count.ensures) ∙ c.get.ensures in
    subst (λ (o : Option (List ℕ)). string_bytes c.push_str-3.new.self ≡ string_bytes c.args.text.now ++ (codes "corner " ++ (corner_word r o ++ 10 ∷ [])))
    (sym (last_at stair c.get.result.now (omega (arith, c.len-count.ensures, c.if-count-eq0.false)) at))
    (added (string_bytes c.args.text.now) (string_bytes c.push_str-2.new.self) (string_bytes c.push_str-3.new.self) (codes "corner ") (word ++ 10 ∷ []) c.in_ok-push_str-2.ensures.bytes
    (added (string_bytes c.push_str-2.new.self) (string_bytes c.push_mono.new.text) (string_bytes c.push_str-3.new.self) word (10 ∷ []) c.in_ok-push_mono.ensures c.in_ok-push_str-3.ensures.bytes))
