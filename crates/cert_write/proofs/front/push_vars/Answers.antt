use Rattle.std.proofs.Common.{◌≡◌, ◌+◌, ◌<◌, ℕ, List, ◌++◌, ◌∷◌, [], Some, length, map, codes, string_bytes, refl, sym, ◌∙◌, ap, arith}
use Rattle.std.specs.Prelude.{slice_get}
use Rattle.std.proofs.lemmas.Option.{slice_get-get_or}
use Rattle.text_out.proofs.MonoTexts.{letter_small}
use Rattle.cert_write.proofs.Steps.{letters_text, one_more, all_made, added, joined}
use Rattle.cert_write.proofs.front.push_vars.Goals as goal

pub push_letter-requires : goal.push_letter-requires
push_letter-requires c =
    letter_small c.args.letters.now c.loop-i.i c.get.result c.len-i-end.ensures.letters
    (omega (arith, c.loop-i-test.true, c.len-i-end.ensures.value)) c.get.ensures

pub loop-i-preserved : goal.loop-i-preserved
loop-i-preserved c =
    let letters = c.args.letters.now in
    let within : c.loop-i.i < length letters = omega (arith, c.loop-i-test.true, c.len-i-end.ensures.value) in
    let at : slice_get letters c.loop-i.i ≡ Some c.get.result = slice_get-get_or letters c.loop-i.i 0 within ∙ ap (λ v. Some v) (sym c.get.ensures) in
    one_more letters_text letters c.loop-i.i c.get.result (string_bytes c.push_str.new.self ++ letters_text 0 letters) (string_bytes c.loop-i.text) (string_bytes c.push_letter.new.text) (32 ∷ c.get.result ∷ [])
    (λ vs. refl) at c.in_ok-push_letter.ensures c.loop-i.invariant

pub returns : goal.returns
returns c =
    let letters = c.args.letters.now in
    let made : string_bytes c.loop-i.text ≡ string_bytes c.push_str.new.self ++ letters_text 0 letters =
    all_made letters_text letters c.loop-i.i (string_bytes c.push_str.new.self ++ letters_text 0 letters) (string_bytes c.loop-i.text) (omega (arith, c.loop-i-test.false, c.len-i-end.ensures.value)) refl c.loop-i.invariant in
    rw (joined (codes "vars") (map (λ v. v ∷ []) letters))
    (added (string_bytes c.args.text.now) (string_bytes c.loop-i.text) (string_bytes c.push_str-2.new.self) (codes "vars" ++ letters_text 0 letters) (10 ∷ [])
    (added (string_bytes c.args.text.now) (string_bytes c.push_str.new.self) (string_bytes c.loop-i.text) (codes "vars") (letters_text 0 letters) c.in_ok-push_str.ensures.bytes made)
    c.in_ok-push_str-2.ensures.bytes)
