use Rattle.std.proofs.Common.{◌≡◌, List, ℕ, ◌++◌, ◌∷◌, [], length, map, codes, decimal, string_bytes, refl, arith}
use Rattle.cert_grammar.specs.Words.{IsMonoOf, mono_word}
use Rattle.cert_write.proofs.Steps.{one_more, all_made, holds_at, added, joined}
use Rattle.cert_write.proofs.Parts.{stair_text}
use Rattle.cert_write.proofs.verdict.push_stair.Goals as goal

pub push_mono-requires : goal.push_mono-requires
push_mono-requires c = (holds_at (IsMonoOf c.args.ring.now) c.args.stair.now c.loop-k.k c.get.result.now c.requires c.get.ensures).in_ring

pub loop-k-preserved : goal.loop-k-preserved
loop-k-preserved c =
    let ms = c.args.stair.now in
    let word : List ℕ = mono_word c.args.ring.now c.get.result.now in
    one_more (stair_text c.args.ring.now) ms c.loop-k.k c.get.result.now (string_bytes c.push_number.new.text ++ stair_text c.args.ring.now 0 ms) (string_bytes c.loop-k.text) (string_bytes c.push_mono.new.text) (32 ∷ word)
    (λ xs. refl) c.get.ensures
    (added (string_bytes c.loop-k.text) (string_bytes c.push_str-in-loop-k.new.self) (string_bytes c.push_mono.new.text) (32 ∷ []) word c.in_ok-push_str-2.ensures.bytes c.in_ok-push_mono.ensures)
    c.loop-k.invariant

pub returns : goal.returns
returns c =
    let ms = c.args.stair.now in
    let r = c.args.ring.now in
    let made : string_bytes c.loop-k.text ≡ string_bytes c.push_number.new.text ++ stair_text r 0 ms =
    all_made (stair_text r) ms c.loop-k.k (string_bytes c.push_number.new.text ++ stair_text r 0 ms) (string_bytes c.loop-k.text) (omega (arith, c.loop-k-test.false, c.len-k-end.ensures)) refl c.loop-k.invariant in
    let front = added (string_bytes c.args.text.now) (string_bytes c.push_str.new.self) (string_bytes c.push_number.new.text) (codes "stair ") (decimal (length ms)) c.in_ok-push_str.ensures.bytes (rw c.len.ensures at c.in_ok-push_number.ensures) in
    rw (joined (decimal (length ms)) (map (mono_word r) ms))
    (added (string_bytes c.args.text.now) (string_bytes c.loop-k.text) (string_bytes c.push_str-2.new.self) ((codes "stair " ++ decimal (length ms)) ++ stair_text r 0 ms) (10 ∷ [])
    (added (string_bytes c.args.text.now) (string_bytes c.push_number.new.text) (string_bytes c.loop-k.text) (codes "stair " ++ decimal (length ms)) (stair_text r 0 ms) front made)
    c.in_ok-push_str-3.ensures.bytes)
