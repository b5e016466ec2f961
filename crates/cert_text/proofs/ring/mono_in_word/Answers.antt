use Rattle.std.proofs.Common.{◌≡◌, ℕ, List, length, Some, None, sym, ◌∙◌, ap, subst, arith}
use Rattle.std.proofs.lemmas.Bool.{le-leb, lt-leb}
use Rattle.std.specs.Prelude.{nat_le, if◌then◌else◌}
use Rattle.local_order.specs.Mono.{degree, IsWithinLimits}
use Rattle.sparse_poly.specs.Letters.{AreLetters}
use Rattle.text_out.specs.Texts.{mono_text}
use Rattle.cert_text.proofs.RingReads.{mono_some, mono_none, le_small}
use Rattle.cert_text.proofs.ring.mono_in_word.Goals as goal

pub returns-in_default : goal.returns-in_default
returns-in_default c =
    let r = c.args.ring.now in
    let are = subst AreLetters c.letters-letters.ensures c.len-count.ensures.letters in
    let none = subst (λ (z : List ℕ). (m : List ℕ) → IsWithinLimits m → length m ≡ length z → mono_text z m ≡ c.args.word.now → ⊥) c.letters-letters.ensures c.in_default.ensures.none in
    sym (mono_none (λ k. nat_le k r.d) r c.args.word.now (le_small r.d c.d-d.ensures.low) are none)

pub returns-then-degree-d : goal.returns-then-degree-d
returns-then-degree-d c =
    let r = c.args.ring.now in
    let are = subst AreLetters c.letters-letters.ensures c.len-count.ensures.letters in
    let long = c.in-Some.ensures.some.0 ∙ ap (λ (z : List ℕ). length z) c.letters-letters.ensures in
    let text = sym (ap (λ (z : List ℕ). mono_text z c.in-Some.m) c.letters-letters.ensures) ∙ c.in-Some.ensures.some.1 in
    sym (mono_some (λ k. nat_le k r.d) r c.args.word.now c.in-Some.m are c.in-Some.ensures.limits long text
    ∙ ap (λ b. if b then Some c.in-Some.m else None) (le-leb (degree c.in-Some.m) r.d (omega (arith, c.if-degree-d.true, c.degree.ensures.value, c.d-d.ensures.value))))

pub returns-else-degree-d : goal.returns-else-degree-d
returns-else-degree-d c =
    let r = c.args.ring.now in
    let are = subst AreLetters c.letters-letters.ensures c.len-count.ensures.letters in
    let long = c.in-Some.ensures.some.0 ∙ ap (λ (z : List ℕ). length z) c.letters-letters.ensures in
    let text = sym (ap (λ (z : List ℕ). mono_text z c.in-Some.m) c.letters-letters.ensures) ∙ c.in-Some.ensures.some.1 in
    sym (mono_some (λ k. nat_le k r.d) r c.args.word.now c.in-Some.m are c.in-Some.ensures.limits long text
    ∙ ap (λ b. if b then Some c.in-Some.m else None) (lt-leb (degree c.in-Some.m) r.d (omega (arith, c.if-degree-d.false, c.degree.ensures.value, c.d-d.ensures.value))))
