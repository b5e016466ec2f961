use Rattle.std.proofs.Common.{◌≡◌, ℕ, List, length, Some, None, sym, ◌∙◌, ap, subst}
use Rattle.std.specs.Prelude.{◌==◌, if◌then◌else◌}
use Rattle.local_order.specs.Mono.{degree, IsWithinLimits}
use Rattle.sparse_poly.specs.Letters.{AreLetters}
use Rattle.text_out.specs.Texts.{mono_text}
use Rattle.cert_text.proofs.RingReads.{mono_some, mono_none, eq_small, eq_true, eq_false}
use Rattle.cert_text.proofs.ring.top_in_word.Goals as goal

pub returns-in_default : goal.returns-in_default
returns-in_default c =
    let r = c.args.ring.now in
    let are = subst AreLetters c.letters-letters.ensures c.len-count.ensures.letters in
    let none = subst (λ (z : List ℕ). (m : List ℕ) → IsWithinLimits m → length m ≡ length z → mono_text z m ≡ c.args.word.now → ⊥) c.letters-letters.ensures c.in_default.ensures.none in
    sym (mono_none (λ k. k == r.d) r c.args.word.now (eq_small r.d c.d-d.ensures.low) are none)

pub returns-then-degree-d : goal.returns-then-degree-d
returns-then-degree-d c =
    let r = c.args.ring.now in
    let are = subst AreLetters c.letters-letters.ensures c.len-count.ensures.letters in
    let long = c.in-Some.ensures.some.0 ∙ ap (λ (z : List ℕ). length z) c.letters-letters.ensures in
    let text = sym (ap (λ (z : List ℕ). mono_text z c.in-Some.m) c.letters-letters.ensures) ∙ c.in-Some.ensures.some.1 in
    sym (mono_some (λ k. k == r.d) r c.args.word.now c.in-Some.m are c.in-Some.ensures.limits long text
    ∙ ap (λ b. if b then Some c.in-Some.m else None) (eq_true (degree c.in-Some.m) r.d (sym c.degree.ensures.value ∙ (c.if-degree-d.true ∙ c.d-d.ensures.value))))

pub returns-else-degree-d : goal.returns-else-degree-d
returns-else-degree-d c =
    let r = c.args.ring.now in
    let are = subst AreLetters c.letters-letters.ensures c.len-count.ensures.letters in
    let long = c.in-Some.ensures.some.0 ∙ ap (λ (z : List ℕ). length z) c.letters-letters.ensures in
    let text = sym (ap (λ (z : List ℕ). mono_text z c.in-Some.m) c.letters-letters.ensures) ∙ c.in-Some.ensures.some.1 in
    sym (mono_some (λ k. k == r.d) r c.args.word.now c.in-Some.m are c.in-Some.ensures.limits long text
    ∙ ap (λ b. if b then Some c.in-Some.m else None) (eq_false (degree c.in-Some.m) r.d (λ e. c.if-degree-d.false (c.degree.ensures.value ∙ (e ∙ sym c.d-d.ensures.value)))))
