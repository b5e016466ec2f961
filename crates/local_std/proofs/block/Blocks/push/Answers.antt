use Rattle.std.proofs.Common.{◌≡◌, ◌+◌, ◌++◌, ◌&&◌, ◌∙◌, List, ℕ, string_bytes, sym, ap, subst}
use Rattle.local_std.specs.Answered.{AreAnswered}
use Rattle.local_std.proofs.Blocks.{answered_more}
use Rattle.local_std.proofs.block.Blocks.push.Goals as goal
use Rattle.local_std.proofs.block.Blocks.push.Goals.{then-self, else-self}

pub returns-clause-answered : goal.returns-clause-answered
returns-clause-answered g c = λ front before.
    let s = c.args.script.now in
    let old = c.args.self.now in
    let block = c.in_ok-block.block in
    let text : string_bytes c.push_str.new.self ≡ string_bytes old.text ++ string_bytes block.text =
    c.in_ok-push_str.ensures.bytes ∙ ap (λ (z : List ℕ). string_bytes old.text ++ z) c.deref-2.ensures in
    let flag : c.if-self.self ≡ (old.fits && block.fits) =
    elim c.if-self.branch [
      | then-self w ↦ w.self-is ∙ sym (ap (λ x. x && block.fits) w.if-self.true)
      | else-self w ↦ w.self-is ∙ w.if-self.false ∙ sym (ap (λ x. x && block.fits) w.if-self.false)
    ] in
    subst (λ b. AreAnswered s front (c.args.k + 1) b (string_bytes c.push_str.new.self)) (sym flag)
    (answered_more s front c.args.k c.get-command.result.now c.get-command.ensures (string_bytes old.text) (string_bytes c.push_str.new.self) (string_bytes block.text) c.in_ok-block.ensures.text text
    old.fits block.fits c.in_ok-block.ensures.fits c.in_ok-block.ensures.small before)
