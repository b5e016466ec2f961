use Rattle.std.proofs.Common.{ℕ, ap, ◌∙◌, ◌≡◌, subst}
use Rattle.sparse_poly.specs.Ideal.{IsProblem}
use Rattle.entry_code.specs.Entry.{entry_of}
use Rattle.entry_code.specs.Words.{IsSpellable}
use Rattle.reducer_list.specs.View.{Setting, Board, top}
use Rattle.reducer_list.proofs.Spellable.{one_entry}
use Rattle.reducer_list.proofs.board.SharedBoard.put_entry.Goals as goal

pub returns-clause-only : goal.returns-clause-only
returns-clause-only c e is =
    let p : Setting = c.args.self.now.setting in
    let mine : record { problem = c.self.inside.problem; workers = c.self.inside.workers } ≡ p = ap (λ (x : Board). x.setting) c.self.view_is in
    let ok : IsProblem p.problem = subst (λ (q : Setting). IsProblem q.problem) mine c.field.ensures.problem in
    let prime : c.field.result.now ≡ p.problem.p = c.field.ensures.value ∙ ap (λ (q : Setting). q.problem.p) mine in
    let places : c.self.inside.top ≡ top p = c.self.invariant.4 ∙ ap top mine in
    one_entry p c.args.words.now e (entry_of c.read_words.new.into) ok is
    (c.read_words.ensures.words c.if-not-read_words.false, subst (λ (x : ℕ × ℕ). IsSpellable x.0 x.1 (entry_of c.read_words.new.into)) (λ i. (prime i, places i)) (c.read_words.ensures.spelled c.if-not-read_words.false))
