use Rattle.std.proofs.Common.{◌≡◌, ◌≤◌, ◌<◌, ℕ, List, [], ◌∷◌, ◌++◌, length, take, subst, sym, ap, ◌∙◌, arith}
use Rattle.local_order.specs.Limits.{max_monomials}
use Rattle.entry_code.specs.Entry.{Entry, entry_of}
use Rattle.entry_code.specs.Words.{words_of}
use Rattle.reducer_list.specs.View.{View}
use Rattle.reducer_list.specs.Steps.{stored}
use Rattle.reducer_list.proofs.Bodies.{take_more, take_again}
use Rattle.reducer_list.proofs.board.SharedBoard.publish.Goals as goal

pub word_count-count-requires-clause-reads : goal.word_count-count-requires-clause-reads
word_count-count-requires-clause-reads c = subst (λ (e : Entry). length e.reads ≤ max_monomials) (sym c.requires.draft) (omega (arith, c.see_room.ensures.room.0, c.see_room.ensures.small))

pub word_count-count-requires-clause-terms : goal.word_count-count-requires-clause-terms
word_count-count-requires-clause-terms c = subst (λ (e : Entry). length e.terms ≤ max_monomials) (sym c.requires.draft) (omega (arith, c.see_room.ensures.room.1, c.see_room.ensures.small))

pub word_at-word-requires-clause-reads : goal.word_at-word-requires-clause-reads
word_at-word-requires-clause-reads c = subst (λ (e : Entry). length e.reads ≤ max_monomials) (sym c.requires.draft) (omega (arith, c.see_room.ensures.room.0, c.see_room.ensures.small))

pub word_at-word-requires-clause-terms : goal.word_at-word-requires-clause-terms
word_at-word-requires-clause-terms c = subst (λ (e : Entry). length e.terms ≤ max_monomials) (sym c.requires.draft) (omega (arith, c.see_room.ensures.room.1, c.see_room.ensures.small))

pub loop-k-preserved : goal.loop-k-preserved
loop-k-preserved c =
    let k : ℕ = c.loop-k.k in
    let ws : List ℕ = words_of (entry_of c.args.draft.now) in
    let v : View = c.args.seat.now.view in
    let x : ℕ = c.word_at-word.result in
    let inv = c.loop-k.invariant in
    let e : c.put_word.new.seat.view ≡ record v { draft = take k c.loop-k.seat.view.draft ++ x ∷ [] } = c.put_word.ensures.stored ∙ ap (stored k x) inv.1 in
    let less : k < length ws = subst (λ (n : ℕ). k < n) c.word_count-count.ensures c.loop-k-test.true in (
      c.put_word.ensures.board,
      e ∙ (λ t. record v { draft = sym (ap (λ (u : View). u.draft) e) t }),
      (λ _. ap (λ (u : View). u.draft) e ∙ (λ t. take_again k c.loop-k.seat.view.draft ws inv.2 t ++ c.word_at-word.ensures t ∷ []) ∙ take_more ws k less),
    )
