use Rattle.std.proofs.Common.{◌≡◌, ℕ, ◌+◌, ◌<◌, List, [], ◌∷◌, ◌++◌, map, take, get_or, length, sym, ap, ◌∙◌, arith}
use Rattle.std.proofs.lemmas.List.{take_more, map-append}
use Rattle.workers.specs.Working.{Working, IsCounted}
use Rattle.workers.specs.Rounds.{IsLegalView}
use Rattle.workers.proofs.Gathering.{all_upto}
use Rattle.workers.proofs.finish.counts_of.Goals as goal

pub loop-i-preserved : goal.loop-i-preserved
loop-i-preserved c =
    let xs : List Working = c.args.workers.now.items in
    let i = c.loop-i.i in
    let x : Working = c.index.result.now in
    let at : get_or xs i x ≡ x = sym c.index.ensures in
    let within : i < length xs = omega (arith, c.loop-i-test.true, c.len-i-end.ensures) in
    let f : Working → ℕ = (λ w. w.reductions) in
    let more : map f (take (i + 1) xs) ≡ map f (take i xs) ++ f x ∷ [] =
    ap (map f) (take_more xs i x within ∙ ap (λ y. take i xs ++ y ∷ []) at) ∙ map-append f (take i xs) (x ∷ []) in (
      c.in_ok-push.ensures.ok ∙ ap (λ (l : List ℕ). l ++ c.reductions.result ∷ []) c.loop-i.invariant.0 ∙ ap (λ n. map f (take i xs) ++ n ∷ []) c.reductions.ensures.value ∙ sym more,
      all_upto (λ w. IsCounted w × IsLegalView w.seat.view) xs i x within at (c.reductions.ensures.counted, c.reductions.ensures.legal) c.loop-i.invariant.1,
    )
