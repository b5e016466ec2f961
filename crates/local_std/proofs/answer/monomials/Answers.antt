use Rattle.std.proofs.Common.{◌≡◌, ◌<◌, ◌+◌, ◌++◌, ◌∷◌, [], ℕ, List, suc, length, map, take, get_or, sym, ◌∙◌, ap, ap₂, arith}
use Rattle.std.proofs.Math.Seq.{take-suc}
use Rattle.std.proofs.lemmas.List.{get_or-map, length-map, take_all}
use Rattle.mono_rank.specs.Rank.{mono_of_rank}
use Rattle.mono_rank.proofs.ByRank.{mono_of_rank-is}
use Rattle.local_std.proofs.answer.monomials.Goals as goal

pub loop-place-init : goal.loop-place-init
loop-place-init c = c.in_ok-monomials.ensures.items

pub loop-place-preserved : goal.loop-place-preserved
loop-place-preserved c =
    let ranks = c.args.ranks.now in
    let k = c.loop-place.place in
    let all : List (List ℕ) = map (mono_of_rank c.args.table.now) ranks in
    let within : k < length ranks = c.loop-place-test.true in
    let at : get_or all k [] ≡ c.mono.result = get_or-map (mono_of_rank c.args.table.now) ranks k 0 [] within ∙ mono_of_rank-is c.args.table.now c.mono.result (get_or ranks k 0) c.mono.ensures in
    let one : k + 1 ≡ suc k = omega arith in
    let pushed : c.push.new.self.items ≡ c.loop-place.monomials.items ++ c.mono.result ∷ [] = c.in_ok-push.ensures.items in
    pushed
    ∙ ap₂ (λ (xs : List (List ℕ)) x. xs ++ x ∷ []) c.loop-place.invariant (sym at)
    ∙ sym (take-suc all k [] (omega (arith, within, length-map ranks (mono_of_rank c.args.table.now))))
    ∙ ap (λ j. take j all) (sym one)

pub returns : goal.returns
returns c =
    let all : List (List ℕ) = map (mono_of_rank c.args.table.now) c.args.ranks.now in
    c.loop-place.invariant ∙ take_all c.loop-place.place all (omega (arith, c.loop-place-test.false, length-map c.args.ranks.now (mono_of_rank c.args.table.now)))
