use Rattle.std.proofs.Common.{◌≡◌, length, map, get_or, slice_get, List, [], ℕ, Some, false, true, refl, sym, ◌∙◌, ap, subst, arith, below_more}
use Rattle.std.proofs.lemmas.List.{length-map, get_or_default, same_lists}
use Rattle.std.proofs.lemmas.Option.{slice_get_within, get_or_from_slice_get}
use Rattle.local_order.specs.Shape.{Shape}
use Rattle.mono_rank.specs.Rank.{mono_of_rank}
use Rattle.mora_law.proofs.Ring.{problem_is_admissible}
use Rattle.cert_check.proofs.LeadRanks.{stair_small, list_is}
use Rattle.cert_check.proofs.Members.{mono_at_place}
use Rattle.cert_check.proofs.verdict.are_monos.Goals as goal

pub returns-then-count-len : goal.returns-then-count-len
returns-then-count-len c = (
  (λ y. absurd (let z : false ≡ true = y in cc z)),
  (λ f. absurd
      (let q = (list_is c.args.problem.now (problem_is_admissible _ c.requires.problem) c.args.entries.now c.requires.stored c.args.table.now c.args.stair.now.shape c.requires.table c.requires.shape c.args.stair.now.ranks c.requires.stair c.args.list.now).1 f in
      omega (arith, c.if-count-len.true, c.len-count.ensures, c.len.ensures, ap length c.list-ranks.ensures, ap length q, length-map c.args.stair.now.ranks (mono_of_rank c.args.table.now)))),
)

pub mono-requires : goal.mono-requires
mono-requires c =
    let e = subst (λ rs. slice_get rs c.loop-k.k ≡ Some c.get-rank.result) c.list-ranks.ensures c.get-rank.ensures in
    stair_small c.args.problem.now (problem_is_admissible _ c.requires.problem) c.args.entries.now c.requires.stored c.args.table.now c.args.stair.now.shape c.requires.table c.requires.shape c.args.stair.now.ranks c.requires.stair c.get-rank.result
    (c.loop-k.k, slice_get_within c.args.stair.now.ranks c.loop-k.k c.get-rank.result e, get_or_from_slice_get c.args.stair.now.ranks c.loop-k.k c.get-rank.result c.get-rank.result e)

pub is_same-requires : goal.is_same-requires
is_same-requires c = c.mono.ensures.in_ring ∙ ap (λ (x : Shape). x.variables) c.requires.table
    ∙ sym (subst (λ (x : List ℕ). length x ≡ c.args.problem.now.n) (get_or_from_slice_get c.args.list.now c.loop-k.k c.get-m.result.now c.get-m.result.now c.get-m.ensures) (c.requires.ring c.loop-k.k c.get-m.result.now (slice_get_within c.args.list.now c.loop-k.k c.get-m.result.now c.get-m.ensures)))

pub returns-then-not-is_same : goal.returns-then-not-is_same
returns-then-not-is_same c = (
  (λ y. absurd (let z : false ≡ true = y in cc z)),
  (λ f. absurd
      (let q = (list_is c.args.problem.now (problem_is_admissible _ c.requires.problem) c.args.entries.now c.requires.stored c.args.table.now c.args.stair.now.shape c.requires.table c.requires.shape c.args.stair.now.ranks c.requires.stair c.args.list.now).1 f in
      let e = subst (λ rs. slice_get rs c.loop-k.k ≡ Some c.get-rank.result) c.list-ranks.ensures c.get-rank.ensures in
      let w = mono_at_place c.args.problem.now c.requires.problem.some c.args.table.now c.requires.table c.args.stair.now.ranks c.args.list.now c.loop-k.k c.get-rank.result c.mono.result c.get-m.result.now e c.get-m.ensures c.mono.ensures in
      let z : false ≡ true = c.if-not-is_same.ensures.1 (sym w.1 ∙ sym (ap (λ (l : List (List ℕ)). get_or l c.loop-k.k []) q) ∙ w.0) in cc z)),
)

pub loop-k-preserved : goal.loop-k-preserved
loop-k-preserved c =
    let e = subst (λ rs. slice_get rs c.loop-k.k ≡ Some c.get-rank.result) c.list-ranks.ensures c.get-rank.ensures in
    let w = mono_at_place c.args.problem.now c.requires.problem.some c.args.table.now c.requires.table c.args.stair.now.ranks c.args.list.now c.loop-k.k c.get-rank.result c.mono.result c.get-m.result.now e c.get-m.ensures c.mono.ensures in
    below_more (λ i. get_or c.args.list.now i [] ≡ get_or (map (mono_of_rank c.args.table.now) c.args.stair.now.ranks) i []) c.loop-k.k c.loop-k.invariant (w.0 ∙ sym (c.if-not-is_same.ensures.0 refl) ∙ sym w.1)

pub returns : goal.returns
returns c = (
  (λ y. (list_is c.args.problem.now (problem_is_admissible _ c.requires.problem) c.args.entries.now c.requires.stored c.args.table.now c.args.stair.now.shape c.requires.table c.requires.shape c.args.stair.now.ranks c.requires.stair c.args.list.now).0
      (same_lists c.args.list.now (map (mono_of_rank c.args.table.now) c.args.stair.now.ranks) long
      (λ i d l. get_or_default c.args.list.now i d [] l ∙ c.loop-k.invariant i (omega (arith, l, c.loop-k-test.false, c.if-count-len.false, c.len.ensures)) ∙ get_or_default (map (mono_of_rank c.args.table.now) c.args.stair.now.ranks) i [] d (omega (arith, l, long))))),
  (λ f. refl),
)
  where
    long : length c.args.list.now ≡ length (map (mono_of_rank c.args.table.now) c.args.stair.now.ranks)
    long = omega (arith, c.if-count-len.false, c.len-count.ensures, c.len.ensures, ap length c.list-ranks.ensures, length-map c.args.stair.now.ranks (mono_of_rank c.args.table.now))
