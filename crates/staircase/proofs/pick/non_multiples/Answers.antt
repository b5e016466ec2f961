use Rattle.std.proofs.Common.{◌≡◌, ◌↔◌, IsTrue, false, true, subst, arith}
use Rattle.mono_rank.specs.Cover.{IsMultipleOfRanks}
use Rattle.staircase.proofs.Picks.{stair_joins, stair_leaves, stair_last}
use Rattle.staircase.proofs.pick.non_multiples.Goals as goal
use Rattle.staircase.proofs.pick.non_multiples.Goals.{then-not-is_multiple+in_ok-push, else-not-is_multiple}

pub loop-r-preserved : goal.loop-r-preserved
loop-r-preserved c =
    let S = c.args.table.now in
    elim c.if-not-is_multiple.branch [
      | then-not-is_multiple+in_ok-push w ↦
          let none : c.is_multiple.result ≡ false = cc in
          stair_joins S c.args.leads.now c.loop-r.ranks.items c.if-not-is_multiple.ranks.items c.loop-r.r c.loop-r.invariant
          (λ m h. subst (λ b. IsTrue b ↔ IsMultipleOfRanks S c.args.leads.now m) none (c.is_multiple.ensures m h)) (cc (w.in_ok-push.ensures.items))
      | else-not-is_multiple w ↦
          let some : c.is_multiple.result ≡ true = cc in
          stair_leaves S c.args.leads.now c.loop-r.ranks.items c.if-not-is_multiple.ranks.items c.loop-r.r c.loop-r.invariant
          (λ m h. subst (λ b. IsTrue b ↔ IsMultipleOfRanks S c.args.leads.now m) some (c.is_multiple.ensures m h)) cc
    ]

pub returns : goal.returns
returns c = stair_last c.args.table.now c.args.leads.now c.loop-r.ranks.items c.loop-r.r c.count-r-end.ensures.limits.some (omega arith) c.loop-r.invariant
