use Rattle.std.proofs.Common.{◌↔◌, IsTrue, subst, arith}
use Rattle.local_order.specs.Mono.{Divides}
use Rattle.corner_word.proofs.Multiples.{marked_first, marked_set, marked_kept, marked_last}
use Rattle.corner_word.proofs.marks.mark_multiples.Goals as goal
use Rattle.corner_word.proofs.marks.mark_multiples.Goals.{then-divides_rank, else-divides_rank}

pub loop-r-init : goal.loop-r-init
loop-r-init c = marked_first c.args.table.now c.args.marks.now c.args.lead

pub loop-r-preserved : goal.loop-r-preserved
loop-r-preserved c =
    let S = c.args.table.now in
    elim c.if-divides_rank.branch [
      | then-divides_rank w ↦ marked_set S c.args.marks.now c.args.lead c.loop-r.marks c.if-divides_rank.marks c.loop-r.r c.loop-r.invariant (omega arith) (λ x y h g. (c.divides_rank.ensures x y h g).0 w.if-divides_rank.true) w.marks-is
      | else-divides_rank w ↦ marked_kept S c.args.marks.now c.args.lead c.loop-r.marks c.if-divides_rank.marks c.loop-r.r c.loop-r.invariant (λ x y h g. subst (λ b. IsTrue b ↔ Divides x y) w.if-divides_rank.false (c.divides_rank.ensures x y h g)) w.marks-is
    ]

pub returns : goal.returns
returns c = marked_last c.args.table.now c.args.marks.now c.args.lead c.loop-r.marks c.loop-r.r c.loop-r.invariant (omega arith)
