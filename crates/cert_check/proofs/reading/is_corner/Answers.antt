use Rattle.std.proofs.Common.{◌≡◌, get_or, false, true, refl, arith}
use Rattle.std.proofs.lemmas.Bool.{leb-true, le-leb}
use Rattle.cert_check.proofs.Before.{before_ranks, corner_is, corner_asks}
use Rattle.cert_check.proofs.reading.is_corner.Goals as goal

pub returns-then-before-corner : goal.returns-then-before-corner
returns-then-before-corner c = λ entries h.
    let b = before_ranks c.args.problem.now _ c.requires.table c.args.reads.now.list c.args.j c.count.result c.corner_before-before.result c.count.ensures.value c.corner_before-before.ensures in (
      (λ y. absurd (let z : false ≡ true = y in cc z)),
      (λ k. let z = corner_asks c.args.problem.now entries c.args.i c.args.corners.now h c.args.reads.now.list c.args.j c.corner_before-before.result c.get-reading.result c.get-reading.ensures b c.requires.known
          (get_or c.args.corners.now c.args.i 0) (get_or c.args.corners.now c.get-reading.result.known 0) refl refl k in absurd (omega (arith, z.0, c.if-before-corner.true))),
    )

pub returns-then-high-corner : goal.returns-then-high-corner
returns-then-high-corner c = λ entries h.
    let b = before_ranks c.args.problem.now _ c.requires.table c.args.reads.now.list c.args.j c.count.result c.corner_before-before.result c.count.ensures.value c.corner_before-before.ensures in (
      (λ y. absurd (let z : false ≡ true = y in cc z)),
      (λ k. let z = corner_asks c.args.problem.now entries c.args.i c.args.corners.now h c.args.reads.now.list c.args.j c.corner_before-before.result c.get-reading.result c.get-reading.ensures b c.requires.known
          (get_or c.args.corners.now c.args.i 0) (get_or c.args.corners.now c.get-reading.result.known 0) refl refl k in absurd (omega (arith, z.1.0, c.if-high-corner.true))),
    )

pub returns : goal.returns
returns c = λ entries h.
    let b = before_ranks c.args.problem.now _ c.requires.table c.args.reads.now.list c.args.j c.count.result c.corner_before-before.result c.count.ensures.value c.corner_before-before.ensures in (
      (λ y. corner_is c.args.problem.now entries c.args.i c.args.corners.now h c.args.reads.now.list c.args.j c.corner_before-before.result c.get-reading.result c.get-reading.ensures b c.requires.known
          (get_or c.args.corners.now c.args.i 0) (get_or c.args.corners.now c.get-reading.result.known 0) refl refl c.if-before-corner.false c.if-high-corner.false (leb-true _ _ y)),
      (λ k. let z = corner_asks c.args.problem.now entries c.args.i c.args.corners.now h c.args.reads.now.list c.args.j c.corner_before-before.result c.get-reading.result c.get-reading.ensures b c.requires.known
          (get_or c.args.corners.now c.args.i 0) (get_or c.args.corners.now c.get-reading.result.known 0) refl refl k in le-leb _ _ z.1.1),
    )
