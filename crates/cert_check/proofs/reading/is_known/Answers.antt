use Rattle.std.proofs.Common.{◌≡◌, suc, length, false, true, refl, arith}
use Rattle.std.proofs.lemmas.Bool.{eqb-true, eq-eqb}
use Rattle.cert_check.proofs.Before.{known_is, known_of}
use Rattle.cert_check.proofs.reading.is_known.Goals as goal

pub returns-then-known-before : goal.returns-then-known-before
returns-then-known-before c = (
  (λ y. absurd (let z : false ≡ true = y in cc z)),
  (λ k. let z = known_of c.args.i c.args.reads.now.list c.args.j c.known_before-before.result c.get-known.result c.get-known.ensures c.known_before-before.ensures k in absurd (omega (arith, z.0, c.if-known-before.true))),
)

pub returns-then-i-known : goal.returns-then-i-known
returns-then-i-known c = (
  (λ y. absurd (let z : false ≡ true = y in cc z)),
  (λ k. let z = known_of c.args.i c.args.reads.now.list c.args.j c.known_before-before.result c.get-known.result c.get-known.ensures c.known_before-before.ensures k in absurd (omega (arith, z.1.0, c.if-i-known.true))),
)

pub returns-then-j-last : goal.returns-then-j-last
returns-then-j-last c = (
  (λ y. known_is c.args.i c.args.reads.now.list c.args.j c.known_before-before.result c.get-known.result c.get-known.ensures c.known_before-before.ensures c.if-known-before.false c.if-i-known.false
      (λ e. absurd (omega (arith, e, c.if-j-last.true, c.len-last.ensures)))),
  (λ k. refl),
)

pub returns : goal.returns
returns c = (
  (λ y. known_is c.args.i c.args.reads.now.list c.args.j c.known_before-before.result c.get-known.result c.get-known.ensures c.known_before-before.ensures c.if-known-before.false c.if-i-known.false
      (λ e. eqb-true c.get-known.result.known c.args.i y)),
  (λ k. let z = known_of c.args.i c.args.reads.now.list c.args.j c.known_before-before.result c.get-known.result c.get-known.ensures c.known_before-before.ensures k in
      eq-eqb c.get-known.result.known c.args.i (z.1.1 (let q : suc c.args.j ≡ length c.args.reads.now.list = omega (arith, c.if-j-last.false, c.len-last.ensures, c.requires) in q))),
)
