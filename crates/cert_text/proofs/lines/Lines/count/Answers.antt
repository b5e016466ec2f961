use Rattle.std.proofs.Common.{◌≡◌, ◌≤◌, ◌<◌, ◌+◌, length, ap, arith}
use Rattle.cert_grammar.specs.Lines.{lines_of}
use Rattle.cert_text.proofs.WordReads.{count_few, count_some, count_none}
use Rattle.cert_text.proofs.lines.Lines.count.Goals as goal

pub loop-rest-init : goal.loop-rest-init
loop-rest-init c =
    let bytes = c.self.inside.left.now in
    let v : length (lines_of bytes) ≡ length c.args.self.now = ap (λ z. length z) c.self.view_is in
    let b = c.self.told.1 in
    let few : length (lines_of bytes) ≤ length bytes = count_few bytes in
    record { so_far = omega (arith, v); within = few; all = omega (arith, v, few, b) }

pub loop-rest-preserved : goal.loop-rest-preserved
loop-rest-preserved c =
    let q : length (lines_of c.loop-rest.rest.now) ≡ 1 + length (lines_of c.in-Some.bytes.now) = count_some (λ s. s.now) c.loop-rest.rest.now c.cut.result.1 c.in-Some.bytes c.cut.ensures.behind c.in-Some.is in
    record { so_far = omega (arith, q, c.loop-rest.invariant.so_far); within = count_few c.in-Some.bytes.now; all = c.loop-rest.invariant.all }

pub returns-in-None-clause-value : goal.returns-in-None-clause-value
returns-in-None-clause-value c =
    let some : 0 < length c.loop-rest.rest.now = grind (arith, c.is_empty.ensures, c.loop-rest-test.ensures) in
    let q : length (lines_of c.loop-rest.rest.now) ≡ 1 = count_none (λ s. s.now) c.loop-rest.rest.now c.cut.result.1 some c.cut.ensures.behind c.in-None.is in
    omega (arith, q, c.loop-rest.invariant.so_far)
