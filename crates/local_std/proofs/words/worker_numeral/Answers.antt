use Rattle.std.proofs.Common.{◌≡◌, ◌∙◌, sym, ap, decimal, arith}
use Rattle.std.proofs.lemmas.Fmt.{decimal_injective}
use Rattle.local_std.proofs.words.worker_numeral.Goals as goal

pub returns-then-number-eq0-clause-none : goal.returns-then-number-eq0-clause-none
returns-then-number-eq0-clause-none c = λ k some low e.
    let zero : c.in-Some.number ≡ 0 = c.if-number-eq0.true in
    let same = decimal_injective c.in-Some.number k (omega (arith, zero)) (omega (arith, low)) (sym c.in-Some.ensures.found.1 ∙ e) in
    omega (arith, same, zero, some)
