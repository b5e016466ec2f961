use Rattle.std.proofs.Common.{◌<◌, ◌++◌, ◌∷◌, [], length, get_or, refl, ◌∙◌, ap, arith}
use Rattle.trunc_row.proofs.RowPolynomials.{term_more, term_none, terms_all}
use Rattle.trunc_row.proofs.polynomial.terms_of.Goals as goal
use Rattle.trunc_row.proofs.polynomial.terms_of.Goals.{then-coef-ne0+in_ok-push, else-coef-ne0}

pub loop-rank-preserved : goal.loop-rank-preserved
loop-rank-preserved c =
    let T = c.args.table.now in
    let r = c.args.row.now in
    let k = c.loop-rank.rank in
    let within : k < length r = omega (arith, c.requires, c.loop-rank-test.true, c.count-rank-end.ensures.value) in
    elim c.if-coef-ne0.branch [
      | then-coef-ne0+in_ok-push w ↦
          ap (λ v. v.items) w.terms-is ∙ w.in_ok-push.ensures.items
          ∙ ap (λ f. f ++ record { mono = w.mono.result; coef = get_or r k 0 } ∷ []) c.loop-rank.invariant
          ∙ term_more T r k (get_or r k 0) w.mono.result within refl w.if-coef-ne0.true w.mono.ensures
      | else-coef-ne0 w ↦
          ap (λ v. v.items) w.terms-is ∙ c.loop-rank.invariant ∙ term_none T r k within w.if-coef-ne0.false
    ]

pub returns : goal.returns
returns c = c.loop-rank.invariant ∙ terms_all c.args.table.now c.args.row.now c.loop-rank.rank (omega (arith, c.requires, c.loop-rank-test.false, c.count-rank-end.ensures.value))
