use Rattle.std.proofs.Common.{length, arith}
use Rattle.local_order.specs.Shape.{count}
use Rattle.trunc_row.proofs.Residues.{row_small}
use Rattle.trunc_row.proofs.TermRows.{term_low}
use Rattle.trunc_row.proofs.TermMultiples.{product_low, terms_less_none, terms_less_set, terms_less_past, terms_less_all}
use Rattle.trunc_row.proofs.loops.sub_terms.Goals as goal

pub loop-k-init : goal.loop-k-init
loop-k-init c = terms_less_none c.args.field.now c.args.table.now c.args.c c.args.shift c.args.terms.now.list c.args.row.now c.requires.own

pub times_rank-requires-clause-second : goal.times_rank-requires-clause-second
times_rank-requires-clause-second c = term_low (count c.args.table.now) c.args.terms.now.list c.loop-k.k c.get-term.result c.requires.ranks.low c.get-term.ensures

pub bounds-row-place : goal.bounds-row-place
bounds-row-place c =
    let T = c.args.table.now in
    let lt = term_low (count T) c.args.terms.now.list c.loop-k.k c.get-term.result c.requires.ranks.low c.get-term.ensures in
    omega (arith, product_low T c.args.shift c.get-term.result.rank c.in-Some.product c.count-count.ensures.limits.some c.requires.shift lt c.in-Some.ensures, c.loop-k.invariant.row.full)

pub bounds-row-place-in-loop-k : goal.bounds-row-place-in-loop-k
bounds-row-place-in-loop-k c =
    let T = c.args.table.now in
    let lt = term_low (count T) c.args.terms.now.list c.loop-k.k c.get-term.result c.requires.ranks.low c.get-term.ensures in
    omega (arith, product_low T c.args.shift c.get-term.result.rank c.in-Some.product c.count-count.ensures.limits.some c.requires.shift lt c.in-Some.ensures, c.loop-k.invariant.row.full)

pub add_product-requires-clause-a_residue : goal.add_product-requires-clause-a_residue
add_product-requires-clause-a_residue c =
    let T = c.args.table.now in
    let lt = term_low (count T) c.args.terms.now.list c.loop-k.k c.get-term.result c.requires.ranks.low c.get-term.ensures in
    row_small c.args.field.now (count T) c.loop-k.row c.in-Some.product c.loop-k.invariant.row
    (product_low T c.args.shift c.get-term.result.rank c.in-Some.product c.count-count.ensures.limits.some c.requires.shift lt c.in-Some.ensures)

pub loop-k-preserved : goal.loop-k-preserved
loop-k-preserved c =
    let T = c.args.table.now in
    let ts = c.args.terms.now.list in
    let t = c.get-term.result in
    terms_less_set c.args.field.now T c.args.c c.args.shift ts c.loop-k.k t c.args.row.now c.loop-k.row c.in-Some.product c.neg-factor.result c.add_product.result
    c.count-count.ensures.limits.some c.requires.shift c.requires.ranks c.get-term.ensures
    (term_low (count T) ts c.loop-k.k t c.requires.ranks.low c.get-term.ensures) c.in-Some.ensures c.requires.own
    c.neg-factor.ensures.value c.add_product.ensures.value c.add_product.ensures.residue c.loop-k.invariant

pub returns-clause-value : goal.returns-clause-value
returns-clause-value c = λ g w.
    terms_less_all c.args.field.now c.args.table.now c.args.c c.args.shift c.args.terms.now.list c.loop-k.k g c.args.row.now c.loop-k.row (omega (arith, c.loop-k-test.false, c.len-k-end.ensures)) c.loop-k.invariant w

pub returns-in_default-clause-value : goal.returns-in_default-clause-value
returns-in_default-clause-value c = λ g w.
    let p = c.args.field.now in
    let T = c.args.table.now in
    let ts = c.args.terms.now.list in
    let t = c.get-term.result in
    terms_less_all p T c.args.c c.args.shift ts (length ts) g c.args.row.now c.loop-k.row (omega arith)
    (terms_less_past p T c.args.c c.args.shift ts c.loop-k.k t c.args.row.now c.loop-k.row c.count-count.ensures.limits.some c.requires.ranks c.get-term.ensures
    (term_low (count T) ts c.loop-k.k t c.requires.ranks.low c.get-term.ensures) c.in_default.ensures c.loop-k.invariant) w
