use Rattle.std.proofs.Common.{◌≡◌, ◌+◌, ◌-◌, ◌*◌, ◌%◌, length, get_or, sym, subst, arith}
use Rattle.rank_algebra.specs.Rows.{IsRow}
use Rattle.trunc_row.specs.Rows.{SubtractsRun}
use Rattle.trunc_row.proofs.Residues.{row_small, less_step}
use Rattle.trunc_row.proofs.Runs.{run_begins, run_set, run_skip}
use Rattle.trunc_row.proofs.loops.subtract_run.Goals as goal
use Rattle.trunc_row.proofs.loops.subtract_run.Goals.{then-coef-ne0, else-coef-ne0}

pub loop-k-init : goal.loop-k-init
loop-k-init c = run_begins c.args.field.now c.args.c c.args.from c.args.to c.args.other.now c.args.row.now
    (subst (λ n. IsRow c.args.field.now n c.args.row.now) (sym c.requires.own.full) c.requires.own)

pub add_product-requires-clause-a_residue : goal.add_product-requires-clause-a_residue
add_product-requires-clause-a_residue c = row_small c.args.field.now (length c.args.row.now) c.loop-k.row (c.args.to + c.loop-k.k) c.loop-k.invariant.row (omega (arith, c.requires.own.full, c.requires.to))

pub loop-k-preserved : goal.loop-k-preserved
loop-k-preserved c =
    let p = c.args.field.now in
    let x = c.args.c in
    let from = c.args.from in
    let to = c.args.to in
    let k = c.loop-k.k in
    let g = c.args.other.now in
    let old = c.args.row.now in
    let new = c.loop-k.row in
    let own : IsRow p (length old) old = subst (λ n. IsRow p n old) (sym c.requires.own.full) c.requires.own in
    elim c.if-coef-ne0.branch [
      | then-coef-ne0 w ↦
          let value : w.add_product.result ≡ (get_or new (to + k) 0 + (p - x) * get_or g (from + k) 0) % p =
          less_step p x (get_or new (to + k) 0) (get_or g (from + k) 0) c.neg-factor.result w.add_product.result c.neg-factor.ensures.value w.add_product.ensures.value in
          subst (SubtractsRun p x from to (k + 1) g old) (sym w.row-is)
          (run_set p x from to k w.add_product.result g old new c.loop-k.invariant (omega (arith, c.requires.own.full, c.requires.to, c.loop-k-test.true)) w.add_product.ensures.residue value)
      | else-coef-ne0 w ↦
          subst (SubtractsRun p x from to (k + 1) g old) (sym w.row-is)
          (run_skip p x from to k g old new c.loop-k.invariant own w.if-coef-ne0.false)
    ]

pub returns : goal.returns
returns c =
    subst (λ k. SubtractsRun c.args.field.now c.args.c c.args.from c.args.to k c.args.other.now c.args.row.now c.loop-k.row) (omega (arith, c.loop-k.auto.k-end, c.loop-k-test.false)) c.loop-k.invariant
