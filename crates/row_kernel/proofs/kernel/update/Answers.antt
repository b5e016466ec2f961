use Rattle.std.proofs.Common.{◌≡◌, ◌+◌, ◌-◌, ◌*◌, ◌%◌, get_or, ap, sym, ◌∙◌, arith}
use Rattle.std.proofs.lemmas.Simd.{get_or-chunk}
use lib.Lanes.{chunk}
use Rattle.row_kernel.proofs.Steps.{done_set, done_stored, done_all, less_by_lanes}
use Rattle.row_kernel.proofs.kernel.update.Goals as goal

pub sums-lanes-requires-clause-a_residues : goal.sums-lanes-requires-clause-a_residues
sums-lanes-requires-clause-a_residues c j l =
    let k = c.loop-out.k in
    let out = c.loop-out.out in
    let at : get_or (chunk k 8 out) j 0 ≡ get_or out (k + j) 0 = get_or-chunk k 8 out j 0 l in
    omega (arith, at, c.loop-out.invariant.1.residues (k + j) (omega arith), c.opposite-factor.ensures.prime)

pub loop-out-preserved : goal.loop-out-preserved
loop-out-preserved c =
    let p = c.args.field.now in
    let x = c.args.c in
    let k = c.loop-out.k in
    let out = c.loop-out.out in
    let g = c.args.other.now in
    let e = c.opposite-factor.result.value in
    let prime : c.opposite-factor.result.p ≡ p = c.opposite-factor.ensures.prime in
    let factor : e ≡ (p - x) % p = c.opposite-factor.ensures.value in (
      omega (arith, c.loop-out.invariant.1.full),
      done_stored p x k g c.args.out.now out c.sums-lanes.result (omega (arith, c.requires.residue)) c.loop-out.invariant.1 (record {
        eight = c.sums-lanes.ensures.full;
        room = omega arith;
        next = λ j l.
            let a = get_or out (k + j) 0 in
            let b = get_or g (k + j) 0 in
            c.sums-lanes.ensures.value j l
            ∙ ap (λ n. (get_or (chunk k 8 out) j 0 + get_or c.times-products.result j 0) % n) prime
            ∙ ap (λ n. (n + get_or c.times-products.result j 0) % p) (get_or-chunk k 8 out j 0 l)
            ∙ ap (λ n. (a + n) % p) (c.times-products.ensures.value j l ∙ ap (λ n. (e * get_or (chunk k 8 g) j 0) % n) prime ∙ ap (λ n. (e * n) % p) (get_or-chunk k 8 g j 0 l))
            ∙ less_by_lanes p x a b e factor;
      }),
    )

pub loop-k-preserved : goal.loop-k-preserved
loop-k-preserved c = (
  omega (arith, c.loop-k.invariant.1.full),
  done_set c.args.field.now c.args.c c.loop-k.k c.args.other.now c.args.out.now c.loop-k.out c.opposite-factor.result.value c.add_product.result
      c.loop-k.invariant.1 (omega (arith, c.loop-k.invariant.1.full, c.loop-k-test.true)) c.add_product.ensures.residue (c.opposite-factor.ensures.value) c.add_product.ensures.value,
)

pub returns : goal.returns
returns c =
    done_all c.args.field.now c.args.c c.loop-k.k c.args.other.now c.args.out.now c.loop-k.out (sym c.requires.equal) (omega (arith, c.loop-k.invariant.1.full)) c.loop-k.invariant.1
