use Rattle.std.proofs.Common.{rules, ◌≤◌, length, All, arith}
use Rattle.local_order.proofs.Stored.{sum_small, new_stored}
use Rattle.local_order.proofs.mono.Mono.new.Goals as goal

pub degree_of-requires : goal.degree_of-requires
degree_of-requires c =
    let small : All (λ e. e ≤ 1000) c.args.exps.now = search rules in
    omega (arith, sum_small c.args.exps.now (omega arith) small)

pub invariant_of-result : goal.invariant_of-result
invariant_of-result c =
    let small : All (λ e. e ≤ 1000) c.args.exps.now = search rules in
    let some : 1 ≤ length c.args.exps.now = search rules in
    let few : length c.args.exps.now ≤ 8 = omega arith in
    rw (c.copy_from_slice.ensures.after, c.degree_of.ensures) (new_stored c.args.exps.now (some, few, small))
