use Rattle.std.proofs.Common.{◌≡◌, ◌-◌, ◌<◌, Some, length, sym, subst, arith}
use Rattle.std.specs.List.{slice_get}
use Rattle.run_core.proofs.Machines.{last_at}
use Rattle.run_core.proofs.replay.last_known.Goals as goal

pub returns : goal.returns
returns c =
    let reads = c.args.reads.now.list in
    let some : 0 < length reads = omega (arith, c.if-len-eq0.false, c.len.ensures) in
    let z : c.len-2.result - 1 ≡ length reads - 1 = omega (arith, c.len-2.ensures) in
    sym (last_at reads c.get.result 0 some (subst (λ n. slice_get reads n ≡ Some c.get.result) z c.get.ensures))
