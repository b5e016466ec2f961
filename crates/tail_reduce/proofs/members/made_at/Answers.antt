use Rattle.std.proofs.Common.{◌≡◌, IfOk, slice_index_or, sym, subst}
use Rattle.std.proofs.lemmas.Result.{IfOk-weaker}
use Rattle.tail_reduce.specs.Members.{member_of}
use Rattle.tail_reduce.proofs.members.made_at.Goals as goal

pub returns-clause-each : goal.returns-clause-each
returns-clause-each g c =
    let member = member_of c.args.problem.now c.args.entries.now in
    IfOk-weaker c.map_vec.result _ _
    (λ v given i d less.
    let job = (given i d less).1 in
    subst (λ k. IfOk (slice_index_or v.items i d) (λ f. f ≡ member k)) (sym (job.job_is 0)) job.call.met)
    c.map_vec.ensures.each
