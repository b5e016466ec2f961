use Rattle.std.proofs.Common.{◌≡◌, ◌<◌, ◌≤◌, ◌+◌, ◌*◌, ◌-◌, get_or, length, ◌∙◌, sym, refl, arith}
use Rattle.mono_rank.specs.Rank.{fewer}
use Rattle.mono_rank.proofs.Places.{place, place_low}
use Rattle.mono_rank.proofs.Pascal.{count_in_degree}
use Rattle.mono_rank.proofs.Ranks.{rank_is}
use Rattle.mono_rank.proofs.Counts.{count_read, told_first, told_more, told_low, told_all}
use Rattle.mono_rank.proofs.place.place_of.Goals as goal

pub loop-i-init : goal.loop-i-init
loop-i-init c = told_first c.args.m.now c.from-before.result (omega (arith, c.n-n.ensures.valid)) (c.from-before.ensures ∙ c.exp.ensures.value)

pub overflow_add-rest-in-loop-i : goal.overflow_add-rest-in-loop-i
overflow_add-rest-in-loop-i c =
    let m = c.args.m.now in
    let at = 8 * c.loop-i.before + c.loop-i.i - 1 in
    let long : length m ≤ 8 = c.n-n.ensures.valid.1 in
    let more : c.loop-i.i < length m = omega (arith, c.n-n.ensures.value) in
    let read : get_or c.args.counts.now at 0 ≡ fewer c.loop-i.i c.loop-i.before = count_read c.args.counts.now c.loop-i.before c.loop-i.i at c.requires.counts (omega arith) (omega arith) (omega arith) (omega (arith, c.loop-i.invariant.degree_is)) in
    omega (arith, read, told_low m c.loop-i.i c.loop-i.before c.loop-i.rest c.args.d (omega arith) more c.requires.low c.requires.small c.loop-i.invariant)

pub loop-i-preserved : goal.loop-i-preserved
loop-i-preserved c =
    let m = c.args.m.now in
    let at = 8 * c.loop-i.before + c.loop-i.i - 1 in
    let long : length m ≤ 8 = c.n-n.ensures.valid.1 in
    let more : c.loop-i.i < length m = omega (arith, c.n-n.ensures.value) in
    let read : get_or c.args.counts.now at 0 ≡ fewer c.loop-i.i c.loop-i.before = count_read c.args.counts.now c.loop-i.before c.loop-i.i at c.requires.counts (omega arith) (omega arith) (omega arith) (omega (arith, c.loop-i.invariant.degree_is)) in
    told_more m c.loop-i.i c.loop-i.before c.loop-i.rest c.from-before-in-loop-i.result (get_or c.args.counts.now at 0) more c.loop-i.invariant (c.from-before-in-loop-i.ensures ∙ c.exp-in-loop-i.ensures.value) read

-- the number that is read at the end
last_read : (c : goal.After-shared_slice_known-2-1) → get_or c.args.counts.now (8 * (c.loop-i.before + 1) + c.n-n.result - 1) 0 ≡ c.loop-i.rest + place c.args.m.now
last_read c =
    let long : (1 ≤ length c.args.m.now) × (length c.args.m.now ≤ 8) = (c.n-n.ensures.valid.0, c.n-n.ensures.valid.1) in
    told_all c.args.counts.now c.args.m.now c.args.d c.loop-i.i c.loop-i.before c.loop-i.rest (8 * (c.loop-i.before + 1) + c.n-n.result - 1) c.requires.counts c.requires.rows
    long.0 long.1 c.requires.low (omega (arith, c.n-n.ensures.value)) c.loop-i.invariant (omega (arith, c.n-n.ensures.value))

pub overflow_sub-result-2 : goal.overflow_sub-result-2
overflow_sub-result-2 c = omega (arith, last_read c)

pub overflow_cast-result-2 : goal.overflow_cast-result-2
overflow_cast-result-2 c =
    omega (arith, last_read c, place_low c.args.m.now c.n-n.ensures.valid.0, count_in_degree (length c.args.m.now) _ c.args.d c.requires.low, c.requires.small)

pub returns : goal.returns
returns c =
    let same : get_or c.args.counts.now (8 * (c.loop-i.before + 1) + c.n-n.result - 1) 0 - c.loop-i.rest ≡ place c.args.m.now = omega (arith, last_read c) in
    same ∙ sym (rank_is (record { variables = length c.args.m.now; degree = c.args.d }) c.args.m.now c.n-n.ensures.valid.0 refl c.requires.low)
