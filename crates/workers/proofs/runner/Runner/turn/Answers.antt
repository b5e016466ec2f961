use Rattle.std.proofs.Common.{suc, ◌+◌, ◌-◌, ◌*◌, ◌<◌, ◌≤◌, sym, subst, refl}
use Rattle.reducer_list.specs.View.{View, top}
use Rattle.reducer_list.specs.Calls.{tickets_of}
use Rattle.workers.specs.declared.runner.Runner.{Runner}
use Rattle.workers.proofs.Lasting.{shut_now}
use Rattle.workers.proofs.Turning.{Turns, turns_left, turns_none, learnt_left}
use Rattle.workers.proofs.Ending.{rested_now, small, worked_bounds}
use Rattle.workers.proofs.runner.Runner.turn.Goals as goal

pub claim-requires-clause-shut : goal.claim-requires-clause-shut
claim-requires-clause-shut g c = shut_now c.loop-self.self.seat.view c.loop-self.invariant.shut

pub returns-then-not-learn-clause-turn : goal.returns-then-not-learn-clause-turn
returns-then-not-learn-clause-turn g c =
    let b = c.args.board.now in
    let r : Runner = c.loop-self.self in
    let call = c.in-NoneKnown.ensures.call in
    let now : Turns b c.args.self.now (record r { seat = c.claim.new.seat }) = turns_none b c.args.self.now r c.loop-self.invariant c.claim.new.seat c.in-NoneKnown.ensures.board call.1 in
    rested_now b c.args.self.now (record r { seat = c.claim.new.seat }) now c.learn.new.self
    (subst (λ (u : View). tickets_of u.setting u.seat.known ≤ u.seat.seen) (sym call.1) call.0) c.if-not-learn.ensures.look c.learn.ensures.count

pub loop-self-smaller-else-not-learn : goal.loop-self-smaller-else-not-learn
loop-self-smaller-else-not-learn g c =
    let b = c.args.board.now in
    let r : Runner = c.loop-self.self in
    let call = c.in-NoneKnown.ensures.call in
    let now : Turns b c.args.self.now (record r { seat = c.claim.new.seat }) = turns_none b c.args.self.now r c.loop-self.invariant c.claim.new.seat c.in-NoneKnown.ensures.board call.1 in
    subst (λ (u : View). turns_left b c.learn.new.self < (top b.setting - u.seat.known) * suc (tickets_of b.setting (top b.setting)) + (tickets_of b.setting u.seat.known - u.seat.seen)) call.1
    (learnt_left b c.args.self.now (record r { seat = c.claim.new.seat }) now c.learn.new.self c.learn.ensures.placed c.if-not-learn.ensures.look)

pub carry-requires-clause-small : goal.carry-requires-clause-small
carry-requires-clause-small g c =
    let call = c.in-Claimed.ensures.call in
    small c.args.board.now c.args.self.now c.loop-self.self c.requires.placed c.requires.bounds c.loop-self.invariant (record c.loop-self.self { seat = c.claim.new.seat }) call.2 call.3 refl

pub returns-in-Claimed-clause-bounds : goal.returns-in-Claimed-clause-bounds
returns-in-Claimed-clause-bounds g c =
    let call = c.in-Claimed.ensures.call in
    worked_bounds c.args.board.now c.args.self.now c.loop-self.self c.requires.placed c.requires.bounds c.loop-self.invariant (record c.loop-self.self { seat = c.claim.new.seat }) call.2 call.3 refl
    c.carry.new.self c.carry.ensures.carried
