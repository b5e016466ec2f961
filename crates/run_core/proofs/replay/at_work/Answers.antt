use Rattle.std.proofs.Common.{◌≡◌, take, sym, ◌∙◌, ap, ap₂, subst, arith}
use Rattle.mora_law.specs.Items.{item_of, item_for}
use Rattle.run_core.specs.Hand.{Hand, has_open}
use Rattle.run_core.specs.Replay.{IsAtWork}
use Rattle.run_core.proofs.Replays.{ticket_low, marked_is_shut, left_is_open}
use Rattle.run_core.proofs.replay.at_work.Goals as goal

pub returns-then-hand-clause-none : goal.returns-then-hand-clause-none
returns-then-hand-clause-none c = λ e.
    let P = c.args.problem.now in
    let known = take c.args.known c.args.entries.now in
    ap (has_open P known) c.in-Some.is ∙ marked_is_shut P known c.in-Some.hand (sym (ap (λ (h : Hand). h.published) c.hand.view_is) ∙ c.if-hand.true)

pub item_of-item-requires : goal.item_of-item-requires
item_of-item-requires c =
    let low = ticket_low c.args.problem.now c.n-problem.ensures.problem c.args.entries.now c.args.known c.in-Some.hand (c.requires.hand c.in-Some.hand c.in-Some.is) in
    omega (arith, low, ap (λ (h : Hand). h.ticket) c.hand.view_is, c.generator_count.ensures)

pub has_work-requires-clause-within : goal.has_work-requires-clause-within
has_work-requires-clause-within c = (c.requires.hand c.in-Some.hand c.in-Some.is).within

pub has_work-requires-clause-legal : goal.has_work-requires-clause-legal
has_work-requires-clause-legal c = (c.requires.hand c.in-Some.hand c.in-Some.is).legal

pub returns-then-has_work-clause-some : goal.returns-then-has_work-clause-some
returns-then-has_work-clause-some c = λ w e.
    let P = c.args.problem.now in
    let known = take c.args.known c.args.entries.now in
    let h : Hand = c.in-Some.hand in
    let item : c.item_of-item.result ≡ item_for P h.ticket = c.item_of-item.ensures.value ∙ ap₂ item_of c.generator_count.ensures (ap (λ (x : Hand). x.ticket) c.hand.view_is) in
    let left = left_is_open P known h c.in_ok-worker.worker c.item_of-item.result c.has_work.result (sym (ap (λ (x : Hand). x.published) c.hand.view_is) ∙ c.if-hand.false) item c.in_ok-worker.ensures c.has_work.ensures in
    let same : c.in_ok-worker.worker ≡ w = cc in
    subst (IsAtWork P known c.args.hand.now) same (record { opened = ap (has_open P known) c.in-Some.is ∙ left ∙ c.if-has_work.true; hand = h; is = c.in-Some.is; run = c.in_ok-worker.ensures })

pub returns-else-has_work-clause-none : goal.returns-else-has_work-clause-none
returns-else-has_work-clause-none c = λ e.
    let P = c.args.problem.now in
    let known = take c.args.known c.args.entries.now in
    let h : Hand = c.in-Some.hand in
    let item : c.item_of-item.result ≡ item_for P h.ticket = c.item_of-item.ensures.value ∙ ap₂ item_of c.generator_count.ensures (ap (λ (x : Hand). x.ticket) c.hand.view_is) in
    let left = left_is_open P known h c.in_ok-worker.worker c.item_of-item.result c.has_work.result (sym (ap (λ (x : Hand). x.published) c.hand.view_is) ∙ c.if-hand.false) item c.in_ok-worker.ensures c.has_work.ensures in
    ap (has_open P known) c.in-Some.is ∙ left ∙ c.if-has_work.false
