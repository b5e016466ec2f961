use Rattle.std.proofs.Common.{◌≡◌, ℕ, ◌<◌, List, ◌∷◌, map, length, false, sym, ap, ◌∙◌, subst, arith, rules}
use Rattle.std.specs.Prelude.{◌&&◌}
use Rattle.reducer_list.specs.View.{View, Setting, Begins, is_busy}
use Rattle.reducer_list.specs.Steps.{both}
use Rattle.reducer_list.specs.Calls.{IsAt}
use Rattle.workers.specs.Working.{Working, numbers_of}
use Rattle.workers.specs.Manned.{HasEvery, KnowsOf}
use Rattle.workers.specs.Rounds.{CanEnd, IsLegalView, claims_of, published_of}
use Rattle.workers.proofs.Gathering.{all_front, all_last, all_more, every_joined, every_alone, sum_last, sum_none, begins_self, begins_both, legal_both, all_none}
use Rattle.workers.proofs.finish.gather.Goals as goal

pub join-requires-clause-other_board : goal.join-requires-clause-other_board
join-requires-clause-other_board c =
    let next = all_last (CanEnd c.args.board.now) c.loop-next.others.items c.pop.new.self.items c.in-Some.next c.in-Some.ensures.items c.loop-next.invariant.4 in
    subst (λ (x : Working). IsAt c.args.board.now x.seat) (sym c.next.view_is) next.turn.board

pub join-requires-clause-other_shut : goal.join-requires-clause-other_shut
join-requires-clause-other_shut c =
    let next = all_last (CanEnd c.args.board.now) c.loop-next.others.items c.pop.new.self.items c.in-Some.next c.in-Some.ensures.items c.loop-next.invariant.4 in
    subst (λ (x : Working). is_busy x.seat.view ≡ false) (sym c.next.view_is) next.turn.shut

pub loop-next-preserved : goal.loop-next-preserved
loop-next-preserved c =
    let b = c.args.board.now in
    let i = c.loop-next.invariant in
    let all = c.loop-next.others.items in
    let rest = c.pop.new.self.items in
    let w : Working = c.in-Some.next in
    let is = c.in-Some.ensures.items in
    let next = all_last (CanEnd b) all rest w is i.4 in
    let seat : c.next.inside.runner.seat.view ≡ w.seat.view = ap (λ (x : Working). x.seat.view) c.next.view_is in
    let v : View = c.loop-next.seat.view in
    let j : c.join.new.seat.view ≡ both v w.seat.view = c.join.ensures.both ∙ ap (both v) seat in
    let same : w.seat.view.setting ≡ v.setting = next.turn.board.1 ∙ sym i.0.1 in
    let mine = c.join.ensures.begins.0 in
    let theirs : Begins w.seat.view.list c.join.new.seat.view.list = subst (λ (u : View). Begins u.list c.join.new.seat.view.list) seat c.join.ensures.begins.1 in (
      c.join.ensures.board,
      ap is_busy j,
      ap (λ (u : View). u.seat.idle) j ∙ (λ t. i.2 t && next.idle t),
      subst IsLegalView (sym j) (legal_both v w.seat.view same i.3 next.legal),
      all_front (CanEnd b) all rest w is i.4,
      subst (λ (l : List ℕ). HasEvery b.setting.workers (l ∷ map numbers_of rest)) (sym (ap (λ (u : View). u.seat.numbers) j)) (every_joined b.setting.workers v.seat.numbers all rest w is i.5),
      (λ _. c.join.ensures.last),
      (let s = sum_last claims_of all rest w is in let a = ap (λ (u : View). u.seat.claims) j in omega (arith, s, a, i.7)),
      (let s = sum_last published_of all rest w is in let a = ap (λ (u : View). u.seat.published) j in omega (arith, s, a, i.8)),
      (λ es begins known. i.9 es (begins_both v.list c.join.new.seat.view.list es mine begins)
          (all_more (KnowsOf es) all rest w is known (begins_both w.seat.view.list c.join.new.seat.view.list es theirs begins))),
    )

pub returns-clause-gathered : goal.returns-clause-gathered
returns-clause-gathered c =
    let i = c.loop-next.invariant in
    let v : View = c.loop-next.seat.view in
    let ws = c.loop-next.others.items in
    let none : length ws ≡ 0 = search rules in
    let set = i.0.1 in
    let every = every_alone c.args.board.now.setting.workers v.seat.numbers ws none i.5 in
    let last = i.6 none (λ x less. every x (subst (λ (q : Setting). x < q.workers) set less)) i.2 in
    let a = sum_none claims_of ws none in
    let p = sum_none published_of ws none in
    let known = i.9 v.list (begins_self v.list) (all_none (KnowsOf v.list) ws none) in
    record {
      legal = i.3;
      claims = omega (arith, i.7, a);
      published = omega (arith, i.8, p);
      mine = known.0;
      theirs = known.1;
      all = last.0;
      steps = last.1;
      settled = last.2;
    }
