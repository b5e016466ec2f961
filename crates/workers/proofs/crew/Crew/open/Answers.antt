use Rattle.std.proofs.Common.{◌≡◌, ℕ, [], ◌∷◌, length, sym, ap, ◌∙◌, subst, arith, inl, inr, ⊎_elim, length-append}
use Rattle.std.proofs.lemmas.Bool.{cases_lt}
use Rattle.reducer_list.specs.View.{View, Setting, Sitting, is_busy}
use Rattle.reducer_list.specs.Calls.{IsAt}
use Rattle.workers.specs.Working.{Working, CanTurn}
use Rattle.workers.specs.Rounds.{low_seat}
use Rattle.workers.proofs.Gathering.{all_more, number_more}
use Rattle.workers.proofs.crew.Crew.open.Goals as goal

pub returns-clause-manned : goal.returns-clause-manned
returns-clause-manned c =
    let b = c.in_ok-board.board in
    let w : Working = c.in_ok-open.field-0 in
    let old = c.in_ok-list.list.items in
    let d = c.in_ok-list.ensures in
    let seat = c.in_ok-open.ensures.seat in
    let view : w.seat.view ≡ low_seat b.setting 1 = ap (λ (s : Sitting). s.view) seat ∙ d.seat in
    let items = c.in_ok-push.ensures.items in
    let size = length-append old (w ∷ []) in
    let workers : b.setting.workers ≡ c.args.workers = ap (λ (p : Setting). p.workers) c.in_ok-board.ensures.setting in
    let ready : CanTurn b w = record {
      board = subst (IsAt b) (sym seat) d.board;
      one = ap (λ (v : View). length v.seat.numbers) view;
      shut = ap is_busy view;
    } in
    record {
      some = omega (arith, ap length items, size);
      count = omega (arith, ap length items, size, d.count, workers);
      ready = all_more (CanTurn b) c.push.new.self.items old w items d.ready ready;
      numbers = λ x less. number_more x c.push.new.self.items old w items
          (⊎_elim (λ l. inl (d.numbers x (omega (arith, l)) (omega (arith, less, workers))))
          (λ l. let e : 0 ≡ x = omega (arith, l) in inr (ap (λ (v : View). v.seat.numbers) view ∙ ap (λ (y : ℕ). y ∷ []) e)) (cases_lt 0 x));
    }
