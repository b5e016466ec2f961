use Rattle.std.proofs.Common.{◌≡◌, ◌+◌, ◌-◌, ℕ, suc, [], ◌∷◌, length, sym, ap, ◌∙◌, subst, arith, inl, inr, ⊎_elim, length-append}
use Rattle.std.proofs.lemmas.Bool.{cases_lt}
use Rattle.std.proofs.lemmas.List.FromFn.{length-range_with_len}
use Rattle.reducer_list.specs.View.{View, Setting, Sitting, is_busy}
use Rattle.reducer_list.specs.Steps.{left_half, right_half}
use Rattle.reducer_list.specs.Calls.{IsAt}
use Rattle.workers.specs.Working.{Working, CanTurn}
use Rattle.workers.specs.Rounds.{seat_with, low_seat}
use Rattle.workers.proofs.Dealing.{left_low, right_low}
use Rattle.workers.proofs.Gathering.{all_more, number_more}
use Rattle.workers.proofs.crew.deal.Goals as goal

pub split-given-requires-clause-shut : goal.split-given-requires-clause-shut
split-given-requires-clause-shut c = ap is_busy c.loop-k.invariant.1

pub split-given-requires-clause-many : goal.split-given-requires-clause-many
split-given-requires-clause-many c =
    let view = c.loop-k.invariant.1 in
    let len : length c.loop-k.seat.view.seat.numbers ≡ c.args.count + 1 - c.loop-k.k = ap (λ (v : View). length v.seat.numbers) view ∙ length-range_with_len 0 (c.args.count + 1 - c.loop-k.k) in
    omega (arith, len, c.loop-k-test.true, c.loop-k.auto.k-end)

pub open-requires-clause-seat : goal.open-requires-clause-seat
open-requires-clause-seat c =
    let p : Setting = c.args.board.now.setting in
    let n : ℕ = c.args.count - c.loop-k.k in
    let many : c.args.count + 1 - c.loop-k.k ≡ suc n = omega (arith, c.loop-k-test.true, c.loop-k.auto.k-end) in
    c.split-given.ensures.right ∙ ap right_half (c.loop-k.invariant.1 ∙ ap (low_seat p) many) ∙ right_low p n

pub loop-k-preserved : goal.loop-k-preserved
loop-k-preserved c =
    let b = c.args.board.now in
    let p : Setting = b.setting in
    let i = c.loop-k.invariant in
    let n : ℕ = c.args.count - c.loop-k.k in
    let many : c.args.count + 1 - c.loop-k.k ≡ suc n = omega (arith, c.loop-k-test.true, c.loop-k.auto.k-end) in
    let fewer : c.args.count + 1 - (c.loop-k.k + 1) ≡ n = omega arith in
    let view : c.loop-k.seat.view ≡ low_seat p (suc n) = i.1 ∙ ap (low_seat p) many in
    let w : Working = c.in_ok-open.field-0 in
    let seat = c.in_ok-open.ensures.seat in
    let given : w.seat.view ≡ seat_with p (n ∷ []) = ap (λ (s : Sitting). s.view) seat ∙ c.split-given.ensures.right ∙ ap right_half view ∙ right_low p n in
    let items = c.in_ok-push.ensures.items in
    let size = length-append c.loop-k.workers.items (w ∷ []) in
    let ready : CanTurn b w = record {
      board = subst (IsAt b) (sym seat) c.split-given.ensures.given_board;
      one = ap (λ (v : View). length v.seat.numbers) given;
      shut = ap is_busy given;
    } in (
      c.split-given.ensures.board,
      c.split-given.ensures.left ∙ ap left_half view ∙ left_low p n ∙ ap (low_seat p) (sym fewer),
      all_more (CanTurn b) c.push.new.self.items c.loop-k.workers.items w items i.2 ready,
      all_more (λ (x : Working). x.reductions ≡ 0) c.push.new.self.items c.loop-k.workers.items w items i.3 c.in_ok-open.ensures.count,
      omega (arith, ap length items, size, i.4),
      (λ x low high. number_more x c.push.new.self.items c.loop-k.workers.items w items
          (⊎_elim (λ l. inl (i.5 x (omega (arith, l, many)) high))
          (λ l. let e : n ≡ x = omega (arith, l, low, fewer) in inr (ap (λ (v : View). v.seat.numbers) given ∙ ap (λ (y : ℕ). y ∷ []) e)) (cases_lt n x))),
    )
