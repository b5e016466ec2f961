use Rattle.std.proofs.Common.{sym, ap, ◌∙◌, ◌≡◌, take, arith}
use Rattle.reducer_list.specs.View.{Setting, View, Board, top}
use Rattle.reducer_list.proofs.Seated.{placed, has_number, some_words}
use Rattle.reducer_list.proofs.Publishing.{roomy}
use Rattle.reducer_list.proofs.board.SharedBoard.see_room.Goals as goal

pub load-requires : goal.load-requires
load-requires c =
    let b = c.self.inside in
    let key = b.table.shared.key in
    let p : Setting = record { problem = key.0.value; workers = key.1 } in
    let st = c.seat.inside.seat in
    let v : View = st.me.0 in
    let is = c.seat.view_is in
    let i = c.seat.invariant in
    let at = placed (record { table = b.table.shared.table_id; setting = record { problem = b.problem; workers = b.workers } }) c.args.self.now (record { table = st.table_id; view = v }) c.args.seat.now c.self.view_is is c.requires.board in
    let set : v.setting ≡ p = at.1 ∙ (λ t. record { problem = sym c.self.invariant.0 t; workers = sym c.self.invariant.1 t }) in
    let words = some_words (record { problem = b.problem; workers = b.workers }) b.table.shared.table_id.words c.self.invariant.7 in
    let full = has_number c.seat.inside.chunk (take c.seat.inside.others c.seat.inside.rest) v.chunks v.seat.numbers i.2 i.4 in
    (at.0, omega (arith, words), roomy c.stuck_hands_have_room.ensures p b.table.shared.table_id.slots st.id st.me set full)

pub returns-clause-small : goal.returns-clause-small
returns-clause-small c =
    let same : top c.args.seat.now.view.setting ≡ c.self.inside.top = ap top (c.requires.board.1 ∙ sym (ap (λ (x : Board). x.setting) c.self.view_is)) ∙ sym c.self.invariant.4 in
    omega (arith, same, c.self.invariant.5)
