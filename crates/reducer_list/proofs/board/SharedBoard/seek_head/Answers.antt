use Rattle.std.proofs.Common.{◌≤◌, sym, ◌∙◌, ◌≡◌, ◌<◌, take, subst, arith}
use Rattle.reducer_list.specs.View.{Setting, View, Sitting, top}
use Rattle.reducer_list.specs.Rule.{table_words}
use Rattle.reducer_list.proofs.Seated.{placed, has_number, head_within}
use Rattle.reducer_list.proofs.Looking.{seeks}
use Rattle.reducer_list.proofs.board.SharedBoard.seek_head.Goals as goal

pub load-requires : goal.load-requires
load-requires c =
    let b = c.self.inside in
    let key = b.table.shared.key in
    let p : Setting = record { problem = key.0.value; workers = key.1 } in
    let st = c.seat.inside.seat in
    let v : View = st.me.0 in
    let i = c.seat.invariant in
    let at = placed (record { table = b.table.shared.table_id; setting = record { problem = b.problem; workers = b.workers } }) c.args.self.now (record { table = st.table_id; view = v }) c.args.seat.now c.self.view_is c.seat.view_is c.requires.board in
    let set : v.setting ≡ p = at.1 ∙ (λ t. record { problem = sym c.self.invariant.0 t; workers = sym c.self.invariant.1 t }) in
    let full = has_number c.seat.inside.chunk (take c.seat.inside.others c.seat.inside.rest) v.chunks v.seat.numbers i.2 i.4 in
    let low : v.seat.known ≤ top p = subst (λ (q : Setting). v.seat.known ≤ top q) set i.7 in
    let less : c.args.i < v.seat.known = subst (λ (s : Sitting). c.args.i < s.view.seat.known) (sym c.seat.view_is) c.requires.place in
    let size : b.table.shared.table_id.words ≡ table_words p = c.self.invariant.7 ∙ (λ t. table_words (record { problem = sym c.self.invariant.0 t; workers = sym c.self.invariant.1 t })) in (
      at.0,
      head_within p c.args.i b.table.shared.table_id.words (omega (arith, less, low)) size,
      seeks p b.table.shared.table_id.slots st.id st.me c.args.i set full less,
    )
