use Rattle.std.proofs.Common.{◌≤◌, sym, ◌∙◌, ◌≡◌, ℕ, ◌+◌, take, subst, arith}
use mathlib.Core.Option.{none}
use Rattle.atomic_table.specs.Table.{step, Allows}
use Rattle.reducer_list.specs.View.{Setting, View, top}
use Rattle.reducer_list.specs.Rule.{Kept, table_words}
use Rattle.reducer_list.specs.Steps.{Looked}
use Rattle.reducer_list.proofs.Seated.{placed, has_number, head_within}
use Rattle.reducer_list.proofs.Looking.{looks}
use Rattle.reducer_list.proofs.board.SharedBoard.see_head.Goals as goal

pub load-requires : goal.load-requires
load-requires c =
    let b = c.self.inside in
    let key = b.table.shared.key in
    let p : Setting = record { problem = key.0.value; workers = key.1 } in
    let st = c.seat.inside.seat in
    let v : View = st.me.0 in
    let i = c.seat.invariant in
    let at = placed (record { table = b.table.shared.table_id; setting = record { problem = b.problem; workers = b.workers } }) c.args.self.now (record { table = st.table_id; view = v }) c.args.seat.now c.self.view_is c.seat.view_is c.requires.board in
    let set : v.setting ≡ p = at.1 ∙ (λ t. record { problem = sym c.self.invariant.0 t; workers = sym c.self.invariant.1 t }) in
    let full = has_number c.seat.inside.chunk (take c.seat.inside.others c.seat.inside.rest) v.chunks v.seat.numbers i.2 i.4 in
    let low : v.seat.known ≤ top p = subst (λ (q : Setting). v.seat.known ≤ top q) set i.7 in
    let size : b.table.shared.table_id.words ≡ table_words p = c.self.invariant.7 ∙ (λ t. table_words (record { problem = sym c.self.invariant.0 t; workers = sym c.self.invariant.1 t })) in (
      at.0,
      head_within p c.seat.inside.known b.table.shared.table_id.words (omega (arith, i.0, low)) size,
      subst (λ (n : ℕ). Allows (Kept p) b.table.shared.table_id.slots st.id st.me (2 + n) (λ m. m) (Looked (step b.table.shared.table_id.slots (2 + n) 0 0 none) st.me)) (sym i.0)
          (looks c.keeps_sound.ensures c.last_idle.ensures p b.table.shared.table_id.slots st.id st.me set full low),
    )
