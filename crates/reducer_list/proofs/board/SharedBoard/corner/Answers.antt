use Rattle.std.proofs.Common.{sym, ap, ◌∙◌, ◌≡◌, take, true, arith}
use Rattle.mora_law.specs.Entries.{corner}
use Rattle.reducer_list.specs.View.{Setting, View, Sitting, is_busy}
use Rattle.reducer_list.proofs.Seated.{placed, has_number, some_words}
use Rattle.reducer_list.proofs.Cornering.{corners}
use Rattle.reducer_list.proofs.board.SharedBoard.corner.Goals as goal

pub fetch_min-found-requires : goal.fetch_min-found-requires
fetch_min-found-requires c =
    let b = c.self.inside in
    let key = b.table.shared.key in
    let p : Setting = record { problem = key.0.value; workers = key.1 } in
    let st = c.seat.inside.seat in
    let v : View = st.me.0 in
    let is = c.seat.view_is in
    let i = c.seat.invariant in
    let at = placed (record { table = b.table.shared.table_id; setting = record { problem = b.problem; workers = b.workers } }) c.args.self.now (record { table = st.table_id; view = v }) c.args.seat.now c.self.view_is is c.requires.board in
    let set : v.setting ≡ p = at.1 ∙ (λ t. record { problem = sym c.self.invariant.0 t; workers = sym c.self.invariant.1 t }) in
    let words = some_words (record { problem = b.problem; workers = b.workers }) b.table.shared.table_id.words c.self.invariant.7 in
    let full = has_number c.seat.inside.chunk (take c.seat.inside.others c.seat.inside.rest) v.chunks v.seat.numbers i.2 i.4 in
    let busy : is_busy v ≡ true = ap (λ (s : Sitting). is_busy s.view) is ∙ c.requires.hand in
    let own : c.from.result ≡ corner v.setting.problem v.list = c.from.ensures ∙ c.requires.own ∙ sym (ap (λ (s : Sitting). corner s.view.setting.problem s.view.list) is) in
    (at.0, omega (arith, words), corners c.keeps_sound.ensures p b.table.shared.table_id.slots st.id st.me c.from.result set full busy own)
