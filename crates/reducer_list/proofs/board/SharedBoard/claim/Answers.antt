use Rattle.std.proofs.Common.{sym, ap, ◌∙◌, ◌≡◌, ℕ, subst, ◌<◌, length, false}
use Rattle.mora_law.specs.Tickets.{total}
use Rattle.reducer_list.specs.View.{Setting, View, Sitting, is_busy}
use Rattle.reducer_list.proofs.Seated.{placed, some_words}
use Rattle.reducer_list.proofs.Claiming.{claims_at}
use Rattle.reducer_list.proofs.board.SharedBoard.claim.Goals as goal

pub compare_exchange-found-requires : goal.compare_exchange-found-requires
compare_exchange-found-requires c =
    let b = c.self.inside in
    let key = b.table.shared.key in
    let p : Setting = record { problem = key.0.value; workers = key.1 } in
    let st = c.seat.inside.seat in
    let v : View = st.me.0 in
    let is = c.seat.view_is in
    let i = c.seat.invariant in
    let at = placed (record { table = b.table.shared.table_id; setting = record { problem = b.problem; workers = b.workers } }) c.args.self.now (record { table = st.table_id; view = v }) c.args.seat.now c.self.view_is is c.requires.board in
    let set : v.setting ≡ p = at.1 ∙ (λ t. record { problem = sym c.self.invariant.0 t; workers = sym c.self.invariant.1 t }) in
    let words = some_words (record { problem = b.problem; workers = b.workers }) b.table.shared.table_id.words c.self.invariant.7 in
    let tickets : c.total.result ≡ total (length p.problem.gens) v.seat.known =
    c.total.ensures ∙ (λ t. total (c.self.invariant.3 t) (i.0 t)) ∙ (λ t. total (length ((sym c.self.invariant.0 t).gens)) v.seat.known)
    in
    let below : c.seat.inside.seen < total (length p.problem.gens) v.seat.known = subst (λ (n : ℕ). c.seat.inside.seen < n) tickets c.if-seat-total.false in
    let shut : is_busy v ≡ false = ap (λ (s : Sitting). is_busy s.view) is ∙ c.requires.shut in
    let one : length v.seat.numbers ≡ 1 = ap (λ (s : Sitting). length s.view.seat.numbers) is ∙ c.requires.one in
    (at.0, words, claims_at c.keeps_sound.ensures p b.table.shared.table_id.slots st.id st.me c.seat.inside.seen i.1 set shut one below)
