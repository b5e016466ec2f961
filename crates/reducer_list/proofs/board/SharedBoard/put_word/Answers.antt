use Rattle.std.proofs.Common.{◌≤◌, arith, sym, ap, ◌∙◌, ◌≡◌, ℕ, ◌+◌, ◌*◌, ◌<◌, List, ◌∷◌, length, take, subst}
use mathlib.Core.Option.{none}
use Rattle.atomic_table.specs.Table.{step, Allows}
use Rattle.run_core.specs.State.{highest}
use Rattle.reducer_list.specs.View.{Setting, View, Sitting, top}
use Rattle.reducer_list.specs.Rule.{Kept, body, table_words}
use Rattle.reducer_list.specs.Steps.{Stored}
use Rattle.reducer_list.proofs.Bodies.{inside}
use Rattle.reducer_list.proofs.Seated.{placed, some_words}
use Rattle.reducer_list.proofs.Storing.{puts}
use Rattle.reducer_list.proofs.board.SharedBoard.put_word.Goals as goal

-- the first chunk is at most the greatest
first_low : (c : ℕ) (l cs : List ℕ) → cs ≡ c ∷ l → c ≤ highest cs
first_low c l cs e = let z : highest cs ≡ highest (c ∷ l) = ap highest e in omega (arith, z)

pub store-requires : goal.store-requires
store-requires c =
    let b = c.self.inside in
    let key = b.table.shared.key in
    let p : Setting = record { problem = key.0.value; workers = key.1 } in
    let st = c.seat.inside.seat in
    let v : View = st.me.0 in
    let is = c.seat.view_is in
    let i = c.seat.invariant in
    let at = placed (record { table = b.table.shared.table_id; setting = record { problem = b.problem; workers = b.workers } }) c.args.self.now (record { table = st.table_id; view = v }) c.args.seat.now c.self.view_is is c.requires.board in
    let set : v.setting ≡ p = at.1 ∙ (λ t. record { problem = sym c.self.invariant.0 t; workers = sym c.self.invariant.1 t }) in
    let words = some_words (record { problem = b.problem; workers = b.workers }) b.table.shared.table_id.words c.self.invariant.7 in
    let n : ℕ = b.top in
    let same : n ≡ top p = c.self.invariant.4 ∙ (λ t. top (record { problem = sym c.self.invariant.0 t; workers = key.1 })) in
    let chunk : ℕ = c.seat.inside.chunk in
    let low = first_low chunk (take c.seat.inside.others c.seat.inside.rest) v.chunks i.2 in
    let within : chunk < top p + p.workers = subst (λ (q : Setting). chunk < top q + q.workers) set (omega (arith, low, i.6)) in
    let small : c.args.k < top p + 8 = subst (λ (q : Setting). c.args.k < top q + 8) (sym (ap (λ (s : Sitting). s.view.setting) is) ∙ set) c.requires.room in
    let next : c.args.k ≤ length v.draft = subst (λ (s : Sitting). c.args.k ≤ length s.view.draft) (sym is) c.requires.next in
    let word : body p chunk + c.args.k ≡ n + 3 + chunk * (n + 8) + c.args.k = λ t. sym same t + 3 + chunk * (sym same t + 8) + c.args.k in
    let size : table_words p ≡ b.table.shared.table_id.words = (λ t. table_words (record { problem = c.self.invariant.0 t; workers = c.self.invariant.1 t })) ∙ sym c.self.invariant.7 in
    let has : body p chunk + c.args.k < b.table.shared.table_id.words = subst (λ (m : ℕ). body p chunk + c.args.k < m) size (inside p chunk c.args.k within small) in
    let both = subst (λ (j : ℕ). (j < b.table.shared.table_id.words) × Allows (Kept p) b.table.shared.table_id.slots st.id st.me j (λ _. c.args.x) (λ _. Stored (step b.table.shared.table_id.slots j c.args.x 0 none) st.me c.args.x)) word
    (has, puts p b.table.shared.table_id.slots st.id st.me chunk (take c.seat.inside.others c.seat.inside.rest) c.args.k c.args.x set i.2 within next small) in
    (at.0, both.0, both.1)
