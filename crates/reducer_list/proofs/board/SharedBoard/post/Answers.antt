use Rattle.std.proofs.Common.{◌≤◌, arith, sym, ap, ◌∙◌, ◌≡◌, ℕ, ◌+◌, ◌*◌, ◌<◌, List, ◌∷◌, take, subst}
use Rattle.std.specs.Prelude.{◌==◌}
use mathlib.Core.Option.{none}
use prog.Atomic.{either}
use Rattle.std.proofs.lemmas.Bool.{eqb-true}
use Rattle.mora_law.specs.Legal.{Legal}
use Rattle.atomic_table.specs.Table.{step, Allows}
use Rattle.entry_code.specs.Words.{words_of}
use Rattle.reducer_list.specs.View.{Setting, View, Sitting, top}
use Rattle.reducer_list.specs.Rule.{Kept, table_words}
use Rattle.reducer_list.specs.Steps.{Posted, IsStuck, made, posted}
use Rattle.reducer_list.proofs.Seated.{placed, has_number, some_words}
use Rattle.reducer_list.proofs.Publishing.{posts}
use Rattle.reducer_list.proofs.board.SharedBoard.post.Goals as goal

-- each head is within the table
in_words : (p : Setting) (known n : ℕ) → known ≤ top p → n ≡ table_words p → 2 + known < n
in_words p known n le e = let z : ℕ = (top p + p.workers) * (top p + 8) in let e' : n ≡ top p + 3 + z = e in omega arith

pub compare_exchange-found-requires : goal.compare_exchange-found-requires
compare_exchange-found-requires c =
    let b = c.self.inside in
    let key = b.table.shared.key in
    let p : Setting = record { problem = key.0.value; workers = key.1 } in
    let st = c.seat.inside.seat in
    let v : View = st.me.0 in
    let is = c.seat.view_is in
    let i = c.seat.invariant in
    let at = placed (record { table = b.table.shared.table_id; setting = record { problem = b.problem; workers = b.workers } }) c.args.self.now (record { table = st.table_id; view = v }) c.args.seat.now c.self.view_is is c.requires.board in
    let set : v.setting ≡ p = at.1 ∙ (λ t. record { problem = sym c.self.invariant.0 t; workers = sym c.self.invariant.1 t }) in
    let words = some_words (record { problem = b.problem; workers = b.workers }) b.table.shared.table_id.words c.self.invariant.7 in
    let full = has_number c.seat.inside.chunk (take c.seat.inside.others c.seat.inside.rest) v.chunks v.seat.numbers i.2 i.4 in
    let low : v.seat.known ≤ top p = subst (λ (q : Setting). v.seat.known ≤ top q) set i.7 in
    let size : b.table.shared.table_id.words ≡ table_words p = c.self.invariant.7 ∙ (λ t. table_words (record { problem = sym c.self.invariant.0 t; workers = sym c.self.invariant.1 t })) in
    let stuck : IsStuck v = subst (λ (s : Sitting). IsStuck s.view) (sym is) c.requires.stuck in
    let draft : v.draft ≡ words_of (made v) = subst (λ (s : Sitting). s.view.draft ≡ words_of (made s.view)) (sym is) c.requires.draft in
    let cs : List ℕ = take c.seat.inside.others c.seat.inside.rest in
    let chunks : v.chunks ≡ c.from.result ∷ cs = i.2 ∙ ap (λ (n : ℕ). n ∷ cs) (sym c.from.ensures) in
    let allows = posts (c.keeps_sound.ensures, c.publishes_with_an_open_hand.ensures, c.drafts_have_room.ensures) p b.table.shared.table_id.slots st.id st.me c.from.result cs set full stuck chunks low draft in (
      at.0,
      in_words p c.seat.inside.known b.table.shared.table_id.words (omega (arith, i.0, low)) size,
      subst (λ (n : ℕ). Allows (Kept p) b.table.shared.table_id.slots st.id st.me (2 + n) (λ m. either (m == 0) (c.from.result + 1) m) (Posted (step b.table.shared.table_id.slots (2 + n) 0 (c.from.result + 1) none) st.me)) (sym i.0) allows,
    )

pub returns-clause-legal : goal.returns-clause-legal
returns-clause-legal c e =
    subst (λ (s : Sitting). Legal s.view.setting.problem (posted s.view).list) c.seat.view_is ((c.compare_exchange-found.ensures.2.1 (eqb-true c.compare_exchange-found.result 0 e)).2)
