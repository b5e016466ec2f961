use Rattle.std.proofs.Common.{arith, sym, ap, ◌∙◌, ◌≡◌, ℕ, zero, suc, ◌<◌, ◌≤◌, List, ◌∷◌, length, take, subst, false, ◌+◌}
use Rattle.run_core.specs.State.{highest}
use Rattle.reducer_list.specs.View.{Setting, View, Sitting, top, is_busy}
use Rattle.reducer_list.specs.Steps.{Me, all_but_last, last_only}
use Rattle.reducer_list.proofs.Bodies.{highest_cut}
use Rattle.reducer_list.proofs.Halving.{splits, cut_chunks, lengths_cut}
use Rattle.reducer_list.proofs.Seated.{placed, some_words}
use Rattle.reducer_list.proofs.board.SharedBoard.split.Goals as goal

many_chunks : (c n : ℕ) (rest cs ns : List ℕ) → cs ≡ c ∷ take n rest → length cs ≡ length ns → 1 < length ns → 0 < n
many_chunks c zero rest cs ns is same many = let one : length cs ≡ 1 = ap length is in absurd (omega arith)
many_chunks c (suc n) rest cs ns is same many = omega arith

pub split_seat-given-requires : goal.split_seat-given-requires
split_seat-given-requires c =
    let b = c.self.inside in
    let key = b.table.shared.key in
    let p : Setting = record { problem = key.0.value; workers = key.1 } in
    let st = c.seat.inside.seat in
    let v : View = st.me.0 in
    let is = c.seat.view_is in
    let i = c.seat.invariant in
    let at = placed (record { table = b.table.shared.table_id; setting = record { problem = b.problem; workers = b.workers } }) c.args.self.now (record { table = st.table_id; view = v }) c.args.seat.now c.self.view_is is c.requires.board in
    let set : v.setting ≡ p = at.1 ∙ (λ t. record { problem = sym c.self.invariant.0 t; workers = sym c.self.invariant.1 t }) in
    let words = some_words (record { problem = b.problem; workers = b.workers }) b.table.shared.table_id.words c.self.invariant.7 in
    let shut : is_busy v ≡ false = ap (λ (s : Sitting). is_busy s.view) is ∙ c.requires.shut in
    let many : 1 < length v.seat.numbers = subst (λ (s : Sitting). 1 < length s.view.seat.numbers) (sym is) c.requires.many in
    (at.0, omega (arith, words), splits c.keeps_sound.ensures p st.id v shut many)

pub invariant_of-seat : goal.invariant_of-seat
invariant_of-seat c =
    let i = c.seat.invariant in
    let v : View = c.seat.inside.seat.me.0 in
    let me = c.split_seat-given.ensures.2 in
    let many : 1 < length v.seat.numbers = subst (λ (s : Sitting). 1 < length s.view.seat.numbers) (sym c.seat.view_is) c.requires.many in
    let few = i.3 in
    let told = c.seat.told in
    let cut = cut_chunks c.seat.inside.chunk c.seat.inside.others c.seat.inside.rest (many_chunks c.seat.inside.chunk c.seat.inside.others c.seat.inside.rest v.chunks v.seat.numbers i.2 i.4 many) (omega arith) in
    let lengths = lengths_cut v.seat.numbers v.chunks (omega arith) i.4 in (
      i.0 ∙ sym (ap (λ (m : Me). m.0.seat.known) me),
      i.1 ∙ sym (ap (λ (m : Me). m.0.seat.seen) me),
      ap (λ (m : Me). m.0.chunks) me ∙ ap all_but_last i.2 ∙ cut.0,
      omega arith,
      ap (λ (m : Me). length m.0.chunks) me ∙ lengths.0 ∙ sym (ap (λ (m : Me). length m.0.seat.numbers) me),
      ap (λ (m : Me). m.1) me ∙ i.5,
      subst (λ (m : Me). highest m.0.chunks < top m.0.setting + m.0.setting.workers) (sym me) (let h = (highest_cut v.chunks).0 in let h' = i.6 in omega arith),
      subst (λ (m : Me). m.0.seat.known ≤ top m.0.setting) (sym me) i.7,
    )

pub invariant_of-result : goal.invariant_of-result
invariant_of-result c =
    let i = c.seat.invariant in
    let v : View = c.seat.inside.seat.me.0 in
    let me = c.split_seat-given.ensures.4 in
    let many : 1 < length v.seat.numbers = subst (λ (s : Sitting). 1 < length s.view.seat.numbers) (sym c.seat.view_is) c.requires.many in
    let few = i.3 in
    let told = c.seat.told in
    let cut = cut_chunks c.seat.inside.chunk c.seat.inside.others c.seat.inside.rest (many_chunks c.seat.inside.chunk c.seat.inside.others c.seat.inside.rest v.chunks v.seat.numbers i.2 i.4 many) (omega arith) in
    let lengths = lengths_cut v.seat.numbers v.chunks (omega arith) i.4 in (
      i.0 ∙ sym (ap (λ (m : Me). m.0.seat.known) me),
      i.1 ∙ sym (ap (λ (m : Me). m.0.seat.seen) me),
      ap (λ (m : Me). m.0.chunks) me ∙ ap last_only i.2 ∙ cut.1,
      omega arith,
      ap (λ (m : Me). length m.0.chunks) me ∙ lengths.1 ∙ sym (ap (λ (m : Me). length m.0.seat.numbers) me),
      ap (λ (m : Me). m.1) me,
      subst (λ (m : Me). highest m.0.chunks < top m.0.setting + m.0.setting.workers) (sym me) (let h = (highest_cut v.chunks).1 in let h' = i.6 in omega arith),
      subst (λ (m : Me). m.0.seat.known ≤ top m.0.setting) (sym me) i.7,
    )
