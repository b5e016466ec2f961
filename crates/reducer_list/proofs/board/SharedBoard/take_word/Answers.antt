use Rattle.std.proofs.Common.{sym, ap, ◌∙◌, ◌≡◌, ℕ, ◌+◌, ◌<◌, List, take, length, subst, arith}
use Rattle.std.specs.Prelude.{Some}
use mathlib.Core.Option.{none}
use Rattle.atomic_table.specs.Table.{step, Allows}
use Rattle.sparse_poly.specs.Ideal.{IsProblem}
use Rattle.reducer_list.specs.View.{Setting, BodyReading, View, Sitting, top}
use Rattle.reducer_list.specs.Rule.{Kept, body, table_words}
use Rattle.reducer_list.specs.Steps.{place_read, ReadWord}
use Rattle.reducer_list.specs.Calls.{IsReading}
use Rattle.reducer_list.proofs.Bodies.{length_take}
use Rattle.reducer_list.proofs.Seated.{placed, has_number, body_within}
use Rattle.reducer_list.proofs.Learning.{reads_more}
use Rattle.reducer_list.proofs.board.SharedBoard.take_word.Goals as goal

pub load-found-requires : goal.load-found-requires
load-found-requires c =
    let b = c.self.inside in
    let key = b.table.shared.key in
    let p : Setting = record { problem = key.0.value; workers = key.1 } in
    let st = c.seat.inside.seat in
    let v : View = st.me.0 in
    let i = c.seat.invariant in
    let at = placed (record { table = b.table.shared.table_id; setting = record { problem = b.problem; workers = b.workers } }) c.args.self.now (record { table = st.table_id; view = v }) c.args.seat.now c.self.view_is c.seat.view_is c.requires.board in
    let mine : record { problem = b.problem; workers = b.workers } ≡ p = λ t. record { problem = sym c.self.invariant.0 t; workers = sym c.self.invariant.1 t } in
    let set : v.setting ≡ p = at.1 ∙ mine in
    let now : c.args.self.now.setting ≡ p = sym (ap (λ x. x.setting) c.self.view_is) ∙ mine in
    let full = has_number c.seat.inside.chunk (take c.seat.inside.others c.seat.inside.rest) v.chunks v.seat.numbers i.2 i.4 in
    let ok : IsProblem p.problem = subst IsProblem (sym c.self.invariant.0) c.n-problem.ensures.problem in
    let size : b.table.shared.table_id.words ≡ table_words p = c.self.invariant.7 ∙ ap table_words mine in
    let k : ℕ = c.args.k in
    let read : List ℕ = take k c.args.words.now in
    let r : BodyReading = record { place = place_read v.reading; chunk = c.args.chunk; words = read } in
    let reading : v.reading ≡ Some r = subst (λ (s : Sitting). IsReading c.args.chunk read s.view) (sym c.seat.view_is) c.requires.reading in
    let len : length read ≡ k = length_take c.args.words.now k (omega (arith, c.requires.room)) in
    let less : c.args.chunk < top p + p.workers = subst (λ (q : Setting). c.args.chunk < top q + q.workers) now c.requires.chunk in
    let small : k < top p + 8 = subst (λ (q : Setting). k < top q + 8) now (omega (arith, c.requires.body)) in
    let place = body_within p b.top c.args.chunk k b.table.shared.table_id.words (c.self.invariant.4 ∙ ap top mine) size less small in
    let both = subst (λ (j : ℕ). (j < b.table.shared.table_id.words) × Allows (Kept p) b.table.shared.table_id.slots st.id st.me j (λ n. n) (ReadWord (step b.table.shared.table_id.slots j 0 0 none) st.me)) place.0 (
      place.1,
      subst (λ (n : ℕ). Allows (Kept p) b.table.shared.table_id.slots st.id st.me (body p c.args.chunk + n) (λ n. n) (ReadWord (step b.table.shared.table_id.slots (body p c.args.chunk + n) 0 0 none) st.me)) len
          (reads_more p b.table.shared.table_id.slots st.id st.me r ok set full reading (omega (arith, len, small))),
    )
    in
    (at.0, both.0, both.1)
