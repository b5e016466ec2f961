use Rattle.std.proofs.Common.{length-append, ◌≤◌, arith, sym, ap, ◌∙◌, ◌≡◌, ◌≢◌, ℕ, suc, List, [], ◌∷◌, ◌++◌, length, take, subst, refl, ◌<◌, ◌+◌, rules}
use Rattle.std.specs.Prelude.{max}
use Rattle.run_core.specs.State.{highest}
use Rattle.reducer_list.specs.View.{Setting, View, Sitting, Board, top, is_busy, Begins}
use Rattle.reducer_list.specs.Steps.{Me, both, LastIdle}
use Rattle.reducer_list.proofs.Bodies.{highest_append, length_take}
use Rattle.reducer_list.proofs.Joining.{joins, settles, both_begin}
use Rattle.reducer_list.proofs.Seated.{placed, has_number, some_words}
use Rattle.reducer_list.proofs.board.SharedBoard.join.Goals as goal

has_both : (ns ms : List ℕ) → ns ≢ [] → (ns ++ ms) ≢ []
has_both [] ms full e = full refl
has_both (n ∷ ns) ms full e = absurd (cc)

pub join_seat-requires : goal.join_seat-requires
join_seat-requires c =
    let b = c.self.inside in
    let key = b.table.shared.key in
    let p : Setting = record { problem = key.0.value; workers = key.1 } in
    let st = c.seat.inside.seat in
    let v : View = st.me.0 in
    let i = c.seat.invariant in
    let board : Board = record { table = b.table.shared.table_id; setting = record { problem = b.problem; workers = b.workers } } in
    let at = placed board c.args.self.now (record { table = st.table_id; view = v }) c.args.seat.now c.self.view_is c.seat.view_is c.requires.board in
    let words = some_words board.setting b.table.shared.table_id.words c.self.invariant.7 in
    let full = has_number c.seat.inside.chunk (take c.seat.inside.others c.seat.inside.rest) v.chunks v.seat.numbers i.2 i.4 in
    let ot = c.other.inside.seat in
    let w : View = ot.me.0 in
    let o = c.other.invariant in
    let there = placed board c.args.self.now (record { table = ot.table_id; view = w }) c.args.other c.self.view_is c.other.view_is c.requires.other_board in (
      at.0,
      there.0,
      o.5,
      omega (arith, words),
      joins c.keeps_sound.ensures p st.id v ot.id w (ap (λ (s : Sitting). is_busy s.view) c.seat.view_is ∙ c.requires.shut) (ap (λ (s : Sitting). is_busy s.view) c.other.view_is ∙ c.requires.other_shut)
          full (has_number c.other.inside.chunk (take c.other.inside.others c.other.inside.rest) w.chunks w.seat.numbers o.2 o.4),
    )

pub load-seat-inside-requires : goal.load-seat-inside-requires
load-seat-inside-requires c =
    let b = c.self.inside in
    let key = b.table.shared.key in
    let p : Setting = record { problem = key.0.value; workers = key.1 } in
    let st = c.seat.inside.seat in
    let v : View = st.me.0 in
    let i = c.seat.invariant in
    let board : Board = record { table = b.table.shared.table_id; setting = record { problem = b.problem; workers = b.workers } } in
    let at = placed board c.args.self.now (record { table = st.table_id; view = v }) c.args.seat.now c.self.view_is c.seat.view_is c.requires.board in
    let words = some_words board.setting b.table.shared.table_id.words c.self.invariant.7 in
    let full = has_number c.seat.inside.chunk (take c.seat.inside.others c.seat.inside.rest) v.chunks v.seat.numbers i.2 i.4 in
    let w : View = c.other.inside.seat.me.0 in
    let e = c.join_seat.ensures in
    let set : v.setting ≡ p = at.1 ∙ (λ t. record { problem = sym c.self.invariant.0 t; workers = sym c.self.invariant.1 t }) in (
      e.0 ∙ at.0,
      omega (arith, words),
      settles c.last_idle.ensures p b.table.shared.table_id.slots c.join_seat.new.seat.id c.join_seat.new.seat.me (ap (λ (m : Me). m.0.setting) e.2 ∙ set) (λ none. has_both v.seat.numbers w.seat.numbers full (sym (ap (λ (m : Me). m.0.seat.numbers) e.2) ∙ none)),
    )

pub returns-clause-begins : goal.returns-clause-begins
returns-clause-begins c =
    let v : View = c.seat.inside.seat.me.0 in
    let w : View = c.other.inside.seat.me.0 in
    let e : c.load-seat-inside.new.seat.me.0 ≡ both v w = c.load-seat-inside.ensures.2.1 ∙ ap (λ (m : Me). m.0) c.join_seat.ensures.2 in
    let told : Begins (both v w).joined (both v w).list = subst (λ (m : Me). Begins m.0.joined m.0.list) c.join_seat.ensures.2 c.load-seat-inside.ensures.2.4 in
    subst (λ (x : View × View × View). Begins x.0.list x.2.list × Begins x.1.list x.2.list) (λ t. ((c.seat.view_is t).view, (c.other.view_is t).view, sym e t)) (both_begin v w told)

pub returns-clause-last : goal.returns-clause-last
returns-clause-last c = subst LastIdle (sym c.load-seat-inside.ensures.2.1) c.load-seat-inside.ensures.2.2

pub invariant_of-seat : goal.invariant_of-seat
invariant_of-seat c =
    let v : View = c.seat.inside.seat.me.0 in
    let w : View = c.other.inside.seat.me.0 in
    let one = c.seat.invariant.6 in
    let two = c.other.invariant.6 in
    let same : w.setting ≡ v.setting = ap (λ (s : Sitting). s.view.setting) c.other.view_is ∙ c.requires.other_board.1 ∙ sym c.requires.board.1 ∙ sym (ap (λ (s : Sitting). s.view.setting) c.seat.view_is) in
    let two' : highest w.chunks < top v.setting + v.setting.workers = subst (λ (q : Setting). highest w.chunks < top q + q.workers) same two in
    let all = highest_append v.chunks w.chunks in
    let new : highest (both v w).chunks < top (both v w).setting + (both v w).setting.workers = omega arith in
    let e : c.load-seat-inside.new.seat.me.0 ≡ both v w = c.load-seat-inside.ensures.2.1 ∙ ap (λ (m : Me). m.0) c.join_seat.ensures.2 in
    let last : highest c.load-seat-inside.new.seat.me.0.chunks < top c.load-seat-inside.new.seat.me.0.setting + c.load-seat-inside.new.seat.me.0.setting.workers = subst (λ (u : View). highest u.chunks < top u.setting + u.setting.workers) (sym e) new in
    let i = c.seat.invariant in
    let o = c.other.invariant in
    let si = c.seat.inside in
    let oi = c.other.inside in
    let told = c.seat.told in
    let few = c.load-seat-inside.ensures.2.3 in
    let few' : length (both v w).seat.numbers ≤ v.setting.workers = subst (λ (m : Me). length m.0.seat.numbers ≤ v.setting.workers) (c.join_seat.ensures.2) (subst (λ (n : ℕ). length c.join_seat.new.seat.me.0.seat.numbers ≤ n) (ap (λ (m : Me). m.0.setting.workers) c.join_seat.ensures.2) few) in
    let workers : v.setting.workers ≡ c.self.inside.workers = ap (λ (s : Sitting). s.view.setting.workers) c.seat.view_is ∙ ap (λ (q : Setting). q.workers) c.requires.board.1 ∙ sym (ap (λ (x : Board). x.setting.workers) c.self.view_is) in
    let most = c.self.invariant.6 in
    let l1 : length v.chunks ≡ suc si.others = ap length i.2 ∙ ap suc (length_take si.rest si.others (let x = i.3 in omega arith)) in
    let l2 : length w.chunks ≡ suc oi.others = ap length o.2 ∙ ap suc (length_take oi.rest oi.others (let x = o.3 in search rules)) in
    let n1 = i.4 in
    let n2 = o.4 in
    let n3 : length (both v w).seat.numbers ≡ length v.seat.numbers + length w.seat.numbers = length-append v.seat.numbers w.seat.numbers in
    let n4 : length (v.chunks ++ w.chunks) ≡ length v.chunks + length w.chunks = length-append v.chunks w.chunks in
    let index : si.others + 1 + oi.others ≡ si.others + (1 + oi.others) = omega arith in (
      c.max-seat-inside.ensures ∙ (λ t. max (i.0 t) (o.0 t)) ∙ sym (ap (λ (u : View). u.seat.known) e),
      c.max-seat-inside-2.ensures ∙ (λ t. max (i.1 t) (o.1 t)) ∙ sym (ap (λ (u : View). u.seat.seen) e),
      ap (λ (u : View). u.chunks) e ∙ (λ t. i.2 t ++ o.2 t) ∙ ap (λ (l : List ℕ). si.chunk ∷ l) (sym c.append.ensures) ∙ ap (λ (n : ℕ). si.chunk ∷ take n c.append.new.rest) index,
      omega arith,
      ap (λ (u : View). length u.chunks) e ∙ (let g : length (v.chunks ++ w.chunks) ≡ length (both v w).seat.numbers = omega arith in g) ∙ sym (ap (λ (u : View). length u.seat.numbers) e),
      c.load-seat-inside.ensures.2.0 ∙ ap (λ (m : Me). m.1) c.join_seat.ensures.2 ∙ i.5,
      last,
      subst (λ (u : View). u.seat.known ≤ top u.setting) (sym e) (omega (arith, i.7, subst (λ (q : Setting). w.seat.known ≤ top q) same o.7)),
    )
