use Rattle.std.proofs.Common.{arith, sym, ap, ◌∙◌, ◌≡◌, ℕ, ◌+◌, ◌*◌, List, [], ◌∷◌, length, subst, set, length-set, ◌<◌, ◌≤◌}
use Rattle.std.specs.Prelude.{replicate}
use Rattle.std.proofs.lemmas.List.{length-replicate}
use Rattle.local_order.specs.Shape.{count}
use Rattle.sparse_poly.specs.Shape.{shape_of}
use Rattle.sparse_poly.specs.Ideal.{Problem, IsProblem}
use Rattle.mora_law.proofs.Ring.{ranks_count, count_is, problem_is_admissible}
use Rattle.run_core.specs.State.{count_of, highest}
use Rattle.reducer_list.specs.View.{Setting, top, one_seat}
use Rattle.reducer_list.specs.Rule.{Kept, table_words}
use Rattle.reducer_list.specs.Steps.{Me}
use Rattle.reducer_list.proofs.Openings.{opens, first_chunks, zero_words, first_word, highest_range}
use Rattle.reducer_list.proofs.Seated.{some_words}
use Rattle.reducer_list.proofs.board.SharedBoard.open.Goals as goal

pub of_words-requires : goal.of_words-requires
of_words-requires c =
    let P : Problem = c.args.problem.now in
    let p : Setting = record { problem = c.of.result.value; workers = c.args.workers } in
    let n : ℕ = c.count-top.result in
    let is : n ≡ top p = c.count-top.ensures.value ∙ ap count c.in_ok-ranks.ensures ∙ sym (ranks_count P ∙ count_is P) ∙ ap count_of (sym c.of.ensures) in
    let size : ℕ = n + 3 + (n + c.args.workers) * (n + 8) in
    let size_is : size ≡ table_words p = λ t. is t + 3 + (is t + c.args.workers) * (is t + 8) in
    let ws : List ℕ = set (replicate size 0) 0 n in
    subst (λ (l : List ℕ). Kept p (record { words = l; homes = []; views = one_seat p ∷ [] })) (sym (c.as_slice.ensures.value ∙ (λ t. set (c.in_ok-words.ensures t) 0 (c.from.ensures t))))
    (opens c.opening_is_sound.ensures p ws (problem_is_admissible c.of.result.value (subst IsProblem (sym c.of.ensures) c.n-problem.ensures.problem)) c.requires.some
    (length-set (replicate size 0) 0 n ∙ length-replicate size 0 ∙ size_is) (first_word size n (omega (arith, some_words p size size_is)) ∙ is) (λ i less. zero_words size i n less))

pub invariant_of-board : goal.invariant_of-board
invariant_of-board c =
    let e = c.in_ok-table.ensures in
    let copy : c.in_ok-copy.copy ≡ c.args.problem.now = c.in_ok-copy.ensures in
    let n : ℕ = c.count-top.result in
    let is : n ≡ count_of c.in_ok-copy.copy = c.count-top.ensures.value ∙ ap count c.in_ok-ranks.ensures ∙ sym (ranks_count c.args.problem.now ∙ count_is c.args.problem.now) ∙ ap count_of (sym copy) in
    let size : ℕ = n + 3 + (n + c.args.workers) * (n + 8) in (
      ap (λ k. k.0.value) e.5 ∙ c.of.ensures ∙ sym copy,
      ap (λ k. k.1) e.5,
      c.in_ok-ranks.ensures ∙ ap shape_of (sym copy),
      c.generator_count-generators.ensures ∙ ap (λ (P : Problem). length P.gens) (sym copy),
      is,
      omega (arith, c.count-top.ensures.small),
      c.requires.few,
      e.0 ∙ ap length (c.as_slice.ensures.value ∙ (λ t. set (c.in_ok-words.ensures t) 0 (c.from.ensures t))) ∙ length-set (replicate size 0) 0 n ∙ length-replicate size 0 ∙ (λ t. is t + 3 + (is t + c.args.workers) * (is t + 8)),
    )

pub invariant_of-seat : goal.invariant_of-seat
invariant_of-seat c =
    let me = c.in_ok-table.ensures.4 in
    let n = c.requires.few in (
      sym (ap (λ (m : Me). m.0.seat.known) me),
      sym (ap (λ (m : Me). m.0.seat.seen) me),
      ap (λ (m : Me). m.0.chunks) me ∙ first_chunks c.args.workers c.requires.some c.requires.few,
      omega arith,
      ap (λ (m : Me). length m.0.chunks) me ∙ sym (ap (λ (m : Me). length m.0.seat.numbers) me),
      ap (λ (m : Me). m.1) me,
      subst (λ (m : Me). highest m.0.chunks < top m.0.setting + m.0.setting.workers) (sym me) (let h = highest_range c.args.workers c.requires.some in omega (arith, h)),
      subst (λ (m : Me). m.0.seat.known ≤ top m.0.setting) (sym me) (omega arith),
    )
