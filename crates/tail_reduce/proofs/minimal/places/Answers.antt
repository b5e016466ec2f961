use Rattle.std.proofs.Common.{◌++◌, [], sym, ◌∙◌, ap, ap₂}
use Rattle.std.specs.List.{cons_option}
use Rattle.std.proofs.lemmas.List.{append-nil}
use Rattle.mora_law.specs.Ring.{ranks_of_problem}
use Rattle.mora_law.specs.Basis.{minimal_with}
use Rattle.tail_reduce.proofs.Searching.{filter_more}
use Rattle.tail_reduce.proofs.minimal.places.Goals as goal
use Rattle.tail_reduce.proofs.minimal.places.Goals.{in-Some+in_ok-push, in_default}

pub loop-rank-preserved : goal.loop-rank-preserved
loop-rank-preserved c = λ P B h. elim c.match-minimal_with.branch [
  | in-Some+in_ok-push w ↦
      ap (λ v. v.items) w.places-is ∙ w.in_ok-push.ensures.items
      ∙ ap₂ (λ xs o. xs ++ cons_option o []) (c.loop-rank.invariant P B h) (w.in-Some.ensures P B h)
      ∙ sym (filter_more (minimal_with (ranks_of_problem P) B) c.loop-rank.rank)
  | in_default w ↦
      ap (λ v. v.items) w.places-is
      ∙ sym (append-nil c.loop-rank.places.items)
      ∙ ap₂ (λ xs o. xs ++ cons_option o []) (c.loop-rank.invariant P B h) (w.in_default.ensures P B h)
      ∙ sym (filter_more (minimal_with (ranks_of_problem P) B) c.loop-rank.rank)
]
