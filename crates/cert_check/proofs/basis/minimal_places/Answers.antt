use Rattle.std.proofs.Common.{◌≡◌, ◌++◌, [], sym, ◌∙◌, ap, ap₂, arith}
use Rattle.std.specs.Prelude.{filter_map}
use Rattle.std.specs.List.{range_with_len, cons_option}
use Rattle.std.proofs.lemmas.List.{append-nil}
use Rattle.mora_law.specs.Ring.{ranks_of_problem}
use Rattle.mora_law.specs.Entries.{basis_of}
use Rattle.mora_law.specs.Basis.{minimal_with}
use Rattle.cert_check.proofs.Tables.{all_ranks}
use Rattle.cert_check.proofs.Minimal.{filter_more}
use Rattle.cert_check.proofs.basis.minimal_places.Goals as goal
use Rattle.cert_check.proofs.basis.minimal_places.Goals.{in-Some+in_ok-push, in_default}

pub loop-r-preserved : goal.loop-r-preserved
loop-r-preserved c = elim c.match-minimal_with.branch [
  | in-Some+in_ok-push w ↦
      ap (λ v. v.items) w.places-is ∙ w.in_ok-push.ensures.items
      ∙ ap₂ (λ xs o. xs ++ cons_option o []) c.loop-r.invariant (sym w.in-Some.is ∙ c.minimal_with.ensures)
      ∙ sym (filter_more (minimal_with (ranks_of_problem c.args.problem.now) (basis_of c.args.entries.now)) c.loop-r.r)
  | in_default w ↦
      ap (λ v. v.items) w.places-is
      ∙ sym (append-nil c.loop-r.places.items)
      ∙ ap₂ (λ xs o. xs ++ cons_option o []) c.loop-r.invariant (sym w.in_default.is ∙ c.minimal_with.ensures)
      ∙ sym (filter_more (minimal_with (ranks_of_problem c.args.problem.now) (basis_of c.args.entries.now)) c.loop-r.r)
]

pub returns : goal.returns
returns c =
    let z : c.loop-r.r ≡ (ranks_of_problem c.args.problem.now).n = omega (arith, c.loop-r-test.false, c.loop-r.auto.r-end, c.count-r-end.ensures.value, all_ranks c.args.problem.now _ c.requires.table) in
    c.loop-r.invariant ∙ ap (λ n. filter_map (minimal_with (ranks_of_problem c.args.problem.now) (basis_of c.args.entries.now)) (range_with_len 0 n)) z
