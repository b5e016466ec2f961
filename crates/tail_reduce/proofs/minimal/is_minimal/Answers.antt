use Rattle.std.proofs.Common.{◌≡◌, get_or, true, false, not, ◌&&◌, eqb, is_some, sym, ◌∙◌, ap, ap₂, arith}
use Rattle.std.proofs.lemmas.Bool.{eq-eqb, ne_eqb}
use Rattle.mora_law.specs.Ring.{ranks_of_problem}
use Rattle.tail_reduce.proofs.Ranked.{quotient_is}
use Rattle.tail_reduce.proofs.Searching.{other_more, not_minimal, all_others, other_by}
use Rattle.tail_reduce.proofs.minimal.is_minimal.Goals as goal
use Rattle.tail_reduce.proofs.minimal.is_minimal.Goals.{else-other-place-via-then-other-place+else-is_some, else-other-place-via-else-other-place}

pub returns-then-is_some : goal.returns-then-is_some
returns-then-is_some c = λ P B h.
    let k = c.loop-other.other in
    let apart : eqb k c.args.place ≡ false = ne_eqb k c.args.place c.if-other-place.true in
    let divides : is_some ((ranks_of_problem P).quotient (get_or c.args.leads.now c.args.place 0) (get_or c.args.leads.now k 0)) ≡ true =
    ap is_some (sym (c.quotient_rank.ensures.value ∙ quotient_is P c.args.table.now (get_or c.args.leads.now c.args.place 0) (get_or c.args.leads.now k 0) h.table_is)) ∙ sym c.is_some.ensures ∙ c.if-is_some.true in
    not_minimal P B c.args.table.now c.args.leads.now c.args.place k h c.loop-other-test.true
    (other_by P B c.args.table.now c.args.leads.now c.args.place k h c.requires.place c.loop-other-test.true ∙ ap₂ (λ a b. not a && b) apart divides) c.loop-other.invariant

pub loop-other-preserved : goal.loop-other-preserved
loop-other-preserved c =
    let k = c.loop-other.other in
    let leads = c.args.leads.now in
    let i = c.args.place in
    elim c.else-other-place.branch [
      | else-other-place-via-then-other-place+else-is_some w ↦
          other_more c.args.table.now leads i k c.requires.place c.loop-other-test.true
          (λ P e.
          ap₂ (λ a b. not a && b) (ne_eqb k i w.if-other-place.true)
          (ap is_some (sym (w.quotient_rank.ensures.value ∙ quotient_is P c.args.table.now (get_or leads i 0) (get_or leads k 0) e)) ∙ sym w.is_some.ensures ∙ w.if-is_some.false))
          c.loop-other.invariant
      | else-other-place-via-else-other-place w ↦
          other_more c.args.table.now leads i k c.requires.place c.loop-other-test.true
          (λ P e. ap (λ a. not a && is_some ((ranks_of_problem P).quotient (get_or leads i 0) (get_or leads k 0))) (eq-eqb k i w.if-other-place.false)) c.loop-other.invariant
    ]

pub returns : goal.returns
returns c = λ P B h. all_others P B c.args.table.now c.args.leads.now c.args.place c.loop-other.other h (omega (arith, c.loop-other-test.false)) c.loop-other.invariant
