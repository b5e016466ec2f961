use Rattle.std.proofs.Common.{◌≡◌, [], length, None, true, ap, sym, ◌∙◌, subst}
use Rattle.local_order.specs.Shape.{count}
use Rattle.rank_algebra.specs.Vector.{Agree}
use Rattle.mora_law.specs.Ring.{ranks_of_problem, generators_of}
use Rattle.mora_law.specs.Legal.{IsItemOf}
use Rattle.mora_law.specs.Start.{start_of, start}
use Rattle.mora_form.specs.State.{ring_of, Knows, IsOver, HasRun}
use Rattle.rank_algebra.specs.Rows.{vector_of_row}
use Rattle.mora_form.specs.Begin.{basis_in}
use Rattle.mora_form.specs.Inside.{shape_in, state_of}
use Rattle.mora_form.proofs.Runs.{begun, has_begun}
use Rattle.mora_form.proofs.mora.Mora.start.Goals as goal

pub returns-clause-poly : goal.returns-clause-poly
returns-clause-poly c = λ entries h.
    let I = c.self.inside in
    let s = state_of I in
    let P = c.args.problem.now in
    let v = c.self.view_is in
    let same : c.args.table.now ≡ shape_in I = c.requires.table ∙ ap (λ x. x.shape) (sym v) in
    let a : Agree (ranks_of_problem P) (count (shape_in I)) (vector_of_row c.begin.new.row) (start_of (ranks_of_problem P) (generators_of P) (basis_in s.known I.known.summaries.items) c.args.item) =
    subst (λ x. Agree (ranks_of_problem P) (count x) (vector_of_row c.begin.new.row) (start_of (ranks_of_problem P) (generators_of P) (basis_in s.known I.known.summaries.items) c.args.item)) same c.begin.ensures.start in
    subst (λ x. Agree (ring_of x) (ring_of x).n (vector_of_row c.begin.new.row) (start P entries c.args.item)) v
    (begun P s c.self.invariant.field c.self.invariant.limits.some entries I.known.summaries.items c.args.item c.begin.new.row (subst (IsOver P) (sym v) c.requires.problem) (subst (Knows entries) (sym v) h)
    c.self.invariant.known.summarized (subst (λ x. IsItemOf (length P.gens) (length x.known) c.args.item) (sym v) c.requires.item) a)

pub returns-clause-run : goal.returns-clause-run
returns-clause-run c = λ entries h.
    let s = state_of c.self.inside in
    let P = c.args.problem.now in
    let v = c.self.view_is in
    subst (λ ds. HasRun P entries (record s { is_open = true; item = c.args.item; reads = ds; end = None; poly = c.begin.new.row; kept = c.clear.new.self.list })) (sym c.clear-3.ensures.list)
    (subst (λ rows. HasRun P entries (record s { is_open = true; item = c.args.item; reads = []; end = None; poly = c.begin.new.row; kept = rows })) (sym c.clear.ensures.list)
    (has_begun P s entries c.args.item c.begin.new.row (subst (IsOver P) (sym v) c.requires.problem) (subst (Knows entries) (sym v) h)
    (subst (λ x. IsItemOf (length P.gens) (length x.known) c.args.item) (sym v) c.requires.item)
    (subst (λ x. Agree (ring_of x) (ring_of x).n (vector_of_row c.begin.new.row) (start P entries c.args.item)) (sym v) (returns-clause-poly c entries h))))
