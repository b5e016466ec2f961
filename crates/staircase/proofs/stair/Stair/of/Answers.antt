use Rattle.std.proofs.Common.{◌≡◌, ap, sym, ◌∙◌, subst}
use Rattle.staircase.specs.Stair.{IsStairOf}
use Rattle.staircase.proofs.Picks.{kept_over}
use Rattle.staircase.proofs.stair.Stair.of.Goals as goal

-- the monomials are those of the table
shape_is : (c : goal.In_ok-firsts) → record { variables = c.n-n.result; degree = c.d-d.result } ≡ c.args.table.now
shape_is c = ap (λ k. record { variables = k; degree = c.d-d.result }) c.n-n.ensures.value ∙ ap (λ k. record { variables = c.args.table.now.variables; degree = k }) c.d-d.ensures.value

pub invariant_of-result : goal.invariant_of-result
invariant_of-result c =
    let S = c.args.table.now in
    kept_over S (record { variables = c.n-n.result; degree = c.d-d.result }) c.args.leads.now c.from_vec-ranks.result c.in_ok-firsts.firsts.items (shape_is c) c.n-n.ensures.limits
    (subst (IsStairOf S c.args.leads.now) (sym c.from_vec-ranks.ensures) c.in_ok-non_multiples.ensures) c.in_ok-firsts.ensures

pub returns-clause-shape : goal.returns-clause-shape
returns-clause-shape c = shape_is c
