use Rattle.std.proofs.Common.{◌≡◌, [], false, replicate, rules, ap, ◌∙◌, sym, arith}
use Rattle.local_order.specs.Shape.{Shape, count}
use Rattle.corner_word.proofs.Corners.{kept_first, cover_first, cover_from}
use Rattle.corner_word.proofs.cover.Cover.new.Goals as goal

-- the monomials are those of the table
shape_is : (c : goal.In_ok-vec) → record { variables = c.n.result; degree = c.d.result } ≡ c.args.table.now
shape_is c = ap (λ k. record { variables = k; degree = c.d.result }) c.n.ensures.value ∙ ap (λ k. record { variables = c.args.table.now.variables; degree = k }) c.d.ensures.value

-- the number of ranks is theirs
all : (c : goal.In_ok-vec) → c.count-count.result ≡ count (record { variables = c.n.result; degree = c.d.result })
all c = c.count-count.ensures.value ∙ ap count (sym (shape_is c))

pub invariant_of-result : goal.invariant_of-result
invariant_of-result c =
    let none : c.in_ok-vec.field-0.items ≡ replicate c.count-count.result false = search rules in
    kept_first (record { variables = c.n.result; degree = c.d.result }) c.count-count.result c.in_ok-vec.field-0.items (omega (arith, c.n.ensures.value, c.count-count.ensures.limits.some)) (all c) none

pub returns-clause-shape : goal.returns-clause-shape
returns-clause-shape c = shape_is c

pub returns-clause-leads : goal.returns-clause-leads
returns-clause-leads c =
    let none : c.in_ok-vec.field-0.items ≡ replicate c.count-count.result false = search rules in
    let T : Shape = record { variables = c.n.result; degree = c.d.result } in
    cover_from T [] c.in_ok-vec.field-0.items (cover_first T c.count-count.result c.in_ok-vec.field-0.items (all c) none)
