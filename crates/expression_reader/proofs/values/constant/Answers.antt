use Rattle.std.proofs.Common.{◌≡◌, ◌+◌, ◌∙◌, arith, length, [], ◌∷◌}
use Rattle.std.proofs.lemmas.Result.{IfOk-weaker}
use Rattle.local_order.proofs.Division.{degree-one}
use Rattle.sparse_poly.specs.Poly.{Polynomial}
use Rattle.sparse_poly.specs.Canonical.{canonical}
use Rattle.expression_reader.specs.Constant.{IsConstant}
use Rattle.expression_reader.proofs.Constants.{constant_written}
use Rattle.expression_reader.proofs.values.constant.Goals as goal

pub returns-clause-value : goal.returns-clause-value
returns-clause-value c =
    let n = length c.args.names.now.letters in
    IfOk-weaker c.term.result
    (λ (f : Polynomial). f.terms ≡ canonical c.args.names.now.field (record { mono = c.one.result; coef = c.args.residue } ∷ []))
    (IsConstant c.args.names.now c.args.residue)
    (λ f h. λ k e. h ∙ rw c.one.ensures (constant_written c.args.names.now.field n (c.args.names.now.d + 1) k c.args.residue (omega (arith, degree-one n)) e))
    c.term.ensures.value
