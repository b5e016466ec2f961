use Rattle.std.proofs.Common.{ℕ, List, ◌++◌, ◌∷◌, [], string_bytes, refl}
use Rattle.sparse_poly.specs.Poly.{Polynomial}
use Rattle.cert_grammar.specs.Lines.{text}
use Rattle.cert_grammar.specs.Words.{IsPolyOf, poly_word}
use Rattle.cert_grammar.specs.Cert.{in_turn, alone}
use Rattle.cert_write.proofs.Steps.{one_more, holds_at, added}
use Rattle.cert_write.proofs.lines.push_polys.Goals as goal

pub push_poly-requires : goal.push_poly-requires
push_poly-requires c = holds_at (IsPolyOf c.args.ring.now) c.args.polys.now c.loop-k.k c.get.result.now c.requires c.get.ensures

pub loop-k-preserved : goal.loop-k-preserved
loop-k-preserved c =
    let lines : ℕ → List Polynomial → List ℕ = λ i fs. text (in_turn (alone (poly_word c.args.ring.now)) i fs) in
    let word : List ℕ = poly_word c.args.ring.now c.get.result.now in
    one_more lines c.args.polys.now c.loop-k.k c.get.result.now (string_bytes c.args.text.now ++ lines 0 c.args.polys.now) (string_bytes c.loop-k.text) (string_bytes c.push_str.new.self) (word ++ 10 ∷ [])
    (λ fs. refl) c.get.ensures
    (added (string_bytes c.loop-k.text) (string_bytes c.push_poly.new.text) (string_bytes c.push_str.new.self) word (10 ∷ []) c.in_ok-push_poly.ensures c.in_ok-push_str.ensures.bytes)
    c.loop-k.invariant
