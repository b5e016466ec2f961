use Rattle.std.proofs.Common.{◌∙◌, ◌++◌, ap, sym, length, arith, [], List, Ok}
use Rattle.std.proofs.lemmas.List.{length-append}
use Rattle.sparse_poly.specs.Poly.{Polynomial}
use Rattle.script_tokens.specs.PlaceView.{place_of}
use Rattle.expression_reader.specs.Generators.{jacobian_gens, member_gens}
use Rattle.expression_reader.specs.Gives.{meant}
use Rattle.expression_reader.specs.NamesView.{declarations_of, values_of}
use Rattle.expression_reader.proofs.MemberLists.{full_refused, jacob_reads, jacob_gens, length_jacobian}
use Rattle.expression_reader.proofs.generators.member.Goals as goal

pub returns-then-is_word-clause-gives : goal.returns-then-is_word-clause-gives
returns-then-is_word-clause-gives c =
    let names = c.args.names.now in
    let v = values_of names in
    ap (meant (λ m. c.args.gens.now.items ++ member_gens v m))
    (jacob_reads (declarations_of names) (length c.args.gens.now.items) (place_of c.args.here) (place_of c.behind.result) (place_of c.in_ok-after.after) (place_of c.in_ok-f.after) (place_of c.in_ok-after-2.after) c.in_ok-f.f.now.name
    (sym c.is_word.ensures.which ∙ c.if-is_word.true) c.behind.ensures.next c.in_ok-after.ensures.reads c.in_ok-f.ensures.reads
    (omega (arith, c.if-len-gt-MAX_GENERATORS.false, c.len.ensures, c.len-then-is_word.ensures.value)) c.in_ok-after-2.ensures.reads)
    ∙ ap (λ (l : List Polynomial). Ok (l, place_of c.in_ok-after-2.after))
    (ap (λ (l : List Polynomial). c.args.gens.now.items ++ l) (sym (jacob_gens v c.in_ok-f.f.now.name c.in_ok-f.f.now.value.terms (c.in_ok-f.ensures.value [])))
    ∙ sym c.in_ok-push_jacobian.ensures.gens)

pub returns-then-is_word-clause-few : goal.returns-then-is_word-clause-few
returns-then-is_word-clause-few c =
    let names = c.args.names.now in
    let count = ap length c.in_ok-push_jacobian.ensures.gens ∙ length-append c.args.gens.now.items (jacobian_gens (values_of names) c.in_ok-f.f.now.value.terms) in
    omega (arith, count, length_jacobian (values_of names) c.in_ok-f.f.now.value.terms, c.if-len-gt-MAX_GENERATORS.false, c.len.ensures, c.len-then-is_word.ensures.value)

pub returns-then-len-eq-MAX_GENERATORS-clause-gives : goal.returns-then-len-eq-MAX_GENERATORS-clause-gives
returns-then-len-eq-MAX_GENERATORS-clause-gives c =
    full_refused _ (declarations_of c.args.names.now) (length c.args.gens.now.items) (place_of c.args.here) _ (sym c.is_word.ensures.which ∙ c.if-is_word.false) (omega (arith, c.len-2.ensures, c.if-len-eq-MAX_GENERATORS.true)) c.no_room.ensures
