use Rattle.std.proofs.Common.{◌≡◌, List, map, Ok}
use Rattle.std.proofs.lemmas.Result.{IfOk-weaker}
use Rattle.sparse_poly.specs.Poly.{Polynomial}
use Rattle.tail_reduce.specs.Members.{member_of}
use Rattle.tail_reduce.proofs.Made.{as_mapped}
use Rattle.tail_reduce.proofs.members.members.Goals as goal

pub returns : goal.returns
returns g c =
    let member = member_of c.args.problem.now c.args.entries.now in
    let made = c.in_ok-made in
    IfOk-weaker c.all_made.result (λ (l : List Polynomial). map Ok l ≡ made.made.items) (λ l. l ≡ map member c.args.places.items)
    (λ l is. as_mapped member c.args.places.items made.made.items l made.ensures.len made.ensures.each is)
    c.all_made.ensures
