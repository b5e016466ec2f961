use Rattle.std.specs.Vec.{with_items}
use Rattle.std.proofs.Common.{◌≡◌, ◌∷◌, [], ◌++◌, ℕ, List, replicate, ◌∙◌, ap, subst, arith, rules}
use Rattle.std.proofs.lemmas.List.{with_items_is}
use Rattle.mono_rank.specs.Next.{IsNext}
use Rattle.mono_rank.proofs.Listing.{lists_none, lists_more, has_rank, can_be_made}
use Rattle.mono_rank.proofs.build.falling.Goals as goal

pub loop-init : goal.loop-init
loop-init c =
    let zeros : c.in_ok-exps.exps.items ≡ replicate c.args.n 0 = search rules in
    let none : c.new-all.result.items ≡ [] = c.new-all.ensures.items in
    rw (zeros, none) (lists_none (record { variables = c.args.n; degree = c.args.d }) c.requires.some)

pub monomial-requires : goal.monomial-requires
monomial-requires c =
    let h = has_rank (record { variables = c.args.n; degree = c.args.d }) c.loop.exps.items c.loop.counter c.requires.some c.loop.invariant.in_ring c.loop.invariant.next_place (omega arith) in
    rw c.deref.ensures.value (can_be_made (record { variables = c.args.n; degree = c.args.d }) c.loop.exps.items c.loop.counter c.requires.some c.requires.few c.requires.low h)

pub go_on-requires-clause-small : goal.go_on-requires-clause-small
go_on-requires-clause-small c =
    let h = has_rank (record { variables = c.args.n; degree = c.args.d }) c.loop.exps.items c.loop.counter c.requires.some c.loop.invariant.in_ring c.loop.invariant.next_place (omega arith) in
    rw c.deref_mut.ensures.value (omega (arith, h.low))

pub loop-preserved : goal.loop-preserved
loop-preserved c =
    let now = c.loop.exps.items in
    let next : IsNext now c.go_on.new.exps = subst (λ m. IsNext m c.go_on.new.exps) c.deref_mut.ensures.value c.go_on.ensures in
    let more = lists_more (record { variables = c.args.n; degree = c.args.d }) c.loop.all.items c.loop.counter now c.go_on.new.exps c.requires.some (omega arith) c.loop.invariant next in
    let same : (with_items c.loop.exps c.go_on.new.exps).items ≡ c.go_on.new.exps = with_items_is c.loop.exps c.go_on.new.exps (omega (arith, next.in_ring, c.loop.exps.ok.0)) in
    let pushed : c.push.new.self.items ≡ c.loop.all.items ++ now ∷ [] =
    ◌∙◌ {A = List (List ℕ)} c.in_ok-push.ensures.items (ap (λ (m : List ℕ). c.loop.all.items ++ m ∷ []) (c.monomial.ensures ∙ c.deref.ensures.value)) in
    rw (pushed, same) more
