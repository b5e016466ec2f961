use Rattle.std.proofs.Common.{◌≡◌, length, subst, sym, ap, ◌∙◌}
use Rattle.local_order.specs.Mono.{mono_quotient, Divides}
use Rattle.local_order.proofs.Places.{length-mono_lcm}
use Rattle.local_order.proofs.Division.{Divides_lcm-left}
use Rattle.mono_rank.proofs.Ranks.{rank_small}
use Rattle.mono_rank.proofs.Divided.{lacking_told, lacking_fits, some_rank, answered, cofactor_told}
use Rattle.mono_rank.proofs.table.RankTable.cofactor_rank.Goals as goal

-- the two monomials have as many exponents
pub quotient-requires : goal.quotient-requires
quotient-requires c =
    let long = c.mono-mono.ensures.in_ring ∙ sym c.mono.ensures.in_ring in
    ap length c.lcm-lcm.ensures ∙ length-mono_lcm c.mono-mono.result c.mono.result long ∙ c.mono.ensures.in_ring ∙ sym c.mono-mono.ensures.in_ring

pub unwrap-cofactor-requires : goal.unwrap-cofactor-requires
unwrap-cofactor-requires c =
    c.quotient.ensures.some.1 (subst (Divides c.mono-mono.result) (sym c.lcm-lcm.ensures) (Divides_lcm-left c.mono-mono.result c.mono.result (c.mono-mono.ensures.in_ring ∙ sym c.mono.ensures.in_ring)))

pub rank-requires : goal.rank-requires
rank-requires c =
    let lacking : c.unwrap-cofactor.result ≡ mono_quotient c.mono.result c.mono-mono.result =
    lacking_told c.args.self.now c.mono-mono.result c.mono.result c.lcm-lcm.result c.unwrap-cofactor.result c.args.a c.args.b c.quotient.result c.mono-mono.ensures c.mono.ensures c.lcm-lcm.ensures
    c.quotient.ensures.value c.unwrap-cofactor.ensures in
    (lacking_fits c.args.self.now c.mono-mono.result c.mono.result c.unwrap-cofactor.result c.args.b c.mono.ensures lacking).0

pub unwrap-requires : goal.unwrap-requires
unwrap-requires c =
    let lacking : c.unwrap-cofactor.result ≡ mono_quotient c.mono.result c.mono-mono.result =
    lacking_told c.args.self.now c.mono-mono.result c.mono.result c.lcm-lcm.result c.unwrap-cofactor.result c.args.a c.args.b c.quotient.result c.mono-mono.ensures c.mono.ensures c.lcm-lcm.ensures
    c.quotient.ensures.value c.unwrap-cofactor.ensures in
    some_rank c.args.self.now c.unwrap-cofactor.result c.rank.result c.rank.ensures
    (lacking_fits c.args.self.now c.mono-mono.result c.mono.result c.unwrap-cofactor.result c.args.b c.mono.ensures lacking).1

pub returns-clause-value : goal.returns-clause-value
returns-clause-value c =
    let lacking : c.unwrap-cofactor.result ≡ mono_quotient c.mono.result c.mono-mono.result =
    lacking_told c.args.self.now c.mono-mono.result c.mono.result c.lcm-lcm.result c.unwrap-cofactor.result c.args.a c.args.b c.quotient.result c.mono-mono.ensures c.mono.ensures c.lcm-lcm.ensures
    c.quotient.ensures.value c.unwrap-cofactor.ensures in
    cofactor_told c.args.self.now c.mono-mono.result c.mono.result c.unwrap-cofactor.result c.args.a c.args.b c.unwrap.result c.mono-mono.ensures c.mono.ensures lacking
    (answered c.args.self.now c.unwrap-cofactor.result c.rank.result c.unwrap.result c.rank.ensures c.unwrap.ensures)

pub returns-clause-low : goal.returns-clause-low
returns-clause-low c =
    rank_small c.args.self.now c.unwrap-cofactor.result c.unwrap.result
    (answered c.args.self.now c.unwrap-cofactor.result c.rank.result c.unwrap.result c.rank.ensures c.unwrap.ensures)
