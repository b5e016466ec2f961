use Rattle.std.proofs.Common.{length, refl, ◌∙◌, ap}
use Rattle.local_order.proofs.Order.{length-mono_quotient}
use Rattle.mono_rank.proofs.Divided.{quotient_told, quotient_untold, answered_low}
use Rattle.mono_rank.proofs.table.RankTable.quotient_rank.Goals as goal

pub returns-in_err-quotient-clause-value : goal.returns-in_err-quotient-clause-value
returns-in_err-quotient-clause-value c =
    c.from_residual.ensures
    ∙ quotient_untold c.args.self.now c.mono.result c.mono-2.result c.args.rank c.args.divisor c.mono.ensures c.mono-2.ensures (λ f. let no_way = c.in_err-quotient.ensures.some.1 f in absurd (cc no_way))

pub rank-requires : goal.rank-requires
rank-requires c = ap length c.in_ok-quotient.ensures.value ∙ length-mono_quotient c.mono.result c.mono-2.result ∙ c.mono.ensures.in_ring

pub returns-clause-value : goal.returns-clause-value
returns-clause-value c =
    quotient_told c.args.self.now c.mono.result c.mono-2.result c.in_ok-quotient.quotient c.args.rank c.args.divisor c.rank.result c.mono.ensures c.mono-2.ensures
    (c.in_ok-quotient.ensures.some.0 refl) c.in_ok-quotient.ensures.value c.rank.ensures

pub returns-clause-low : goal.returns-clause-low
returns-clause-low c = answered_low c.args.self.now c.in_ok-quotient.quotient c.rank.result c.rank.ensures
