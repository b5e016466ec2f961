use Rattle.std.proofs.Common.{length, sym, ◌∙◌, ap}
use Rattle.local_order.proofs.Places.{length-mono_lcm}
use Rattle.pair_queue.proofs.Chains.{are_read, coprime_is, chain_of, skip_product, skip_chain, skip_none}
use Rattle.pair_queue.proofs.criteria.skip.Goals as goal

pub returns-then-coprime : goal.returns-then-coprime
returns-then-coprime c =
    let leads = c.args.leads.now in
    let a = c.index-leads-i.result in
    let b = c.index-leads-j.result in
    let read = are_read leads c.args.i c.args.j a b c.requires.first c.requires.second c.requires.variables c.index-leads-i.is c.index-leads-j.is in
    sym (skip_product leads c.args.i c.args.j (sym (coprime_is leads c.args.i c.args.j a b c.coprime.result read c.coprime.ensures) ∙ c.if-coprime.true))

pub first_divisor-requires-clause-variables : goal.first_divisor-requires-clause-variables
first_divisor-requires-clause-variables c = λ k d l.
    let leads = c.args.leads.now in
    let a = c.index-leads-i.result in
    let b = c.index-leads-j.result in
    let read = are_read leads c.args.i c.args.j a b c.requires.first c.requires.second c.requires.variables c.index-leads-i.is c.index-leads-j.is in
    c.requires.variables k d l ∙ sym (ap length c.lcm.ensures ∙ length-mono_lcm a b read.long ∙ sym read.long ∙ ap length read.first)

pub returns-in-Some : goal.returns-in-Some
returns-in-Some c =
    let leads = c.args.leads.now in
    let a = c.index-leads-i.result in
    let b = c.index-leads-j.result in
    let read = are_read leads c.args.i c.args.j a b c.requires.first c.requires.second c.requires.variables c.index-leads-i.is c.index-leads-j.is in
    sym (skip_chain leads c.args.i c.args.j c.in-Some.k (sym (coprime_is leads c.args.i c.args.j a b c.coprime.result read c.coprime.ensures) ∙ c.if-coprime.false)
    (chain_of leads c.args.i c.args.j a b c.lcm.result read c.lcm.ensures ∙ sym c.in-Some.ensures))

pub returns-in-None : goal.returns-in-None
returns-in-None c =
    let leads = c.args.leads.now in
    let a = c.index-leads-i.result in
    let b = c.index-leads-j.result in
    let read = are_read leads c.args.i c.args.j a b c.requires.first c.requires.second c.requires.variables c.index-leads-i.is c.index-leads-j.is in
    sym (skip_none leads c.args.i c.args.j (sym (coprime_is leads c.args.i c.args.j a b c.coprime.result read c.coprime.ensures) ∙ c.if-coprime.false)
    (chain_of leads c.args.i c.args.j a b c.lcm.result read c.lcm.ensures ∙ sym c.in-None.ensures))
