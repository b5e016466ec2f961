use Rattle.mora_law.proofs.Examples.{intermediate_legal, intermediate_settled, intermediate_basis, intermediate_reduced, racing_legal, racing_corner_alone, racing_corner_together, cubes_legal, cubes_settled, cubes_corner, cubes_first_missing, cubes_unsettled}
use Rattle.mora_law.proofs.CurveExample.{curve_legal, curve_settled, leads_are, curve_corner, curve_fits, curve_computed, curve_reduced}
use Rattle.mora_law.proofs.RefusedExamples.{later_pair_refused, unknown_entry_refused, other_multiple_refused, low_corner_refused, forgotten_entry_refused, high_corner_refused, short_run_refused, long_run_refused, rising_corner_refused}
use Rattle.mora_law.proofs.StepExamples.{not_skipped, skipped_by_chain, skipped_by_product, chain_of_earlier, product_before_chain, chain_of_first, no_chain_of_product, items_of_tickets, tickets_of_items, tickets_of_four_entries, ecart_of_three_terms, least_ecart, first_of_least_ecart, greater_ecart_keeps, equal_ecart_keeps_nothing, entries_before_intermediates, multiple_of_intermediate, cut_behind_corner, cut_to_zero, made_monic, start_of_pair, divided_by_first, minimal_leads}
use Rattle.mora_law.proofs.laws.worked_examples.Goals as goal

pub returns-clause-intermediate_legal : goal.returns-clause-intermediate_legal
returns-clause-intermediate_legal c = intermediate_legal

pub returns-clause-intermediate_settled : goal.returns-clause-intermediate_settled
returns-clause-intermediate_settled c = intermediate_settled

pub returns-clause-intermediate_basis : goal.returns-clause-intermediate_basis
returns-clause-intermediate_basis c = intermediate_basis

pub returns-clause-intermediate_reduced : goal.returns-clause-intermediate_reduced
returns-clause-intermediate_reduced c = intermediate_reduced

pub returns-clause-racing_legal : goal.returns-clause-racing_legal
returns-clause-racing_legal c = racing_legal

pub returns-clause-racing_corner_alone : goal.returns-clause-racing_corner_alone
returns-clause-racing_corner_alone c = racing_corner_alone

pub returns-clause-racing_corner_together : goal.returns-clause-racing_corner_together
returns-clause-racing_corner_together c = racing_corner_together

pub returns-clause-curve_legal : goal.returns-clause-curve_legal
returns-clause-curve_legal c = curve_legal

pub returns-clause-curve_settled : goal.returns-clause-curve_settled
returns-clause-curve_settled c = curve_settled

pub returns-clause-curve_leads : goal.returns-clause-curve_leads
returns-clause-curve_leads c = leads_are

pub returns-clause-curve_corner : goal.returns-clause-curve_corner
returns-clause-curve_corner c = curve_corner

pub returns-clause-curve_fits : goal.returns-clause-curve_fits
returns-clause-curve_fits c = curve_fits

pub returns-clause-curve_reduced : goal.returns-clause-curve_reduced
returns-clause-curve_reduced c = curve_reduced

pub returns-clause-cubes_legal : goal.returns-clause-cubes_legal
returns-clause-cubes_legal c = cubes_legal

pub returns-clause-cubes_settled : goal.returns-clause-cubes_settled
returns-clause-cubes_settled c = cubes_settled

pub returns-clause-cubes_corner : goal.returns-clause-cubes_corner
returns-clause-cubes_corner c = cubes_corner

pub returns-clause-cubes_first_missing : goal.returns-clause-cubes_first_missing
returns-clause-cubes_first_missing c = cubes_first_missing

pub returns-clause-cubes_unsettled : goal.returns-clause-cubes_unsettled
returns-clause-cubes_unsettled c = cubes_unsettled

pub returns-clause-later_pair : goal.returns-clause-later_pair
returns-clause-later_pair c = later_pair_refused

pub returns-clause-unknown_entry : goal.returns-clause-unknown_entry
returns-clause-unknown_entry c = unknown_entry_refused

pub returns-clause-other_multiple : goal.returns-clause-other_multiple
returns-clause-other_multiple c = other_multiple_refused

pub returns-clause-low_corner : goal.returns-clause-low_corner
returns-clause-low_corner c = low_corner_refused

pub returns-clause-forgotten_entry : goal.returns-clause-forgotten_entry
returns-clause-forgotten_entry c = forgotten_entry_refused

pub returns-clause-high_corner : goal.returns-clause-high_corner
returns-clause-high_corner c = high_corner_refused

pub returns-clause-short_run : goal.returns-clause-short_run
returns-clause-short_run c = short_run_refused

pub returns-clause-not_skipped : goal.returns-clause-not_skipped
returns-clause-not_skipped c = not_skipped

pub returns-clause-skipped_by_chain : goal.returns-clause-skipped_by_chain
returns-clause-skipped_by_chain c = skipped_by_chain

pub returns-clause-skipped_by_product : goal.returns-clause-skipped_by_product
returns-clause-skipped_by_product c = skipped_by_product

pub returns-clause-chain_of_earlier : goal.returns-clause-chain_of_earlier
returns-clause-chain_of_earlier c = chain_of_earlier

pub returns-clause-product_before_chain : goal.returns-clause-product_before_chain
returns-clause-product_before_chain c = product_before_chain

pub returns-clause-chain_of_first : goal.returns-clause-chain_of_first
returns-clause-chain_of_first c = chain_of_first

pub returns-clause-items_of_tickets : goal.returns-clause-items_of_tickets
returns-clause-items_of_tickets c = items_of_tickets

pub returns-clause-tickets_of_items : goal.returns-clause-tickets_of_items
returns-clause-tickets_of_items c = tickets_of_items

pub returns-clause-tickets_of_four_entries : goal.returns-clause-tickets_of_four_entries
returns-clause-tickets_of_four_entries c = tickets_of_four_entries

pub returns-clause-ecart_of_three_terms : goal.returns-clause-ecart_of_three_terms
returns-clause-ecart_of_three_terms c = ecart_of_three_terms

pub returns-clause-least_ecart : goal.returns-clause-least_ecart
returns-clause-least_ecart c = least_ecart

pub returns-clause-first_of_least_ecart : goal.returns-clause-first_of_least_ecart
returns-clause-first_of_least_ecart c = first_of_least_ecart

pub returns-clause-greater_ecart_keeps : goal.returns-clause-greater_ecart_keeps
returns-clause-greater_ecart_keeps c = greater_ecart_keeps

pub returns-clause-equal_ecart_keeps_nothing : goal.returns-clause-equal_ecart_keeps_nothing
returns-clause-equal_ecart_keeps_nothing c = equal_ecart_keeps_nothing

pub returns-clause-entries_before_intermediates : goal.returns-clause-entries_before_intermediates
returns-clause-entries_before_intermediates c = entries_before_intermediates

pub returns-clause-multiple_of_intermediate : goal.returns-clause-multiple_of_intermediate
returns-clause-multiple_of_intermediate c = multiple_of_intermediate

pub returns-clause-cut_behind_corner : goal.returns-clause-cut_behind_corner
returns-clause-cut_behind_corner c = cut_behind_corner

pub returns-clause-cut_to_zero : goal.returns-clause-cut_to_zero
returns-clause-cut_to_zero c = cut_to_zero

pub returns-clause-made_monic : goal.returns-clause-made_monic
returns-clause-made_monic c = made_monic

pub returns-clause-start_of_pair : goal.returns-clause-start_of_pair
returns-clause-start_of_pair c = start_of_pair

pub returns-clause-divided_by_first : goal.returns-clause-divided_by_first
returns-clause-divided_by_first c = divided_by_first

pub returns-clause-long_run : goal.returns-clause-long_run
returns-clause-long_run c = long_run_refused

pub returns-clause-rising_corner : goal.returns-clause-rising_corner
returns-clause-rising_corner c = rising_corner_refused

pub returns-clause-no_chain_of_product : goal.returns-clause-no_chain_of_product
returns-clause-no_chain_of_product c = no_chain_of_product

pub returns-clause-minimal_leads : goal.returns-clause-minimal_leads
returns-clause-minimal_leads c = minimal_leads

pub returns-clause-curve_basis : goal.returns-clause-curve_basis
returns-clause-curve_basis c = curve_computed
