-- Worked examples of steps, choices, divisions, skipped pairs and tickets: each computes, so it holds as it stands.
-- The names are those of the clauses.
use Rattle.std.proofs.Common.{◌≡◌, [], ◌∷◌, map, Some, None, refl}
use Rattle.std.specs.List.{range_with_len}
use Rattle.entry_code.specs.declared.item.Item.TheVariants.{Generator, Pair}
use Rattle.mora_law.specs.declared.skip.Skip.TheVariants.{Product, Chain}
use Rattle.mora_law.specs.declared.step_end.StepEnd.TheVariants.{Zero, Reduced, Stuck}
use Rattle.mora_law.specs.Ring.{ranks_of_problem}
use Rattle.mora_law.specs.Lead.{ecart}
use Rattle.mora_law.specs.Entries.{terms_of, monic}
use Rattle.entry_code.specs.Terms.{vector_of_terms}
use Rattle.mora_law.specs.Start.{start}
use Rattle.mora_law.specs.Tickets.{ticket_of, total}
use Rattle.mora_law.specs.Items.{item_of}
use Rattle.mora_law.specs.Skip.{skip}
use Rattle.mora_law.specs.Basis.{basis}
use Rattle.mora_law.specs.Examples.{term, reading, written, plane, bare, curve_problem, curve_entries, curve_leads, powers, chosen, step_on, divided}
use Rattle.mora_law.proofs.Computes.{computes}

-- x*y^2 and x^2*y are not coprime, and no entry stands before them
pub not_skipped : skip curve_leads 0 1 ≡ None
unfolding computes
not_skipped = refl

-- x*y^2 stands before x^2*y and divides its least common multiple with y^6
pub skipped_by_chain : skip curve_leads 1 3 ≡ Some (Chain 0)
unfolding computes
skipped_by_chain = refl

-- x^5 and y^6 are coprime
pub skipped_by_product : skip curve_leads 2 3 ≡ Some Product
unfolding computes
skipped_by_product = refl

-- x^2*y divides the least common multiple of x*y^2 and x^5, but stands behind x*y^2
pub chain_of_earlier : skip curve_leads 0 2 ≡ None
unfolding computes
chain_of_earlier = refl

-- x^2 and y^2 are coprime, also where x*y stands before them
pub product_before_chain : skip ((1 ∷ 1 ∷ []) ∷ (2 ∷ 0 ∷ []) ∷ (0 ∷ 2 ∷ []) ∷ []) 1 2 ≡ Some Product
unfolding computes
product_before_chain = refl

-- of two leads that divide the least common multiple the first is told
pub chain_of_first : skip ((1 ∷ 2 ∷ []) ∷ (2 ∷ 1 ∷ []) ∷ (3 ∷ 0 ∷ []) ∷ (1 ∷ 4 ∷ []) ∷ []) 2 3 ≡ Some (Chain 0)
unfolding computes
chain_of_first = refl

-- x^2 divides the product of x*y and x*y^2, but not their least common multiple
pub no_chain_of_product : skip ((2 ∷ 0 ∷ []) ∷ (1 ∷ 1 ∷ []) ∷ (1 ∷ 2 ∷ []) ∷ []) 1 2 ≡ None
unfolding computes
no_chain_of_product = refl

-- the items of two generators and four entries, by ticket
pub items_of_tickets : map (item_of 2) (range_with_len 0 8) ≡ Generator 0 ∷ Generator 1 ∷ Pair 0 1 ∷ Pair 0 2 ∷ Pair 1 2 ∷ Pair 0 3 ∷ Pair 1 3 ∷ Pair 2 3 ∷ []
unfolding computes
items_of_tickets = refl

-- and each has its ticket
pub tickets_of_items : map (ticket_of 2) (map (item_of 2) (range_with_len 0 8)) ≡ range_with_len 0 8
unfolding computes
tickets_of_items = refl

-- there are no others
pub tickets_of_four_entries : total 2 4 ≡ 8
unfolding computes
tickets_of_four_entries = refl

-- x + x^2 + x^3 has the ecart 3 - 1
pub ecart_of_three_terms : ecart powers (vector_of_terms (term 1 1 ∷ term 2 1 ∷ term 3 1 ∷ [])) ≡ 2
unfolding computes
ecart_of_three_terms = refl

-- of x + x^3 and x^2 + x^3 the second has the less ecart
pub least_ecart : chosen 3 ((term 1 1 ∷ term 3 1 ∷ []) ∷ (term 2 1 ∷ term 3 1 ∷ []) ∷ []) ≡ Some (term 2 1 ∷ term 3 1 ∷ [])
unfolding computes
least_ecart = refl

-- of x + x^2 and x^2 + x^3, which have one ecart, the first is chosen
pub first_of_least_ecart : chosen 3 ((term 1 1 ∷ term 2 1 ∷ []) ∷ (term 2 1 ∷ term 3 1 ∷ []) ∷ []) ≡ Some (term 1 1 ∷ term 2 1 ∷ [])
unfolding computes
first_of_least_ecart = refl

-- x is reduced by x + x^2 where x, of less ecart, is not known yet, and it is kept
pub greater_ecart_keeps : step_on ((term 1 1 ∷ term 2 1 ∷ []) ∷ (term 1 1 ∷ []) ∷ []) [] (term 1 1 ∷ []) (reading 1 5) ≡ record { end = Some Reduced; left = term 2 6 ∷ []; kept = (term 1 1 ∷ []) ∷ [] }
unfolding computes
greater_ecart_keeps = refl

-- x + x^2 is reduced by x + 2*x^2, which has the same ecart, and it is not kept
pub equal_ecart_keeps_nothing : step_on ((term 1 1 ∷ term 2 2 ∷ []) ∷ []) [] (term 1 1 ∷ term 2 1 ∷ []) (reading 1 5) ≡ record { end = Some Reduced; left = term 2 6 ∷ []; kept = [] }
unfolding computes
equal_ecart_keeps_nothing = refl

-- an entry is taken before an intermediate of the same ecart, and what is kept is put last
pub entries_before_intermediates : step_on ((term 1 1 ∷ term 2 1 ∷ []) ∷ []) ((term 1 1 ∷ term 2 6 ∷ []) ∷ []) (term 1 1 ∷ []) (reading 1 5) ≡ record { end = Some Reduced; left = term 2 6 ∷ []; kept = (term 1 1 ∷ term 2 6 ∷ []) ∷ (term 1 1 ∷ []) ∷ [] }
unfolding computes
entries_before_intermediates = refl

-- 3*x^2 is reduced by 3/2 times x times the intermediate 2*x + x^2, which leaves -3/2*x^3, that is 2*x^3 modulo 7
pub multiple_of_intermediate : step_on [] ((term 1 2 ∷ term 2 1 ∷ []) ∷ []) (term 2 3 ∷ []) (reading 0 5) ≡ record { end = Some Reduced; left = term 3 2 ∷ []; kept = (term 1 2 ∷ term 2 1 ∷ []) ∷ (term 2 3 ∷ []) ∷ [] }
unfolding computes
multiple_of_intermediate = refl

-- at the corner x^3 the term x^3 is dropped, and there is no reducer of x^2
pub cut_behind_corner : step_on [] [] (term 2 1 ∷ term 3 1 ∷ []) (reading 0 3) ≡ record { end = Some Stuck; left = term 2 1 ∷ []; kept = [] }
unfolding computes
cut_behind_corner = refl

-- at the corner x^2 both terms are dropped
pub cut_to_zero : step_on [] [] (term 2 1 ∷ term 3 1 ∷ []) (reading 0 2) ≡ record { end = Some Zero; left = []; kept = [] }
unfolding computes
cut_to_zero = refl

-- 2*x + 3*x^2 is made monic by 4, the inverse of 2 modulo 7
pub made_monic : terms_of powers (monic powers (vector_of_terms (term 1 2 ∷ term 2 3 ∷ []))) ≡ term 1 1 ∷ term 2 5 ∷ []
unfolding computes
made_monic = refl

-- the S-pair is x times the first entry less y times the second
pub start_of_pair : terms_of (ranks_of_problem curve_problem) (start curve_problem curve_entries (Pair 0 1)) ≡ term 15 16004 ∷ term 20 15999 ∷ []
unfolding computes
start_of_pair = refl

-- x*y is a multiple of two leads, and is removed by the first, x*y + y^3, and not by x + 2*y^2
pub divided_by_first : divided ((term 4 1 ∷ term 9 1 ∷ []) ∷ (term 1 1 ∷ term 5 2 ∷ []) ∷ []) (term 4 1 ∷ []) ≡ term 9 32002 ∷ []
unfolding computes
divided_by_first = refl

-- the lead of x + y^2 divides that of x^2, so the basis lacks x^2
pub minimal_leads : basis (plane 3 []) (bare ((term 3 1 ∷ []) ∷ (term 1 1 ∷ term 5 1 ∷ []) ∷ [])) ≡ (written 1 1 0 ∷ written 1 0 2 ∷ []) ∷ []
unfolding computes
minimal_leads = refl
