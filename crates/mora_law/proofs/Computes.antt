-- The definitions by which the worked examples compute, in one name: to unfold it unfolds each of them.
-- They are those of ranks, leads, ecarts, corners, divisions, skipped pairs and bases.
use Rattle.std.proofs.Common.{List}
use Rattle.prime_field.specs.Inverse.{inverse}
use Rattle.mono_rank.specs.Rank.{rank_of, mono_of_rank}
use Rattle.sparse_poly.specs.Poly.{Poly}
use Rattle.sparse_poly.specs.Ideal.{Problem}
use Rattle.entry_code.specs.Entry.{Entry}
use Rattle.rank_algebra.specs.Division.{first_lead, corner_of}
use Rattle.mora_law.specs.Ring.{numbering_of, ranks_of_problem}
use Rattle.mora_law.specs.Lead.{lead, ecart}
use Rattle.mora_law.specs.Entries.{terms_of}
use Rattle.mora_law.specs.Items.{item_of}
use Rattle.mora_law.specs.Skip.{skip}
use Rattle.mora_law.specs.Basis.{plain_basis, basis}

-- all that the examples compute by
unfoldable pub computes : Problem → List Entry → List Poly
unfolding inverse rank_of mono_of_rank first_lead corner_of numbering_of ranks_of_problem lead ecart terms_of item_of skip plain_basis
computes P entries = basis P entries
